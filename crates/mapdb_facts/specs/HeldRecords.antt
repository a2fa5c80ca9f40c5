-- The records that are held, by name, and the greatest of their names.
use Rattle.std.specs.Prelude.{◌≡◌, ◌≢◌, [], ◌∷◌, false, Option, Some, IfSome, IsSome}
use Rattle.std.specs.Ordering.{is_lt}
use Rattle.mapdb_join.specs.Entries.{IsFirstClash, excludes_under}
use Rattle.mapdb_facts.specs.declared.names.RecordId.{RecordId}
use Rattle.mapdb_facts.specs.declared.operations.Record.{Record}
use Rattle.mapdb_facts.specs.Adding.{same_record}
use Rattle.mapdb_facts.specs.Kept.{Records, id_cmp, record_in}

-- the greatest name under which a record is held, where there is one
pub record IsGreatestName (records : Records) (name : Option RecordId) : Type 0 where
  pub held : IfSome name (λ id. IsSome (record_in records id))
  pub some : (q : RecordId) → IsSome (record_in records q) → IsSome name
  pub greatest : IfSome name (λ id. (q : RecordId) → IsSome (record_in records q)
      → is_lt (id_cmp id q) ≡ false)

-- one record alone, under its name
abbrev pub one_record : Record → Records
one_record r = (r.id, r) ∷ []

-- different records of one name
abbrev pub excludes_record : RecordId × Record → RecordId × Record → Type 0
excludes_record = excludes_under (λ x y. x ≢ y)

-- the least name under which both hold different records
abbrev pub IsClashAt : Records → Records → RecordId → Type 0
IsClashAt a b id =
    IsFirstClash {P = Unit {0}} id_cmp same_record (λ x y. x ≢ y) (λ _ _ _. Unit {0}) a b (id, tt)

-- a different record stands under the record's name
pub record HoldsAnother (records : Records) (r : Record) : Type 0 where
  pub other : Record
  pub held : record_in records r.id ≡ Some other
  pub apart : other ≢ r
