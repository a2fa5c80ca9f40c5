-- The holders of a space stand in ascending order of name, and are found by name as records are.
use Rattle.std.proofs.Common.{◌≡◌, Bool, true, false, Some, refl, sym, ap, subst, ◌∙◌, List, [], ◌∷◌, ◌++◌, inl, inr, arith}
use Rattle.std.specs.Prelude.{◌⊎◌, ◌&&◌, Option, None, filter, map, if◌then◌else◌}
use Rattle.std.proofs.lemmas.Bool.{cond-false, cond-true, false≢true}
use Rattle.std.proofs.lemmas.Bool.Decides.{nat_tests}
use Rattle.mapdb_fpage.specs.Place.{whole}
use Rattle.mapdb_facts.specs.Facts.{births, records_of_facts, state_of_facts}
use Rattle.mapdb_facts.specs.Kept.{names_in}
use Rattle.mapdb_facts.specs.Looking.{Holds}
use Rattle.mapdb_facts.specs.Merging.{IsNamed}
use Rattle.mapdb_facts.specs.Names.{is_before, is_first_space, is_root, root, same_id, same_space}
use Rattle.mapdb_facts.specs.Records.{AllAfter, IsAmong, IsAscending}
use Rattle.mapdb_facts.specs.WellFormed.{IsFormedRecord}
use Rattle.mapdb_facts.specs.declared.holding.Facts.{Facts}
use Rattle.mapdb_facts.specs.declared.names.RecordId.{RecordId}
use Rattle.mapdb_facts.specs.declared.names.Space.{Space}
use Rattle.mapdb_facts.specs.declared.operations.Record.{Record}
use Rattle.mapdb_facts.proofs.RecordLemmas.Ascending.{among_find, ascending_records, after_from, by_id, find_record, root_before}
use Rattle.mapdb_facts.proofs.RecordLemmas.Listed.{find_listed}
use Rattle.mapdb_facts.proofs.Lists.SameNames.{same_id_true}
use Rattle.mapdb_replica.specs.Issue.{holder_of, holders, record_holders}
use Rattle.mapdb_replica.specs.Revoking.{find_holder, first_holder, holder_named, record_holder}
use Rattle.mapdb_replica.specs.declared.pieces.Holder.{Holder}
use Rattle.mapdb_facts.proofs.NameLemmas.NamedEntries.{turned}

-- the order of holders
abbrev pub by_name : Holder → RecordId
by_name h = h.id

other_before : (a b : RecordId) → is_before a b ≡ true → same_id b a ≡ false
other_before a b x = grind (arith, nat_tests)

pub not_both : (a b : Bool) → (a ≡ false) ⊎ (b ≡ false) → (a && b) ≡ false
not_both true b (inl no_a) = absurd (false≢true (sym no_a))
not_both true b (inr no_b) = no_b
not_both false b h = refl

-- no holder behind a name has it
pub found-none : (id : RecordId) (hs : List Holder) → AllAfter by_name id hs → find_holder hs id ≡ None
found-none id [] after = refl
found-none id (h ∷ rest) after = cond-false (same_id h.id id) (Some h) (find_holder rest id) (other_before id h.id after.0) ∙ found-none id rest after.1

none_is : (x : Holder) → None ≡ Some x → ⊥
none_is x e = cc

some_is : (a b : Holder) → Some a ≡ Some b → a ≡ b
some_is a b e = cc

-- what is found has the name
pub found-name : (hs : List Holder) (id : RecordId) (h : Holder) → find_holder hs id ≡ Some h → h.id ≡ id
found-name [] id h is = absurd (none_is h is)
found-name (x ∷ rest) id h is = step (same_id x.id id) refl (found-name rest id h) is
  where
    step : (b : Bool) → same_id x.id id ≡ b → (find_holder rest id ≡ Some h → h.id ≡ id) → (if b then Some x else find_holder rest id) ≡ Some h → h.id ≡ id
    step true same later e = ap by_name (sym (some_is x h e)) ∙ same_id_true x.id id same
    step false apart later e = later e

-- a listed record is held
pub listed_held : (facts : Facts) → IsNamed (state_of_facts facts) → (r : Record) → IsAmong r (records_of_facts facts) → Holds (state_of_facts facts) r
listed_held facts named r among =
    sym (find_listed facts named r.id) ∙ among_find (records_of_facts facts) r (ascending_records (births (state_of_facts facts) (names_in facts.records))) among

-- and so well-formed
pub listed_formed : (facts : Facts) → IsNamed (state_of_facts facts) → ((r : Record) → Holds (state_of_facts facts) r → IsFormedRecord r) → (r : Record) → IsAmong r (records_of_facts facts) → IsFormedRecord r
listed_formed facts named formed r among = formed r (listed_held facts named r among)

module _ (space : Space) where
  after-step : (id : RecordId) (r : Record) (rest : List Record) (b : Bool) → is_before id r.id ≡ true → AllAfter by_name id (record_holders space rest)
      → AllAfter by_name id (map holder_of (if b then r ∷ filter (λ (s : Record). same_space s.space space) rest else filter (λ (s : Record). same_space s.space space) rest))
  after-step id r rest true first later = (first, later)
  after-step id r rest false first later = later

  -- names behind another
  after-held : (id : RecordId) (records : List Record) → AllAfter by_id id records → AllAfter by_name id (record_holders space records)
  after-held id [] after = tt
  after-held id (r ∷ rest) after = after-step id r rest (same_space r.space space) after.0 (after-held id rest after.1)

  ascending-step : (r : Record) (rest : List Record) (b : Bool) → AllAfter by_name r.id (record_holders space rest) → IsAscending by_name (record_holders space rest)
      → IsAscending by_name (map holder_of (if b then r ∷ filter (λ (s : Record). same_space s.space space) rest else filter (λ (s : Record). same_space s.space space) rest))
  ascending-step r rest true first later = (first, later)
  ascending-step r rest false first later = later

  ascending-held : (records : List Record) → IsAscending by_id records → IsAscending by_name (record_holders space records)
  ascending-held [] rising = tt
  ascending-held (r ∷ rest) rising = ascending-step r rest (same_space r.space space) (after-held r.id rest rising.0) (ascending-held rest rising.1)

  -- the root comes before all
  root-after : (records : List Record) → ((r : Record) → IsAmong r records → is_root r.id ≡ false) → AllAfter by_id root records
  root-after records other = after_from by_id root records (λ r k. root_before r.id (other r k))

  ascending-first : (records : List Record) (b : Bool) → AllAfter by_name root (record_holders space records) → IsAscending by_name (record_holders space records)
      → IsAscending by_name ((if b then record { id = root; place = whole } ∷ [] else []) ++ record_holders space records)
  ascending-first records true first later = (first, later)
  ascending-first records false first later = later

  pub ascending-holders : (records : List Record) → IsAscending by_id records → ((r : Record) → IsAmong r records → is_root r.id ≡ false) → IsAscending by_name (holders records space)
  ascending-holders records rising other = ascending-first records (is_first_space space) (after-held root records (root-after records other)) (ascending-held records rising)

  -- the record, where there is one and it is of the space
  abbrev pub held_in : Option Record → Option Holder
  held_in None = None
  held_in (Some r) = record_holder space r

  held-step : (id : RecordId) (r : Record) (rest : List Record) (b c : Bool) → same_space r.space space ≡ b → same_id r.id id ≡ c → AllAfter by_name r.id (record_holders space rest)
      → find_holder (record_holders space rest) id ≡ held_in (find_record rest id)
      → find_holder (map holder_of (if b then r ∷ filter (λ (s : Record). same_space s.space space) rest else filter (λ (s : Record). same_space s.space space) rest)) id
      ≡ held_in (if c then Some r else find_record rest id)
  held-step id r rest true true within same first later =
      cond-true (same_id r.id id) (Some (holder_of r)) (find_holder (record_holders space rest) id) same
      ∙ sym (cond-true (same_space r.space space) (Some (holder_of r)) None within)
  held-step id r rest true false within apart first later =
      cond-false (same_id r.id id) (Some (holder_of r)) (find_holder (record_holders space rest) id) apart ∙ later
  held-step id r rest false true outside same first later =
      found-none id (record_holders space rest) (subst (λ (x : RecordId). AllAfter by_name x (record_holders space rest)) (same_id_true r.id id same) first)
      ∙ sym (cond-false (same_space r.space space) (Some (holder_of r)) None outside)
  held-step id r rest false false outside apart first later = later

  -- the holders that are records are found as records are
  find-held : (id : RecordId) (records : List Record) → IsAscending by_id records → find_holder (record_holders space records) id ≡ held_in (find_record records id)
  find-held id [] rising = refl
  find-held id (r ∷ rest) rising = held-step id r rest (same_space r.space space) (same_id r.id id) refl refl (after-held r.id rest rising.0) (find-held id rest rising.1)

  first-named : (id : RecordId) (rest : List Holder) (b : Bool) → b ≡ true → is_root id ≡ true
      → find_holder ((if b then record { id = root; place = whole } ∷ [] else []) ++ rest) id ≡ (if b then Some (record { id = root; place = whole }) else None)
  first-named id rest true first top = cond-true (same_id root id) (Some (record { id = root; place = whole })) (find_holder rest id) (turned root id ∙ top)
  first-named id rest false first top = absurd (false≢true first)

  later-named : (id : RecordId) (rest : List Holder) (b : Bool) → (b && is_root id) ≡ false
      → find_holder ((if b then record { id = root; place = whole } ∷ [] else []) ++ rest) id ≡ find_holder rest id
  later-named id rest true other = cond-false (same_id root id) (Some (record { id = root; place = whole })) (find_holder rest id) (turned root id ∙ other)
  later-named id rest false other = refl

  -- the root's name in the first space
  pub named-first : (records : List Record) (id : RecordId) → is_first_space space ≡ true → is_root id ≡ true → holder_named records space id ≡ first_holder space
  unfolding holder_named
  named-first records id first top = first-named id (record_holders space records) (is_first_space space) first top

  -- another name
  pub named-record : (facts : Facts) (id : RecordId) → IsNamed (state_of_facts facts) → (is_first_space space && is_root id) ≡ false
      → holder_named (records_of_facts facts) space id ≡ held_in ((state_of_facts facts).record_at id)
  unfolding holder_named
  named-record facts id named other =
      later-named id (record_holders space (records_of_facts facts)) (is_first_space space) other
      ∙ find-held id (records_of_facts facts) (ascending_records (births (state_of_facts facts) (names_in facts.records)))
      ∙ ap held_in (find_listed facts named id)
