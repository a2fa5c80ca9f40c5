-- The atoms of what is taken: a bit at a page, under the name of a record.
use Rattle.std.specs.Prelude.{◌≡◌, ◌+◌, ℕ, Bool, true, false, cond, ◌&&◌, ◌||◌, nat_lt, [], ◌∷◌, Some, None, refl}
use Rattle.std.proofs.Common.{sym, ◌∙◌, ap, subst, inl, inr}
use Rattle.std.specs.BTreeMap.{is_at}
use Rattle.std.specs.Cmp.{both_ways}
use Rattle.std.proofs.lemmas.Bool.{and_parts, cases_lt, le-leb, le-ltb, lt-leb, lt-ltb, true≢false}
use Rattle.mapdb_join.specs.Atoms.{IsUnion}
use Rattle.mapdb_join.specs.Bits.{has_bit}
use Rattle.mapdb_join.specs.Entries.{some_has}
use Rattle.mapdb_join.specs.Lawful.Bits.{zero_none}
use Rattle.mapdb_join.specs.Regions.{PageRange, starts_of}
use Rattle.mapdb_join.specs.Runs.{has_at, in_region}
use Rattle.mapdb_facts.specs.declared.names.RecordId.{RecordId}
use Rattle.mapdb_facts.specs.declared.operations.Revocation.{Revocation}
use Rattle.mapdb_fpage.specs.declared.right_sets.Right.{Right}
use Rattle.mapdb_fpage.specs.declared.right_sets.Right.TheVariants.{Read, Write, Execute}
use Rattle.mapdb_fpage.specs.declared.right_sets.Rights.{Rights}
use Rattle.mapdb_fpage.specs.Place.{holds, page_total}
use Rattle.mapdb_fpage.specs.RightSets.{bits_of, includes}
use Rattle.mapdb_facts.specs.Names.{same_id}
use Rattle.mapdb_facts.specs.State.{cuts}
use Rattle.mapdb_facts.specs.Kept.{Cuts, bit_of, cut_in, has_cut, id_cmp}
use Rattle.mapdb_facts.proofs.Lists.Comparing.{exact_ids, id_at}
use Rattle.mapdb_facts.proofs.Lists.SameNames.{same_id_itself}

-- the bits of rights are their members
members : (r w x : Bool) (right : Right) → let rights : Rights = record { read = r; write = w; execute = x } in has_bit (bits_of rights) (bit_of right) ≡ includes rights right
members true true true Read = refl
members true true true Write = refl
members true true true Execute = refl
members true true false Read = refl
members true true false Write = refl
members true true false Execute = refl
members true false true Read = refl
members true false true Write = refl
members true false true Execute = refl
members true false false Read = refl
members true false false Write = refl
members true false false Execute = refl
members false true true Read = refl
members false true true Write = refl
members false true true Execute = refl
members false true false Read = refl
members false true false Write = refl
members false true false Execute = refl
members false false true Read = refl
members false false true Write = refl
members false false true Execute = refl
members false false false Read = refl
members false false false Write = refl
members false false false Execute = refl

pub bit_member : (rights : Rights) (right : Right) → has_bit (bits_of rights) (bit_of right) ≡ includes rights right
bit_member rights right = members rights.read rights.write rights.execute right

-- the pages and the bits of a revocation
abbrev pub region_of : Revocation → PageRange
region_of cut = record { first = cut.part.first_page; count = page_total cut.part; bits = bits_of cut.rights }

-- one revocation alone
abbrev pub one_cut : Revocation → Cuts
one_cut cut = (cut.target, starts_of (region_of cut)) ∷ []

no_bits : (t : Bool) (bit : ℕ) → (t && has_bit 0 bit) ≡ false
no_bits true bit = zero_none 0 refl bit
no_bits false bit = refl

-- a region alone has its bits at its pages
pub alone_has : (range : PageRange) (p : ℕ × ℕ) → has_at (starts_of range) p ≡ in_region range.first range.count range.bits p
alone_has range p =
    elim (cases_lt p.0 range.first) [
      | inl before ↦ rw (lt-ltb p.0 range.first before, lt-leb range.first p.0 before) (no_bits (nat_lt p.0 (range.first + range.count)) p.1)
      | inr from ↦ elim (cases_lt p.0 (range.first + range.count)) [
        | inl inside ↦ rw (le-ltb p.0 range.first from, lt-ltb p.0 (range.first + range.count) inside, le-leb range.first p.0 from) refl
        | inr behind ↦ rw (le-ltb p.0 range.first from, le-ltb p.0 (range.first + range.count) behind, le-leb range.first p.0 from) refl
      ]
    ]

turned : (a b : RecordId) → is_at (id_cmp a) b ≡ same_id b a
turned a b = both_ways _ _ (λ h. subst (λ c. same_id c a ≡ true) (exact_ids a b h) (same_id_itself a)) (λ h. id_at a b ∙ back h)
  where
    back : same_id b a ≡ true → same_id a b ≡ true
    back h = subst (λ c. same_id a c ≡ true) (sym (exact_ids b a (id_at b a ∙ h))) (same_id_itself a)

-- the look-up of one revocation alone
pub cut_one : (cut : Revocation) (id : RecordId) (page : ℕ) (right : Right) → cut_in (one_cut cut) id page right ≡ cuts cut id page right
cut_one cut id page right = by (is_at (id_cmp id) cut.target) (same_id cut.target id) (turned id cut.target)
  where
    by : (a b : Bool) → a ≡ b → some_has has_at (cond a (Some (starts_of (region_of cut))) None) (page, bit_of right)
        ≡ ((b && holds cut.part page) && includes cut.rights right)
    by true true e = alone_has (region_of cut) (page, bit_of right) ∙ ap (λ t. holds cut.part page && t) (bit_member cut.rights right)
    by false false e = refl
    by true false e = absurd (true≢false e)
    by false true e = absurd (true≢false (sym e))

-- a bit of one revocation is one of its rights' bits
pub from_one_bit : (cut : Revocation) (id : RecordId) (page bit : ℕ) → has_cut (one_cut cut) (id, (page, bit)) ≡ true → has_bit (bits_of cut.rights) bit ≡ true
from_one_bit cut id page bit h = by (is_at (id_cmp id) cut.target) h
  where
    by : (a : Bool) → some_has has_at (cond a (Some (starts_of (region_of cut))) None) (page, bit) ≡ true → has_bit (bits_of cut.rights) bit ≡ true
    by true k = (and_parts (holds cut.part page) (has_bit (bits_of cut.rights) bit) (sym (alone_has (region_of cut) (page, bit)) ∙ k)).1
    by false k = absurd (true≢false (sym k))

-- what one map takes, the other takes too where it has the atoms
pub cut_with : (a c : Cuts) → ((x : RecordId × (ℕ × ℕ)) → has_cut a x ≡ true → has_cut c x ≡ true) → (id : RecordId) (page : ℕ) (right : Right) → cut_in a id page right ≡ true → cut_in c id page right ≡ true
cut_with a c all id page right h = all (id, (page, bit_of right)) h

-- what is taken by a map whose atoms are those of two others is taken by one of these
pub cut_within : (a b c : Cuts) → ((x : RecordId × (ℕ × ℕ)) → has_cut c x ≡ true → (has_cut a x || has_cut b x) ≡ true) → (id : RecordId) (page : ℕ) (right : Right) → cut_in c id page right ≡ true → (cut_in a id page right || cut_in b id page right) ≡ true
cut_within a b c all id page right h = all (id, (page, bit_of right)) h

-- the look-up in a union
pub cut_joined : (a b c : Cuts) → IsUnion has_cut a b c → (id : RecordId) (page : ℕ) (right : Right) → cut_in c id page right ≡ (cut_in a id page right || cut_in b id page right)
cut_joined a b c u id page right = u (id, (page, bit_of right))
