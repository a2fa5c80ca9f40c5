-- The state after one thing was added.
use Rattle.std.specs.Prelude.{◌≡◌, ℕ, Bool, true, false, ◌&&◌, ◌||◌, List, [], ◌∷◌, Option, Some, None, nat_eq, refl}
use Rattle.std.proofs.Common.{sym, ◌∙◌, ap}
use Rattle.std.specs.Cmp.{both_ways}
use Rattle.std.proofs.lemmas.Bool.{eqb-true, eq-eqb}
use Rattle.mapdb_join.specs.Atoms.{IsUnion}
use Rattle.mapdb_join.specs.Grow.{has_key}
use Rattle.mapdb_facts.specs.declared.operations.Op.TheVariants.{Born, Cut, Closed}
use Rattle.mapdb_facts.specs.declared.operations.Record.{Record}
use Rattle.mapdb_facts.specs.declared.operations.Revocation.{Revocation}
use Rattle.mapdb_facts.specs.declared.names.Space.{Space}
use Rattle.mapdb_facts.specs.Names.{same_space}
use Rattle.mapdb_facts.specs.State.{join, said, first_of}
use Rattle.mapdb_facts.specs.Kept.{Kept, Records, Cuts, has_record, has_cut, record_in, cut_in, ended_in, space_cmp}
use Rattle.mapdb_facts.specs.Facts.{state_of_facts}
use Rattle.mapdb_facts.specs.HeldRecords.{one_record}
use Rattle.mapdb_facts.proofs.Lists.Comparing.{space_at}
use Rattle.mapdb_facts.proofs.Maps.Atoms.{same_state}
use Rattle.mapdb_facts.proofs.Maps.CutAtoms.{cut_joined, cut_one, one_cut}
use Rattle.mapdb_facts.proofs.RecordLemmas.RecordAtoms.{record_joined, record_one}

or_false : (b : Bool) → b ≡ (b || false)
or_false true = refl
or_false false = refl

first_alone : (o : Option Record) → o ≡ first_of o None
first_alone None = refl
first_alone (Some r) = refl

pub with_record : (old : Kept) (new : Records) (r : Record) → IsUnion has_record old.records (one_record r) new → state_of_facts (record { records = new; cuts = old.cuts; ended = old.ended }) ≡ join (state_of_facts old) (said (Born r))
with_record old new r u =
    same_state (state_of_facts (record { records = new; cuts = old.cuts; ended = old.ended })) (join (state_of_facts old) (said (Born r)))
    (λ id. record_joined old.records (one_record r) new u id ∙ ap (first_of (record_in old.records id)) (record_one r id))
    (λ id page right. or_false (cut_in old.cuts id page right))
    (λ space. or_false (ended_in old.ended space))

pub with_cut : (old : Kept) (new : Cuts) (cut : Revocation) → IsUnion has_cut old.cuts (one_cut cut) new → state_of_facts (record { records = old.records; cuts = new; ended = old.ended }) ≡ join (state_of_facts old) (said (Cut cut))
with_cut old new cut u =
    same_state (state_of_facts (record { records = old.records; cuts = new; ended = old.ended })) (join (state_of_facts old) (said (Cut cut)))
    (λ id. first_alone (record_in old.records id))
    (λ id page right. cut_joined old.cuts (one_cut cut) new u id page right ∙ ap (λ b. cut_in old.cuts id page right || b) (cut_one cut id page right))
    (λ space. or_false (ended_in old.ended space))

symmetric : (a b : ℕ) → nat_eq a b ≡ nat_eq b a
symmetric a b = both_ways _ _ (λ h. eq-eqb b a (sym (eqb-true a b h))) (λ h. eq-eqb a b (sym (eqb-true b a h)))

same_turned : (a b : Space) → same_space a b ≡ same_space b a
same_turned a b = ap (λ t. t && nat_eq a.version b.version) (symmetric a.number b.number) ∙ ap (λ t. nat_eq b.number a.number && t) (symmetric a.version b.version)

pub with_end : (old : Kept) (new : List Space) (space : Space) → IsUnion (has_key space_cmp) old.ended (space ∷ []) new → state_of_facts (record { records = old.records; cuts = old.cuts; ended = new }) ≡ join (state_of_facts old) (said (Closed space))
with_end old new space u =
    same_state (state_of_facts (record { records = old.records; cuts = old.cuts; ended = new })) (join (state_of_facts old) (said (Closed space)))
    (λ id. first_alone (record_in old.records id))
    (λ id page right. or_false (cut_in old.cuts id page right))
    (λ s. u s ∙ ap (λ b. ended_in old.ended s || b) (sym (or_false _) ∙ space_at s space ∙ same_turned s space))

-- the state of a union of the maps
pub with_all : (a b c : Kept) → IsUnion has_record a.records b.records c.records → IsUnion has_cut a.cuts b.cuts c.cuts → IsUnion (has_key space_cmp) a.ended b.ended c.ended → state_of_facts c ≡ join (state_of_facts a) (state_of_facts b)
with_all a b c records taken ends =
    same_state (state_of_facts c) (join (state_of_facts a) (state_of_facts b)) (record_joined a.records b.records c.records records) (cut_joined a.cuts b.cuts c.cuts taken) ends
