-- Each held record stands under its own name and is well-formed, as the maps have it.
use Rattle.std.specs.Prelude.{IfSome, Option, None, Some}
use Rattle.std.proofs.Common.{◌≡◌, refl, subst}
use Rattle.mapdb_facts.specs.Facts.{state_of_facts}
use Rattle.mapdb_facts.specs.Kept.{IsFacts, Kept, Records, record_in}
use Rattle.mapdb_facts.specs.Looking.{Holds}
use Rattle.mapdb_facts.specs.Merging.{IsNamed}
use Rattle.mapdb_facts.specs.WellFormed.{IsFormedRecord}
use Rattle.mapdb_facts.specs.declared.names.RecordId.{RecordId}
use Rattle.mapdb_facts.specs.declared.operations.Record.{Record}
use Rattle.mapdb_facts.proofs.Maps.KeptFacts.{Formed}
use Rattle.mapdb_facts.proofs.States.Formed.{formed_record}

module _ (maps facts : Kept) (is : maps ≡ facts) (true_of_maps : IsFacts maps.records maps.cuts) where
  pub all_named : IsNamed (state_of_facts facts)
  all_named = subst (λ (k : Kept). IsNamed (state_of_facts k)) is (λ id r held. (true_of_maps.formed id r held).0)

  pub all_held_formed : (r : Record) → Holds (state_of_facts facts) r → IsFormedRecord r
  all_held_formed =
      subst (λ (k : Kept). (r : Record) → Holds (state_of_facts k) r → IsFormedRecord r) is
      (λ r held. formed_record r (true_of_maps.formed r.id r held).1)

module _ (records : Records) (formed : Formed records) (id : RecordId) where
  named_from : (o : Option Record) → record_in records id ≡ o → IfSome o (λ r. r.id ≡ id)
  named_from None e = tt
  named_from (Some r) e = (formed id r e).0

  -- what is held under a name bears it
  pub named_under : IfSome (record_in records id) (λ r. r.id ≡ id)
  named_under = named_from (record_in records id) refl

  formed_from : (o : Option Record) → record_in records id ≡ o → IfSome o IsFormedRecord
  formed_from None e = tt
  formed_from (Some r) e = formed_record r (formed id r e).1

  -- and is well-formed
  pub formed_under : IfSome (record_in records id) IsFormedRecord
  formed_under = formed_from (record_in records id) refl
