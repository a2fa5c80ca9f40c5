use Rattle.std.proofs.Common.{List, ◌∷◌, refl, subst, sym, inl, inr}
use Rattle.mapdb_facts.specs.Facts.{state_of_facts}
use Rattle.mapdb_facts.specs.Looking.{Holds}
use Rattle.mapdb_facts.specs.Records.{IsAmong}
use Rattle.mapdb_facts.specs.declared.operations.Record.{Record}
use Rattle.mapdb_rights.specs.HeldPlaces.{HasSource}
use Rattle.mapdb_rights.proofs.Settling.Followed.{source_on, of_held_with}
use Rattle.mapdb_rights.proofs.index.listing.list_sources.Goals as goal

pub loop-mapping-preserved : goal.loop-mapping-preserved
loop-mapping-preserved c =
    let r = c.in-Some.mapping in
    let later = c.next.new.self in
    let next = c.in-Some.ensures.steps in
    let left : (s : Record) → IsAmong s (r ∷ later) → Holds (state_of_facts c.args.facts.now) s = λ s among.
    c.loop-mapping.invariant.left s (subst (λ (rs : List Record). IsAmong s rs) (sym next) among) in
    record {
      aligned = c.in_ok-list_source.ensures.aligned;
      left = λ s among. left s (inr among);
      places = λ s held. elim (c.loop-mapping.invariant.places s held) [
        | inr listed ↦ inr (source_on c.loop-mapping.listed c.list_source.new.listed c.in_ok-list_source.ensures.kept s listed)
        | inl among ↦ elim (subst (λ (rs : List Record). IsAmong s rs) next among) [
          | inr more ↦ inl more
          | inl one ↦ inr (subst (λ (x : Record). HasSource c.list_source.new.listed x) one c.in_ok-list_source.ensures.there)
        ]
      ];
      held = of_held_with (state_of_facts c.args.facts.now) c.loop-mapping.listed c.list_source.new.listed r (left r (inl refl))
          (λ e has. inr (c.in_ok-list_source.ensures.no_more e has)) c.loop-mapping.invariant.held;
    }
