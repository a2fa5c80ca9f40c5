use Rattle.std.proofs.Common.{List, inl, inr, subst}
use Rattle.mapdb_facts.specs.Records.{IsAmong}
use Rattle.mapdb_facts.specs.declared.operations.Record.{Record}
use Rattle.mapdb_lists.specs.Changes.{cached_in}
use Rattle.mapdb_rights.specs.IdlePlaces.{IsNoted}
use Rattle.mapdb_rights.proofs.index.idle_places.note_all_without_rights.Goals as goal

pub loop-mapping-preserved : goal.loop-mapping-preserved
loop-mapping-preserved c =
    let done = c.in_ok-note_without_rights.ensures in
    λ s held. elim (c.loop-mapping.invariant s held) [
      | inr noted ↦ inr (elim noted [
        | inl some ↦ inl some
        | inr named ↦ inr (done.kept s.id named)
      ])
      | inl among ↦ elim (subst (λ (rs : List Record). IsAmong s rs) c.in-Some.ensures.steps among) [
        | inr more ↦ inl more
        | inl one ↦ inr (subst (λ (x : Record). IsNoted (cached_in c.args.changes.now.own.entries) c.note_without_rights.new.idle.items x.id) one done.noted)
      ]
    ]
