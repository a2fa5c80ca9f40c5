use Rattle.std.proofs.Common.{ap, inl, inr, ◌∙◌}
use Rattle.mapdb_facts.specs.Facts.{state_of_facts}
use Rattle.mapdb_facts.specs.State.{State}
use Rattle.mapdb_rights.specs.HeldPlaces.{place_of}
use Rattle.mapdb_rights.proofs.Lists.NamedRecords.{named_next, none_from}
use Rattle.mapdb_rights.proofs.index.idle_places.list_idle.Goals as goal

pub loop-id-preserved : goal.loop-id-preserved
loop-id-preserved c =
    let S : State = state_of_facts c.args.facts.now in
    let done = c.in_ok-list_under.ensures in
    record {
      listed = done.listed;
      idle = λ cached idle r held. elim (c.loop-id.invariant.idle cached idle r held) [
        | inr place ↦ inr (elim place [
          | inl below ↦ inl below
          | inr has ↦ inr (done.kept (place_of r) has)
        ])
        | inl noted ↦ elim noted [
          | inl some ↦ inl (inl some)
          | inr named ↦ elim (named_next c.args.names.now c.loop-id.id-index c.id-item.result r.id c.loop-id-test.true named) [
            | inr later ↦ inl (inr later)
            | inl here ↦ inr (inr (done.there r (ap S.record_at (c.id-item.is ∙ here) ∙ held)))
          ]
        ]
      ];
    }

pub returns-clause-idle : goal.returns-clause-idle
returns-clause-idle c cached idle r held = elim (c.loop-id.invariant.idle cached idle r held) [
  | inr place ↦ inr place
  | inl noted ↦ elim noted [
    | inl some ↦ inl some
    | inr named ↦ absurd (none_from c.args.names.now c.loop-id.id-index r.id c.loop-id-test.false named)
  ]
]
