use Rattle.std.proofs.Common.{◌≡◌, length, arith, inl, inr}
use Rattle.std.proofs.lemmas.Grind.{common_steps}
use Rattle.mapdb_facts.specs.Facts.{state_of_facts}
use Rattle.mapdb_facts.specs.State.{State}
use Rattle.mapdb_rights.proofs.Settling.Pendings.{none_pending}
use Rattle.mapdb_rights.proofs.Settling.SeenReplaced.{shown}
use Rattle.mapdb_rights.proofs.index.settling.settle.Goals as goal

pub returns-clause-shows : goal.returns-clause-shows
returns-clause-shows c =
    let S : State = state_of_facts c.args.facts.now in
    let none : length c.stale.stack.items ≡ 0 = grind (arith, common_steps) in
    shown S c.stale.changes c.args.listed.now c.stale.live c.requires.listed_there
    (λ id page. elim (c.stale.invariant.settled id page) [ inl settled ↦ inl settled | inr pending ↦ absurd (none_pending c.stale.stack.items id page none pending) ])
    c.stale.invariant.frames c.stale.invariant.live
