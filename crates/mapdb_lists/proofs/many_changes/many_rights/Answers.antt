use Rattle.std.proofs.Common.{ap, sym, ◌∙◌, arith, inl, inr}
use Rattle.mapdb_fpage.specs.RightSets.{is_empty}
use Rattle.mapdb_lists.specs.OwnChanges.{mapped_change}
use Rattle.mapdb_lists.specs.declared.changes.Change.{Change}
use Rattle.mapdb_lists.proofs.ChangeLemmas.Replacing.{stretch_left}
use Rattle.mapdb_lists.proofs.PlaceLemmas.Meetings.{either_way}
use Rattle.mapdb_lists.proofs.many_changes.many_rights.Goals as goal

pub pages-preserved : goal.pages-preserved
pages-preserved c q to = elim (either_way c.pages.page q) [
  | inl behind ↦ ap (λ (change : Change). is_empty change.rights)
      (stretch_left (mapped_change c.args.map.now) c.args.before.now c.pages.page c.many_stretch-next.result c.many_stretch-next.ensures q behind to)
      ∙ sym c.is_none.ensures ∙ c.if-not-is_none.false
  | inr before ↦ c.pages.invariant q (omega (arith, before))
]
