use Rattle.mapdb_lists.specs.OwnChanges.{mapped_change}
use Rattle.mapdb_lists.proofs.ChangeLemmas.LastChanges.{stretch_first, stretch_found}
use Rattle.mapdb_lists.proofs.many_changes.many_stretch.Goals as goal

pub returns-in-Some : goal.returns-in-Some
returns-in-Some c =
    stretch_found (mapped_change c.args.map.now) c.args.first.now c.args.page c.many_next-end.result (c.in-Some.field-0-0, c.in-Some.change) c.in-Some.ensures
    c.many_next-end.ensures.above c.many_next-end.ensures.limit c.many_next-end.ensures.none

pub returns-in-None : goal.returns-in-None
returns-in-None c =
    stretch_first (mapped_change c.args.map.now) c.args.first.now c.args.page c.many_next-end.result c.in-None.ensures
    c.many_next-end.ensures.above c.many_next-end.ensures.limit c.many_next-end.ensures.none
