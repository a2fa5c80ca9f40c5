use Rattle.std.proofs.Common.{sym, ◌∙◌, ◌-◌, arith}
use Rattle.mapdb_lists.specs.OwnChanges.{mapped_change}
use Rattle.mapdb_lists.proofs.ChangeLemmas.LastChanges.{changed-none, last_left, left_behind}
use Rattle.mapdb_lists.proofs.many_changes.many_before.Goals as goal

pub returns-in-Some : goal.returns-in-Some
returns-in-Some c =
    sym (last_left (mapped_change c.args.map.now) c.args.first (c.args.page - 1) (c.in-Some.field-0-0, c.in-Some.change) c.in-Some.ensures)
    ∙ left_behind (mapped_change c.args.map.now) c.args.first c.args.page (omega arith)

pub returns-in-None : goal.returns-in-None
returns-in-None c =
    sym (changed-none (mapped_change c.args.map.now) c.args.first (c.args.page - 1) c.in-None.ensures)
    ∙ left_behind (mapped_change c.args.map.now) c.args.first c.args.page (omega arith)
