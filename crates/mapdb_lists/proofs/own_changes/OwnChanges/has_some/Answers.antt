use Rattle.std.proofs.Common.{ap, sym, ◌∙◌}
use Rattle.mapdb_fpage.specs.RightSets.{is_empty}
use Rattle.mapdb_lists.proofs.own_changes.OwnChanges.has_some.Goals as goal

pub returns-then-not-is_none-clause-some : goal.returns-then-not-is_none-clause-some
returns-then-not-is_none-clause-some c _ =
    (c.args.near, c.requires.limit, ap is_empty (sym c.requires.near) ∙ sym c.is_none.ensures ∙ c.if-not-is_none.true)
