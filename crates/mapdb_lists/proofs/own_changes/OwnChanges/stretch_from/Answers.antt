use Rattle.std.proofs.Common.{sym, subst}
use Rattle.mapdb_lists.specs.Changes.{IsStretch}
use Rattle.mapdb_lists.specs.OwnChanges.{IsSpotIn, own_change}
use Rattle.mapdb_lists.specs.declared.own_changes.OwnChanges.{OwnChanges}
use Rattle.mapdb_lists.proofs.own_changes.OwnChanges.stretch_from.Goals as goal

pub returns-in-Few : goal.returns-in-Few
returns-in-Few c =
    subst (λ (own : OwnChanges). IsStretch (own_change own) c.args.first.now c.args.page c.stretch.result) (sym c.in-Few.is)
    (c.stretch.ensures c.args.page c.requires.limit (subst (λ (own : OwnChanges). IsSpotIn own c.args.page c.args.spot) c.in-Few.is c.requires.spot))
