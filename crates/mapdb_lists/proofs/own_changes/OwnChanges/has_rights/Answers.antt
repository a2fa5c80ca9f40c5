use Rattle.std.proofs.Common.{sym, subst}
use Rattle.mapdb_lists.specs.OwnChanges.{own_change}
use Rattle.mapdb_lists.specs.Replacing.{HasNoRights}
use Rattle.mapdb_lists.specs.declared.own_changes.OwnChanges.{OwnChanges}
use Rattle.mapdb_lists.proofs.own_changes.OwnChanges.has_rights.Goals as goal

pub returns-in-Few-clause-none : goal.returns-in-Few-clause-none
returns-in-Few-clause-none c told =
    subst (λ (own : OwnChanges). HasNoRights (own_change own) c.args.before.now) (sym c.in-Few.is) (c.has_rights.ensures.none told)

pub returns-in-Many-clause-none : goal.returns-in-Many-clause-none
returns-in-Many-clause-none c told =
    subst (λ (own : OwnChanges). HasNoRights (own_change own) c.args.before.now) (sym c.in-Many.is) (c.many_rights.ensures.none told)
