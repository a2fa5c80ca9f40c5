use Rattle.std.proofs.Common.{◌≡◌, subst}
use Rattle.mapdb_lists.specs.declared.own_changes.OwnChanges.{OwnChanges}
use Rattle.mapdb_lists.specs.Changes.{changed}
use Rattle.mapdb_lists.specs.OwnChanges.{CanKeep, IsNoneUntil, own_change}
use Rattle.mapdb_lists.proofs.own_changes.OwnChanges.write_there.Goals as goal

pub write-requires-clause-one : goal.write-requires-clause-one
write-requires-clause-one c = subst (λ (own : OwnChanges). IsNoneUntil (own_change own) c.args.first c.args.end) c.in-Few.is c.requires.one

pub write-requires-clause-before : goal.write-requires-clause-before
write-requires-clause-before c = subst (λ (own : OwnChanges). CanKeep own c.args.before) c.in-Few.is c.requires.before

pub write-requires-clause-was : goal.write-requires-clause-was
write-requires-clause-was c = subst (λ (own : OwnChanges). c.args.was ≡ changed (own_change own) c.args.before c.args.first) c.in-Few.is c.requires.was

pub write-requires-clause-change : goal.write-requires-clause-change
write-requires-clause-change c = subst (λ (own : OwnChanges). CanKeep own c.args.change) c.in-Few.is c.requires.change
