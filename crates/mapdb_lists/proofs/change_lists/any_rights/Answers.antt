use Rattle.std.proofs.Common.{sym, ◌∙◌, arith}
use Rattle.mapdb_lists.proofs.ChangeLemmas.SomeRights.{counted, none_counted}
use Rattle.mapdb_lists.proofs.change_lists.any_rights.Goals as goal

pub returns-then-has_some-clause-some : goal.returns-then-has_some-clause-some
returns-then-has_some-clause-some c _ =
    counted c.args.list.now c.requires c.loop-next.next-index c.next-item.result c.loop-next-test.true c.next-item.is (sym c.has_some.ensures ∙ c.if-has_some.true)

pub returns-clause-none : goal.returns-clause-none
returns-clause-none c _ = none_counted c.args.list.now (λ k d inside. c.loop-next.invariant k d (omega arith))
