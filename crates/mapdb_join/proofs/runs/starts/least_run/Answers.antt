use Rattle.std.proofs.Common.{rules, ◌≡◌, ◌+◌, suc, arith}
use Rattle.mapdb_join.proofs.RunWalks.{next_above}
use Rattle.mapdb_join.proofs.runs.starts.least_run.Goals as goal

pub overflow_sub-result : goal.overflow_sub-result
overflow_sub-result c =
    let bound = c.in_ok-index.ensures.bound in
    let k = next_above 0 c.args.starts.now c.in_ok-index.index c.requires.ascending (omega (arith, bound)) in
    let e : c.in_ok-index.index + 1 ≡ suc c.in_ok-index.index = omega arith in
    rw e (omega (arith, k))

pub returns-clause-some : goal.returns-clause-some
returns-clause-some c = search rules
