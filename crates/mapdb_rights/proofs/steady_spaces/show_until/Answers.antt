use Rattle.std.proofs.Common.{arith}
use Rattle.mapdb_facts.specs.Facts.{state_of_facts}
use Rattle.mapdb_rights.proofs.Steady.SteadySpaces.{passed_all, passed_next}
use Rattle.mapdb_rights.proofs.steady_spaces.show_until.Goals as goal

pub loop-mapping-preserved : goal.loop-mapping-preserved
loop-mapping-preserved c =
    let invariant = c.loop-mapping.invariant in
    let until = c.record_until in
    record {
      above = omega arith;
      limit = omega arith;
      passed = passed_next (state_of_facts c.args.facts.now) c.args.space c.args.page
          _ _ c.in-Some.mapping c.loop-mapping.end until.result _
          c.in-Some.ensures.steps (omega arith) (omega arith)
          until.ensures.steady invariant.passed;
    }

pub returns-clause-shown : goal.returns-clause-shown
returns-clause-shown c =
    passed_all (state_of_facts c.args.facts.now) c.args.space c.args.page c.loop-mapping.mapping-iterator c.loop-mapping.end
    c.records-mapping-items.ensures.held_named c.in-None.ensures.steps.0 c.loop-mapping.invariant.passed
