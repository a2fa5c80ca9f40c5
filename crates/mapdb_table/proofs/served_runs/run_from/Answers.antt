use Rattle.std.proofs.Common.{◌≡◌, ◌+◌, ◌-◌, ◌∙◌, List, ap, arith, drop, get_or, subst, sym}
use Rattle.mapdb_replica.specs.Running.{continues}
use Rattle.std.proofs.lemmas.List.{drop_more, get_or_default}
use Rattle.mapdb_rights.specs.declared.index.served_pages.SteadyPages.{SteadyPages}
use Rattle.mapdb_table.proofs.PartRuns.{RunsTo, run_on}
use Rattle.mapdb_table.proofs.served_runs.run_from.Goals as goal

pub parts-preserved : goal.parts-preserved
parts-preserved c = record {
  fewer = omega arith;
  within = omega arith;
  runs = λ f page h.
      let parts = c.args.parts.now in
      let behind = c.parts.behind in
      let first : SteadyPages = c.index-parts-place.result in
      let item : SteadyPages = c.index-parts-behind.result in
      let next : SteadyPages = get_or parts behind c.index-parts-behind-in-parts.result in
      let one : item ≡ next = c.index-parts-behind.is ∙ get_or_default parts behind item c.index-parts-behind-in-parts.result c.parts-test.true in
      run_on f page first c.parts.end next (drop (behind + 1) parts)
      (ap (λ (part : SteadyPages). continues first.served (c.parts.end - first.page) part.served) (sym one) ∙ sym c.goes_on.ensures ∙ c.if-goes_on.true)
      (subst (λ (l : List SteadyPages). RunsTo f page first c.parts.end l) (drop_more parts behind c.index-parts-behind-in-parts.result c.parts-test.true)
      (c.parts.invariant.runs f page h));
}
