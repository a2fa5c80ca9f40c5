use Rattle.std.proofs.lemmas.Grind.{common_steps}
use Rattle.std.proofs.Common.{Some, ap, arith, sym, ◌∙◌}
use Rattle.mapdb_fpage.specs.declared.right_sets.Rights.{Rights}
use Rattle.mapdb_lists.specs.PageOrder.{StandsAtPage}
use Rattle.mapdb_lists.specs.declared.few_changes.PageRights.{PageRights}
use Rattle.mapdb_lists.proofs.ChangeLemmas.FewChanges.{listed_here}
use Rattle.mapdb_lists.proofs.list_writes.change_there.Goals as goal

pub returns-then-page-clause-change : goal.returns-then-page-clause-change
returns-then-page-clause-change c =
    let there : StandsAtPage c.args.list.now c.args.page c.args.index = grind (arith, common_steps) in
    sym (listed_here c.args.list.now c.requires c.args.page c.args.index c.index-list-index-then-page.result there)
    ∙ sym (ap (λ (r : Rights). Some r) c.rights.ensures ∙ ap (λ (p : PageRights). Some p.rights) c.index-list-index-then-page.is)
