use Rattle.std.proofs.Common.{ap, ◌∙◌}
use Rattle.mapdb_lists.specs.declared.few_changes.PageRights.{PageRights}
use Rattle.mapdb_lists.proofs.ChangeLemmas.FewChanges.{front_none, front_some}
use Rattle.mapdb_lists.proofs.list_writes.in_front.Goals as goal

pub returns-then-index-eq0 : goal.returns-then-index-eq0
returns-then-index-eq0 c page is = front_none c.args.list.now c.requires.rise c.args.before page c.args.index c.requires.inside is c.if-index-eq0.true

pub returns : goal.returns
returns c page is =
    c.rights.ensures ∙ ap (λ (p : PageRights). p.rights) c.index-list-index.is
    ∙ front_some c.args.list.now c.requires.rise c.args.before page c.args.index c.index-list-index.result c.requires.inside is c.if-index-eq0.false
