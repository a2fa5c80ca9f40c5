use Rattle.std.proofs.Common.{ℕ, sym, subst}
use Rattle.mapdb_fpage.specs.declared.right_sets.Rights.{Rights}
use Rattle.mapdb_lists.specs.FewChanges.{listed_rights}
use Rattle.mapdb_lists.specs.OwnChanges.{IsLastChange}
use Rattle.mapdb_lists.specs.declared.few_changes.PageRights.{PageRights}
use Rattle.mapdb_lists.proofs.ChangeLemmas.FewChanges.{last_up_to, none_up_to}
use Rattle.mapdb_lists.proofs.change_lists.last_at.Goals as goal

pub returns-then-spot-eq0 : goal.returns-then-spot-eq0
returns-then-spot-eq0 c page is = none_up_to c.args.list.now c.requires.rise page c.args.spot is c.if-spot-eq0.true

pub returns : goal.returns
returns c page is =
    subst (λ (e : ℕ × Rights). IsLastChange (listed_rights c.args.list.now) page e) (λ i. (sym c.page.ensures i, sym c.rights.ensures i))
    (subst (λ (last : PageRights). IsLastChange (listed_rights c.args.list.now) page (last.page, last.rights)) (sym c.index-list-spot.is)
    (last_up_to c.args.list.now c.requires.rise page c.args.spot is c.index-list-spot.result c.if-spot-eq0.false))
