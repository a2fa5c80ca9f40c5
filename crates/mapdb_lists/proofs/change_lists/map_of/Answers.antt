use Rattle.std.proofs.Common.{◌≡◌, ℕ, ap, subst, ◌∙◌}
use Rattle.std.specs.Prelude.{Some, nat_eq, if◌then◌else◌}
use Rattle.mapdb_fpage.specs.declared.right_sets.Rights.{Rights}
use Rattle.mapdb_lists.specs.FewChanges.{with_shift}
use Rattle.mapdb_lists.specs.OwnChanges.{mapped_change}
use Rattle.mapdb_lists.specs.declared.few_changes.PageRights.{PageRights}
use Rattle.mapdb_lists.proofs.ChangeLemmas.FewChanges.{mapped_step}
use Rattle.mapdb_lists.proofs.change_lists.map_of.Goals as goal

pub loop-next-preserved : goal.loop-next-preserved
loop-next-preserved c =
    mapped_step c.args.shift c.args.list.now c.requires c.loop-next.next-index c.next-item.result c.with_shift.result c.loop-next.map c.many_put.new.map c.loop-next-test.true
    (c.with_shift.ensures ∙ ap (λ (r : Rights). with_shift c.args.shift r) c.rights.ensures ∙ ap (λ (next : PageRights). with_shift c.args.shift next.rights) c.next-item.is)
    (subst (λ (next : PageRights). (q : ℕ) → mapped_change c.many_put.new.map q ≡ (if nat_eq next.page q then Some c.with_shift.result else mapped_change c.loop-next.map q))
    c.next-item.is
    (subst (λ (n : ℕ). (q : ℕ) → mapped_change c.many_put.new.map q ≡ (if nat_eq n q then Some c.with_shift.result else mapped_change c.loop-next.map q)) c.page.ensures
    c.in_ok-many_put.ensures))
    c.loop-next.invariant
