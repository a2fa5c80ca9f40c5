use Rattle.std.proofs.Common.{◌≤◌, ◌<◌, ◌+◌, ◌-◌, refl, arith}
use Rattle.std.specs.Prelude.{nat_eq}
use Rattle.std.proofs.lemmas.Bool.{and_from, eq-eqb, lt-ltb, le-leb}
use Rattle.std.proofs.lemmas.Result.{on_ok_weaker}
use Rattle.mapdb_fpage.proofs.Meets.{holds_range}
use Rattle.mapdb_rights.proofs.Settling.Pendings.{pending_front, pending_last, weight_one_more}
use Rattle.mapdb_rights.proofs.index.children.push_child.Goals as goal

pub returns-clause-kept : goal.returns-clause-kept
returns-clause-kept c = on_ok_weaker c.add_item.result (λ more id page h. rw more (pending_front _ _ id page h)) c.add_item.ensures

pub returns-clause-stale : goal.returns-clause-stale
returns-clause-stale c = on_ok_weaker c.add_item.result (λ more page inside from before.
    let range = holds_range c.args.child.now.place page inside in
    let low : c.first_page-first_page.result + (c.max-low.result - c.args.child.now.source) ≤ page = omega arith in
    let high : page < c.first_page-first_page.result + (c.min-high.result - c.args.child.now.source) = omega arith in
    rw more (pending_last _ _ c.args.child.now.id page
    (and_from _ _ (and_from (nat_eq c.args.child.now.id.number c.args.child.now.id.number) (nat_eq c.args.child.now.id.processor c.args.child.now.id.processor) (eq-eqb _ _ refl) (eq-eqb _ _ refl))
    (and_from _ _ (le-leb _ _ low) (lt-ltb _ _ high))))) c.add_item.ensures

pub returns-clause-weight : goal.returns-clause-weight
returns-clause-weight c = on_ok_weaker c.add_item.result (λ more base. rw more (weight_one_more base _ _)) c.add_item.ensures
