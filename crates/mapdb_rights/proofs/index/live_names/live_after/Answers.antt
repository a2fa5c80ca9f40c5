use Rattle.std.proofs.Common.{◌<◌, ◌≤◌, ◌+◌, Some, ap, sym, subst, arith}
use Rattle.std.specs.Prelude.{Option}
use Rattle.mapdb_fpage.specs.Bounds.{page_limit}
use Rattle.mapdb_facts.specs.Facts.{state_of_facts}
use Rattle.mapdb_facts.specs.declared.names.RecordId.{RecordId}
use Rattle.mapdb_lists.specs.declared.places.Listed.{Listed}
use Rattle.mapdb_rights.proofs.Live.LiveOrders.{Swept, swept_all, swept_next}
use Rattle.mapdb_rights.proofs.index.live_names.live_after.Goals as goal

pub orders-preserved : goal.orders-preserved
orders-preserved c =
    let one : c.saturating_add-end.result ≤ c.args.page + 1 = omega (arith, c.saturating_add-end.ensures) in
    let more = λ (inside : c.args.page < page_limit). let h : c.args.page < c.saturating_add-end.result = omega (arith, c.saturating_add-end.ensures) in h in
    record {
      near = omega (arith, ap (λ (e : Listed). e.first) c.behind_order.ensures);
      swept = subst (λ (p : Listed). Swept (state_of_facts c.args.facts.now) c.args.live.now c.args.space c.args.page c.args.after (Some p) c.lesser-found.result) (sym c.behind_order.ensures)
          (subst (λ (f : Option RecordId). Swept (state_of_facts c.args.facts.now) c.args.live.now c.args.space c.args.page c.args.after (Some (record c.in-Some.entry { first = page_limit })) f)
          (sym c.lesser-found.ensures)
          (swept_next (state_of_facts c.args.facts.now) c.args.live.now c.args.space c.args.page c.requires.live_there.named c.requires.live_there.formed c.requires.live_there
          c.args.after c.orders.passed c.saturating_add-end.result one more c.in-Some.entry c.in-Some.ensures c.orders.found c.shown_after-shown.result c.orders.invariant.swept c.shown_after-shown.ensures));
    }

pub returns : goal.returns
returns c =
    let more = λ (inside : c.args.page < page_limit). let h : c.args.page < c.saturating_add-end.result = omega (arith, c.saturating_add-end.ensures) in h in
    swept_all (state_of_facts c.args.facts.now) c.args.live.now c.args.space c.args.page c.requires.live_there.named c.requires.live_there.formed c.requires.live_there
    c.args.after c.orders.passed c.saturating_add-end.result c.orders.found more c.in_default.ensures c.orders.invariant.swept
