use Rattle.std.proofs.Common.{◌≡◌, ◌<◌, ◌-◌, ◌+◌, ap, subst, true, arith, sym, ◌∙◌, ℕ}
use Rattle.std.specs.Prelude.{Option}
use Rattle.mapdb_replica.specs.Pairs.{Pair}
use Rattle.mapdb_replica.specs.Running.{continues, pair_on}
use Rattle.mapdb_replica.specs.Served.{served}
use Rattle.mapdb_replica.proofs.Pages.RunningPages.{longer}
use Rattle.mapdb_replica.proofs.replicas.Replica.run_end.Goals as goal

pub pages-preserved : goal.pages-preserved
pages-preserved c =
    let f = served c.args.self.now.ops c.args.space in
    let first = c.steady_at-first.result in
    let next = c.steady_at-next.result in
    let begins : first.page ≡ c.args.page = c.steady_at-first.ensures.page in
    let at : next.page ≡ c.pages.end = c.steady_at-next.ensures.page in
    let steady = c.steady_at-next.ensures.steady in
    let above : c.args.page < c.pages.end = c.pages.invariant.above in
    let further : next.page < next.end = steady.above in
    let later : next.served ≡ f c.pages.end = steady.here ∙ ap f at in
    let here : continues (f c.args.page) (c.pages.end - c.args.page) (f c.pages.end) ≡ true =
    ap (λ (o : Option Pair). continues o (c.pages.end - c.args.page) (f c.pages.end)) (sym (c.steady_at-first.ensures.steady.here ∙ ap f begins))
    ∙ ap (λ (o : Option Pair). continues first.served (c.pages.end - c.args.page) o) (sym later)
    ∙ sym c.continues.ensures ∙ c.if-not-continues.false in
    record {
      above = omega (arith, above, further, at);
      limit = steady.limit;
      same = longer f c.args.page c.pages.end next.end above c.pages.invariant.same here
          (subst (λ (p : ℕ). (count : ℕ) → p + count < next.end → f (p + count) ≡ pair_on count (f p)) at steady.same);
    }
