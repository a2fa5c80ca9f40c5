use Rattle.std.proofs.Common.{◌≡◌, List, subst, sym}
use Rattle.mapdb_rights.specs.ShownSpaces.{CoverPages}
use Rattle.mapdb_rights.specs.declared.index.served_pages.SteadyPages.{SteadyPages}
use Rattle.mapdb_rights.proofs.Live.ShownParts.{parts_on}
use Rattle.mapdb_replica.specs.Running.{IsSteadyPart}
use Rattle.mapdb_replica.specs.Served.{served}
use Rattle.mapdb_replica.proofs.replicas.Replica.steady_by_all.Goals as goal

pub pages-preserved : goal.pages-preserved
pages-preserved c =
    let f = served c.args.self.now.ops c.args.space in
    let told = c.steady_at-served.ensures in
    let part : SteadyPages = record { page = c.pages.page; served = c.steady_at-served.result.served; end = c.steady_at-served.result.end } in
    let same : c.steady_at-served.result ≡ part = λ i. record { page = told.page i; served = c.steady_at-served.result.served; end = c.steady_at-served.result.end } in
    record {
      limit = told.steady.limit;
      steady =
          subst (λ (l : List SteadyPages). CoverPages (IsSteadyPart f) 0 part.end l) (sym c.in_ok-push.ensures.items)
          (parts_on (IsSteadyPart f) 0 c.pages.page c.pages.parts.items part
          (subst (IsSteadyPart f c.pages.page) same (told.page, told.steady)) c.pages.invariant.steady);
    }
