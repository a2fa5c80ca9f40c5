use Rattle.std.proofs.Common.{◌∙◌, arith, refl, sym}
use Rattle.mapdb_replica.specs.Served.{served}
use Rattle.mapdb_script.proofs.FreePages.{none_on}
use Rattle.mapdb_script.proofs.free_pages.brings_some.Goals as goal

pub pages-preserved : goal.pages-preserved
pages-preserved c =
    let steady = c.steady_at-here.ensures.steady in
    record {
      above = omega (arith, c.pages.invariant.above);
      none = none_on (served c.args.copy.now.ops c.args.sender) c.args.carried.now c.args.first c.pages.page c.sent_page-from.result _
          c.steady_at-here.result c.requires.first c.pages.invariant.above c.pages.invariant.none c.sent_page-from.ensures.is
          c.steady_at-here.ensures.page steady (sym c.shares.ensures ∙ c.if-shares.false) refl;
    }
