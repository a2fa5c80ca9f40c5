use Rattle.std.proofs.Common.{◌∙◌, ◌≤◌, ◌<◌, ◌+◌, arith, refl, sym}
use Rattle.std.proofs.lemmas.Bool.{true≢false}
use Rattle.mapdb_fpage.specs.Place.{page_total}
use Rattle.mapdb_fpage.proofs.Meets.{holds_from}
use Rattle.mapdb_replica.specs.Served.{served}
use Rattle.mapdb_script.proofs.FreePages.{free_by_none, free_by_nothing, taken_page}
use Rattle.mapdb_script.proofs.free_pages.is_free.Goals as goal
use Rattle.mapdb_script.proofs.free_pages.is_free.Goals.{else-is_some-via-else-is_some, else-is_some-via-then-is_some+else-brings_some}

pub returns-then-shows_nothing : goal.returns-then-shows_nothing
returns-then-shows_nothing c = (λ _. λ number inside _. c.shows_nothing.ensures c.if-shows_nothing.true number inside, λ _. refl)

pub returns-then-brings_some : goal.returns-then-brings_some
returns-then-brings_some c =
    let carried = c.args.carried.now in
    let at = served c.args.copy.now.ops in
    let found = c.brings_some.ensures.some c.if-brings_some.true in
    let next = c.min-next.ensures in
    let low : carried.target.first_page ≤ found.0 = omega (arith, c.pages.invariant.above, found.1) in
    let high : found.0 < carried.target.first_page + page_total carried.target = omega (arith, found.2, next, c.end-end.ensures.end) in (
      (λ is. absurd (true≢false (sym is))),
      (λ free. absurd (taken_page at c.args.sender carried c.args.receiver c.pages.page found.0 c.steady_at-there.result
          c.steady_at-there.ensures.page c.steady_at-there.ensures.steady (sym c.is_some.ensures ∙ c.if-is_some.true)
          found.1 (omega (arith, found.2, next)) (free found.0 (holds_from carried.target found.0 low high) found.3))),
    )

pub pages-preserved : goal.pages-preserved
pages-preserved c =
    let carried = c.args.carried.now in
    let at = served c.args.copy.now.ops in
    let further = c.steady_at-there.ensures.steady.above in
    let next = c.min-next.ensures in
    record {
      above = omega (arith, c.pages.invariant.above, further, next, c.pages-test.true, c.steady_at-there.ensures.page);
      free = elim c.else-is_some.branch [
        | else-is_some-via-then-is_some+else-brings_some w ↦
            free_by_nothing at c.args.sender carried c.args.receiver c.pages.page c.min-next.result c.pages.invariant.free
            (w.brings_some.ensures.none w.if-brings_some.false)
        | else-is_some-via-else-is_some w ↦
            free_by_none at c.args.sender carried c.args.receiver c.pages.page c.min-next.result c.steady_at-there.result c.pages.invariant.free
            c.steady_at-there.ensures.page c.steady_at-there.ensures.steady (sym c.is_some.ensures ∙ w.if-is_some.false) (omega (arith, next))
      ];
    }
