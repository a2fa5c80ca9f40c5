use Rattle.std.proofs.Common.{◌≡◌, ℕ, ◌<◌, ◌≤◌, true, ap, sym, ◌∙◌, arith}
use Rattle.mapdb_fpage.specs.RightSets.{is_empty}
use Rattle.mapdb_lists.specs.Changes.{cached_in}
use Rattle.mapdb_lists.proofs.ChangeLemmas.Writing.{stretch_seen}
use Rattle.mapdb_rights.proofs.Steady.PageRuns.{none_behind, skip_behind}
use Rattle.mapdb_rights.proofs.index.runs.run_start.Goals as goal

pub pages-preserved : goal.pages-preserved
pages-preserved c =
    let changes = c.args.changes.now.own.entries in
    let own = c.stretch_at-own in
    let empty : ((q : ℕ) → c.pages.start ≤ q → q < own.result.end → is_empty (cached_in changes c.args.id q) ≡ true) =
    λ q from to. ap is_empty (λ i. (stretch_seen changes c.args.id c.pages.start own.result own.ensures q from to i).rights) ∙ sym c.is_none.ensures ∙ c.if-not-is_none.false in
    c.pages.invariant ∙ skip_behind (cached_in changes c.args.id) c.pages.start own.result.end (omega (arith, own.ensures.above)) own.ensures.limit empty

pub returns-clause-none : goal.returns-clause-none
returns-clause-none c = c.pages.invariant ∙ none_behind (cached_in c.args.changes.now.own.entries c.args.id) c.pages.start (omega arith)
