use Rattle.std.proofs.Common.{◌≡◌, ◌≤◌, ◌<◌, ap, sym, ◌∙◌, arith}
use Rattle.std.proofs.lemmas.Bool.{cond-false}
use Rattle.mapdb_facts.specs.Facts.{state_of_facts}
use Rattle.mapdb_fpage.specs.Bounds.{page_limit}
use Rattle.mapdb_fpage.specs.RightSets.{is_empty, without}
use Rattle.mapdb_fpage.proofs.Meets.{holds_range}
use Rattle.mapdb_facts.specs.State.{State}
use Rattle.mapdb_lists.specs.Changes.{PageChanges}
use Rattle.mapdb_lists.proofs.ChangeLemmas.Writing.{stretch_seen}
use Rattle.mapdb_rights.specs.Right.{source_page}
use Rattle.mapdb_rights.proofs.Rights.Stepped.{child_follows}
use Rattle.mapdb_rights.proofs.index.stepping.child_given.Goals as goal

pub returns : goal.returns
returns c =
    let S : State = state_of_facts c.args.facts.now in
    let changes : PageChanges = c.args.changes.now.own.entries in
    let r = c.args.mapping.now in
    let up = c.stretch_at-up in
    let taken = c.taken_at-taken in
    let at : c.source_of-source.result ≡ source_page r c.args.page = c.source_of-source.ensures.page in
    let range = holds_range r.place c.args.page c.requires.in_place in
    let ahead : c.source_of-source.result < up.result.end = up.ensures.above in
    let behind : c.args.page < taken.result.1 = taken.ensures.above in
    let limit : taken.result.1 ≤ page_limit = taken.ensures.limit in
    record {
      above = omega (arith, ahead, behind);
      limit = omega (arith, limit);
      follows = child_follows S changes r c.args.page c.min-end.result taken.result.0 up.result.change _
          c.requires.child c.requires.held c.requires.formed c.requires.lives (omega (arith, limit))
          (λ q from before. c.change_after-place_end.ensures.same q from (omega arith) ∙ c.requires.in_place)
          (λ q from before. taken.ensures.same q from (omega arith))
          (λ q from before. stretch_seen changes r.parent c.source_of-source.result up.result up.ensures (source_page r q) (omega (arith, at, range)) (omega (arith, at, range)))
          range.0
          (ap (λ change. change.rights) c.with_shift-change.ensures ∙ c.without-rights.ensures ∙ ap (λ rights. without rights taken.result.0) c.meet.ensures)
          (λ some small.
          let is = ap (λ change. change.shift) c.with_shift-change.ensures
          ∙ cond-false (is_empty c.without-rights.result) page_limit c.saturating_sub-shift.result (ap (λ change. is_empty change.rights) (sym c.with_shift-change.ensures) ∙ some) in
          omega (arith, is, at, small));
    }
