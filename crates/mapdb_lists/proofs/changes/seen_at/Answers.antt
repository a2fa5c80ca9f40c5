use Rattle.std.proofs.Common.{◌≤◌, sym, ◌∙◌, arith}
use Rattle.std.proofs.lemmas.Bool.{cond-true, lt-ltb}
use Rattle.mapdb_fpage.specs.Bounds.{page_limit}
use Rattle.mapdb_fpage.specs.Place.{is_page}
use Rattle.mapdb_lists.specs.Changes.{at_first, past_the_end, change_at, changed}
use Rattle.mapdb_lists.proofs.ChangeLemmas.LastChanges.{changed-none}
use Rattle.mapdb_lists.proofs.ChangeLemmas.Writing.{seen_here, seen_stays}
use Rattle.mapdb_lists.proofs.changes.seen_at.Goals as goal

pub returns-in-Some : goal.returns-in-Some
returns-in-Some c =
    let up_to : c.in-Some.field-0-0 ≤ c.args.page = c.in-Some.ensures.up_to in
    sym (seen_stays c.args.changes.now.own.entries c.args.id c.in-Some.field-0-0 c.args.page up_to (omega arith) c.in-Some.ensures.last
    ∙ seen_here c.args.changes.now.own.entries c.args.id c.in-Some.field-0-0 c.in-Some.change (omega arith) c.in-Some.ensures.here)

pub returns-in-None : goal.returns-in-None
returns-in-None c =
    c.first_change.ensures
    ∙ sym (cond-true (is_page c.args.page) (changed (change_at c.args.changes.now.own.entries c.args.id) (at_first c.args.id) c.args.page) past_the_end (lt-ltb c.args.page page_limit (omega arith))
    ∙ changed-none (change_at c.args.changes.now.own.entries c.args.id) (at_first c.args.id) c.args.page c.in-None.ensures)
