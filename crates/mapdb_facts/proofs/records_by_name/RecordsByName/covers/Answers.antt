use Rattle.std.proofs.Common.{◌+◌, [], drop, map, sym, ◌∙◌}
use Rattle.std.proofs.lemmas.Bool.{true≢false}
use Rattle.mapdb_facts.specs.Adding.{same_record}
use Rattle.mapdb_facts.proofs.NameLemmas.NamesInOrder.{covered_from}
use Rattle.mapdb_facts.proofs.NameLemmas.OwnNames.{item_found, names_come, names_left, own_names}
use Rattle.mapdb_facts.proofs.RecordLemmas.HeldInOrder.{came_held, covered_step, covers_one, included_at}
use Rattle.mapdb_facts.proofs.records_by_name.RecordsByName.covers.Goals as goal

pub loop-theirs-init : goal.loop-theirs-init
loop-theirs-init c =
    let entries = c.other.inside.list.entries in
    rw (sym (names_come c.as_slice-theirs-items.result.now c.other.inside.list c.as_slice-theirs-items.ensures.all), ← c.other.view_is)
    (covered_from entries same_record c.args.self.now (map (λ e. e.0) entries) (came_held entries))

pub returns-then-not-holds : goal.returns-then-not-holds
returns-then-not-holds c =
    let held = item_found c.as_slice-theirs-items.result.now c.other.inside.list c.args.other.now c.as_slice-theirs-items.ensures.all c.other.view_is c.as_slice-theirs-items.ensures.found
    c.loop-theirs.theirs-index c.theirs-item.result c.loop-theirs-test.true c.theirs-item.is in (
      λ h. absurd (true≢false (sym h)),
      λ all. absurd (true≢false (sym (c.holds.ensures.1 (included_at c.args.self.now c.args.other.now c.theirs-item.result.id [] all c.theirs-item.result held)) ∙ c.if-not-holds.true)),
    )

pub loop-theirs-preserved : goal.loop-theirs-preserved
loop-theirs-preserved c =
    let records = c.as_slice-theirs-items.result.now in
    let theirs = c.theirs-item.result in
    let held = item_found records c.other.inside.list c.args.other.now c.as_slice-theirs-items.ensures.all c.other.view_is c.as_slice-theirs-items.ensures.found
    c.loop-theirs.theirs-index theirs c.loop-theirs-test.true c.theirs-item.is in
    covered_step c.args.self.now c.args.other.now theirs.id (own_names (drop (c.loop-theirs.theirs-index + 1) records))
    (covers_one c.args.self.now c.args.other.now theirs held (c.holds.ensures.0 c.if-not-holds.false))
    (rw (names_left records c.loop-theirs.theirs-index theirs c.loop-theirs-test.true c.theirs-item.is) at c.loop-theirs.invariant)
