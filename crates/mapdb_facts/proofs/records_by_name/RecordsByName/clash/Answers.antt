use Rattle.std.proofs.Common.{◌+◌, drop, sym, ◌∙◌}
use Rattle.std.proofs.lemmas.Bool.{true≢false}
use Rattle.mapdb_facts.proofs.NameLemmas.OwnNames.{item_found, names_come, names_left, no_names_left, own_names}
use Rattle.mapdb_facts.proofs.RecordLemmas.HeldInOrder.{another_there, differ_there, least_differs, least_first, least_passed, least_taken, none_differ}
use Rattle.mapdb_facts.proofs.records_by_name.RecordsByName.clash.Goals.{else-holds_another, then-holds_another}
use Rattle.mapdb_facts.proofs.records_by_name.RecordsByName.clash.Goals as goal

pub loop-theirs-init : goal.loop-theirs-init
loop-theirs-init c =
    rw (sym (names_come c.as_slice-theirs-items.result.now c.other.inside.list c.as_slice-theirs-items.ensures.all), ← c.other.view_is)
    (least_first c.args.self.now c.other.inside.list.entries)

pub loop-theirs-preserved : goal.loop-theirs-preserved
loop-theirs-preserved c =
    let records = c.as_slice-theirs-items.result.now in
    let theirs = c.theirs-item.result in
    let so = rw (names_left records c.loop-theirs.theirs-index theirs c.loop-theirs-test.true c.theirs-item.is) at c.loop-theirs.invariant in
    let rest = own_names (drop (c.loop-theirs.theirs-index + 1) records) in
    let held = item_found records c.other.inside.list c.args.other.now c.as_slice-theirs-items.ensures.all c.other.view_is c.as_slice-theirs-items.ensures.found
    c.loop-theirs.theirs-index theirs c.loop-theirs-test.true c.theirs-item.is in
    elim c.if-holds_another.branch [
      | then-holds_another w ↦
          rw w.least-is (least_taken c.args.self.now c.args.other.now theirs.id rest c.loop-theirs.least w.lesser-least.result
          (differ_there c.args.self.now c.args.other.now theirs held (c.holds_another.ensures.0 w.if-holds_another.true)) so
          w.lesser-least.ensures.none w.lesser-least.ensures.either w.lesser-least.ensures.least)
      | else-holds_another w ↦
          rw w.least-is (least_passed c.args.self.now c.args.other.now theirs.id rest c.loop-theirs.least
          (λ d. true≢false (sym (c.holds_another.ensures.1 (another_there c.args.self.now c.args.other.now theirs held d)) ∙ w.if-holds_another.false)) so)
    ]

pub returns-clause-none : goal.returns-clause-none
returns-clause-none c =
    none_differ c.args.self.now c.args.other.now c.loop-theirs.least
    (rw (no_names_left c.as_slice-theirs-items.result.now c.loop-theirs.theirs-index c.loop-theirs-test.false) at c.loop-theirs.invariant)

pub returns-clause-some : goal.returns-clause-some
returns-clause-some c =
    least_differs c.args.self.now c.args.other.now c.loop-theirs.least
    (rw (no_names_left c.as_slice-theirs-items.result.now c.loop-theirs.theirs-index c.loop-theirs-test.false) at c.loop-theirs.invariant)
