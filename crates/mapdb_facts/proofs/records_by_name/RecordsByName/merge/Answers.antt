use Rattle.std.specs.Prelude.{◌≢◌}
use Rattle.std.proofs.Common.{◌+◌, drop, map, sym}
use Rattle.std.proofs.lemmas.Bool.{or_left}
use Rattle.mapdb_join.proofs.Walking.{merged_apart, merged_last, merged_next}
use Rattle.mapdb_facts.specs.Adding.{same_record}
use Rattle.mapdb_facts.proofs.Lists.Comparing.{exact_ids}
use Rattle.mapdb_facts.proofs.NameLemmas.NamesInOrder.{covered_from, found_by, id_total}
use Rattle.mapdb_facts.proofs.NameLemmas.OwnNames.{item_found, names_come, names_left, no_names_left, own_names}
use Rattle.mapdb_facts.proofs.RecordLemmas.HeldInOrder.{agree_same, came_held, records_exclude}
use Rattle.mapdb_facts.proofs.records_by_name.RecordsByName.merge.Goals as goal

pub loop-theirs-init : goal.loop-theirs-init
loop-theirs-init c =
    let entries = c.other.inside.list.entries in
    rw (sym (names_come c.as_slice-theirs-items.result.now c.other.inside.list c.as_slice-theirs-items.ensures.all), ← c.other.view_is) (record {
      covered = covered_from entries same_record c.args.self.now (map (λ e. e.0) entries) (came_held entries);
      between = record { kept = λ p h. h; within = λ p h. or_left _ _ h };
    })

pub add-requires : goal.add-requires
add-requires c =
    let records = c.as_slice-theirs-items.result.now in
    let theirs = c.theirs-item.result in
    let rest = found_by c.args.other.now (own_names (drop (c.loop-theirs.theirs-index + 1) records)) in
    let left = rw (
      names_left records c.loop-theirs.theirs-index theirs c.loop-theirs-test.true c.theirs-item.is,
      item_found records c.other.inside.list c.args.other.now c.as_slice-theirs-items.ensures.all c.other.view_is c.as_slice-theirs-items.ensures.found
          c.loop-theirs.theirs-index theirs c.loop-theirs-test.true c.theirs-item.is,
    ) at c.loop-theirs.invariant in
    agree_same _ theirs (merged_apart exact_ids (λ x y. x ≢ y) records_exclude id_total (theirs.id, theirs) rest left c.requires)

pub loop-theirs-preserved : goal.loop-theirs-preserved
loop-theirs-preserved c =
    let records = c.as_slice-theirs-items.result.now in
    let theirs = c.theirs-item.result in
    let rest = found_by c.args.other.now (own_names (drop (c.loop-theirs.theirs-index + 1) records)) in
    let left = rw (
      names_left records c.loop-theirs.theirs-index theirs c.loop-theirs-test.true c.theirs-item.is,
      item_found records c.other.inside.list c.args.other.now c.as_slice-theirs-items.ensures.all c.other.view_is c.as_slice-theirs-items.ensures.found
          c.loop-theirs.theirs-index theirs c.loop-theirs-test.true c.theirs-item.is,
    ) at c.loop-theirs.invariant in
    merged_next exact_ids (theirs.id, theirs) rest c.in_ok-add.ensures.ok left

pub returns-clause-ok : goal.returns-clause-ok
returns-clause-ok c =
    merged_last (rw (no_names_left c.as_slice-theirs-items.result.now c.loop-theirs.theirs-index c.loop-theirs-test.false) at c.loop-theirs.invariant)
