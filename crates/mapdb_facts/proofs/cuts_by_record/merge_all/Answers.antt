use Rattle.std.proofs.Common.{Some, ap, arith, sym, ◌∙◌}
use Rattle.mapdb_facts.specs.declared.names.RecordId.{RecordId}
use Rattle.std.proofs.lemmas.Option.{slice_get-get_or}
use Rattle.std.proofs.lemmas.Result.{err_from_is_err_and}
use Rattle.mapdb_join.proofs.Walking.{absent_from, held_from}
use Rattle.mapdb_facts.proofs.Maps.NamedCuts.{between_more, merged_all, merged_more, merged_none, merged_past}
use Rattle.mapdb_facts.proofs.NameLemmas.NamesInOrder.{one_lookup}
use Rattle.mapdb_facts.proofs.cuts_by_record.merge_all.Goals.{in-Some+in_ok-merge_under, in_default}
use Rattle.mapdb_facts.proofs.cuts_by_record.merge_all.Goals as goal

pub loop-id-init : goal.loop-id-init
loop-id-init c =
    rw (c.as_slice-id-items.ensures, ← c.other.view_is) (merged_none c.args.cuts.now.entries c.other.inside.names c.other.inside.values.items)

pub returns-in_err-merge_under-clause-err : goal.returns-in_err-merge_under-clause-err
returns-in_err-merge_under-clause-err c =
    let p = err_from_is_err_and c.from_residual.result c.from_residual.ensures.1 in
    let theirs = one_lookup c.args.other.now.entries _ ∙ held_from c.in-Some.is c.get.ensures in
    rw p.1 (between_more c.args.cuts.now.entries c.args.other.now.entries c.loop-id.cuts.entries c.merge_under.new.cuts.entries _ c.in-Some.theirs.now
    theirs c.loop-id.invariant.between c.in_err-merge_under.ensures.err)

pub loop-id-preserved : goal.loop-id-preserved
loop-id-preserved c =
    let names = c.as_slice-id-items.result.now in
    let at = slice_get-get_or names c.loop-id.id-index c.id-item.result c.loop-id-test.true ∙ ap (λ (id : RecordId). Some id) (sym c.id-item.is) in
    elim c.match-get.branch [
      | in-Some+in_ok-merge_under w ↦
          rw w.cuts-is (merged_more c.args.cuts.now.entries c.args.other.now.entries c.loop-id.cuts.entries w.merge_under.new.cuts.entries names c.loop-id.id-index _ w.in-Some.theirs.now
          at (one_lookup c.args.other.now.entries _ ∙ held_from w.in-Some.is c.get.ensures) w.in_ok-merge_under.ensures.ok c.loop-id.invariant)
      | in_default w ↦
          rw w.cuts-is (merged_past c.args.cuts.now.entries c.args.other.now.entries c.loop-id.cuts.entries names c.loop-id.id-index _
          at (one_lookup c.args.other.now.entries _ ∙ absent_from w.in_default.is c.get.ensures) c.loop-id.invariant)
    ]

pub returns-clause-ok : goal.returns-clause-ok
returns-clause-ok c =
    merged_all c.args.cuts.now.entries c.args.other.now.entries c.loop-id.cuts.entries c.as_slice-id-items.result.now c.loop-id.id-index (omega arith) c.loop-id.invariant
