use Rattle.std.proofs.Common.{◌∙◌, ◌++◌, [], List, Some, ap, append_assoc, sym, take}
use Rattle.std.specs.Prelude.{Option}
use Rattle.std.specs.List.{cons_option, filter_map}
use Rattle.mapdb_facts.specs.declared.operations.Op.{Op}
use Rattle.mapdb_facts.specs.declared.operations.Record.{Record}
use Rattle.mapdb_replica.specs.Revoking.{cut_within}
use Rattle.mapdb_replica.proofs.Unmaps.MeetingRecords.{given_more}
use Rattle.mapdb_replica.proofs.holder_cuts.add_child_cuts.Goals as goal

pub loop-child-preserved : goal.loop-child-preserved
loop-child-preserved c =
    let cut : Record → Option Op = λ (child : Record). cut_within c.args.rights child (Some c.args.part.now) in
    let so_far : List Op = filter_map cut (take c.loop-child.child-index c.args.children.now) in
    c.in_ok-add_cut.ensures
    ∙ ap (λ (o : Option Op). c.loop-child.found.items ++ cons_option o []) c.child_cut.ensures
    ∙ ap (λ (xs : List Op). xs ++ cons_option (cut c.child-item.result) []) c.loop-child.invariant
    ∙ append_assoc c.args.found.now.items so_far (cons_option (cut c.child-item.result) [])
    ∙ ap (λ (xs : List Op). c.args.found.now.items ++ xs) (sym (given_more cut c.args.children.now c.loop-child.child-index c.child-item.result c.loop-child-test.true c.child-item.is))
