use Rattle.std.proofs.Common.{◌∙◌, ◌++◌, List, Some, ap, append_assoc, subst}
use Rattle.smallvec.specs.SmallVec.{SmallVec}
use Rattle.std.specs.Prelude.{IfSome, Option}
use Rattle.std.specs.List.{filter_map}
use Rattle.std.proofs.lemmas.Result.{on_ok_weaker}
use Rattle.mapdb_facts.specs.Facts.{records_of_facts, state_of_facts}
use Rattle.mapdb_facts.specs.declared.operations.Op.{Op}
use Rattle.mapdb_facts.specs.declared.operations.Record.{Record}
use Rattle.mapdb_rights.specs.AllBut.{IsAllBut}
use Rattle.mapdb_rights.specs.Meeting.{children_of}
use Rattle.mapdb_rights.specs.Revoked.{IsRevoked}
use Rattle.mapdb_replica.specs.LeftOut.{IsOld}
use Rattle.mapdb_replica.specs.Revoking.{cut_within}
use Rattle.mapdb_replica.specs.Unmap.{child_cut, own_cut}
use Rattle.mapdb_replica.proofs.Calls.AllBut.{all_but-append, all_stay}
use Rattle.mapdb_replica.proofs.Unmaps.Revoked.{children_left}
use Rattle.mapdb_replica.proofs.holder_cuts.add_part_cuts.Goals as goal

pub returns : goal.returns
returns c =
    let S = state_of_facts c.args.facts.now in
    let records = records_of_facts c.args.facts.now in
    let cut : Record → Option Op = λ (child : Record). cut_within c.args.rights child (Some c.args.part.now) in
    let own : List Op = own_cut c.args.id c.args.part.now c.args.rights c.args.flush in
    let lost : List Op = filter_map (child_cut c.args.part.now c.args.rights c.args.id) records in
    let left : List Op = filter_map cut c.unwrap-children.result.items in
    let listed : IsAllBut (IsRevoked S) (children_of records c.args.id c.args.part.now) c.unwrap-children.result.items =
    subst (λ (o : Option (SmallVec Record)). IfSome o (λ list. IsAllBut (IsRevoked S) (children_of records c.args.id c.args.part.now) list.items))
    c.unwrap-children.ensures c.in_ok-children.ensures.children in
    let known : IsAllBut (IsOld S) lost left =
    children_left c.args.facts.now c.args.index.now c.requires.there c.requires.kept c.args.id c.args.part.now c.args.rights c.prove_place.ensures c.unwrap-children.result.items listed in
    on_ok_weaker c.add_own_cut.result
    (λ added. record {
      more = left ++ own;
      is = added
          ∙ ap (λ (ops : List Op). ops ++ own) (c.in_ok-add_child_cuts.ensures ∙ ap (λ (rs : List Record). c.args.found.now.items ++ filter_map cut rs) c.as_slice.ensures)
          ∙ append_assoc c.args.found.now.items left own;
      all_but = all_but-append (IsOld S) lost own left own known (all_stay (IsOld S) own);
    })
    c.add_own_cut.ensures
