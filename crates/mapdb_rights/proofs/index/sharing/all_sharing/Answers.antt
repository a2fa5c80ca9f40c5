use Rattle.std.proofs.Common.{List, subst, sym}
use Rattle.std.specs.Prelude.{All, filter}
use Rattle.std.proofs.lemmas.Result.{IfOk-weaker}
use Rattle.mapdb_facts.specs.Facts.{records_of_facts, state_of_facts}
use Rattle.mapdb_facts.specs.WellFormed.{IsFormedRecord}
use Rattle.mapdb_facts.specs.declared.operations.Record.{Record}
use Rattle.mapdb_rights.specs.AllBut.{IsAllBut}
use Rattle.mapdb_rights.specs.Meeting.{IsUnnamed, shares_part}
use Rattle.mapdb_rights.proofs.Places.SharedPlaces.{sharing_formed, sharing_is_all}
use Rattle.mapdb_rights.proofs.index.sharing.all_sharing.Goals as goal

pub returns-clause-sharing : goal.returns-clause-sharing
returns-clause-sharing c =
    let all = sharing_is_all c.args.facts.now c.args.owner c.args.part.now c.as_slice.result.now c.put_in_order.new.names.items c.args.names.now.items c.as_slice.ensures
    c.requires.named c.put_in_order.ensures.ordered c.put_in_order.ensures.kept in
    IfOk-weaker c.named_sharing.result _ _
    (λ found is. subst (λ (xs : List Record). IsAllBut (IsUnnamed (state_of_facts c.args.facts.now) c.args.names.now.items c.args.owner c.args.part.now) (filter (shares_part c.args.owner c.args.part.now) (records_of_facts c.args.facts.now)) xs) (sym is) all)
    c.named_sharing.ensures

pub returns-clause-formed : goal.returns-clause-formed
returns-clause-formed c =
    let all = sharing_formed c.args.facts.now c.args.owner c.args.part.now c.as_slice.result.now c.put_in_order.new.names.items c.as_slice.ensures
    c.requires.named c.requires.formed c.put_in_order.ensures.ordered in
    IfOk-weaker c.named_sharing.result _ _
    (λ found is. subst (λ (xs : List Record). All IsFormedRecord xs) (sym is) all) c.named_sharing.ensures
