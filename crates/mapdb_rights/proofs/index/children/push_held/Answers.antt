use Rattle.std.proofs.Common.{◌≤◌, ◌+◌, ap, sym, ◌∙◌, arith}
use Rattle.mapdb_facts.specs.Exact.{exact_id}
use Rattle.mapdb_facts.specs.declared.names.RecordId.{RecordId}
use Rattle.std.proofs.lemmas.Result.{on_ok_weaker}
use Rattle.mapdb_rights.proofs.Settling.Pendings.{share_later}
use Rattle.mapdb_rights.proofs.index.children.push_held.Goals as goal

pub returns-in-Some-clause-weight : goal.returns-in-Some-clause-weight
returns-in-Some-clause-weight c =
    let same = exact_id c.in-Some.child.parent c.args.parent (sym c.is.ensures ∙ c.if-is.true) in
    let above : c.args.parent.number + 1 ≤ c.in-Some.child.id.number = let e = ap (λ (id : RecordId). id.number) same in let after = c.in-Some.ensures.formed.after_parent in omega arith in
    on_ok_weaker c.push_child.result (λ h base some. let later = share_later base (c.args.parent.number + 1) c.in-Some.child.id.number some above in let w = h base in omega arith) c.push_child.ensures.weight
