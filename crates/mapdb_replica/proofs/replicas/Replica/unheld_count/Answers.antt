use Rattle.std.proofs.Common.{◌≡◌, ◌∙◌, ◌<◌, List, ap, arith, length, subst, sym, true}
use Rattle.std.specs.Prelude.{count_by}
use Rattle.std.proofs.lemmas.List.Sums.{length-filter}
use Rattle.mapdb_facts.specs.Adding.{is_new}
use Rattle.mapdb_facts.specs.State.{state_of}
use Rattle.mapdb_facts.specs.WellFormed.{all_formed}
use Rattle.mapdb_facts.specs.declared.operations.Op.{Op}
use Rattle.mapdb_replica.proofs.News.Unfinished.{any_kept}
use Rattle.mapdb_replica.proofs.News.UnheldClashes.{formed-filter}
use Rattle.mapdb_facts.proofs.Results.{on_err_from}
use Rattle.mapdb_replica.proofs.replicas.Replica.unheld_count.Goals as goal

pub refusal-requires : goal.refusal-requires
refusal-requires c =
    subst (λ (ops : List Op). all_formed ops ≡ true) (sym (c.as_slice.ensures.value ∙ c.in_ok-unheld.ensures.unheld))
    (formed-filter (is_new (state_of c.args.self.now.ops)) c.args.batch.now c.requires)

pub returns-in_err-fault-clause-some : goal.returns-in_err-fault-clause-some
returns-in_err-fault-clause-some c =
    on_err_from c.from_residual-in_err-fault.result
    (any_kept (is_new (state_of c.args.self.now.ops)) c.args.batch.now
    (subst (λ (ops : List Op). 0 < length ops) (c.as_slice.ensures.value ∙ c.in_ok-unheld.ensures.unheld) c.in_err-fault.ensures.some))

pub returns-in-Some-clause-refusal : goal.returns-in-Some-clause-refusal
returns-in-Some-clause-refusal c =
    sym c.in-Some.is ∙ c.in_ok-fault.ensures.refusal c.args.batch.now (c.as_slice.ensures.value ∙ c.in_ok-unheld.ensures.unheld)

pub returns-clause-refusal : goal.returns-clause-refusal
returns-clause-refusal c =
    sym c.in-None.is ∙ c.in_ok-fault.ensures.refusal c.args.batch.now (c.as_slice.ensures.value ∙ c.in_ok-unheld.ensures.unheld)

pub returns-clause-count : goal.returns-clause-count
returns-clause-count c =
    let counted : length c.in_ok-unheld.unheld.items ≡ count_by (is_new (state_of c.args.self.now.ops)) c.args.batch.now =
    ap (λ (ops : List Op). length ops) c.in_ok-unheld.ensures.unheld ∙ length-filter (is_new (state_of c.args.self.now.ops)) c.args.batch.now in
    omega (arith, c.len.ensures, c.in_ok-unheld.unheld.ok.0, counted)
