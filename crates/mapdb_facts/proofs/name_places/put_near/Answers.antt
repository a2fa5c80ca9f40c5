use Rattle.std.proofs.Common.{◌≡◌, ◌<◌, cond, length, get_or, ap, arith, subst, ◌∙◌}
use Rattle.mapdb_facts.specs.Names.{same_id}
use Rattle.std.proofs.lemmas.Result.{on_err_weaker, on_ok_weaker}
use Rattle.mapdb_facts.proofs.NameLemmas.NearWords.{near_kept, near_written}
use Rattle.mapdb_facts.proofs.name_places.put_near.Goals as goal

pub returns-clause-ok : goal.returns-clause-ok
returns-clause-ok c =
    let within : c.args.id.processor < length c.reach.new.near.items = omega (arith, c.in_ok-reach.ensures.reached, c.reach.new.near.ok.0) in
    on_ok_weaker c.put_word.result (λ written. λ q.
    rw c.processor-2.ensures (near_written c.reach.new.near.items c.index_mut.result.now c.put_word.new.words c.args.id within (subst (λ p. c.index_mut.result.now ≡ get_or c.reach.new.near.items p c.index_mut.result.now) c.processor-2.ensures c.index_mut.ensures.value) c.args.word (rw c.number.ensures.number at written) q)
    ∙ ap (λ word. cond (same_id c.args.id q) c.args.word word) (c.in_ok-reach.ensures.same q))
    c.put_word.ensures.ok

pub returns-clause-err : goal.returns-clause-err
returns-clause-err c =
    let within : c.args.id.processor < length c.reach.new.near.items = omega (arith, c.in_ok-reach.ensures.reached, c.reach.new.near.ok.0) in
    on_err_weaker c.put_word.result (λ kept. λ q.
    rw c.processor-2.ensures (near_kept c.reach.new.near.items c.index_mut.result.now c.put_word.new.words c.args.id within (subst (λ p. c.index_mut.result.now ≡ get_or c.reach.new.near.items p c.index_mut.result.now) c.processor-2.ensures c.index_mut.ensures.value) kept q)
    ∙ c.in_ok-reach.ensures.same q)
    c.put_word.ensures.err
