use Rattle.std.proofs.Common.{◌≡◌, List, ◌∷◌, ap, drop, get_or, inl, refl, suc, sym, ◌∙◌}
use Rattle.std.proofs.Math.Seq.{drop-cons}
use Rattle.std.proofs.lemmas.Result.{err_from_is_err_and}
use Rattle.mapdb_c.specs.Reading.{operations_from, read_behind}
use Rattle.mapdb_c.specs.declared.operations.RawOperation.{RawOperation}
use Rattle.mapdb_c.proofs.BatchRead.{keeps_some}
use Rattle.mapdb_c.proofs.reading.operations_of.Goals as goal

-- what stands behind the end of a batch
abbrev nothing : RawOperation
nothing = record {
  kind = 0;
  rights = 0;
  number = 0;
  parent_number = 0;
  address = 0;
  source = 0;
  space = record { number = 0; version = 0 };
  processor = 0;
  parent_processor = 0;
  order = 0;
  reserved = 0;
}

pub returns-in_err-push-clause-err : goal.returns-in_err-push-clause-err
returns-in_err-push-clause-err c =
    let p = err_from_is_err_and c.from_residual-in_err-push.result c.from_residual-in_err-push.ensures.1 in
    let raws : List RawOperation = c.args.raws.now in
    let place = c.loop-place.place in
    let ops = c.loop-place.ops.items in
    let so_far : read_behind ops (operations_from place (get_or raws place nothing ∷ drop (suc place) raws)) ≡ operations_from 0 raws =
    sym (ap (λ (rest : List RawOperation). read_behind ops (operations_from place rest)) (drop-cons raws place nothing c.loop-place-test.true)) ∙ c.loop-place.invariant in
    rw (p.1, p.2) (inl (refl, keeps_some place ops c.in_ok-op.op (get_or raws place nothing) (drop (suc place) raws) raws (sym c.operation_at.ensures ∙ c.in_ok-op.was) so_far))
