use Rattle.std.proofs.lemmas.Result.{err_from_is_err_and}
use Rattle.mapdb_picture.proofs.LoadLemmas.{copy_held, copy_refused}
use Rattle.mapdb_picture.proofs.loading.snapshot_copy.Goals as goal

pub returns-clause-held : goal.returns-clause-held
returns-clause-held c =
    copy_held c.args.bytes.now c.in_ok-ops.ops.items c.as_slice.result.now c.in_ok-take.field-0 c.new-copy.result c.take.new.self
    c.in_ok-ops.ensures.read c.as_slice.ensures.value c.new-copy.ensures c.in_ok-take.ensures.takes

pub returns-in_err-take-clause-err : goal.returns-in_err-take-clause-err
returns-in_err-take-clause-err c =
    let p = err_from_is_err_and c.from_residual-in_err-take.result c.from_residual-in_err-take.ensures.1 in
    rw p.1
    (copy_refused c.args.bytes.now c.in_ok-ops.ops.items c.as_slice.result.now c.in_err-take.field-0.0 p.0 c.new-copy.result c.take.new.self
    c.in_ok-ops.ensures.read c.as_slice.ensures.value c.new-copy.ensures c.in_err-take.ensures.takes p.2)
