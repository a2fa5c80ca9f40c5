use Rattle.std.proofs.Common.{◌≡◌}
use Rattle.std.specs.Prelude.{Err}
use Rattle.mapdb_picture.specs.Loading.{explained}
use Rattle.mapdb_picture.proofs.LoadLemmas.{memory_told}
use Rattle.mapdb_picture.proofs.loading.snapshot_explanation.Goals as goal

pub returns-in_err-explanation-clause-err : goal.returns-in_err-explanation-clause-err
returns-in_err-explanation-clause-err c =
    memory_told (λ fault. explained c.args.bytes.now c.args.space c.args.page ≡ Err fault) c.from_residual-in_err-explanation.result c.from_residual-in_err-explanation.ensures.1
