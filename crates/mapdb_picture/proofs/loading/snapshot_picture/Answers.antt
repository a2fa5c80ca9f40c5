use Rattle.std.proofs.Common.{◌≡◌}
use Rattle.std.specs.Prelude.{Err}
use Rattle.mapdb_picture.specs.Loading.{pictured}
use Rattle.mapdb_picture.proofs.LoadLemmas.{memory_told}
use Rattle.mapdb_picture.proofs.loading.snapshot_picture.Goals as goal

pub returns-in_err-picture-clause-err : goal.returns-in_err-picture-clause-err
returns-in_err-picture-clause-err c =
    memory_told (λ fault. pictured c.args.bytes.now ≡ Err fault) c.from_residual-in_err-picture.result c.from_residual-in_err-picture.ensures.1
