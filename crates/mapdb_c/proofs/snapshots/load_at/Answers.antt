use Rattle.std.proofs.Common.{Ok, ap, sym, ◌∙◌}
use Rattle.mapdb_c.proofs.LoadingTold.{read_taken}
use Rattle.mapdb_c.proofs.snapshots.load_at.Goals as goal

pub returns-in-Ok : goal.returns-in-Ok
returns-in-Ok c =
    read_taken c.args.text.now c.as_slice.result.now c.take_at.result c.take_at.new.taken c.args.replica.now c.take_at.new.replica
    (c.in-Ok.ensures.read ∙ ap Ok (sym c.as_slice.ensures.value)) c.take_at.ensures
