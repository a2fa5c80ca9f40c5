use Rattle.std.proofs.Common.{Ok, ap, sym, ◌∙◌}
use Rattle.mapdb_c.proofs.TakingTold.{given_taken, given_unread}
use Rattle.mapdb_c.proofs.taking.take_given.Goals as goal

pub returns-in-Ok : goal.returns-in-Ok
returns-in-Ok c =
    given_taken c.args.operations.now c.as_slice.result.now c.take_at.result c.take_at.new.taken c.args.replica.now c.take_at.new.replica
    (c.in-Ok.ensures.read ∙ ap Ok (sym c.as_slice.ensures.value)) c.take_at.ensures

pub returns-in-Err : goal.returns-in-Err
returns-in-Err c = rw (c.status.ensures, c.unread_told.ensures) (given_unread c.args.operations.now c.in-Err.unread c.args.replica.now c.in-Err.ensures.err)
