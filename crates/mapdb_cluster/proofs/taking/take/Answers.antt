use Rattle.mapdb_cluster.proofs.taking.take.Goals as goal

pub returns : goal.returns
returns c = (c.take.result, c.take.ensures.takes, c.taken_reply.ensures)
