use Rattle.mapdb_cluster.proofs.taking.join.Goals as goal

pub returns : goal.returns
returns c = (c.merge_among.result, c.merge_among.ensures, c.taken_reply.ensures)
