use Rattle.mapdb_cluster.proofs.issuing.issue.Goals as goal

pub returns-clause-commands : goal.returns-clause-commands
returns-clause-commands c = (c.apply.result, c.apply.ensures.applies, c.applied_reply.ensures)
