use Rattle.mapdb_node.proofs.answering.issue.Goals as goal

pub returns : goal.returns
returns c = (c.apply.result, c.apply.ensures.applies, c.applied_reply.ensures)
