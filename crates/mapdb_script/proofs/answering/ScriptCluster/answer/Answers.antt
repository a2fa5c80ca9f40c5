use Rattle.mapdb_script.specs.Answering.{done_by}
use Rattle.mapdb_script.proofs.answering.ScriptCluster.answer.Goals as goal

pub returns-in-Rights : goal.returns-in-Rights
unfolding done_by
returns-in-Rights c accepted stands = rw c.in-Rights.is (c.rights.ensures accepted)

pub returns-in-Served : goal.returns-in-Served
unfolding done_by
returns-in-Served c accepted stands = rw c.in-Served.is (c.served.ensures accepted)

pub returns-in-Version : goal.returns-in-Version
unfolding done_by
returns-in-Version c accepted stands = rw c.in-Version.is (c.version.ensures accepted)

pub returns-in-Deliver : goal.returns-in-Deliver
unfolding done_by
returns-in-Deliver c accepted stands = rw c.in-Deliver.is (c.deliver.ensures accepted)
