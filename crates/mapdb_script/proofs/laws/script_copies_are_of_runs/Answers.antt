use Rattle.mapdb_script.proofs.HonestScripts.{script_copies_are_of_runs}
use Rattle.mapdb_script.proofs.laws.script_copies_are_of_runs.Goals as goal

pub returns : goal.returns
returns c = script_copies_are_of_runs
