use Rattle.mapdb_script.proofs.HonestScripts.{scripts_are_honest}
use Rattle.mapdb_script.proofs.laws.scripts_are_honest.Goals as goal

pub returns : goal.returns
returns c = scripts_are_honest
