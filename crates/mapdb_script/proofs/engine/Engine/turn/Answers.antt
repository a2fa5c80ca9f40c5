use Rattle.std.proofs.Common.{rules}
use Rattle.mapdb_script.specs.Script.{turn}
use Rattle.mapdb_script.proofs.engine.Engine.turn.Goals as goal

pub returns-in-Err : goal.returns-in-Err
unfolding turn
returns-in-Err c = search rules

pub returns-in-Ok : goal.returns-in-Ok
unfolding turn
returns-in-Ok c = search rules
