use Rattle.std.proofs.Common.{rules}
use Rattle.mapdb_picture.proofs.steps.step_up.Goals as goal

pub returns-then-not-holds-clause-source : goal.returns-then-not-holds-clause-source
returns-then-not-holds-clause-source c = search rules
