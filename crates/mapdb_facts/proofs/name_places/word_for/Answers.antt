use Rattle.std.proofs.Common.{rules}
use Rattle.mapdb_facts.proofs.name_places.word_for.Goals as goal

pub returns-then-at-clause-near : goal.returns-then-at-clause-near
returns-then-at-clause-near c = search rules
