use Rattle.std.specs.Prelude.{map, string_bytes}
use Rattle.mapdb_program.specs.Commands.{job_in}
use Rattle.mapdb_program.proofs.EndLemmas.{ends_somehow}
use Rattle.mapdb_program.proofs.environment.start.Goals as goal

pub returns-clause-ends : goal.returns-clause-ends
returns-clause-ends g c = ends_somehow c.words_of.result (λ given. job_in (map string_bytes given.items)) _ _ _ _ _ c.end_by.ensures.words c.end_by.ensures.unread
