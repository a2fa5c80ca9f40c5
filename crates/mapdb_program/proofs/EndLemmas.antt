-- How the program ends, whether or not its words can be had.
use Rattle.std.specs.Prelude.{Option, None, Result, Ok, Err, IfOk, IfErr}
use Rattle.std.specs.IoError.{error_kind}
use Rattle.std.specs.declared.io.Error.{Error}
use Rattle.mapdb_program.specs.Ends.{EndsFor, EndsUnread, ReaderUse, WriterUse}
use Rattle.mapdb_program.specs.declared.commands.Job.{Job}
use Rattle.mapdb_program.specs.declared.endings.Ending.{Ending}

pub ends_somehow : {A : Type 0} (words : Result A Error) (asks : A → Option Job) (ending : Ending) (Unused : Type 0) (reader : ReaderUse) (writer errors : WriterUse)
    → IfOk words (λ given. EndsFor (asks given) ending Unused reader writer errors) → IfErr words (λ error. EndsUnread (error_kind error) ending Unused errors)
    → (job : Option Job) × EndsFor job ending Unused reader writer errors
ends_somehow (Ok given) asks ending Unused reader writer errors h k = (asks given, h)
ends_somehow (Err error) asks ending Unused reader writer errors h k = (None, (k.0, k.3))
