-- The commands that the lines of a script are.
use Rattle.std.specs.Prelude.{Option, Some, None}
use Rattle.mapdb_replica.specs.declared.commands.Command.TheVariants as command
use Rattle.mapdb_lines.specs.declared.lines.Line.{Line}
use Rattle.mapdb_lines.specs.declared.lines.Line.TheVariants as line
use Rattle.mapdb_script.specs.declared.commands.Issued.{Issued}

-- the command that a line is, and the processor that it is issued at
abbrev pub command_of : Line → Option Issued
command_of (line.Map at sender item receiver window) =
    Some (record { at = at; command = command.Map sender item receiver window })
command_of (line.Unmap at space page rights flush) =
    Some (record { at = at; command = command.Unmap space page rights flush })
command_of (line.End at space) = Some (record { at = at; command = command.End space })
command_of other = None
