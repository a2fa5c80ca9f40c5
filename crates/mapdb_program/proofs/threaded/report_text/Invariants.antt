use Rattle.std.proofs.Common.{◌≡◌, take}
use Rattle.std.specs.Prelude.{flat_map, string_bytes}
use Rattle.mapdb_program.specs.Threaded.{processor_line}
use Rattle.mapdb_program.proofs.threaded.report_text.Given as goal

abbrev pub invariant-loop-part : goal.invariant-loop-part
invariant-loop-part l = string_bytes l.text ≡ flat_map processor_line (take l.part-index l.parts)
