-- Why a run stops where no line could be read.
use Rattle.mapdb_lines.specs.declared.reading.ReadFault.{ReadFault}
use Rattle.mapdb_lines.specs.declared.reading.ReadFault.TheVariants as read
use Rattle.mapdb_script.specs.declared.faults.ScriptFault.{ScriptFault}
use Rattle.mapdb_script.specs.declared.faults.ScriptFault.TheVariants as script

abbrev pub script_fault : ReadFault → ScriptFault
script_fault read.Failed = script.Read
script_fault read.Memory = script.Memory
