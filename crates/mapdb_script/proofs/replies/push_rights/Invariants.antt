use Rattle.std.proofs.Common.{◌≡◌, ◌++◌, take}
use Rattle.std.specs.Prelude.{codes, string_bytes}
use Rattle.mapdb_script.specs.Reply.{mapping_text, spaced}
use Rattle.mapdb_script.proofs.replies.push_rights.Given as goal

abbrev pub invariant-loop-frame : goal.invariant-loop-frame
invariant-loop-frame l = string_bytes l.text ≡ string_bytes l.fn.text ++ (codes "rights" ++ spaced (λ mapping. mapping_text mapping.0 mapping.1) (take l.frame-index l.mappings))
