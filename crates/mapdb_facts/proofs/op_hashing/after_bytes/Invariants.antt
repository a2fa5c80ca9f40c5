use Rattle.std.proofs.Common.{◌≡◌, fold, take}
use Rattle.mapdb_facts.specs.OpHashing.{after_word}
use Rattle.mapdb_facts.proofs.op_hashing.after_bytes.Given as goal

abbrev pub invariant-loop-byte : goal.invariant-loop-byte
invariant-loop-byte l = l.reached ≡ fold after_word l.state (take l.byte-index l.bytes)
