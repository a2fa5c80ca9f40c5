use Rattle.std.proofs.Common.{◌≡◌, ◌<◌, ◌++◌, drop, length}
use Rattle.std.specs.Prelude.{decimal}
use Rattle.mapdb_snapshot.proofs.scanning.number.Given as goal

-- the digits so far, and none of them leads that is zero
abbrev pub invariant-digits : goal.invariant-digits
invariant-digits l = record {
  some : 0 < l.number;
  text : drop l.fn.at l.text ≡ decimal l.number ++ drop l.at l.text;
}

abbrev pub decreases-digits : goal.decreases-digits
decreases-digits l = length (drop l.at l.text)
