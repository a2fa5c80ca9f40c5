use Rattle.std.proofs.Common.{drop}
use Rattle.mapdb_replica.proofs.Pages.PairSets.{IsPart}
use Rattle.mapdb_replica.proofs.page_rights.joined.Given as goal

-- with the pairs that are left, those that are listed have the rights of all
abbrev pub invariant-loop-pair : goal.invariant-loop-pair
invariant-loop-pair l = IsPart l.pairs l.listed.items (drop l.pair-index l.pairs)
