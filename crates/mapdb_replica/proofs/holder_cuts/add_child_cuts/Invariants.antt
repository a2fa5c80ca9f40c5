use Rattle.std.proofs.Common.{◌≡◌, ◌++◌, Some, take}
use Rattle.std.specs.List.{filter_map}
use Rattle.mapdb_facts.specs.declared.operations.Record.{Record}
use Rattle.mapdb_replica.specs.Revoking.{cut_within}
use Rattle.mapdb_replica.proofs.holder_cuts.add_child_cuts.Given as goal

-- what the children so far lose is found
abbrev pub invariant-loop-child : goal.invariant-loop-child
invariant-loop-child l =
    l.found.items ≡ l.fn.found.items ++ filter_map (λ (child : Record). cut_within l.rights child (Some l.part)) (take l.child-index l.children)
