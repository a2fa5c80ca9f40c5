use Rattle.std.proofs.Common.{◌≡◌, ◌++◌, drop}
use Rattle.std.specs.List.{filter_map}
use Rattle.mapdb_facts.specs.Facts.{state_of_facts}
use Rattle.mapdb_rights.specs.Meeting.{record_if, shares_part}
use Rattle.mapdb_rights.proofs.index.sharing.named_sharing.Given as goal

-- the records so far with those of the names that are left
abbrev pub invariant-loop-id : goal.invariant-loop-id
invariant-loop-id l =
    l.found.items ++ filter_map (λ id. record_if (shares_part l.owner l.part) ((state_of_facts l.facts).record_at id)) (drop l.id-index l.names)
    ≡ filter_map (λ id. record_if (shares_part l.owner l.part) ((state_of_facts l.facts).record_at id)) l.names
