use Rattle.std.proofs.Common.{ℕ, length, ◌-◌, ◌≡◌, ◌≤◌, ◌<◌}
use Rattle.mapdb_facts.specs.NamePlaces.{near_word}
use Rattle.mapdb_facts.proofs.next_names.near_with.Given as goal

abbrev pub invariant-loop-at : goal.invariant-loop-at
invariant-loop-at l = (l.first ≤ l.at) × ((p : ℕ) → l.first ≤ p → p < l.at → near_word l.near (record { number = l.number; processor = p }) ≡ 0)

abbrev pub decreases-loop-at : goal.decreases-loop-at
decreases-loop-at l = length l.near - l.at
