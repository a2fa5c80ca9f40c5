use Rattle.std.proofs.Common.{◌≡◌, ◌+◌, ◌++◌, Some}
use Rattle.std.specs.Prelude.{ℕ, Option, None, flat_map, string_bytes}
use Rattle.mapdb_facts.specs.Facts.{state_of_facts}
use Rattle.mapdb_picture.specs.declared.steps.Spot.{Spot}
use Rattle.mapdb_picture.specs.Explanation.{chain_text, step_line}
use Rattle.mapdb_picture.proofs.ChainLemmas.{chain_from}
use Rattle.mapdb_picture.proofs.chains.chain_text.Given as goal

-- the text with the lines of the chain that is left
abbrev pub invariant-up : goal.invariant-up
invariant-up l =
    string_bytes l.text ++ flat_map (step_line (state_of_facts l.facts)) (chain_from (state_of_facts l.facts) l.spot)
    ≡ chain_text (state_of_facts l.facts) l.fn.from

abbrev left : Option Spot → ℕ
left None = 0
left (Some spot) = spot.id.number + 1

abbrev pub decreases-up : goal.decreases-up
decreases-up l = left l.spot
