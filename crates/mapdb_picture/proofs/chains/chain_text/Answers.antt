use Rattle.std.proofs.Common.{rules, ◌≡◌, ◌∷◌, ◌++◌, ◌∙◌, ap}
use Rattle.std.specs.Prelude.{Option, string_bytes}
use Rattle.mapdb_facts.specs.Facts.{state_of_facts}
use Rattle.mapdb_picture.specs.declared.steps.Spot.{Spot}
use Rattle.mapdb_picture.specs.Explanation.{step_line}
use Rattle.mapdb_picture.proofs.ChainLemmas.{chain_from, chain_next}
use Rattle.mapdb_picture.proofs.Telling.{told}
use Rattle.mapdb_picture.proofs.chains.chain_text.Goals as goal

pub up-preserved : goal.up-preserved
up-preserved c =
    let S = state_of_facts c.args.facts.now in
    let at : Spot = c.in-Some.at in
    let more : string_bytes c.push_str.new.self ≡ string_bytes c.up.text ++ step_line S at = search rules in
    let next : chain_from S c.up.spot ≡ at ∷ chain_from S c.step_up-spot.result =
    ap (chain_from S) c.in-Some.is ∙ chain_next S at ∙ ap (λ (o : Option Spot). at ∷ chain_from S o) (search rules) in
    told (step_line S) (string_bytes c.up.text) (string_bytes c.push_str.new.self) _ at (chain_from S c.step_up-spot.result)
    (chain_from S c.up.spot) more next c.up.invariant
