use Rattle.std.proofs.Common.{◌∙◌, sym, arith}
use Rattle.std.proofs.lemmas.Grind.{common_steps}
use Rattle.mapdb_lines.proofs.ShownLemmas.{next_digit, all_digits}
use Rattle.mapdb_lines.proofs.shown.push_digits.Goals as goal

pub loop-place-preserved : goal.loop-place-preserved
loop-place-preserved c = next_digit _ _ _ _ (omega arith) (grind (arith, common_steps)) ∙ c.loop-place.invariant

pub returns : goal.returns
returns c = sym (all_digits _ _ _ (omega arith)) ∙ c.loop-place.invariant
