use Rattle.std.proofs.Common.{bit_and, refl, ◌∙◌}
use Rattle.mapdb_fpage.specs.RightBits.{sets_agree}
use Rattle.mapdb_fpage.specs.RightSets.{common}
use Rattle.mapdb_fpage.proofs.right_sets.Rights.meet.Goals as goal

pub returns : goal.returns
returns c =
    sets_agree (λ a b. bit_and a b) common refl c.self.inside.bits c.other.inside.bits c.self.invariant c.other.invariant
    ∙ (λ i. common (c.self.view_is i) (c.other.view_is i))
