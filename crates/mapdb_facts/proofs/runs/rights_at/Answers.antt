use Rattle.std.proofs.Common.{◌∙◌}
use Rattle.mapdb_join.specs.Bits.{has_bit}
use Rattle.mapdb_join.specs.Runs.{has_at}
use Rattle.mapdb_facts.specs.Kept.{bit_of}
use Rattle.mapdb_facts.proofs.Maps.CutRuns.{same_where}
use Rattle.mapdb_facts.proofs.runs.rights_at.Goals as goal

pub returns : goal.returns
returns c =
    c.rights_of.ensures
    ∙ same_where (λ right. has_bit c.at.result (bit_of right)) (λ right. has_at c.args.runs.now (c.args.page, bit_of right)) (λ right. c.at.ensures.atoms (bit_of right))
