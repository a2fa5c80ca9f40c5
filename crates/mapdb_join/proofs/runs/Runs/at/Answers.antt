use Rattle.std.proofs.Common.{sym, ◌∙◌, ap, subst}
use Rattle.mapdb_join.specs.Bits.{has_bit}
use Rattle.mapdb_join.specs.Runs.{IsRuns, bits_after}
use Rattle.mapdb_join.specs.Lawful.United.{has_is}
use Rattle.mapdb_join.proofs.runs.Runs.at.Goals as goal

pub returns-clause-bits : goal.returns-clause-bits
returns-clause-bits c =
    c.bits_at.ensures ∙ ap (λ l. bits_after 0 l c.args.page) (c.as_slice.ensures ∙ c.self.view_is)

pub returns-clause-atoms : goal.returns-clause-atoms
returns-clause-atoms c = λ bit.
    ap (λ n. has_bit n bit) (c.bits_at.ensures ∙ ap (λ l. bits_after 0 l c.args.page) (c.as_slice.ensures ∙ c.self.view_is))
    ∙ sym (has_is c.args.self.now (c.args.page, bit) (subst IsRuns c.self.view_is c.self.invariant))
