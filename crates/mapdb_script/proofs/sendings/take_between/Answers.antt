use Rattle.mapdb_script.proofs.SendingLemmas.{formed_part, known_part}
use Rattle.mapdb_script.proofs.sendings.take_between.Goals as goal

pub take_part-requires-clause-known : goal.take_part-requires-clause-known
take_part-requires-clause-known c =
    rw (c.saturating_sub-known.ensures, c.min.ensures, c.ops.ensures.ops)
    (known_part c.args.copy.now.ops c.args.other.now.ops c.args.sending c.args.mark c.requires.ordered c.requires.within c.requires.known)

pub take_part-requires-clause-formed : goal.take_part-requires-clause-formed
take_part-requires-clause-formed c = rw (c.ops.ensures.ops) (formed_part c.args.sending.first c.args.sending.end c.args.other.now.ops c.ops.ensures.formed)

pub returns : goal.returns
returns c = rw (c.saturating_sub-known.ensures, c.min.ensures, c.ops.ensures.ops) at c.take_part.ensures
