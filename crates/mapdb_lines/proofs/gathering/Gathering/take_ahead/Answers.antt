use Rattle.std.proofs.Common.{arith, rules, inl, inr}
use Rattle.mapdb_lines.specs.Gathering.{ahead_in}
use Rattle.mapdb_lines.proofs.LineLemmas.{ahead_left, is_filled_drop}
use Rattle.mapdb_lines.proofs.gathering.Gathering.take_ahead.Goals as goal
use Rattle.mapdb_lines.proofs.gathering.Gathering.take_ahead.Goals.{then-found, else-found}

pub returns-clause-ahead : goal.returns-clause-ahead
returns-clause-ahead c =
    let s = c.args.self.now in
    elim c.if-found.branch [
      | then-found w ↦ ahead_left s.piece.items s.start s.end s.next c.if-found.self (omega arith) (omega arith) s.ended.1 s.ended.2 (inl (search rules, w.self-is))
      | else-found w ↦ ahead_left s.piece.items s.start s.end s.next c.if-found.self (omega arith) (omega arith) s.ended.1 s.ended.2 (inr (search rules, w.self-is))
    ]

pub returns-clause-found : goal.returns-clause-found
returns-clause-found c =
    let s = c.args.self.now in
    rw (s.ended.1, c.deref.ensures.value) (is_filled_drop (ahead_in s) s.next)
