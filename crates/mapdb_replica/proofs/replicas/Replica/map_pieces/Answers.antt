use Rattle.std.proofs.Common.{◌≡◌, ◌∙◌, ◌+◌, ◌<◌, List, ap, length, refl, subst, sym, take, arith}
use Rattle.mapdb_facts.specs.Records.{greatest_number, records_of}
use Rattle.mapdb_facts.specs.declared.operations.Op.{Op}
use Rattle.mapdb_replica.specs.Fitting.{held_pieces, piece_ops}
use Rattle.mapdb_replica.specs.Issue.{numbered_records, rising_names}
use Rattle.mapdb_replica.specs.Replica.{with_issued}
use Rattle.mapdb_replica.specs.declared.pieces.Piece.{Piece}
use Rattle.mapdb_replica.proofs.Calls.Issuing.{length-numbered, stands-start}
use Rattle.mapdb_replica.proofs.Calls.Limits.{names-numbered}
use Rattle.mapdb_replica.proofs.replicas.Replica.map_pieces.Goals as goal

pub returns-in_default-clause-issues : goal.returns-in_default-clause-issues
returns-in_default-clause-issues c =
    let all : List Op = piece_ops c.args.self.now c.args.sender c.args.carried.now c.args.receiver in
    let count : length all ≡ length (held_pieces c.args.self.now c.args.sender c.args.carried.now) = length-numbered (greatest_number (records_of c.args.self.now.ops) + 1) c.args.self.now.processor c.args.receiver c.args.carried.now (held_pieces c.args.self.now c.args.sender c.args.carried.now) in
    let found : length c.args.found.now ≡ length (held_pieces c.args.self.now c.args.sender c.args.carried.now) = ap length c.requires.found in
    (refl, stands-start c.args.self.now all, omega (arith, c.requires.some))

pub returns-in-Ok-issue_pieces-clause-names : goal.returns-in-Ok-issue_pieces-clause-names
returns-in-Ok-issue_pieces-clause-names c =
    c.in-Ok.ensures
    ∙ ap (λ (ps : List Piece). rising_names (greatest_number (records_of c.args.self.now.ops) + 1) c.args.self.now.processor (length ps)) c.requires.found
    ∙ sym (names-numbered c.args.self.now.processor c.args.receiver c.args.carried.now (greatest_number (records_of c.args.self.now.ops) + 1) (held_pieces c.args.self.now c.args.sender c.args.carried.now))

pub returns-in-Err-clause-issues : goal.returns-in-Err-clause-issues
returns-in-Err-clause-issues c =
    let some : c.in-Err.issued < length (held_pieces c.args.self.now c.args.sender c.args.carried.now) = subst (λ (ps : List Piece). c.in-Err.issued < length ps) c.requires.found c.in-Err.ensures.some in
    let count : length (piece_ops c.args.self.now c.args.sender c.args.carried.now c.args.receiver) ≡ length (held_pieces c.args.self.now c.args.sender c.args.carried.now) = length-numbered (greatest_number (records_of c.args.self.now.ops) + 1) c.args.self.now.processor c.args.receiver c.args.carried.now (held_pieces c.args.self.now c.args.sender c.args.carried.now) in (
      refl,
      c.in-Err.ensures.err ∙ ap (λ (ps : List Piece). with_issued c.args.self.now (take c.in-Err.issued (numbered_records (greatest_number (records_of c.args.self.now.ops) + 1) c.args.self.now.processor c.args.receiver c.args.carried.now ps))) c.requires.found,
      omega (arith, some, count),
    )
