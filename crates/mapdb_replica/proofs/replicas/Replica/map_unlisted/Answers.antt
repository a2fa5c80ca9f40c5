use Rattle.std.proofs.Common.{◌≡◌, ◌∙◌, ◌+◌, ◌<◌, List, ap, length, sym, arith}
use Rattle.std.specs.Prelude.{None}
use Rattle.mapdb_facts.specs.Records.{greatest_number, records_of}
use Rattle.mapdb_facts.specs.declared.operations.Op.{Op}
use Rattle.mapdb_replica.specs.Fitting.{count_refusal, held_pieces, piece_ops, piece_refusal}
use Rattle.mapdb_replica.proofs.Calls.Issuing.{length-numbered, wants_memory}
use Rattle.mapdb_replica.proofs.replicas.Replica.map_unlisted.Goals as goal

pub returns-else-count-eq0-clause-issues : goal.returns-else-count-eq0-clause-issues
returns-else-count-eq0-clause-issues c receiver =
    let log = c.args.self.now in
    let all : List Op = piece_ops log c.args.sender c.args.carried.now receiver in
    let none : piece_refusal log c.args.sender c.args.carried.now ≡ None =
    ap (λ n. count_refusal (greatest_number (records_of log.ops)) (length log.ops) n) (sym c.piece_count-count.ensures.count) ∙ sym c.count_refusal.ensures ∙ c.in_default.is in
    let count : length all ≡ length (held_pieces log c.args.sender c.args.carried.now) =
    length-numbered (greatest_number (records_of log.ops) + 1) log.processor receiver c.args.carried.now (held_pieces log c.args.sender c.args.carried.now) in
    let some : 0 < length all = omega (arith, count, c.piece_count-count.ensures.count, c.if-count-eq0.false) in
    wants_memory log (piece_refusal log c.args.sender c.args.carried.now) all none some
