use Rattle.std.proofs.Common.{◌≡◌, ◌<◌, ◌++◌, ◌-◌, ◌∙◌, sym, ap, length, arith, false, true, rules}
use Rattle.std.proofs.lemmas.List.{nil_from_length}
use Rattle.std.proofs.lemmas.Result.{IfOk-from_err, err_from_is_err_and}
use Rattle.std.proofs.KnownBytes.{Consumes-trans}
use Rattle.mapdb_lines.specs.Lines.{beyond}
use Rattle.mapdb_lines.specs.Words.{is_filled}
use Rattle.mapdb_lines.specs.Gathering.{ahead_in, gathered}
use Rattle.mapdb_lines.proofs.LineLemmas.{taken_ahead, taken_no_end, taken_whole, taken_all, then_piece, length_taken, falls_by_piece, Consumes-kept, length_range, test_zero, test_some, nothing_more, nothing_behind}
use Rattle.mapdb_lines.proofs.ReadAhead.{few_in, few_beyond, few_bytes}
use Rattle.mapdb_lines.proofs.gathering.Gathering.gather.Goals as goal

pub returns-then-len-gt-MOST_LINE_BYTES-clause-bytes : goal.returns-then-len-gt-MOST_LINE_BYTES-clause-bytes
returns-then-len-gt-MOST_LINE_BYTES-clause-bytes g c =
    let so_far = c.loop-found.invariant.bytes in
    let ahead = ahead_in c.loop-found.self in
    let line = c.in_ok-found.ensures.line in
    let rest = taken_ahead _ _ ahead _ so_far.2 line in
    let few = few_in c.loop-found.self in
    let all = few_bytes _ _ ahead so_far.2 c.loop-found.invariant.short few in
    (so_far.0, so_far.1, ((taken_no_end _ ahead _ c.loop-found.invariant.unended line, omega arith, beyond 10 ahead, rest), (all, beyond 10 ahead, rest, few_beyond ahead few)), tt)

pub returns-then-len-gt-MOST_LINE_BYTES-clause-goes_on : goal.returns-then-len-gt-MOST_LINE_BYTES-clause-goes_on
returns-then-len-gt-MOST_LINE_BYTES-clause-goes_on g c = search rules

pub returns-then-found-clause-bytes : goal.returns-then-found-clause-bytes
returns-then-found-clause-bytes g c =
    let so_far = c.loop-found.invariant.bytes in
    let ahead = ahead_in c.loop-found.self in
    let line = c.in_ok-found.ensures.line in
    let found : is_filled (beyond 10 ahead) ≡ true = sym c.in_ok-found.ensures.found ∙ c.if-found.true in
    (so_far.0, so_far.1, ((taken_no_end _ ahead _ c.loop-found.invariant.unended line, omega arith, taken_whole _ _ ahead _ _ so_far.2 line found c.in_ok-found.ensures.ahead), few_in c.take_ahead.new.self), tt)

pub returns-then-is_empty-clause-bytes : goal.returns-then-is_empty-clause-bytes
returns-then-is_empty-clause-bytes g c =
    let so_far = c.loop-found.invariant.bytes in
    let ahead = ahead_in c.loop-found.self in
    let new = c.refill.new.self in
    let unfound : is_filled (beyond 10 ahead) ≡ false = sym c.in_ok-found.ensures.found ∙ c.if-found.false in
    let all = taken_all _ _ ahead _ so_far.2 c.in_ok-found.ensures.line unfound ∙ sym c.in_ok-refill.ensures.line in
    let empty : length (gathered new) ≡ 0 = omega (arith, test_zero _ c.if-is_empty.ensures, new.line.ok.0) in
    let over : length (ahead_in new) ≡ 0 = sym c.in_ok-refill.ensures.count ∙ c.if-branch-eq0.true in
    (so_far.0 ++ ahead_in new, Consumes-trans _ _ _ so_far.0 _ so_far.1 c.in_ok-refill.ensures.bytes, ((then_piece _ so_far.0 _ (ahead_in new) all ∙ nothing_more _ _ empty over, nil_from_length _ over), tt), tt)

pub returns-else-is_empty-clause-bytes : goal.returns-else-is_empty-clause-bytes
returns-else-is_empty-clause-bytes g c =
    let so_far = c.loop-found.invariant.bytes in
    let ahead = ahead_in c.loop-found.self in
    let new = c.refill.new.self in
    let line = c.in_ok-found.ensures.line in
    let kept = c.in_ok-refill.ensures.line in
    let unfound : is_filled (beyond 10 ahead) ≡ false = sym c.in_ok-found.ensures.found ∙ c.if-found.false in
    let all = taken_all _ _ ahead _ so_far.2 line unfound ∙ sym kept in
    let some : 0 < length (gathered new) = omega (arith, test_some _ c.if-is_empty.ensures, new.line.ok.0) in
    let over : length (ahead_in new) ≡ 0 = sym c.in_ok-refill.ensures.count ∙ c.if-branch-eq0.true in (
      so_far.0 ++ ahead_in new,
      Consumes-trans _ _ _ so_far.0 _ so_far.1 c.in_ok-refill.ensures.bytes,
      ((rw kept (taken_no_end _ ahead _ c.loop-found.invariant.unended line), rw kept (omega arith), some, then_piece _ so_far.0 _ (ahead_in new) all ∙ nothing_behind _ _ over, nil_from_length _ over), tt),
      tt,
    )

pub loop-found-smaller : goal.loop-found-smaller
loop-found-smaller g c =
    let old = c.loop-found.self in
    let new = c.refill.new.self in
    let ahead = ahead_in old in
    let line = c.in_ok-found.ensures.line in
    let unfound : is_filled (beyond 10 ahead) ≡ false = sym c.in_ok-found.ensures.found ∙ c.if-found.false in
    let sum = length_taken old.piece.items (gathered old) (gathered c.take_ahead.new.self) old.start old.end (omega arith) line unfound in
    let kept = ap length c.in_ok-refill.ensures.line in
    falls_by_piece (length (gathered old)) (length (gathered new)) (old.end - old.start) (new.end - new.start) (omega arith) (omega arith) (let size = length_range new.piece.items new.start new.end (omega (arith, new.piece.ok.0)) in omega (arith, c.in_ok-refill.ensures.count))

pub loop-found-preserved : goal.loop-found-preserved
loop-found-preserved g c =
    let so_far = c.loop-found.invariant.bytes in
    let ahead = ahead_in c.loop-found.self in
    let line = c.in_ok-found.ensures.line in
    let unfound : is_filled (beyond 10 ahead) ≡ false = sym c.in_ok-found.ensures.found ∙ c.if-found.false in
    let kept = c.in_ok-refill.ensures.line in
    let all = taken_all _ _ ahead _ so_far.2 line unfound ∙ sym kept in
    record {
      unended = rw kept (taken_no_end _ ahead _ c.loop-found.invariant.unended line);
      short = rw kept (omega arith);
      bytes = (so_far.0 ++ ahead_in c.refill.new.self, Consumes-trans _ _ _ so_far.0 _ so_far.1 c.in_ok-refill.ensures.bytes, then_piece _ so_far.0 _ (ahead_in c.refill.new.self) all);
      once = c.in_ok-refill.ensures.some (omega (arith, c.if-branch-eq0.false)) ∙ c.loop-found.invariant.once;
      works = c.in_ok-refill.ensures.works ∙ c.loop-found.invariant.works;
    }

pub returns-in_err-found-clause-bytes : goal.returns-in_err-found-clause-bytes
returns-in_err-found-clause-bytes g c =
    let p = err_from_is_err_and c.from_residual.result c.from_residual.ensures.1 in
    let so_far = c.loop-found.invariant.bytes in
    let few = few_bytes _ _ (ahead_in c.loop-found.self) so_far.2 c.loop-found.invariant.short (few_in c.loop-found.self) in
    (so_far.0, so_far.1, IfOk-from_err c.from_residual.result _ c.from_residual.ensures.0, rw (p.1, p.2) few)

pub returns-in_err-refill-clause-bytes : goal.returns-in_err-refill-clause-bytes
returns-in_err-refill-clause-bytes g c =
    let p = err_from_is_err_and c.from_residual-in_err-refill.result c.from_residual-in_err-refill.ensures.1 in
    let so_far = c.loop-found.invariant.bytes in
    let ahead = ahead_in c.loop-found.self in
    let line = c.in_ok-found.ensures.line in
    let unfound : is_filled (beyond 10 ahead) ≡ false = sym c.in_ok-found.ensures.found ∙ c.if-found.false in
    let all = taken_all _ _ ahead _ so_far.2 line unfound in (
      so_far.0,
      Consumes-kept _ _ _ so_far.0 so_far.1 c.in_err-refill.ensures.kept,
      IfOk-from_err c.from_residual-in_err-refill.result _ c.from_residual-in_err-refill.ensures.0,
      rw (p.1, p.2, all) (taken_no_end _ ahead _ c.loop-found.invariant.unended line, omega arith),
    )
