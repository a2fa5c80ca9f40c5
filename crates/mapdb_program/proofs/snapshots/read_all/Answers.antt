use Rattle.std.proofs.Common.{◌≡◌, ◌∙◌, ◌++◌, ◌<◌, ℕ, List, false, length, refl, sym, ap, subst, take, drop, arith, inr}
use Rattle.std.specs.Prelude.{Bool, ◌||◌}
use Rattle.std.specs.Io.KnownBytes.{Consumes}
use Rattle.std.proofs.KnownBytes.{Consumes-kept, Consumes-nil, Consumes-trans}
use Rattle.mapdb_program.proofs.SnapshotLemmas.{consumes_zero, ended_now, grows_little, piece_read, shows_no_end, told_memory, went_on, worked}
use Rattle.mapdb_program.proofs.snapshots.read_all.Goals as goal

pub pieces-init : goal.pieces-init
pieces-init g c = record {
  consumed = subst (λ (xs : List ℕ). Consumes (g.R.Source.left c.args.reader.now) (g.R.Source.left c.args.reader.now) xs) (sym c.new-input.ensures.items)
      (Consumes-nil (g.R.Source.left c.args.reader.now));
  near = let none = ap length c.new-input.ensures.items in omega arith;
  works = c.requires;
  once = refl;
  room = c.in_ok-piece.ensures.len;
}

pub returns-in-Err-clause-read : goal.returns-in-Err-clause-read
returns-in-Err-clause-read g c = (
  c.pieces.input.items,
  Consumes-kept (g.R.Source.left c.args.reader.now) (g.R.Source.left c.pieces.reader) (g.R.Source.left c.read.new.self) c.pieces.input.items c.pieces.invariant.consumed c.in-Err.ensures.bytes,
  tt,
  omega arith,
)

pub returns-then-count-eq0-clause-read : goal.returns-then-count-eq0-clause-read
returns-then-count-eq0-clause-read g c = (
  c.pieces.input.items,
  consumes_zero (g.R.Source.left c.args.reader.now) (g.R.Source.left c.pieces.reader) (g.R.Source.left c.read.new.self) c.pieces.input.items c.read.new.piece c.in-Ok.count
      c.if-count-eq0.true c.pieces.invariant.consumed c.in-Ok.ensures.bytes.0,
  refl,
  tt,
)

pub returns-then-count-eq0-clause-over : goal.returns-then-count-eq0-clause-over
returns-then-count-eq0-clause-over g c =
    let auto : length c.read.new.piece ≡ length c.as_mut_slice.result.now = c.read.auto.piece in
    let value : length c.as_mut_slice.result.now ≡ c.pieces.piece.len = c.as_mut_slice.ensures.len in
    let room : c.pieces.piece.len ≡ 65536 = c.pieces.invariant.room in
    let some : 0 < length c.read.new.piece = omega (arith, auto, value, room) in (
      ended_now (g.R.Source.has_ended c.pieces.reader) (g.R.Source.has_ended c.read.new.self) c.in-Ok.count (length c.read.new.piece)
          c.in-Ok.ensures.ended c.if-count-eq0.true some,
      c.in-Ok.ensures.bytes.1 c.if-count-eq0.true some,
    )

pub pieces-preserved : goal.pieces-preserved
pieces-preserved g c =
    let auto : length c.read.new.piece ≡ length c.as_mut_slice.result.now = c.read.auto.piece in
    let value : length c.as_mut_slice.result.now ≡ c.pieces.piece.len = c.as_mut_slice.ensures.len in
    let read : take c.in-Ok.count c.deref.result.now ≡ take c.in-Ok.count c.read.new.piece =
    ap (λ (bs : List ℕ). take c.in-Ok.count bs) c.deref.ensures.value
    ∙ piece_read c.in-Ok.count c.pieces.piece.len c.read.new.piece (drop (length c.read.new.piece) c.pieces.piece.items) (omega (arith, auto, value)) in
    record {
      consumed = subst (λ (bs : List ℕ). Consumes (g.R.Source.left c.args.reader.now) (g.R.Source.left c.read.new.self) bs)
          (sym (c.in_ok-extend_from_slice.ensures.items ∙ ap (λ (bs : List ℕ). c.pieces.input.items ++ bs) read))
          (Consumes-trans (g.R.Source.left c.args.reader.now) (g.R.Source.left c.pieces.reader) (g.R.Source.left c.read.new.self) c.pieces.input.items
          (take c.in-Ok.count c.read.new.piece) c.pieces.invariant.consumed c.in-Ok.ensures.bytes.0);
      near = grows_little c.pieces.input.items c.deref.result.now c.extend_from_slice.new.self.items c.in-Ok.count c.in_ok-extend_from_slice.ensures.items
          (omega arith) (omega (arith, auto, value, c.in-Ok.ensures.bound));
      works = c.in-Ok.ensures.failed ∙ ap (λ (b : Bool). b || false) c.pieces.invariant.works;
      once = went_on (g.R.Source.has_ended c.args.reader.now) (g.R.Source.has_ended c.pieces.reader) (g.R.Source.has_ended c.read.new.self) c.in-Ok.count (length c.read.new.piece)
          c.in-Ok.ensures.ended (omega (arith, c.if-count-eq0.false)) c.pieces.invariant.once;
      room = c.pieces.invariant.room;
    }

pub returns-in_err-extend_from_slice-clause-read : goal.returns-in_err-extend_from_slice-clause-read
returns-in_err-extend_from_slice-clause-read g c =
    let input : List ℕ = c.pieces.input.items ++ take c.in-Ok.count c.read.new.piece in
    let auto : length c.read.new.piece ≡ length c.as_mut_slice.result.now = c.read.auto.piece in
    let value : length c.as_mut_slice.result.now ≡ c.pieces.piece.len = c.as_mut_slice.ensures.len in
    let room : c.pieces.piece.len ≡ 65536 = c.pieces.invariant.room in
    let little = grows_little c.pieces.input.items c.read.new.piece input c.in-Ok.count refl (omega arith) (omega (arith, auto, value, room, c.in-Ok.ensures.bound)) in
    let told = told_memory _ c.from_residual-in_err-extend_from_slice.result input little c.from_residual-in_err-extend_from_slice.ensures.0 c.from_residual-in_err-extend_from_slice.ensures.1 in (
      input,
      Consumes-trans (g.R.Source.left c.args.reader.now) (g.R.Source.left c.pieces.reader) (g.R.Source.left c.read.new.self) c.pieces.input.items
          (take c.in-Ok.count c.read.new.piece) c.pieces.invariant.consumed c.in-Ok.ensures.bytes.0,
      told.0,
      told.1,
    )

pub returns-clause-read : goal.returns-clause-read
returns-clause-read g c = (c.pieces.input.items, c.pieces.invariant.consumed, tt, (omega arith, c.pieces.invariant.near))

pub returns-clause-over : goal.returns-clause-over
returns-clause-over g c = tt

pub returns-clause-works : goal.returns-clause-works
returns-clause-works g c = inr c.pieces.invariant.works

pub returns-in-Err-clause-once : goal.returns-in-Err-clause-once
returns-in-Err-clause-once g c failed =
    shows_no_end (g.R.Source.has_ended c.args.reader.now) (g.R.Source.has_ended c.pieces.reader) (g.R.Source.has_ended c.read.new.self) c.in-Err.ensures.ended c.pieces.invariant.once

pub returns-then-count-eq0-clause-once : goal.returns-then-count-eq0-clause-once
returns-then-count-eq0-clause-once g c failed =
    absurd (worked (g.R.Source.has_failed c.pieces.reader) (g.R.Source.has_failed c.read.new.self) c.in-Ok.ensures.failed c.pieces.invariant.works failed)

pub returns-in_err-extend_from_slice-clause-once : goal.returns-in_err-extend_from_slice-clause-once
returns-in_err-extend_from_slice-clause-once g c failed =
    absurd (worked (g.R.Source.has_failed c.pieces.reader) (g.R.Source.has_failed c.read.new.self) c.in-Ok.ensures.failed c.pieces.invariant.works failed)

pub returns-clause-once : goal.returns-clause-once
returns-clause-once g c failed = c.pieces.invariant.once
