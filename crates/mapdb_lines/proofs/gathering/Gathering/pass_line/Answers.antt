use Rattle.std.proofs.Common.{◌≡◌, ◌<◌, ◌+◌, refl, sym, ap, ◌∙◌, length, arith, inl}
use Rattle.std.specs.Prelude.{slice_range}
use Rattle.std.proofs.lemmas.Bool.{ltb-true}
use Rattle.mapdb_lines.specs.Gathering.{ahead_in}
use Rattle.mapdb_lines.specs.Words.{is_filled}
use Rattle.mapdb_lines.proofs.LineLemmas.{ahead_left, is_filled_drop}
use Rattle.mapdb_lines.proofs.gathering.Gathering.pass_line.Goals as goal

pub returns-clause-ahead : goal.returns-clause-ahead
returns-clause-ahead c =
    let s = c.args.self.now in
    let inside : s.next < length (ahead_in s) = ltb-true s.next (length (ahead_in s)) (is_filled_drop (ahead_in s) s.next ∙ ap is_filled (sym s.ended.1) ∙ c.requires) in
    let step : s.start + s.next + 1 ≡ s.start + (s.next + 1) = omega arith in
    ap (λ start. slice_range s.piece.items start s.end) step
    ∙ ahead_left s.piece.items s.start s.end s.next (s.next + 1) s.ordered (omega (arith, s.within, s.piece.ok.0)) s.ended.1 s.ended.2 (inl (inside, refl))
