use Rattle.std.proofs.Common.{sym, ap, ◌∙◌, arith}
use Rattle.std.specs.Prelude.{nat_lt}
use Rattle.mapdb_lines.specs.Gathering.{ahead_in}
use Rattle.mapdb_lines.specs.Words.{is_filled}
use Rattle.mapdb_lines.proofs.LineLemmas.{is_filled_drop, length_range}
use Rattle.mapdb_lines.proofs.gathering.Gathering.has_line.Goals as goal

pub returns : goal.returns
returns c =
    let s = c.args.self.now in
    ap (λ n. nat_lt s.next n) (sym (length_range s.piece.items s.start s.end (omega (arith, s.piece.ok.0)))) ∙ is_filled_drop (ahead_in s) s.next ∙ ap is_filled (sym s.ended.1)
