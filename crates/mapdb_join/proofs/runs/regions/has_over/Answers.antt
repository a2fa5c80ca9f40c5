use Rattle.std.proofs.Common.{◌≡◌, ◌+◌, sym, ◌∙◌, ap, subst, arith, take, bit_or}
use Rattle.std.specs.Prelude.{slice_range}
use Rattle.std.specs.List.{All}
use Rattle.std.proofs.lemmas.Bool.{true≢false}
use Rattle.mapdb_join.specs.Runs.{count_below, last_bits}
use Rattle.mapdb_join.specs.declared.runs.starts.Start.{Start}
use Rattle.mapdb_join.proofs.Having.{has_region, region_first, region_starts}
use Rattle.mapdb_join.proofs.Pieces.{count_rises}
use Rattle.mapdb_join.proofs.runs.regions.has_over.Goals as goal

pub returns-then-at_first-bits : goal.returns-then-at_first-bits
returns-then-at_first-bits c =
    let xs = c.args.starts.now in
    let e = c.bits_before-at_first.ensures ∙ ap (λ n. last_bits 0 (take n xs)) c.starts_below-inner.ensures.count in
    (λ t. absurd (true≢false (sym t)), λ h. absurd (c.if-at_first-bits.true (subst (λ b. bit_or b c.args.bits ≡ b) (sym e) (region_first xs c.args.first c.args.end c.args.bits c.requires.ascends c.requires.some.0 h))))

pub have_between-requires : goal.have_between-requires
have_between-requires c =
    let r = count_rises c.args.starts.now (c.args.first + 1) c.args.end (omega arith) in
    (omega (arith, r, c.starts_below-inner.ensures.count, c.starts_below-outer.ensures.count), c.starts_below-outer.ensures.bound)

pub returns : goal.returns
returns c =
    let xs = c.args.starts.now in
    let e = c.bits_before-at_first.ensures ∙ ap (λ n. last_bits 0 (take n xs)) c.starts_below-inner.ensures.count in
    let m = ap (λ n. slice_range xs n c.starts_below-outer.result) c.starts_below-inner.ensures.count ∙ ap (λ n. slice_range xs (count_below xs (c.args.first + 1)) n) c.starts_below-outer.ensures.count in (
      λ t. has_region xs c.args.first c.args.end c.args.bits c.requires.ascends c.requires.some.0 (subst (λ b. bit_or b c.args.bits ≡ b) e c.if-at_first-bits.false) (subst (All (λ (s : Start). bit_or s.bits c.args.bits ≡ s.bits)) m (c.have_between.ensures.0 t)),
      λ h. c.have_between.ensures.1 (subst (All (λ (s : Start). bit_or s.bits c.args.bits ≡ s.bits)) (sym m) (region_starts xs c.args.first c.args.end c.args.bits c.requires.ascends c.requires.some.0 h)),
    )
