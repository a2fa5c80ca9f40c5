use Rattle.std.proofs.Common.{◌≡◌, ◌+◌, ◌*◌, ◌<◌, ◌^◌, ◌++◌, ◌∙◌, decimal, drop, sym, ap, subst, arith}
use Rattle.mapdb_snapshot.proofs.Scans.Digits.{digit_behind, digit_first}
use Rattle.mapdb_snapshot.proofs.scanning.number.Goals as goal

pub returns-then-number-eq0 : goal.returns-then-number-eq0
returns-then-number-eq0 c =
    subst (λ n. drop c.args.at.now c.args.text.now ≡ decimal n ++ drop c.digit.new.at c.args.text.now)
    (let zero : c.in_ok-number.number ≡ 0 = omega arith in zero)
    (digit_first c.in_ok-number.number _ _ c.in_ok-number.ensures.below c.in_ok-number.ensures.digit)

pub digits-init : goal.digits-init
digits-init c = record {
  some = omega arith;
  text = digit_first c.in_ok-number.number _ _ c.in_ok-number.ensures.below c.in_ok-number.ensures.digit;
}

pub digits-preserved : goal.digits-preserved
digits-preserved c =
    let n = c.digits.number in
    let d = c.in-Some.digit in
    let is : c.in_ok-number-2.number ≡ n * 10 + d = omega arith in
    let small : n * 10 + d < 2 ^ 64 = omega arith in
    record {
      some = omega (arith, c.digits.invariant.some, is);
      text =
          digit_behind n d _ _ _ c.digits.invariant.some c.in-Some.ensures.below small c.digits.invariant.text c.in-Some.ensures.digit
          ∙ ap (λ m. decimal m ++ drop c.digit-in-digits.new.at c.args.text.now) (sym is);
    }
