-- A number's digits, one behind the other.
use Rattle.std.proofs.Common.{◌≡◌, ℕ, ◌+◌, ◌*◌, ◌/◌, ◌%◌, ◌<◌, ◌^◌, ◌∙◌, sym, ap, List, [], ◌∷◌, ◌++◌, append_assoc, decimal, arith}
use Rattle.std.proofs.lemmas.Fmt.{decimal_digit, decimal_step}

-- the text of a number with one digit more
pub decimal_more : (n d : ℕ) → 0 < n → d < 10 → n * 10 + d < 2 ^ 64 → decimal (n * 10 + d) ≡ decimal n ++ ((48 + d) ∷ [])
decimal_more n d some digit small =
    let first : (n * 10 + d) / 10 ≡ n = omega arith in
    let last : (n * 10 + d) % 10 ≡ d = omega arith in
    decimal_step (n * 10 + d) (omega arith) small ∙ ap (λ m. decimal m ++ ((48 + (n * 10 + d) % 10) ∷ [])) first
    ∙ ap (λ m. decimal n ++ ((48 + m) ∷ [])) last

-- a digit behind the digits so far
pub digit_behind : (n d : ℕ) (text before rest : List ℕ) → 0 < n → d < 10 → n * 10 + d < 2 ^ 64 → text ≡ decimal n ++ before → before ≡ (48 + d) ∷ rest
    → text ≡ decimal (n * 10 + d) ++ rest
digit_behind n d text before rest some digit small is more =
    is ∙ ap (λ t. decimal n ++ t) more ∙ sym (append_assoc (decimal n) ((48 + d) ∷ []) rest) ∙ ap (λ t. t ++ rest) (sym (decimal_more n d some digit small))

-- the first digit
pub digit_first : (d : ℕ) (text rest : List ℕ) → d < 10 → text ≡ (48 + d) ∷ rest → text ≡ decimal d ++ rest
digit_first d text rest digit is = is ∙ ap (λ t. t ++ rest) (sym (decimal_digit d digit))
