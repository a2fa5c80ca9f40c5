-- Losses by turns: lists whose turns do not fall are one where each turn has the same in both.
use Rattle.std.proofs.Common.{◌≡◌, ◌+◌, Bool, true, false, refl, sym, ap, subst, ◌∙◌, List, [], ◌∷◌, arith}
use Rattle.std.specs.Prelude.{cond, count_by, filter, if◌then◌else◌}
use Rattle.std.proofs.lemmas.Bool.{cond-false, cond-true, false≢true}
use Rattle.std.proofs.lemmas.Bool.Decides.{nat_tests}
use Rattle.std.proofs.lemmas.List.Sums.{sum_by-cons}
use Rattle.mapdb_facts.specs.Names.{is_before, same_id}
use Rattle.mapdb_facts.specs.declared.names.RecordId.{RecordId}
use Rattle.mapdb_facts.proofs.Lists.SameNames.{same_id_itself, same_id_true}
use Rattle.mapdb_replica.specs.Revoking.{InTurn, NoneBefore, is_in_turn}
use Rattle.mapdb_replica.specs.declared.losses.Loss.{Loss}
use Rattle.mapdb_facts.proofs.RecordLemmas.Ascending.{before_back, before_same}
use Rattle.mapdb_replica.proofs.News.LeastNames.{not_apart, not_through}

not_same : (a b : RecordId) → is_before b a ≡ true → same_id a b ≡ false
not_same a b h = grind (arith, nat_tests)

before_not : (a b c : RecordId) → is_before a b ≡ true → is_before c b ≡ false → same_id c a ≡ false
before_not a b c h k = grind (arith, nat_tests)

-- of a turn before all others nothing stands there
none_in_turn : (a b : RecordId) (xs : List Loss) → is_before a b ≡ true → NoneBefore b xs → filter (is_in_turn a) xs ≡ []
none_in_turn a b [] first none = refl
none_in_turn a b (x ∷ xs) first none =
    cond-false (is_in_turn a x) (x ∷ filter (is_in_turn a) xs) (filter (is_in_turn a) xs) (before_not a b x.holder first none.0)
    ∙ none_in_turn a b xs first none.1

turn_of : (x : Loss) (xs : List Loss) → filter (is_in_turn x.holder) (x ∷ xs) ≡ x ∷ filter (is_in_turn x.holder) xs
turn_of x xs = cond-true (is_in_turn x.holder x) (x ∷ filter (is_in_turn x.holder) xs) (filter (is_in_turn x.holder) xs) (same_id_itself x.holder)

nil_cons : (x : Loss) (xs : List Loss) → [] ≡ x ∷ xs → ⊥
nil_cons x xs e = cc

head_same : (x y : Loss) (xs ys : List Loss) → x ∷ xs ≡ y ∷ ys → x ≡ y
head_same x y xs ys e = cc

tail_same : (x y : Loss) (xs ys : List Loss) → x ∷ xs ≡ y ∷ ys → xs ≡ ys
tail_same x y xs ys e = cc

-- the first of both lists
pub turns_apart : (x y : Loss) (xs ys : List Loss) → NoneBefore y.holder ys → is_before x.holder y.holder ≡ true → filter (is_in_turn x.holder) (x ∷ xs) ≡ filter (is_in_turn x.holder) (y ∷ ys) → ⊥
turns_apart x y xs ys after first same =
    nil_cons x (filter (is_in_turn x.holder) xs)
    (sym (none_in_turn x.holder y.holder (y ∷ ys) first (before_same y.holder, after)) ∙ sym same ∙ turn_of x xs)

tails : (x : Loss) (xs ys : List Loss) → ((id : RecordId) → filter (is_in_turn id) (x ∷ xs) ≡ filter (is_in_turn id) (x ∷ ys)) → (id : RecordId) → filter (is_in_turn id) xs ≡ filter (is_in_turn id) ys
tails x xs ys same id = by (is_in_turn id x) refl (same id)
  where
    by : (b : Bool) → is_in_turn id x ≡ b → filter (is_in_turn id) (x ∷ xs) ≡ filter (is_in_turn id) (x ∷ ys) → filter (is_in_turn id) xs ≡ filter (is_in_turn id) ys
    by true here e =
        tail_same x x (filter (is_in_turn id) xs) (filter (is_in_turn id) ys)
        (sym (cond-true (is_in_turn id x) (x ∷ filter (is_in_turn id) xs) (filter (is_in_turn id) xs) here) ∙ e
        ∙ cond-true (is_in_turn id x) (x ∷ filter (is_in_turn id) ys) (filter (is_in_turn id) ys) here)
    by false other e =
        sym (cond-false (is_in_turn id x) (x ∷ filter (is_in_turn id) xs) (filter (is_in_turn id) xs) other) ∙ e
        ∙ cond-false (is_in_turn id x) (x ∷ filter (is_in_turn id) ys) (filter (is_in_turn id) ys) other

heads : (x y : Loss) (xs ys : List Loss) → same_id x.holder y.holder ≡ true → filter (is_in_turn x.holder) (x ∷ xs) ≡ filter (is_in_turn x.holder) (y ∷ ys) → x ≡ y
heads x y xs ys same e =
    let turn : x.holder ≡ y.holder = same_id_true x.holder y.holder same in
    head_same x y (filter (is_in_turn x.holder) xs) (filter (is_in_turn y.holder) ys)
    (sym (turn_of x xs) ∙ e ∙ ap (λ (id : RecordId). filter (is_in_turn id) (y ∷ ys)) turn ∙ turn_of y ys)

pub one_order : (xs ys : List Loss) → InTurn xs → InTurn ys → ((id : RecordId) → filter (is_in_turn id) xs ≡ filter (is_in_turn id) ys) → xs ≡ ys
one_order [] [] up up' same = refl
one_order [] (y ∷ ys) up up' same = absurd (nil_cons y (filter (is_in_turn y.holder) ys) (same y.holder ∙ turn_of y ys))
one_order (x ∷ xs) [] up up' same = absurd (nil_cons x (filter (is_in_turn x.holder) xs) (sym (same x.holder) ∙ turn_of x xs))
one_order (x ∷ xs) (y ∷ ys) up up' same = by (is_before x.holder y.holder) (is_before y.holder x.holder) refl refl (λ e. one_order xs ys up.1 up'.1 e)
  where
    by : (a b : Bool) → is_before x.holder y.holder ≡ a → is_before y.holder x.holder ≡ b
        → (((id : RecordId) → filter (is_in_turn id) xs ≡ filter (is_in_turn id) ys) → xs ≡ ys) → x ∷ xs ≡ y ∷ ys
    by true b first other later = absurd (turns_apart x y xs ys up'.0 first (same x.holder))
    by false true other first later = absurd (turns_apart y x ys xs up.0 first (sym (same y.holder)))
    by false false no_first no_other later =
        let head : x ≡ y = heads x y xs ys (not_apart x.holder y.holder no_first no_other) (same x.holder) in
        let all : (id : RecordId) → filter (is_in_turn id) xs ≡ filter (is_in_turn id) ys =
        tails x xs ys (λ id. same id ∙ ap (λ (z : Loss). filter (is_in_turn id) (z ∷ ys)) (sym head)) in
        ap (λ (z : Loss). z ∷ xs) head ∙ ap (λ (zs : List Loss). y ∷ zs) (later all)

-- a loss more, before those of its turn
unfoldable place : Loss → List Loss → List Loss
place loss [] = loss ∷ []
place loss (x ∷ xs) = if is_before x.holder loss.holder then x ∷ place loss xs else loss ∷ x ∷ xs

-- the same losses, in turns
unfoldable in_turns : List Loss → List Loss
in_turns [] = []
in_turns (loss ∷ rest) = place loss (in_turns rest)

swapped : (p q : Bool) (x y : Loss) (zs : List Loss) → (p ≡ true → q ≡ false) → (if p then x ∷ (if q then y ∷ zs else zs) else (if q then y ∷ zs else zs)) ≡ (if q then y ∷ (if p then x ∷ zs else zs) else (if p then x ∷ zs else zs))
swapped true true x y zs h = absurd (false≢true (sym (h refl)))
swapped true false x y zs h = refl
swapped false q x y zs h = refl

placed_step : (id : RecordId) (loss x : Loss) (xs : List Loss) (b : Bool) → is_before x.holder loss.holder ≡ b → filter (is_in_turn id) (place loss xs) ≡ filter (is_in_turn id) (loss ∷ xs)
    → filter (is_in_turn id) (if b then x ∷ place loss xs else loss ∷ x ∷ xs) ≡ filter (is_in_turn id) (loss ∷ x ∷ xs)
placed_step id loss x xs true first later =
    ap (λ (ys : List Loss). if is_in_turn id x then x ∷ ys else ys) later
    ∙ swapped (is_in_turn id x) (is_in_turn id loss) x loss (filter (is_in_turn id) xs)
    (λ here. subst (λ (turn : RecordId). same_id loss.holder turn ≡ false) (same_id_true x.holder id here) (not_same loss.holder x.holder first))
placed_step id loss x xs false first later = refl

placed_turns : (id : RecordId) (loss : Loss) (xs : List Loss) → filter (is_in_turn id) (place loss xs) ≡ filter (is_in_turn id) (loss ∷ xs)
unfolding place
placed_turns id loss [] = refl
placed_turns id loss (x ∷ xs) = placed_step id loss x xs (is_before x.holder loss.holder) refl (placed_turns id loss xs)

turns_kept : (xs : List Loss) (id : RecordId) → filter (is_in_turn id) (in_turns xs) ≡ filter (is_in_turn id) xs
unfolding in_turns
turns_kept [] id = refl
turns_kept (loss ∷ rest) id = placed_turns id loss (in_turns rest) ∙ ap (λ (ys : List Loss). if is_in_turn id loss then loss ∷ ys else ys) (turns_kept rest id)

none_step : (id : RecordId) (loss x : Loss) (xs : List Loss) (b : Bool) → is_before loss.holder id ≡ false → NoneBefore id (x ∷ xs) → NoneBefore id (place loss xs)
    → NoneBefore id (if b then x ∷ place loss xs else loss ∷ x ∷ xs)
none_step id loss x xs true one none later = (none.0, later)
none_step id loss x xs false one none later = (one, none)

none_placed : (id : RecordId) (loss : Loss) (xs : List Loss) → is_before loss.holder id ≡ false → NoneBefore id xs → NoneBefore id (place loss xs)
unfolding place
none_placed id loss [] one none = (one, tt)
none_placed id loss (x ∷ xs) one none = none_step id loss x xs (is_before x.holder loss.holder) one none (none_placed id loss xs one none.1)

pub none_lower : (a b : RecordId) (xs : List Loss) → is_before b a ≡ false → NoneBefore b xs → NoneBefore a xs
none_lower a b [] h none = tt
none_lower a b (x ∷ xs) h none = (not_through a b x.holder h none.0, none_lower a b xs h none.1)

up_step : (loss x : Loss) (xs : List Loss) (b : Bool) → is_before x.holder loss.holder ≡ b → InTurn (x ∷ xs) → InTurn (place loss xs) → InTurn (if b then x ∷ place loss xs else loss ∷ x ∷ xs)
up_step loss x xs true first up later = (none_placed x.holder loss xs (before_back x.holder loss.holder first) up.0, later)
up_step loss x xs false first up later = ((first, none_lower loss.holder x.holder xs first up.0), up)

up_placed : (loss : Loss) (xs : List Loss) → InTurn xs → InTurn (place loss xs)
unfolding place
up_placed loss [] up = (tt, tt)
up_placed loss (x ∷ xs) up = up_step loss x xs (is_before x.holder loss.holder) refl up (up_placed loss xs up.1)

up_turns : (xs : List Loss) → InTurn (in_turns xs)
unfolding in_turns
up_turns [] = tt
up_turns (loss ∷ rest) = up_placed loss (in_turns rest) (up_turns rest)

module _ (test : Loss → Bool) where
  count_cons : (x : Loss) (xs : List Loss) → count_by test (x ∷ xs) ≡ cond (test x) 1 0 + count_by test xs
  count_cons x xs = sum_by-cons (λ (y : Loss). cond (test y) 1 0) x xs

  count_step : (loss x : Loss) (xs : List Loss) (b : Bool) → count_by test (place loss xs) ≡ count_by test (loss ∷ xs) → count_by test (if b then x ∷ place loss xs else loss ∷ x ∷ xs) ≡ count_by test (loss ∷ x ∷ xs)
  count_step loss x xs true later =
      let a = count_cons x (place loss xs) in
      let b = count_cons loss (x ∷ xs) in
      let c = count_cons x xs in
      let d = count_cons loss xs in
      omega (arith, a, b, c, d, later)
  count_step loss x xs false later = refl

  count_placed : (loss : Loss) (xs : List Loss) → count_by test (place loss xs) ≡ count_by test (loss ∷ xs)
  unfolding place
  count_placed loss [] = refl
  count_placed loss (x ∷ xs) = count_step loss x xs (is_before x.holder loss.holder) (count_placed loss xs)

  count_turns : (xs : List Loss) → count_by test (in_turns xs) ≡ count_by test xs
  unfolding in_turns
  count_turns [] = refl
  count_turns (loss ∷ rest) =
      let one = count_placed loss (in_turns rest) in
      let later = count_turns rest in
      let a = count_cons loss (in_turns rest) in
      let b = count_cons loss rest in
      omega (arith, one, later, a, b)

  -- as many pass in any order of the turns
  pub same_count : (xs ys : List Loss) → InTurn ys → ((id : RecordId) → filter (is_in_turn id) xs ≡ filter (is_in_turn id) ys) → count_by test xs ≡ count_by test ys
  same_count xs ys up same =
      sym (count_turns xs) ∙ ap (count_by test) (one_order (in_turns xs) ys (up_turns xs) up (λ id. turns_kept xs id ∙ same id))
