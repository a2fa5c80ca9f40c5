-- Which fault is told, where one more is met.
use Rattle.std.proofs.Common.{◌≡◌, ◌<◌, ◌≤◌, true, false, refl, ap, ◌∙◌, List, [], ◌∷◌, ◌++◌, append_assoc, arith}
use Rattle.std.specs.Prelude.{nat_lt}
use Rattle.std.specs.List.{AllByRecursion}
use Rattle.std.proofs.lemmas.Bool.Decides.{nat_tests}
use Rattle.mapdb_exchange.specs.Faults.{IsFirstFault, fault_turn}
use Rattle.mapdb_exchange.specs.declared.faults.WorkFault.{WorkFault}

-- one more at the end
all_put : (P : WorkFault → Type 0) (xs : List WorkFault) (x : WorkFault) → AllByRecursion P xs → P x → AllByRecursion P (xs ++ x ∷ [])
all_put P [] x all p = (p, tt)
all_put P (y ∷ xs) x all p = (all.0, all_put P xs x all.1 p)

-- a weaker fact of all
all_weaker : (P Q : WorkFault → Type 0) (xs : List WorkFault) → ((x : WorkFault) → P x → Q x) → AllByRecursion P xs → AllByRecursion Q xs
all_weaker P Q [] weaker all = tt
all_weaker P Q (x ∷ xs) weaker all = (weaker x all.0, all_weaker P Q xs weaker all.1)

all_join : (P : WorkFault → Type 0) (xs ys : List WorkFault) → AllByRecursion P xs → AllByRecursion P ys → AllByRecursion P (xs ++ ys)
all_join P [] ys all more = more
all_join P (x ∷ xs) ys all more = (all.0, all_join P xs ys all.1 more)

-- a fault that does not come before the one that is told changes nothing
pub still_first : (xs : List WorkFault) (held f : WorkFault) → IsFirstFault xs held → nat_lt (fault_turn f) (fault_turn held) ≡ false → IsFirstFault (xs ++ f ∷ []) held
still_first xs held f first not =
    let late : fault_turn held ≤ fault_turn f = grind (arith, nat_tests) in
    record {
      before = first.before;
      after = first.after ++ f ∷ [];
      stands = ap (λ (l : List WorkFault). l ++ f ∷ []) first.stands ∙ append_assoc first.before (held ∷ first.after) (f ∷ []);
      sooner = first.sooner;
      later = all_put (λ x. fault_turn held ≤ fault_turn x) first.after f first.later late;
    }

-- a fault that comes before the one that is told comes before all
pub new_first : (xs : List WorkFault) (held f : WorkFault) → IsFirstFault xs held → nat_lt (fault_turn f) (fault_turn held) ≡ true → IsFirstFault (xs ++ f ∷ []) f
new_first xs held f first is =
    let early : fault_turn f < fault_turn held = grind (arith, nat_tests) in
    let P : WorkFault → Type 0 = λ x. fault_turn f < fault_turn x in
    let front = all_weaker (λ x. fault_turn held < fault_turn x) P first.before (λ x h. omega (arith, early, h)) first.sooner in
    let back = all_weaker (λ x. fault_turn held ≤ fault_turn x) P first.after (λ x h. omega (arith, early, h)) first.later in
    record {
      before = xs;
      after = [];
      stands = refl;
      sooner = rw first.stands (all_join P first.before (held ∷ first.after) front (early, back));
      later = tt;
    }

-- the only fault is told
pub only_first : (xs : List WorkFault) (f : WorkFault) → xs ≡ [] → IsFirstFault (xs ++ f ∷ []) f
only_first [] f is = record { before = []; after = []; stands = refl; sooner = tt; later = tt }
only_first (x ∷ xs) f is = cc

-- which fault is told once one more is met
pub ruleset told_first = (still_first, new_first, only_first)
