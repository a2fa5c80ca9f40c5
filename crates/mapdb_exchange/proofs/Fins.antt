-- Nothing stands after Fin.
use Rattle.std.proofs.Common.{◌≡◌, Bool, true, false, ◌||◌, true≢false, List, [], ◌∷◌, ◌++◌, refl, sym, ap, ◌∙◌, subst}
use Rattle.std.proofs.lemmas.Bool.{or_parts}
use mathlib.Core.Bool.{or-false}
use Rattle.mapdb_exchange.specs.declared.messages.Message.{Message}
use Rattle.mapdb_exchange.specs.Links.{is_fin, has_fin, IsFinLast}
use Rattle.mapdb_exchange.specs.Rules.{pass_view}
use Rattle.mapdb_exchange.specs.declared.rules.PassView.{PassView}

nothing_more : (xs rest : List Message) → xs ++ rest ≡ [] → xs ++ rest ≡ xs
nothing_more [] rest e = e
nothing_more (x ∷ xs) rest e = cc

pub has_fin-push : (ms : List Message) (m : Message) → has_fin ms ≡ false → has_fin (ms ++ m ∷ []) ≡ is_fin m
has_fin-push [] m e = or-false (is_fin m)
has_fin-push (x ∷ xs) m e = let p = or_parts (is_fin x) (has_fin xs) e in ap (λ b. b || has_fin (xs ++ m ∷ [])) p.0 ∙ has_fin-push xs m p.1

pub IsFinLast-push : (ms : List Message) (m : Message) → has_fin ms ≡ false → IsFinLast ms → IsFinLast (ms ++ m ∷ [])
IsFinLast-push [] m e h = ((λ _. refl), tt)
IsFinLast-push (x ∷ xs) m e h = ((λ p. absurd (true≢false (sym (ap (λ b. b || has_fin xs) p) ∙ e))), IsFinLast-push xs m ((or_parts (is_fin x) (has_fin xs) e).1) h.1)

whole_cons : (x : Message) (xs rest : List Message) (b : Bool) → is_fin x ≡ b → (is_fin x ≡ true → xs ++ rest ≡ []) → (b || has_fin xs) ≡ true → (has_fin xs ≡ true → xs ++ rest ≡ xs) → x ∷ (xs ++ rest) ≡ x ∷ xs
whole_cons x xs rest true is none e more = ap (λ l. x ∷ l) (nothing_more xs rest (none is))
whole_cons x xs rest false is none e more = ap (λ l. x ∷ l) (more e)

-- where Fin stands in the beginning, the beginning is the whole
pub whole : (xs rest : List Message) → IsFinLast (xs ++ rest) → has_fin xs ≡ true → xs ++ rest ≡ xs
whole [] rest h e = absurd (true≢false (sym e))
whole (x ∷ xs) rest h e = whole_cons x xs rest (is_fin x) refl h.0 e (λ f. whole xs rest h.1 f)

-- a put keeps what the end that puts knows
pub put_keeps : (v w : PassView) (m : Message) (ended ends : Bool) → v.sends ≡ true → ended ≡ has_fin v.put → IsFinLast v.put → ended ≡ false → ends ≡ is_fin m → w ≡ pass_view v.sends v.receives (v.put ++ m ∷ []) v.received
    → (w.sends ≡ true) × (ends ≡ has_fin w.put) × IsFinLast w.put
put_keeps v w m ended ends may was last going is then =
    let none : has_fin v.put ≡ false = sym was ∙ going in (
      ap (λ (x : PassView). x.sends) then ∙ may,
      is ∙ sym (has_fin-push v.put m none) ∙ sym (ap (λ (x : PassView). has_fin x.put) then),
      subst (λ (x : PassView). IsFinLast x.put) (sym then) (IsFinLast-push v.put m none last),
    )

pub settles : (put received : List Message) → IsFinLast put → (rest : List Message) → put ≡ received ++ rest → has_fin received ≡ true → put ≡ received
settles put received last rest is fin = is ∙ whole received rest (subst IsFinLast is last) fin
