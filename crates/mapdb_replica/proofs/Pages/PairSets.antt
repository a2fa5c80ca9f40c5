-- The pairs that are had at a page, listed frame by frame.
use Rattle.std.proofs.Common.{◌≡◌, ℕ, ◌+◌, ◌<◌, ◌≤◌, true, false, List, [], ◌∷◌, drop, get_or, length, refl, sym, ap, subst, ◌∙◌, arith, inl, inr}
use Rattle.std.specs.Prelude.{◌⊎◌, ◌↔◌, Some}
use Rattle.std.proofs.lemmas.List.{drop_more}
use Rattle.mapdb_fpage.proofs.RightLemmas.{some_here, some_of}
use Rattle.mapdb_fpage.specs.RightSets.{includes, is_empty}
use Rattle.mapdb_fpage.specs.declared.right_sets.Right.{Right}
use Rattle.mapdb_fpage.specs.declared.right_sets.Rights.{Rights}
use Rattle.mapdb_facts.specs.Records.{IsAmong}
use Rattle.mapdb_facts.specs.State.{State, state_of}
use Rattle.mapdb_facts.specs.WellFormed.{all_formed}
use Rattle.mapdb_facts.specs.declared.names.Space.{Space}
use Rattle.mapdb_facts.specs.declared.operations.Op.{Op}
use Rattle.mapdb_rights.proofs.Live.PagePairs.{pair_parts}
use Rattle.mapdb_rights.specs.Frame.{frame_at}
use Rattle.mapdb_rights.specs.Live.{IsLive}
use Rattle.mapdb_rights.specs.PagePairs.{ArePagePairs}
use Rattle.mapdb_rights.specs.PageRights.{HasPair}
use Rattle.mapdb_rights.specs.Right.{rights_at}
use Rattle.mapdb_replica.specs.Pairs.{AllAbove, AreByFrame, HaveRights, IsRising, ListsRight, Pair, page_rights, with_pair}
use Rattle.mapdb_replica.proofs.Pages.PairLaws.{HasIn, listed_to, lists_from, page_rights_are_listed, right_in, rising-with}
use Rattle.mapdb_replica.proofs.Pages.ServedAlone.{same_sets}
use Rattle.mapdb_rights.proofs.Rights.OneFrameRelation.{some_number}

-- ---- two lists whose frames rise, with the same rights under each frame, are one

listed_above : (low frame : ℕ) (right : Right) (pairs : List Pair) → AllAbove low pairs → ListsRight pairs frame right → low < frame
listed_above low frame right [] above h = absurd h
listed_above low frame right (pair ∷ rest) above (inl h) = omega (arith, above.0, h.0)
listed_above low frame right (pair ∷ rest) above (inr h) = listed_above low frame right rest above.1 h

-- the first frame is the least
listed_from : (pair : Pair) (rest : List Pair) (frame : ℕ) (right : Right) → AllAbove pair.0 rest → ListsRight (pair ∷ rest) frame right → pair.0 ≤ frame
listed_from pair rest frame right above (inl h) = omega (arith, h.0)
listed_from pair rest frame right above (inr h) = let low = listed_above pair.0 frame right rest above h in omega (arith, low)

-- the rights of the first frame stand first
in_first : (pair : Pair) (rest : List Pair) (frame : ℕ) (right : Right) → AllAbove pair.0 rest → pair.0 ≡ frame → ListsRight (pair ∷ rest) frame right → includes pair.1 right ≡ true
in_first pair rest frame right above same (inl h) = h.1
in_first pair rest frame right above same (inr h) = let low = listed_above pair.0 frame right rest above h in absurd (omega (arith, low, same))

-- those of a higher frame stand behind it
in_rest : (pair : Pair) (rest : List Pair) (frame : ℕ) (right : Right) → pair.0 < frame → ListsRight (pair ∷ rest) frame right → ListsRight rest frame right
in_rest pair rest frame right low (inl h) = absurd (omega (arith, low, h.0))
in_rest pair rest frame right low (inr h) = h

-- the same rights stand under each frame
abbrev ListSame : List Pair → List Pair → Type 0
ListSame a b = (frame : ℕ) (right : Right) → ListsRight a frame right ↔ ListsRight b frame right

first_low : (p q : Pair) (xs ys : List Pair) → IsRising (p ∷ xs) → IsRising (q ∷ ys) → ListSame (p ∷ xs) (q ∷ ys) → q.0 ≤ p.0
first_low p q xs ys a b same =
    let own = some_of p.1 a.0 in
    listed_from q ys p.0 own.0 b.1 ((same p.0 own.0).0 (inl (refl, own.1)))

first_within : (p q : Pair) (xs ys : List Pair) → IsRising (p ∷ xs) → IsRising (q ∷ ys) → ListSame (p ∷ xs) (q ∷ ys) → p.0 ≡ q.0 → (right : Right) → includes p.1 right ≡ true → includes q.1 right ≡ true
first_within p q xs ys a b same frame right has = in_first q ys p.0 right b.1 (sym frame) ((same p.0 right).0 (inl (refl, has)))

rest_within : (p q : Pair) (xs ys : List Pair) → IsRising (p ∷ xs) → ListSame (p ∷ xs) (q ∷ ys) → p.0 ≡ q.0 → (frame : ℕ) (right : Right) → ListsRight xs frame right → ListsRight ys frame right
rest_within p q xs ys a same is frame right h =
    let low = listed_above p.0 frame right xs a.1 h in
    in_rest q ys frame right (omega (arith, low, is)) ((same frame right).0 (inr h))

turned : (a b : List Pair) → ListSame a b → ListSame b a
turned a b same frame right = ((same frame right).1, (same frame right).0)

pub one_list : (a b : List Pair) → IsRising a → IsRising b → ListSame a b → a ≡ b
one_list [] [] rising other same = refl
one_list [] (q ∷ ys) rising other same = let own = some_of q.1 other.0 in absurd ((same q.0 own.0).1 (inl (refl, own.1)))
one_list (p ∷ xs) [] rising other same = let own = some_of p.1 rising.0 in absurd ((same p.0 own.0).0 (inl (refl, own.1)))
one_list (p ∷ xs) (q ∷ ys) rising other same =
    let low = first_low p q xs ys rising other same in
    let high = first_low q p ys xs other rising (turned (p ∷ xs) (q ∷ ys) same) in
    let frame : p.0 ≡ q.0 = omega (arith, low, high) in
    let rights : p.1 ≡ q.1 = same_sets p.1 q.1 (first_within p q xs ys rising other same frame) (first_within q p ys xs other rising (turned (p ∷ xs) (q ∷ ys) same) (sym frame)) in
    let rest : xs ≡ ys = one_list xs ys rising.2 other.2
    (λ f right. (rest_within p q xs ys rising same frame f right, rest_within q p ys xs other (turned (p ∷ xs) (q ∷ ys) same) (sym frame) f right)) in
    λ i. (frame i, rights i) ∷ rest i

-- ---- one pair more

-- what is listed with those that are left is what all have
pub record IsPart (pairs listed left : List Pair) : Type 0 where
  pub rising : IsRising listed
  pub some : HaveRights left
  pub to : (frame : ℕ) (right : Right) → ListsRight listed frame right ⊎ ListsRight left frame right → ListsRight pairs frame right
  pub from : (frame : ℕ) (right : Right) → ListsRight pairs frame right → ListsRight listed frame right ⊎ ListsRight left frame right

pub part_start : (pairs : List Pair) → HaveRights pairs → IsPart pairs [] pairs
part_start pairs some = record {
  rising = tt;
  some = some;
  to = λ frame right h. elim h [ inl none ↦ absurd none | inr k ↦ k ];
  from = λ frame right h. inr h;
}

pub part_next : (pairs listed left rest : List Pair) (pair : Pair) → left ≡ pair ∷ rest → IsPart pairs listed left → IsPart pairs (with_pair pair listed) rest
part_next pairs listed left rest pair is h = step (subst (IsPart pairs listed) is h)
  where
    step : IsPart pairs listed (pair ∷ rest) → IsPart pairs (with_pair pair listed) rest
    step part = record {
      rising = rising-with pair listed part.some.0 part.rising;
      some = part.some.1;
      to = λ frame right h. elim h [
        | inl k ↦ elim (listed_to pair listed frame right k) [
          | inl here ↦ part.to frame right (inr (inl here))
          | inr before ↦ part.to frame right (inl before)
        ]
        | inr later ↦ part.to frame right (inr (inr later))
      ];
      from = λ frame right h. elim (part.from frame right h) [
        | inl before ↦ inl (lists_from pair listed frame right (inr before))
        | inr k ↦ elim k [
          | inl here ↦ inl (lists_from pair listed frame right (inl here))
          | inr later ↦ inr later
        ]
      ];
    }

-- the one at an index
pub part_on : (pairs listed new : List Pair) (i : ℕ) (d : Pair) → i < length pairs → new ≡ with_pair (get_or pairs i d) listed
    → IsPart pairs listed (drop i pairs) → IsPart pairs new (drop (i + 1) pairs)
part_on pairs listed new i d within is h =
    subst (λ (xs : List Pair). IsPart pairs xs (drop (i + 1) pairs)) (sym is)
    (part_next pairs listed (drop i pairs) (drop (i + 1) pairs) (get_or pairs i d) (drop_more pairs i d within) h)

pub part_end : (pairs listed left : List Pair) → left ≡ [] → IsPart pairs listed left → AreByFrame pairs listed
part_end pairs listed left is h = step (subst (IsPart pairs listed) is h)
  where
    step : IsPart pairs listed [] → AreByFrame pairs listed
    step part = record {
      rising = part.rising;
      same = λ frame right. (
        (λ k. part.to frame right (inl k)),
        (λ k. elim (part.from frame right k) [ inl there ↦ there | inr none ↦ absurd none ]),
      );
    }

few_rising : (pairs : List Pair) → length pairs < 2 → HaveRights pairs → IsRising pairs
few_rising [] few some = tt
few_rising (pair ∷ []) few some = (some.0, tt, tt)
few_rising (pair ∷ other ∷ rest) few some = absurd (omega arith)

-- one pair at most is listed so already
pub few_by_frame : (pairs : List Pair) → length pairs < 2 → HaveRights pairs → AreByFrame pairs pairs
few_by_frame pairs few some = record { rising = few_rising pairs few some; same = λ frame right. ((λ h. h), (λ h. h)) }

-- ---- the pairs of the records of a space

listed_among : (pairs : List Pair) (frame : ℕ) (right : Right) → ListsRight pairs frame right → (pair : Pair) × IsAmong pair pairs × HasIn pair frame right
listed_among [] frame right h = absurd h
listed_among (pair ∷ rest) frame right (inl h) = (pair, inl refl, h)
listed_among (pair ∷ rest) frame right (inr h) = let found = listed_among rest frame right h in (found.0, inr found.1, found.2)

among_listed : (pairs : List Pair) (pair : Pair) (frame : ℕ) (right : Right) → IsAmong pair pairs → HasIn pair frame right → ListsRight pairs frame right
among_listed [] pair frame right among has = absurd among
among_listed (first ∷ rest) pair frame right (inl same) has = inl (subst (λ (p : Pair). HasIn p frame right) (sym same) has)
among_listed (first ∷ rest) pair frame right (inr later) has = inr (among_listed rest pair frame right later has)

all_some : (pairs : List Pair) → ((pair : Pair) → IsAmong pair pairs → is_empty pair.1 ≡ false) → HaveRights pairs
all_some [] some = tt
all_some (pair ∷ rest) some = (some pair (inl refl), all_some rest (λ other among. some other (inr among)))

module _ (S : State) (space : Space) (page : ℕ) (pairs : List Pair) (are : ArePagePairs S space page pairs) where
  pub shown_some : HaveRights pairs
  shown_some = all_some pairs (λ pair among.
      let shown = are.shown pair among in
      let parts = pair_parts (frame_at S shown.id page) (rights_at S shown.id page) pair shown.is in
      ap is_empty (sym parts.rights_are) ∙ parts.some)

  shown_to : (frame : ℕ) (right : Right) → ListsRight pairs frame right → HasPair S space page frame right
  shown_to frame right h =
      let found = listed_among pairs frame right h in
      let shown = are.shown found.0 found.1 in
      let parts = pair_parts (frame_at S shown.id page) (rights_at S shown.id page) found.0 shown.is in (
        shown.id,
        shown.live.into,
        sym (right_in S page shown.id right) ∙ ap (λ (r : Rights). includes r right) parts.rights_are ∙ found.2.1,
        parts.frame_is ∙ ap Some found.2.0,
      )

  shown_from : (frame : ℕ) (right : Right) → HasPair S space page frame right → ListsRight pairs frame right
  shown_from frame right h =
      let has : includes (rights_at S h.0 page) right ≡ true = right_in S page h.0 right ∙ h.2 in
      let live : IsLive S space page h.0 = record { into = h.1; has_some = some_here (rights_at S h.0 page) right has } in
      let own = are.all h.0 live in
      let parts = pair_parts (frame_at S h.0 page) (rights_at S h.0 page) own.pair own.is in
      among_listed pairs own.pair frame right own.among
      (some_number own.pair.0 frame (sym parts.frame_is ∙ h.3), ap (λ (r : Rights). includes r right) (sym parts.rights_are) ∙ has)

  -- they have the rights of the page
  pub shown_rights : (frame : ℕ) (right : Right) → ListsRight pairs frame right ↔ HasPair S space page frame right
  shown_rights frame right = (shown_to frame right, shown_from frame right)

-- listed frame by frame, they are the rights of the page
pub listed_is : (ops : List Op) (space : Space) (page : ℕ) → all_formed ops ≡ true → (pairs listed : List Pair) → ArePagePairs (state_of ops) space page pairs
    → AreByFrame pairs listed → listed ≡ page_rights ops space page
listed_is ops space page all pairs listed are by =
    let own = page_rights_are_listed ops space page all in
    one_list listed (page_rights ops space page) by.rising own.0
    (λ frame right. (
      (λ h. (own.1 frame right).1 ((shown_rights (state_of ops) space page pairs are frame right).0 ((by.same frame right).0 h))),
      (λ h. (by.same frame right).1 ((shown_rights (state_of ops) space page pairs are frame right).1 ((own.1 frame right).0 h))),
    ))
