-- What a page is served from, found one holder after the other.
use Rattle.std.proofs.Common.{◌≡◌, ℕ, suc, ◌+◌, ◌<◌, Bool, true, false, refl, sym, ap, ◌∙◌, List, [], ◌∷◌, ◌++◌, length, get_or, drop, drop-cons, add-one, arith}
use Rattle.std.specs.Prelude.{◌==◌, None, Option, Some, filter, map, nat_lt, slice_get, if◌then◌else◌}
use Rattle.std.specs.List.{cons_option}
use Rattle.std.proofs.lemmas.Bool.{cond-false, cond-true, eq-eqb, eqb-true, false≢true}
use Rattle.std.proofs.lemmas.Bool.Decides.{nat_tests}
use Rattle.mapdb_fpage.specs.Place.{whole}
use Rattle.mapdb_fpage.specs.RightSets.{no_rights, union}
use Rattle.mapdb_fpage.specs.declared.right_sets.Rights.{Rights}
use Rattle.mapdb_facts.specs.Names.{is_first_space, root, same_space}
use Rattle.mapdb_facts.specs.Records.{behind}
use Rattle.mapdb_facts.specs.State.{State}
use Rattle.mapdb_facts.specs.declared.names.RecordId.{RecordId}
use Rattle.mapdb_facts.specs.declared.names.Space.{Space}
use Rattle.mapdb_facts.specs.declared.operations.Record.{Record}
use Rattle.mapdb_rights.specs.Frame.{frame_at}
use Rattle.mapdb_replica.specs.FirstPairs.{first_from, joined_under, with_later}
use Rattle.mapdb_replica.specs.Issue.{first_holders, holder_of, holders, record_holders}
use Rattle.mapdb_replica.specs.Pairs.{AllAbove, IsRising, Pair, holder_pair, pairs_from, with_pair, with_some}
use Rattle.mapdb_replica.specs.Served.{listed_under, holder_pairs, with_listed}
use Rattle.mapdb_replica.specs.declared.pieces.Holder.{Holder}
use Rattle.mapdb_facts.proofs.RecordLemmas.AllRecords.{behind_none}
use Rattle.mapdb_replica.proofs.Pages.PairLaws.{above-lower, some_rising}

-- a frame that is below all that are listed has no rights
listed_under-above : (frame : ℕ) (pairs : List Pair) → AllAbove frame pairs → listed_under frame pairs ≡ no_rights
listed_under-above frame [] above = refl
listed_under-above frame (pair ∷ rest) above = cond-false (pair.0 == frame) pair.1 (listed_under frame rest) (grind (arith, nat_tests, above.0)) ∙ listed_under-above frame rest above.1

-- frames that are one are told from a frame alike, and two frames are not both one frame
alike : (n m frame : ℕ) (a b : Bool) → (n == m) ≡ true → (n == frame) ≡ a → (m == frame) ≡ b → a ≡ b
alike n m frame a b same is_a is_b = sym is_a ∙ ap (λ k. k == frame) (eqb-true n m same) ∙ is_b

apart : (n m frame : ℕ) → (n == m) ≡ false → (n == frame) ≡ true → (m == frame) ≡ true → ⊥
apart n m frame differ is_n is_m = grind (arith, nat_tests)

-- what is listed under a frame, with a pair more
under_by : (frame : ℕ) (pair other : Pair) (rest : List Pair) (a b d e : Bool) → nat_lt pair.0 other.0 ≡ a → (pair.0 == other.0) ≡ b → (other.0 == frame) ≡ d → (pair.0 == frame) ≡ e
    → AllAbove other.0 rest → listed_under frame (with_pair pair rest) ≡ (if e then union (listed_under frame rest) pair.1 else listed_under frame rest)
    → listed_under frame (if a then pair ∷ other ∷ rest else (if b then (other.0, union other.1 pair.1) ∷ rest else other ∷ with_pair pair rest))
    ≡ (if e then union (if d then other.1 else listed_under frame rest) pair.1 else (if d then other.1 else listed_under frame rest))
under_by frame pair other rest true b d true less same is_d is_e above later =
    cond-true (pair.0 == frame) _ _ is_e
    ∙ sym (ap (λ (r : Rights). union r pair.1) (ap (λ (x : Bool). if x then other.1 else listed_under frame rest) (sym is_d) ∙ listed_under-above frame (other ∷ rest) (higher, above_frame)))
  where
    higher : frame < other.0
    higher = grind (arith, nat_tests)

    above_frame : AllAbove frame rest
    above_frame = above-lower frame other.0 rest higher above
under_by frame pair other rest true b d false less same is_d is_e above later = cond-false (pair.0 == frame) _ _ is_e ∙ ap (λ (x : Bool). if x then other.1 else listed_under frame rest) is_d
under_by frame pair other rest false true true true less same is_d is_e above later = cond-true (other.0 == frame) _ _ is_d
under_by frame pair other rest false true false false less same is_d is_e above later = cond-false (other.0 == frame) _ _ is_d
under_by frame pair other rest false true true false less same is_d is_e above later = absurd (false≢true (alike pair.0 other.0 frame false true same is_e is_d))
under_by frame pair other rest false true false true less same is_d is_e above later = absurd (false≢true (sym (alike pair.0 other.0 frame true false same is_e is_d)))
under_by frame pair other rest false false true true less same is_d is_e above later = absurd (apart pair.0 other.0 frame same is_e is_d)
under_by frame pair other rest false false true false less same is_d is_e above later = cond-true (other.0 == frame) _ _ is_d
under_by frame pair other rest false false false e less same is_d is_e above later = cond-false (other.0 == frame) _ _ is_d ∙ later

listed_under-with : (frame : ℕ) (pair : Pair) (pairs : List Pair) → IsRising pairs → listed_under frame (with_pair pair pairs) ≡ joined_under frame pair (listed_under frame pairs)
listed_under-with frame pair [] rising = refl
listed_under-with frame pair (other ∷ rest) rising =
    under_by frame pair other rest (nat_lt pair.0 other.0) (pair.0 == other.0) (other.0 == frame) (pair.0 == frame) refl refl refl refl rising.1 (listed_under-with frame pair rest rising.2)

-- What is found over holders.
module _ (S : State) (page : ℕ) where
  abbrev some_of : ℕ → Rights → Option Pair
  some_of frame rights = Some (frame, rights)

  -- what is listed under the first frame, with what a later holder has
  later_by : (id : RecordId) (frame : ℕ) (known : List Pair) (o : Option Pair) → IsRising known → with_later (Some (frame, listed_under frame known)) o ≡ Some (frame, listed_under frame (with_some o known))
  later_by id frame known None rising = refl
  later_by id frame known (Some pair) rising = ap (some_of frame) (sym (listed_under-with frame pair known rising))

  found_rest : (hs : List Holder) (frame : ℕ) (known : List Pair) → IsRising known → first_from S page (Some (frame, listed_under frame known)) hs ≡ Some (frame, listed_under frame (pairs_from S page known hs))
  unfolding first_from pairs_from
  found_rest [] frame known rising = refl
  found_rest (x ∷ xs) frame known rising =
      ap (λ (o : Option Pair). first_from S page o xs) (later_by x.id frame known (holder_pair S page x.id) rising)
      ∙ found_rest xs frame (with_some (holder_pair S page x.id) known) (some_rising S page x.id known (frame_at S x.id page) rising)

  found_by : (xs : List Holder) (o : Option Pair) → IsRising (with_some o []) → first_from S page None xs ≡ with_listed (slice_get (holder_pairs S page xs) 0) (pairs_from S page [] xs)
      → first_from S page o xs ≡ with_listed (slice_get (cons_option o (holder_pairs S page xs)) 0) (pairs_from S page (with_some o []) xs)
  found_by xs None rising later = later
  found_by xs (Some pair) rising later =
      ap (λ (r : Rights). first_from S page (some_of pair.0 r) xs) (sym (cond-true (pair.0 == pair.0) pair.1 no_rights (eq-eqb pair.0 pair.0 refl)))
      ∙ found_rest xs pair.0 (pair ∷ []) rising

  -- what is found over all holders is the first one's frame, with the rights that are listed under it
  pub found_all : (hs : List Holder) → first_from S page None hs ≡ with_listed (slice_get (holder_pairs S page hs) 0) (pairs_from S page [] hs)
  unfolding first_from pairs_from
  found_all [] = refl
  found_all (x ∷ xs) = found_by xs (holder_pair S page x.id) (some_rising S page x.id [] (frame_at S x.id page) tt) (found_all xs)

  -- one holder of a list more
  pub held-next : (hs : List Holder) (i : ℕ) (h : Holder) (found next total : Option Pair) → i < length hs → h ≡ get_or hs i h
      → next ≡ with_later found (holder_pair S page h.id) → first_from S page found (drop i hs) ≡ total → first_from S page next (drop (i + 1) hs) ≡ total
  unfolding first_from
  held-next hs i h found next total lt is step so_far =
      let front : drop i hs ≡ h ∷ drop (i + 1) hs = rw add-one (drop-cons hs i h lt ∙ sym (ap (λ (x : Holder). x ∷ drop (suc i) hs) is)) in
      ap (λ (o : Option Pair). first_from S page o (drop (i + 1) hs)) step
      ∙ sym (ap (λ (xs : List Holder). first_from S page found xs) front)
      ∙ so_far

  first_append : (found : Option Pair) (xs ys : List Holder) → first_from S page found (xs ++ ys) ≡ first_from S page (first_from S page found xs) ys
  unfolding first_from
  first_append found [] ys = refl
  first_append found (x ∷ xs) ys = first_append (with_later found (holder_pair S page x.id)) xs ys

-- One record of a space after the other.
module _ (S : State) (page : ℕ) (space : Space) where
  -- the root, where the space is the first
  first_found : (b : Bool) → first_from S page None (if b then record { id = root; place = whole } ∷ [] else []) ≡ (if b then holder_pair S page root else None)
  unfolding first_from
  first_found true = refl
  first_found false = refl

  pub found-start : (records : List Record) (found : Option Pair) → found ≡ (if is_first_space space then holder_pair S page root else None)
      → first_from S page found (record_holders space (behind None records)) ≡ first_from S page None (holders records space)
  found-start records found is =
      ap (λ (rs : List Record). first_from S page found (record_holders space rs)) (behind_none records)
      ∙ ap (λ (o : Option Pair). first_from S page o (record_holders space records)) (is ∙ sym (first_found (is_first_space space)))
      ∙ sym (first_append S page None (first_holders space) (record_holders space records))

  found-step : (r : Record) (later : List Record) (found : Option Pair) (b : Bool) →
      first_from S page found (map holder_of (if b then r ∷ filter (λ (s : Record). same_space s.space space) later else filter (λ (s : Record). same_space s.space space) later))
      ≡ first_from S page (if b then with_later found (holder_pair S page r.id) else found) (record_holders space later)
  unfolding first_from
  found-step r later found true = refl
  found-step r later found false = refl

  pub found-next : (rest later : List Record) (r : Record) (found next total : Option Pair) → rest ≡ r ∷ later → next ≡ (if same_space r.space space then with_later found (holder_pair S page r.id) else found)
      → first_from S page found (record_holders space rest) ≡ total → first_from S page next (record_holders space later) ≡ total
  found-next rest later r found next total is step so_far =
      ap (λ (o : Option Pair). first_from S page o (record_holders space later)) step
      ∙ sym (found-step r later found (same_space r.space space))
      ∙ sym (ap (λ (rs : List Record). first_from S page found (record_holders space rs)) is)
      ∙ so_far
