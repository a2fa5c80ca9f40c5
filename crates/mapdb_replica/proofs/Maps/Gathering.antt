-- The pieces of a source, gathered from one record after the other.
use Rattle.std.proofs.Common.{◌≡◌, ℕ, ◌+◌, ◌≤◌, Bool, true, false, Some, refl, sym, subst, ap, ◌∙◌, List, [], ◌∷◌, ◌++◌, length, append_assoc, append-nil, length-append, arith}
use Rattle.std.specs.Prelude.{IfSome, Option, None, filter, map, max, if◌then◌else◌}
use Rattle.std.specs.List.{cons_option, filter_map}
use Rattle.std.proofs.lemmas.List.Elements.{filter_map-append}
use Rattle.mapdb_fpage.specs.Place.{Place, whole}
use Rattle.mapdb_fpage.specs.declared.right_sets.Rights.{Rights}
use Rattle.mapdb_facts.specs.Names.{is_first_space, root, same_space}
use Rattle.mapdb_facts.specs.Records.{greatest_number}
use Rattle.mapdb_facts.specs.State.{State}
use Rattle.mapdb_facts.specs.declared.names.Space.{Space}
use Rattle.mapdb_facts.specs.declared.operations.Record.{Record}
use Rattle.mapdb_replica.specs.Fitting.{AllFitting, IsFitting}
use Rattle.mapdb_replica.specs.Issue.{first_holders, first_piece, holder_of, piece_of, pieces, record_holders, record_piece}
use Rattle.mapdb_replica.specs.declared.pieces.Piece.{Piece}

-- a list of one, or of none
abbrev pub list_of : {X : Type 0} → Option X → List X
list_of o = cons_option o []

module _ (S : State) (sender : Space) (source : Place) (rights : Rights) where
  -- the pieces of records
  abbrev pub pieces_of : List Record → List Piece
  pieces_of records = filter_map (record_piece S sender source rights) records

  held_step : (r : Record) (rest : List Record) (b : Bool) → filter_map (piece_of S source rights) (record_holders sender rest) ≡ pieces_of rest
      → filter_map (piece_of S source rights) (map holder_of (if b then r ∷ filter (λ (s : Record). same_space s.space sender) rest else filter (λ (s : Record). same_space s.space sender) rest))
      ≡ cons_option (if b then piece_of S source rights (holder_of r) else None) (pieces_of rest)
  held_step r rest true again = ap (cons_option (piece_of S source rights (holder_of r))) again
  held_step r rest false again = again

  held_pieces : (records : List Record) → filter_map (piece_of S source rights) (record_holders sender records) ≡ pieces_of records
  unfolding record_piece
  held_pieces [] = refl
  held_pieces (r ∷ rest) = held_step r rest (same_space r.space sender) (held_pieces rest)

  first_step : (b : Bool) → filter_map (piece_of S source rights) (if b then record { id = root; place = whole } ∷ [] else []) ≡ list_of (if b then piece_of S source rights (record { id = root; place = whole }) else None)
  first_step true = refl
  first_step false = refl

  -- the root's, and then the records'
  pub pieces-parts : (records : List Record) → pieces S records sender source rights ≡ list_of (first_piece S sender source rights) ++ pieces_of records
  unfolding pieces first_piece
  pieces-parts records =
      filter_map-append (piece_of S source rights) (first_holders sender) (record_holders sender records)
      ∙ ap (λ (xs : List Piece). xs ++ filter_map (piece_of S source rights) (record_holders sender records)) (first_step (is_first_space sender))
      ∙ ap (λ (ys : List Piece). list_of (first_piece S sender source rights) ++ ys) (held_pieces records)

  -- the count and the list at the start
  list_count : (o : Option Piece) (xs : List Piece) → length (list_of o ++ xs) ≡ length (list_of o) + length xs
  list_count o xs = length-append (list_of o) xs

  pub count-start : (records : List Record) (count : ℕ) → count ≡ length (list_of (first_piece S sender source rights)) → count + length (pieces_of records) ≡ length (pieces S records sender source rights)
  count-start records count e =
      ap (λ n. n + length (pieces_of records)) e
      ∙ sym (ap length (pieces-parts records) ∙ list_count (first_piece S sender source rights) (pieces_of records))

  few_more : (o : Option Piece) (xs : List Piece) → length (cons_option o xs) ≤ length xs + 1
  few_more None xs = omega arith
  few_more (Some p) xs = omega arith

  few_of : (records : List Record) → length (pieces_of records) ≤ length records
  few_of [] = omega arith
  few_of (r ∷ rest) = let later = few_of rest in let more = few_more (record_piece S sender source rights r) (pieces_of rest) in omega arith

  -- each holder has one piece at most
  pub pieces-few : (records : List Record) → length (pieces S records sender source rights) ≤ length records + 1
  pieces-few records =
      let parts : length (pieces S records sender source rights) ≡ length (list_of (first_piece S sender source rights)) + length (pieces_of records) =
      ap length (pieces-parts records) ∙ list_count (first_piece S sender source rights) (pieces_of records) in
      let first = few_more (first_piece S sender source rights) [] in
      let later = few_of records in
      omega arith

  pub found-start : (records : List Record) (found : List Piece) → found ≡ list_of (first_piece S sender source rights) → found ++ pieces_of records ≡ pieces S records sender source rights
  found-start records found e =
      ap (λ (xs : List Piece). xs ++ pieces_of records) e
      ∙ sym (pieces-parts records)

  -- one record more
  pub count-next : (rest later : List Record) (r : Record) (o : Option Piece) (count next total : ℕ) → rest ≡ r ∷ later → record_piece S sender source rights r ≡ o → next ≡ count + length (list_of o) → count + length (pieces_of rest) ≡ total → next + length (pieces_of later) ≡ total
  count-next rest later r o count next total is here e so_far =
      let step : length (pieces_of rest) ≡ length (list_of o) + length (pieces_of later) =
      ap (λ (rs : List Record). length (pieces_of rs)) is ∙ ap (λ (x : Option Piece). length (cons_option x (pieces_of later))) here ∙ cons_length o (pieces_of later) in
      omega arith
    where
      cons_length : (x : Option Piece) (xs : List Piece) → length (cons_option x xs) ≡ length (list_of x) + length xs
      cons_length None xs = omega arith
      cons_length (Some p) xs = omega arith

  pub found-next : (rest later : List Record) (r : Record) (o : Option Piece) (found next total : List Piece) → rest ≡ r ∷ later → record_piece S sender source rights r ≡ o → next ≡ found ++ list_of o → found ++ pieces_of rest ≡ total → next ++ pieces_of later ≡ total
  found-next rest later r o found next total is here e so_far =
      ap (λ (xs : List Piece). xs ++ pieces_of later) e ∙ append_assoc found (list_of o) (pieces_of later)
      ∙ ap (λ (xs : List Piece). found ++ xs) (cons_append o (pieces_of later) ∙ sym (ap (λ (rs : List Record). pieces_of rs) is ∙ ap (λ (x : Option Piece). cons_option x (pieces_of later)) here))
      ∙ so_far
    where
      cons_append : (x : Option Piece) (xs : List Piece) → list_of x ++ xs ≡ cons_option x xs
      cons_append None xs = refl
      cons_append (Some p) xs = refl

-- the pieces found so far fit, and one more
pub fitting-put : (source : Place) (greatest : ℕ) (found : List Piece) (piece : Piece) → AllFitting source greatest found → IsFitting source greatest piece → AllFitting source greatest (found ++ piece ∷ [])
fitting-put source greatest [] piece all one = (one, tt)
fitting-put source greatest (first ∷ rest) piece all one = (all.0, fitting-put source greatest rest piece all.1 one)

-- neither the number of the first of those that are left is above the greatest, nor the later ones'
pub number-next : (greatest : ℕ) (rest later : List Record) (r : Record) → rest ≡ r ∷ later → greatest_number rest ≤ greatest
    → (r.id.number ≤ greatest) × (greatest_number later ≤ greatest)
number-next greatest rest later r is all =
    let head : greatest_number rest ≡ max r.id.number (greatest_number later) = ap greatest_number is in
    (omega (arith, head, all), omega (arith, head, all))

pub list-fitting : (source : Place) (greatest : ℕ) (o : Option Piece) → IfSome o (IsFitting source greatest) → AllFitting source greatest (list_of o)
list-fitting source greatest None h = tt
list-fitting source greatest (Some piece) h = (h, tt)

pub fitting-option : (source : Place) (greatest : ℕ) (found : List Piece) (o : Option Piece) → AllFitting source greatest found → IfSome o (IsFitting source greatest) → AllFitting source greatest (found ++ list_of o)
fitting-option source greatest found None all h = subst (λ (xs : List Piece). AllFitting source greatest xs) (sym (append-nil found)) all
fitting-option source greatest found (Some piece) all h = fitting-put source greatest found piece all h
