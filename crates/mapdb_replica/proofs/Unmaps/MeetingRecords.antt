-- Records that share no page with a place have nothing to do with it: those that do give all that all give.
use Rattle.std.proofs.Common.{◌≡◌, ℕ, ◌+◌, ◌<◌, Bool, true, false, Some, refl, sym, ap, ◌∙◌, List, [], ◌∷◌, ◌++◌, append_assoc, append-nil, get_or, length, take}
use Rattle.std.specs.Prelude.{◌&&◌, None, Option, filter, is_some, map, if◌then◌else◌}
use Rattle.std.specs.List.{cons_option, filter_map, flat_map}
use Rattle.std.proofs.lemmas.Bool.{false≢true}
use Rattle.std.proofs.lemmas.Grind.{flat_map-append}
use Rattle.std.proofs.lemmas.List.{take_more}
use Rattle.std.proofs.lemmas.List.Elements.{filter_map-append}
use Rattle.mapdb_fpage.specs.Place.{Place, meet, whole}
use Rattle.mapdb_fpage.specs.declared.right_sets.Rights.{Rights}
use Rattle.mapdb_facts.specs.Names.{is_first_space, root, same_id, same_space}
use Rattle.mapdb_facts.specs.State.{State}
use Rattle.mapdb_facts.specs.declared.names.RecordId.{RecordId}
use Rattle.mapdb_facts.specs.declared.names.Space.{Space}
use Rattle.mapdb_facts.specs.declared.operations.Op.{Op}
use Rattle.mapdb_facts.specs.declared.operations.Record.{Record}
use Rattle.mapdb_rights.specs.Meeting.{children_of, holders_of, holds_part, source_place, takes_part}
use Rattle.mapdb_replica.specs.Issue.{first_holders, holder_of, holders, piece_of, piece_with, record_holders, record_piece}
use Rattle.mapdb_replica.specs.Revoking.{cut_within, first_holder}
use Rattle.mapdb_replica.specs.Unmap.{child_cut, child_cut_with, cuts_within, holder_cuts}
use Rattle.mapdb_replica.specs.declared.pieces.Holder.{Holder}
use Rattle.mapdb_replica.specs.declared.pieces.Piece.{Piece}
use Rattle.mapdb_replica.proofs.Maps.Gathering.{list_of, pieces_of}

-- what is given of those that pass is what is given of all, where the others give nothing
module _ {X Y : Type 0} (f g : X → Option Y) (test : X → Bool) (alike : (x : X) → test x ≡ true → f x ≡ g x)
    (none : (x : X) → test x ≡ false → g x ≡ None) where
  given_step : (x : X) (xs : List X) (b : Bool) → test x ≡ b → filter_map f (filter test xs) ≡ filter_map g xs
      → filter_map f (if b then x ∷ filter test xs else filter test xs) ≡ cons_option (g x) (filter_map g xs)
  given_step x xs true is later = ap (λ (o : Option Y). cons_option o (filter_map f (filter test xs))) (alike x is) ∙ ap (cons_option (g x)) later
  given_step x xs false is later = later ∙ sym (ap (λ (o : Option Y). cons_option o (filter_map g xs)) (none x is))

  given_all : (xs : List X) → filter_map f (filter test xs) ≡ filter_map g xs
  given_all [] = refl
  given_all (x ∷ xs) = given_step x xs (test x) refl (given_all xs)

-- what is given of one more
pub given_more : {X Y : Type 0} (f : X → Option Y) (xs : List X) (i : ℕ) (x : X) → i < length xs → x ≡ get_or xs i x
    → filter_map f (take (i + 1) xs) ≡ filter_map f (take i xs) ++ cons_option (f x) []
given_more {X} {Y} f xs i x within is =
    ap (filter_map f) (take_more xs i x within ∙ ap (λ (y : X). take i xs ++ y ∷ []) (sym is)) ∙ filter_map-append f (take i xs) (x ∷ [])

-- what is listed of one more
pub listed_more : {X Y : Type 0} (f : X → List Y) (xs : List X) (i : ℕ) (x : X) → i < length xs → x ≡ get_or xs i x
    → flat_map f (take i xs) ++ f x ≡ flat_map f (take (i + 1) xs)
listed_more {X} {Y} f xs i x within is =
    sym (ap (flat_map f) (take_more xs i x within ∙ ap (λ (y : X). take i xs ++ y ∷ []) (sym is)) ∙ flat_map-append f (take i xs) (x ∷ [])
    ∙ ap (λ (ys : List Y). flat_map f (take i xs) ++ ys) (append-nil (f x)))

-- what is listed of values that others give
pub listed_map : {W X Y : Type 0} (g : W → X) (f : X → List Y) (ws : List W) → flat_map f (map g ws) ≡ flat_map (λ (w : W). f (g w)) ws
listed_map g f [] = refl
listed_map {W} {X} {Y} g f (w ∷ ws) = ap (λ (ys : List Y). f (g w) ++ ys) (listed_map g f ws)

-- pieces

piece_apart : (S : State) (source : Place) (rights : Rights) (id : RecordId) (b : Bool) (o : Option Place) → (b && is_some o) ≡ false
    → (if b then piece_with S rights id o else None) ≡ None
piece_apart S source rights id false o apart = refl
piece_apart S source rights id true None apart = refl
piece_apart S source rights id true (Some part) apart = absurd (false≢true (sym apart))

no_piece : (S : State) (sender : Space) (source : Place) (rights : Rights) (r : Record) → holds_part sender source r ≡ false
    → record_piece S sender source rights r ≡ None
unfolding record_piece piece_of
no_piece S sender source rights r apart = piece_apart S source rights r.id (same_space r.space sender) (meet r.place source) apart

-- the pieces of those that share pages with the source are those of all
pub pieces_held : (S : State) (sender : Space) (source : Place) (rights : Rights) (records : List Record)
    → pieces_of S sender source rights (holders_of records sender source) ≡ pieces_of S sender source rights records
pieces_held S sender source rights records =
    given_all (record_piece S sender source rights) (record_piece S sender source rights) (holds_part sender source) (λ r same. refl)
    (no_piece S sender source rights) records

-- the pieces of the records so far, with that of one more
pub pieces_more : (S : State) (sender : Space) (source : Place) (rights : Rights) (held : List Record) (i : ℕ) (r : Record)
    (o : Option Piece) (first found next : List Piece) → i < length held → r ≡ get_or held i r → o ≡ record_piece S sender source rights r
    → next ≡ found ++ list_of o → found ≡ first ++ pieces_of S sender source rights (take i held)
    → next ≡ first ++ pieces_of S sender source rights (take (i + 1) held)
pieces_more S sender source rights held i r o first found next within is here more so_far =
    more
    ∙ ap (λ (xs : List Piece). xs ++ list_of o) so_far
    ∙ append_assoc first (pieces_of S sender source rights (take i held)) (list_of o)
    ∙ ap (λ (x : Option Piece). first ++ (pieces_of S sender source rights (take i held) ++ list_of x)) here
    ∙ ap (λ (xs : List Piece). first ++ xs) (sym (given_more (record_piece S sender source rights) held i r within is))

-- cuts

child_alike : (id : RecordId) (part : Place) (rights : Rights) (child : Record) (b c : Bool) → (b && c) ≡ true
    → cut_within rights child (Some part) ≡ (if b then child_cut_with rights child (meet (source_place child) part) else None)
child_alike id part rights child true c same = refl
child_alike id part rights child false c same = absurd (false≢true same)

child_apart : (id : RecordId) (part : Place) (rights : Rights) (child : Record) (b : Bool) (o : Option Place) → (b && is_some o) ≡ false
    → (if b then child_cut_with rights child o else None) ≡ None
child_apart id part rights child false o apart = refl
child_apart id part rights child true None apart = refl
child_apart id part rights child true (Some shared) apart = absurd (false≢true (sym apart))

-- what the children lose whose sources share pages with a part, is what all lose by it
pub cuts_taken : (records : List Record) (id : RecordId) (part : Place) (rights : Rights)
    → filter_map (λ (child : Record). cut_within rights child (Some part)) (children_of records id part) ≡ filter_map (child_cut part rights id) records
cuts_taken records id part rights =
    given_all (λ (child : Record). cut_within rights child (Some part)) (child_cut part rights id) (takes_part id part)
    (λ child same. child_alike id part rights child (same_id child.parent id) (is_some (meet (source_place child) part)) same)
    (λ child apart. child_apart id part rights child (same_id child.parent id) (meet (source_place child) part) apart) records

same_holder : (g h : Holder) → Some g ≡ Some h → g ≡ h
same_holder g h e = cc

no_holder : (h : Holder) → None ≡ Some h → ⊥
no_holder h e = cc

-- what is listed of the root, where the space is the first
pub listed_first : (f : Holder → List Op) (space : Space) (h : Holder) → first_holder space ≡ Some h → flat_map f (first_holders space) ≡ f h
listed_first f space h is = by (is_first_space space) is
  where
    by : (b : Bool) → (if b then Some (record { id = root; place = whole }) else None) ≡ Some h → flat_map f (if b then record { id = root; place = whole } ∷ [] else []) ≡ f h
    by true e = append-nil (f (record { id = root; place = whole })) ∙ ap f (same_holder (record { id = root; place = whole }) h e)
    by false e = absurd (no_holder h e)

-- and where it is not
pub none_first : (f : Holder → List Op) (space : Space) → first_holder space ≡ None → flat_map f (first_holders space) ≡ []
none_first f space is = by (is_first_space space) is
  where
    by : (b : Bool) → (let o : Option Holder = if b then Some (record { id = root; place = whole }) else None in o ≡ None) → flat_map f (if b then record { id = root; place = whole } ∷ [] else []) ≡ []
    by true e = absurd (no_holder (record { id = root; place = whole }) (sym e))
    by false e = refl

module _ (records : List Record) (space : Space) (page : Place) (rights : Rights) (flush : Bool) where
  abbrev cuts_of : List Holder → List Op
  cuts_of held = flat_map (holder_cuts records page rights flush) held

  abbrev of_space : List Record → List Record
  of_space rest = filter (λ (r : Record). same_space r.space space) rest

  held_step : (r : Record) (rest : List Record) (b : Bool) (o : Option Place) → meet r.place page ≡ o
      → cuts_of (map holder_of (holders_of rest space page)) ≡ cuts_of (record_holders space rest)
      → cuts_of (map holder_of (if b && is_some o then r ∷ holders_of rest space page else holders_of rest space page))
      ≡ cuts_of (map holder_of (if b then r ∷ of_space rest else of_space rest))
  held_step r rest false o is later = later
  held_step r rest true (Some part) is later = ap (λ (ops : List Op). holder_cuts records page rights flush (holder_of r) ++ ops) later
  held_step r rest true None is later =
      later ∙ sym (ap (λ (x : Option Place). cuts_within records rights flush r.id x ++ cuts_of (record_holders space rest)) is)

  record_cuts : (rest : List Record) → cuts_of (map holder_of (holders_of rest space page)) ≡ cuts_of (record_holders space rest)
  record_cuts [] = refl
  record_cuts (r ∷ rest) = held_step r rest (same_space r.space space) (meet r.place page) refl (record_cuts rest)

  -- the root's cuts, and then those of records that share pages with the fpage, are those of all holders
  pub cuts_held : flat_map (holder_cuts records page rights flush) (first_holders space)
      ++ flat_map (holder_cuts records page rights flush) (map holder_of (holders_of records space page))
      ≡ flat_map (holder_cuts records page rights flush) (holders records space)
  cuts_held =
      ap (λ (ops : List Op). cuts_of (first_holders space) ++ ops) (record_cuts records)
      ∙ sym (flat_map-append (holder_cuts records page rights flush) (first_holders space) (record_holders space records))
