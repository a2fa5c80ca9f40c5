-- The records that a Map may issue are that Map of the state.
use Rattle.std.proofs.Common.{◌≡◌, ℕ, ◌+◌, ◌-◌, ◌^◌, ◌<◌, ◌≤◌, Bool, true, false, Some, refl, sym, ap, subst, ◌∙◌, List, [], ◌∷◌, inl, inr, arith}
use Rattle.std.specs.Prelude.{◌||◌, nat_lt, not, Option, None, if◌then◌else◌}
use Rattle.std.specs.List.{filter_map, cons_option}
use Rattle.std.proofs.lemmas.Bool.{and_parts, and_from, cases_Bool, cond-true, false≢true, lt-ltb, ltb-true}
use Rattle.std.proofs.lemmas.Bool.Decides.{nat_tests}
use Rattle.mapdb_fpage.proofs.Aligned.{moved_place}
use Rattle.mapdb_fpage.proofs.Meets.{holds_from, holds_range}
use Rattle.mapdb_fpage.proofs.Parts.{some_page_is_exact}
use Rattle.mapdb_fpage.specs.Place.{IsPlace, IsWithin, Place, holds, meet, moved, page_total, some_page}
use Rattle.mapdb_fpage.specs.RightSets.{common, is_empty}
use Rattle.mapdb_fpage.specs.declared.items.Transfer.{Transfer}
use Rattle.mapdb_fpage.specs.declared.right_sets.Right.{Right}
use Rattle.mapdb_fpage.specs.declared.right_sets.Rights.{Rights}
use Rattle.mapdb_facts.proofs.RecordLemmas.Ascending.{after_at, after_from, ascending_records, before_other, listed_found}
use Rattle.mapdb_facts.proofs.Maps.Atoms.{atom_kept, first_of_cases, record_held, first_of_here}
use Rattle.mapdb_facts.proofs.Lists.SameNames.{none_some, same_id_at, same_id_true}
use Rattle.mapdb_facts.specs.Names.{is_before, is_first_space, is_root, root}
use Rattle.mapdb_facts.specs.Records.{AllAfter, IsAmong, IsAscending, greatest_number, records_of}
use Rattle.mapdb_facts.specs.State.{HasAtom, IsSound, Rec, State, join, state_of}
use Rattle.mapdb_facts.specs.declared.names.RecordId.{RecordId}
use Rattle.mapdb_facts.specs.declared.names.Space.{Space}
use Rattle.mapdb_facts.specs.declared.operations.Op.{Op}
use Rattle.mapdb_facts.specs.declared.operations.Record.{Record}
use Rattle.mapdb_replica.proofs.Maps.HolderNames.{ascending-holders}
use Rattle.mapdb_replica.proofs.Calls.Issuing.{free_greatest, first_of_none}
use Rattle.mapdb_replica.proofs.Pages.PairLaws.{right_in}
use Rattle.mapdb_replica.specs.Issue.{holders, map_candidates, numbered_records, piece_of, piece_with, pieces, mapped_record}
use Rattle.mapdb_replica.specs.declared.pieces.Holder.{Holder}
use Rattle.mapdb_replica.specs.declared.pieces.Piece.{Piece}
use Rattle.mapdb_rights.proofs.Rights.Backed.{lies_in-right}
use Rattle.mapdb_rights.specs.Meeting.{source_place}
use Rattle.mapdb_rights.specs.PageRights.{is_into}
use Rattle.mapdb_rights.specs.Right.{has_right, rights_at}
use Rattle.mapdb_replica.proofs.Maps.HolderLists.{held_holder, holder_held, place_at}
use Rattle.mapdb_replica.proofs.Copies.AtomLists.{among_filter_map, filter_map_among}
use Rattle.mapdb_replica.proofs.Unmaps.SharedPlaces.{number_behind, IsShared, lies_place, moved_holds, place_at-known, place_at-place, share, shared}
use Rattle.mapdb_fpage.proofs.RightLemmas.{common_left, some_of}
use Rattle.mapdb_replica.proofs.Copies.OpForms.{IsFormed, IsKnown}
use Rattle.mapdb_sequential.proofs.Lists.StateSteps.{IsMappedState, IsPiece}

-- the greatest number of a record of a list
abbrev greatest : List Op → ℕ
greatest ops = greatest_number (records_of ops)

fresh_above : (ops : List Op) (id : RecordId) → greatest ops < id.number → (state_of ops).record_at id ≡ None
fresh_above ops id above = free_greatest ops id (omega arith)

held_below : (ops : List Op) (id : RecordId) (r : Record) → (state_of ops).record_at id ≡ Some r → id.number ≤ greatest ops
held_below ops id r held = elim (cases_Bool (nat_lt (greatest ops) id.number)) [
  | inl above ↦ absurd (none_some r (sym (fresh_above ops id (ltb-true (greatest ops) id.number above)) ∙ held))
  | inr below ↦ grind (arith, nat_tests)
]

known_below : (ops : List Op) (id : RecordId) → IsKnown (state_of ops) id → id.number ≤ greatest ops
known_below ops id (inl top) = let zero_is : id.number ≡ 0 = ap (λ (x : RecordId). x.number) (same_id_true id root top) in omega arith
known_below ops id (inr (r, held)) = held_below ops id r held

-- a record that a Map makes
module _ (processor : ℕ) (receiver : Space) (transfer : Transfer) where
  abbrev born : ℕ → Piece → Record
  born number piece = mapped_record (record { number = number; processor = processor }) receiver transfer piece

  abbrev made : ℕ → List Piece → List Op
  made number pieces = numbered_records number processor receiver transfer pieces

  pub record IsBorn (number : ℕ) (pieces : List Piece) (r : Record) (piece : Piece) : Type 0 where
    pub place : ℕ
    pub low : number ≤ place
    pub among : IsAmong piece pieces
    pub is : born place piece ≡ r

  born_of : (number : ℕ) (pieces : List Piece) (r : Record) → HasAtom (made number pieces) (Rec r) → (piece : Piece) × IsBorn number pieces r piece
  born_of number [] r h = absurd h
  born_of number (piece ∷ pieces) r (inl e) = (piece, record { place = number; low = omega arith; among = inl refl; is = e })
  born_of number (piece ∷ pieces) r (inr k) = let found = born_of (number + 1) pieces r k in
      (found.0, record { place = found.1.place; low = omega (arith, found.1.low); among = inr found.1.among; is = found.1.is })

  born_from : (number : ℕ) (pieces : List Piece) (piece : Piece) → IsAmong piece pieces
      → (place : ℕ) × (number ≤ place) × HasAtom (made number pieces) (Rec (born place piece))
  born_from number [] piece k = absurd k
  born_from number (other ∷ pieces) piece (inl e) = (number, omega arith, inl (ap (born number) e))
  born_from number (other ∷ pieces) piece (inr k) = let found =
      born_from (number + 1) pieces piece k in (found.0, omega (arith, found.1), inr found.2)

  abbrev by_parent : Piece → RecordId
  by_parent piece = piece.parent

  -- each parent has one
  one_born : (number : ℕ) (pieces : List Piece) (r s : Record) → IsAscending by_parent pieces → HasAtom (made number pieces) (Rec r)
      → HasAtom (made number pieces) (Rec s) → r.parent ≡ s.parent → r ≡ s
  one_born number [] r s order in_r in_s same = absurd in_r
  one_born number (piece ∷ pieces) r s order (inl e) (inl f) same = sym e ∙ f
  one_born number (piece ∷ pieces) r s order (inl e) (inr k) same = absurd (apart number piece pieces r s order.0 e k same)
    where
      apart : (number : ℕ) (piece : Piece) (pieces : List Piece) (r s : Record) → AllAfter by_parent piece.parent pieces → born number piece ≡ r
          → HasAtom (made (number + 1) pieces) (Rec s) → r.parent ≡ s.parent → ⊥
      apart number piece pieces r s later e k same =
          let found = born_of (number + 1) pieces s k in
          let before : is_before piece.parent found.0.parent ≡ true = after_at by_parent piece.parent pieces found.0 later found.1.among in
          let equal : piece.parent ≡ found.0.parent = ap (λ (x : Record). x.parent) e ∙ same ∙ ap (λ (x : Record). x.parent) (sym found.1.is) in
          false≢true (sym (before_other piece.parent found.0.parent before) ∙ same_id_at piece.parent found.0.parent equal)
  one_born number (piece ∷ pieces) r s order (inr k) (inl e) same = absurd (apart number piece pieces s r order.0 e k (sym same))
    where
      apart : (number : ℕ) (piece : Piece) (pieces : List Piece) (r s : Record) → AllAfter by_parent piece.parent pieces → born number piece ≡ r
          → HasAtom (made (number + 1) pieces) (Rec s) → r.parent ≡ s.parent → ⊥
      apart number piece pieces r s later e k same =
          let found = born_of (number + 1) pieces s k in
          let before : is_before piece.parent found.0.parent ≡ true = after_at by_parent piece.parent pieces found.0 later found.1.among in
          let equal : piece.parent ≡ found.0.parent = ap (λ (x : Record). x.parent) e ∙ same ∙ ap (λ (x : Record). x.parent) (sym found.1.is) in
          false≢true (sym (before_other piece.parent found.0.parent before) ∙ same_id_at piece.parent found.0.parent equal)
  one_born number (piece ∷ pieces) r s order (inr k) (inr l) same = one_born (number + 1) pieces r s order.1 k l same

  -- each number has one
  number_from : (number : ℕ) (pieces : List Piece) (r : Record) → HasAtom (made number pieces) (Rec r) → number ≤ r.id.number
  number_from number pieces r h =
      let found = born_of number pieces r h in
      let same : found.1.place ≡ r.id.number = ap (λ (x : Record). x.id.number) found.1.is in
      omega (arith, found.1.low, same)

  sound_made : (number : ℕ) (pieces : List Piece) → IsSound (made number pieces)
  sound_made number [] r s in_r in_s same = absurd in_r
  sound_made number (piece ∷ pieces) r s (inl e) (inl f) same = sym e ∙ f
  sound_made number (piece ∷ pieces) r s (inl e) (inr k) same =
      let high : number + 1 ≤ s.id.number = number_from (number + 1) pieces s k in
      let low : number ≡ r.id.number = ap (λ (x : Record). x.id.number) e in
      let equal : r.id.number ≡ s.id.number = ap (λ (x : RecordId). x.number) same in
      absurd (omega arith)
  sound_made number (piece ∷ pieces) r s (inr k) (inl e) same =
      let high : number + 1 ≤ r.id.number = number_from (number + 1) pieces r k in
      let low : number ≡ s.id.number = ap (λ (x : Record). x.id.number) e in
      let equal : r.id.number ≡ s.id.number = ap (λ (x : RecordId). x.number) same in
      absurd (omega arith)
  sound_made number (piece ∷ pieces) r s (inr k) (inr l) same = sound_made (number + 1) pieces r s k l same

  no_cuts : (number : ℕ) (pieces : List Piece) (id : RecordId) (page : ℕ) (right : Right)
      → (state_of (made number pieces)).is_cut id page right ≡ false
  no_cuts number [] id page right = refl
  no_cuts number (piece ∷ pieces) id page right = no_cuts (number + 1) pieces id page right

  no_ends : (number : ℕ) (pieces : List Piece) (space : Space) → (state_of (made number pieces)).is_ended space ≡ false
  no_ends number [] space = refl
  no_ends number (piece ∷ pieces) space = no_ends (number + 1) pieces space

-- the pieces of holders
some_piece : (a b : Piece) → Some a ≡ Some b → a ≡ b
some_piece a b e = cc

no_piece : (a : Piece) → None ≡ Some a → ⊥
no_piece a e = cc

pub record IsPieceOf (S : State) (source : Place) (rights : Rights) (holder : Holder) (piece : Piece) : Type 0 where
  pub parent : piece.parent ≡ holder.id
  pub part : meet holder.place source ≡ Some piece.source

piece_if : (b : Bool) (part : Place) (id : RecordId) (piece : Piece) → (if b then Some (record { parent = id; source = part }) else None) ≡ Some piece
    → record { parent = id; source = part } ≡ piece
piece_if true part id piece e = some_piece (record { parent = id; source = part }) piece e
piece_if false part id piece e = absurd (no_piece piece e)

piece_is : (S : State) (source : Place) (rights : Rights) (holder : Holder) (piece : Piece) → piece_of S source rights holder ≡ Some piece
    → IsPieceOf S source rights holder piece
unfolding piece_of
piece_is S source rights holder piece e = by_meet (meet holder.place source) refl e
  where
    by_meet : (o : Option Place) → meet holder.place source ≡ o → piece_with S rights holder.id o ≡ Some piece
        → IsPieceOf S source rights holder piece
    by_meet None found h = absurd (no_piece piece h)
    by_meet (Some part) found h =
        let is = piece_if (some_page part.first_page (page_total part)
        (λ page. not (is_empty (common (rights_at S holder.id page) rights)))) part holder.id piece h in
        record { parent = ap (λ (x : Piece). x.parent) (sym is); part = found ∙ ap (λ (x : Piece). Some x.source) is }

piece_found : (S : State) (source : Place) (rights : Rights) (holder : Holder) (part : Place) → meet holder.place source ≡ Some part
    → some_page part.first_page (page_total part) (λ page. not (is_empty (common (rights_at S holder.id page) rights))) ≡ true
    → piece_of S source rights holder ≡ Some (record { parent = holder.id; source = part })
unfolding piece_of
piece_found S source rights holder part e found =
    ap (piece_with S rights holder.id) e
    ∙ cond-true (some_page part.first_page (page_total part) (λ page. not (is_empty (common (rights_at S holder.id page) rights))))
    (Some (record { parent = holder.id; source = part })) None found

pieces_step : (S : State) (source : Place) (rights : Rights) (holder : Holder) (xs : List Holder) (o : Option Piece)
    → piece_of S source rights holder ≡ o → AllAfter (λ (h : Holder). h.id) holder.id xs
    → IsAscending (λ (x : Piece). x.parent) (filter_map (piece_of S source rights) xs)
    → IsAscending (λ (x : Piece). x.parent) (cons_option o (filter_map (piece_of S source rights) xs))
pieces_step S source rights holder xs None e order rest = rest
pieces_step S source rights holder xs (Some piece) e order rest = (
  after_from (λ (x : Piece). x.parent) piece.parent (filter_map (piece_of S source rights) xs) (λ y k.
      let from = among_filter_map (piece_of S source rights) xs y k in
      let other = piece_is S source rights from.0 y from.2 in
      let this = piece_is S source rights holder piece e in
      subst (λ (a : RecordId). is_before a y.parent ≡ true) (sym this.parent)
      (subst (λ (b : RecordId). is_before holder.id b ≡ true) (sym other.parent) (after_at (λ (h : Holder). h.id) holder.id xs from.0 order from.1))),
  rest,
)

ascending_pieces : (S : State) (source : Place) (rights : Rights) (xs : List Holder) → IsAscending (λ (h : Holder). h.id) xs
    → IsAscending (λ (x : Piece). x.parent) (filter_map (piece_of S source rights) xs)
ascending_pieces S source rights [] order = tt
ascending_pieces S source rights (holder ∷ xs) order = pieces_step S source rights holder xs (piece_of S source rights holder) refl order.0
    (ascending_pieces S source rights xs order.1)

not_root : (number processor : ℕ) → 0 < number → is_root (record { number = number; processor = processor }) ≡ false
not_root number processor h = grind (arith, nat_tests)

or_false : (a b : Bool) → b ≡ false → (a || b) ≡ a
or_false true b e = refl
or_false false b e = e

module _ (ops : List Op) (kept : IsFormed ops) (processor : ℕ) (sender receiver : Space) (source target : Place) (rights : Rights)
    (place_source : IsPlace source) (place_target : IsPlace target) (size : source.order ≡ target.order) where
  abbrev transfer : Transfer
  transfer = record { source = source; target = target; rights = rights }

  abbrev parts : List Piece
  parts = pieces (state_of ops) (records_of ops) sender source rights

  abbrev all : List Op
  all = map_candidates ops processor sender (Some transfer) receiver

  -- what a piece is made of
  record IsMade (piece : Piece) (place : Place) : Type 0 where
    into : is_into (state_of ops) sender piece.parent ≡ true
    at : place_at (state_of ops) piece.parent ≡ Some place
    shares : IsShared place source piece.source

  piece_made : (piece : Piece) → IsAmong piece parts → (place : Place) × IsMade piece place
  unfolding pieces
  piece_made piece k =
      let from = among_filter_map (piece_of (state_of ops) source rights) (holders (records_of ops) sender) piece k in
      let is = piece_is (state_of ops) source rights from.0 piece from.2 in
      let held = holder_held ops sender kept.no_root from.0 from.1 in (
        from.0.place,
        record {
          into = ap (is_into (state_of ops) sender) is.parent ∙ held.0;
          at = ap (place_at (state_of ops)) is.parent ∙ held.1;
          shares = shared from.0.place source piece.source (place_at-place ops from.0.id from.0.place kept held.1) place_source is.part;
        },
      )

  abbrev born_here : ℕ → Piece → Record
  born_here = born processor receiver transfer

  behind_same : (s t part r page : ℕ) → s ≤ part → t + (part - s) ≤ page → part + (page - (t + (part - s))) ≡ s + (page - t)
  behind_same s t part r page low from = omega arith

  born_piece : (number : ℕ) (piece : Piece) → greatest ops < number → IsAmong piece parts
      → IsPiece (state_of ops) sender source receiver target rights (record { number = number; processor = processor }) (born_here number piece)
  born_piece number piece above k =
      let by = piece_made piece k in
      let known = place_at-known (state_of ops) piece.parent by.0 by.1.at in
      let below : piece.parent.number ≤ greatest ops = known_below ops piece.parent known in
      let within = by.1.shares.right in
      record {
        fresh = fresh_above ops (record { number = number; processor = processor }) above;
        below = not_root number processor (omega arith);
        known = known;
        into = refl;
        named = refl;
        from = by.1.into;
        before = lt-ltb piece.parent.number number (omega arith);
        within = λ page h. (and_parts (holds target page) (holds piece.source (number_behind source target page))
            (sym (moved_holds source target piece.source within size page) ∙ h)).0;
        behind = λ page h. behind_same source.first_page target.first_page piece.source.first_page 0 page within.low
            ((holds_range (moved source target piece.source) page h).0);
      }

  born_is : (id : RecordId) (r : Record) → HasAtom all (Rec r) → r.id ≡ id → IsPiece (state_of ops) sender source receiver target rights id r
  born_is id r h same =
      let found = born_of processor receiver transfer (greatest ops + 1) parts r h in
      let piece = born_piece found.1.place found.0 (omega (arith, found.1.low)) found.1.among in
      subst (λ (x : RecordId). IsPiece (state_of ops) sender source receiver target rights x r) same
      (subst (λ (x : Record). IsPiece (state_of ops) sender source receiver target rights x.id x) found.1.is piece)

  new_record : (id : RecordId) (r : Record) → (state_of ops).record_at id ≡ None → (join (state_of ops) (state_of all)).record_at id ≡ Some r
      → HasAtom all (Rec r) × (r.id ≡ id)
  new_record id r fresh h = record_held all id r (sym (first_of_none ((state_of ops).record_at id) ((state_of all).record_at id) fresh) ∙ h)

  ascending : IsAscending (λ (x : Piece). x.parent) parts
  unfolding pieces
  ascending =
      ascending_pieces (state_of ops) source rights (holders (records_of ops) sender)
      (ascending-holders sender (records_of ops) (ascending_records ops) (λ r k. kept.no_root r.id r (listed_found ops r k)))

  inside_moved : (part : Place) (page : ℕ) → IsWithin part source → holds target page ≡ true → holds part (number_behind source target page) ≡ true
      → holds (moved source target part) page ≡ true
  inside_moved part page within in_target in_part =
      moved_holds source target part within size page ∙ and_from (holds target page) (holds part (number_behind source target page)) in_target in_part

  -- a holder with a shared right at a page has a piece with that page
  each_piece : (holder : RecordId) (page : ℕ) → is_into (state_of ops) sender holder ≡ true → holds target page ≡ true
      → is_empty (common (rights_at (state_of ops) holder (number_behind source target page)) rights) ≡ false
      → (piece : Piece) × IsAmong piece parts × (piece.parent ≡ holder) × (holds (moved source target piece.source) page ≡ true)
  unfolding pieces
  each_piece holder page into inside some =
      let right = some_of (common (rights_at (state_of ops) holder (number_behind source target page)) rights) some in
      let has : has_right (state_of ops) holder (number_behind source target page) right.0 ≡ true =
      sym (right_in (state_of ops) (number_behind source target page) holder right.0)
      ∙ common_left (rights_at (state_of ops) holder (number_behind source target page)) rights right.0 right.1 in
      let at = lies_place (state_of ops) holder (number_behind source target page)
      (lies_in-right (state_of ops) holder (number_behind source target page) right.0 has) in
      let range = holds_range target page inside in
      let total : page_total source ≡ page_total target = ap (λ n. 2 ^ (n - 12)) size in
      let in_source : holds source (number_behind source target page) ≡ true =
      holds_from source (number_behind source target page) (omega arith) (omega arith) in
      let both = share at.0 source (place_at-place ops holder at.0 kept at.1) place_source (number_behind source target page) at.2 in_source in
      let piece : Piece = record { parent = holder; source = both.0 } in
      let found : some_page both.0.first_page (page_total both.0) (λ p. not (is_empty (common (rights_at (state_of ops) holder p) rights))) ≡ true
      = (some_page_is_exact both.0 (λ p. not (is_empty (common (rights_at (state_of ops) holder p) rights)))).1
      (number_behind source target page, both.3, ap not some) in
      let is : piece_of (state_of ops) source rights (record { id = holder; place = at.0 }) ≡ Some piece
      = piece_found (state_of ops) source rights (record { id = holder; place = at.0 }) both.0 both.1 found in (
        piece,
        filter_map_among (piece_of (state_of ops) source rights) (holders (records_of ops) sender) (record { id = holder; place = at.0 }) piece
            (held_holder ops sender (record { id = holder; place = at.0 }) into at.1) is,
        refl,
        inside_moved both.0 page both.2.right inside both.3,
      )

  pub is_mapped : (state_of ops).is_ended receiver ≡ false → is_first_space receiver ≡ false
      → IsMappedState (state_of ops) (join (state_of ops) (state_of all)) sender source receiver target rights
  is_mapped alive not_first = record {
    old = λ id r h. first_of_here ((state_of ops).record_at id) ((state_of all).record_at id) r h;
    new = λ id r h. elim (first_of_cases ((state_of ops).record_at id) ((state_of all).record_at id) r h) [
      | inl yet ↦ inl yet
      | inr now ↦ let found = record_held all id r now in inr (born_is id r found.0 found.1)
    ];
    cuts = λ id page right. or_false ((state_of ops).is_cut id page right) ((state_of all).is_cut id page right)
        (no_cuts processor receiver transfer (greatest ops + 1) parts id page right);
    ends = λ space. or_false ((state_of ops).is_ended space) ((state_of all).is_ended space)
        (no_ends processor receiver transfer (greatest ops + 1) parts space);
    alive = alive;
    not_first = not_first;
    one_each = λ a b r s piece_r at_a piece_s at_b same.
        (let in_r = new_record a r piece_r.fresh at_a in
        let in_s = new_record b s piece_s.fresh at_b in
        sym in_r.1 ∙ ap (λ (x : Record). x.id) (one_born processor receiver transfer (greatest ops + 1) parts r s ascending in_r.0 in_s.0 same)
        ∙ in_s.1);
    each = λ holder page into inside some.
        (let piece = each_piece holder page into inside some in
        let found = born_from processor receiver transfer (greatest ops + 1) parts piece.0 piece.1 in
        let r : Record = born_here found.0 piece.0 in
        let is = born_piece found.0 piece.0 (omega (arith, found.1)) piece.1 in (
          r.id,
          r,
          first_of_none ((state_of ops).record_at r.id) ((state_of all).record_at r.id) is.fresh
              ∙ atom_kept all (Rec r) (sound_made processor receiver transfer (greatest ops + 1) parts) found.2,
          is,
          piece.2,
          piece.3,
        ));
  }

  -- the new records have places, and sources that are places
  pub record IsWhole (r : Record) : Type 0 where
    pub place : IsPlace r.place
    pub behind : IsPlace (source_place r)
    pub other : is_root r.id ≡ false
    pub known : IsKnown (state_of ops) r.parent

  pub new_whole : (r : Record) → HasAtom all (Rec r) → IsWhole r
  new_whole r h =
      let found = born_of processor receiver transfer (greatest ops + 1) parts r h in
      let by = piece_made found.0 found.1.among in
      subst IsWhole found.1.is (record {
        place = moved_place source target found.0.source place_source place_target by.1.shares.place by.1.shares.right size;
        behind = by.1.shares.place;
        other = not_root found.1.place processor (omega (arith, found.1.low));
        known = place_at-known (state_of ops) found.0.parent by.0 by.1.at;
      })

pub map_cuts : (ops : List Op) (processor : ℕ) (sender receiver : Space) (transfer : Transfer) (id : RecordId) (page : ℕ) (right : Right)
    → (state_of (map_candidates ops processor sender (Some transfer) receiver)).is_cut id page right ≡ false
map_cuts ops processor sender receiver transfer id page right =
    no_cuts processor receiver transfer (greatest ops + 1) (pieces (state_of ops)
    (records_of ops) sender transfer.source transfer.rights) id page right
