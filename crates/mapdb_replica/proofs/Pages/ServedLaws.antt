-- What a page is served from is the least record's frame, with all rights of the frame.
use Rattle.std.proofs.Common.{◌≡◌, ℕ, Bool, true, false, Some, refl, sym, ap, subst, ◌∙◌, List, [], ◌∷◌, ◌++◌, inl, inr, arith}
use Rattle.std.specs.Prelude.{◌⊎◌, ◌↔◌, ◌==◌, None, Option, filter, map, slice_get, if◌then◌else◌}
use Rattle.std.specs.List.{cons_option}
use Rattle.std.proofs.lemmas.Bool.{cases_Bool, cond-false, eq-eqb, eqb-true, false≢true}
use Rattle.mapdb_fpage.specs.Place.{whole}
use Rattle.mapdb_fpage.specs.RightSets.{includes, is_empty}
use Rattle.mapdb_fpage.specs.declared.right_sets.Right.{Right}
use Rattle.mapdb_fpage.specs.declared.right_sets.Right.TheVariants.{Execute, Read, Write}
use Rattle.mapdb_fpage.specs.declared.right_sets.Rights.{Rights}
use Rattle.mapdb_facts.proofs.RecordLemmas.Ascending.{after_at, after_from, ascending_records, by_id, listed_found, root_before, before_back, before_same}
use Rattle.mapdb_facts.specs.Names.{is_before, is_first_space, root, same_space}
use Rattle.mapdb_facts.specs.Records.{IsAmong, IsAscending, records_of}
use Rattle.mapdb_facts.specs.State.{State, state_of}
use Rattle.mapdb_facts.specs.WellFormed.{all_formed}
use Rattle.mapdb_facts.specs.declared.names.RecordId.{RecordId}
use Rattle.mapdb_facts.specs.declared.names.Space.{Space}
use Rattle.mapdb_facts.specs.declared.operations.Op.{Op}
use Rattle.mapdb_facts.specs.declared.operations.Record.{Record}
use Rattle.mapdb_rights.proofs.Rights.Backed.{frame_at-right}
use Rattle.mapdb_rights.specs.Frame.{frame_at}
use Rattle.mapdb_rights.specs.PageRights.{pair_with}
use Rattle.mapdb_rights.specs.Right.{rights_at}
use Rattle.mapdb_rights.specs.Served.{IsLeastHolder, IsServed}
use Rattle.mapdb_replica.specs.Issue.{holder_of, holders, record_holders}
use Rattle.mapdb_replica.specs.Pairs.{AllAbove, IsRising, ListsRight, Pair, page_rights, holder_pair}
use Rattle.mapdb_replica.specs.Served.{PageIsServed, listed_under, holder_pairs, served, with_listed}
use Rattle.mapdb_replica.specs.declared.pieces.Holder.{Holder}
use Rattle.mapdb_replica.proofs.Pages.PairLaws.{holder_into, into_from, into_to, not_root, page_rights_are_listed, right_in}
use Rattle.mapdb_fpage.proofs.RightLemmas.{some_of}

-- The rights that are listed under a frame.
above_unlisted : (frame : ℕ) (pairs : List Pair) (right : Right) → AllAbove frame pairs → ListsRight pairs frame right → ⊥
above_unlisted frame [] right above h = h
above_unlisted frame (pair ∷ rest) right above (inl h) = omega (arith, above.0, h.0)
above_unlisted frame (pair ∷ rest) right above (inr h) = above_unlisted frame rest right above.1 h

listed_by : (pair : Pair) (rest : List Pair) (frame : ℕ) (right : Right) (b : Bool) → (pair.0 == frame) ≡ b → AllAbove pair.0 rest
    → ((includes (listed_under frame rest) right ≡ true) ↔ ListsRight rest frame right)
    → (includes (if b then pair.1 else listed_under frame rest) right ≡ true) ↔ ListsRight (pair ∷ rest) frame right
listed_by pair rest frame right true same above later =
    let is : pair.0 ≡ frame = eqb-true pair.0 frame same in (
      λ h. inl (is, h),
      λ lists. elim lists [ inl h ↦ h.1 | inr h ↦ absurd (above_unlisted frame rest right (subst (λ n. AllAbove n rest) is above) h) ],
    )
listed_by pair rest frame right false other above later = (
  λ h. inr (later.0 h),
  λ lists. elim lists [ inl h ↦ absurd (false≢true (sym other ∙ eq-eqb pair.0 frame h.0)) | inr h ↦ later.1 h ],
)

listed_right : (pairs : List Pair) (frame : ℕ) (right : Right) → IsRising pairs → (includes (listed_under frame pairs) right ≡ true) ↔ ListsRight pairs frame right
listed_right [] frame right rising = (λ h. false_right right h, λ h. absurd h)
  where
    false_right : (x : Right) → includes (listed_under frame []) x ≡ true → ⊥
    false_right Read h = false≢true h
    false_right Write h = false≢true h
    false_right Execute h = false≢true h
listed_right (pair ∷ rest) frame right rising = listed_by pair rest frame right (pair.0 == frame) refl rising.1 (listed_right rest frame right rising.2)

abbrev by_holder : Holder → RecordId
by_holder h = h.id

-- the first holder that has anything: each one before it has nothing
record IsFirst (S : State) (page : ℕ) (hs : List Holder) (first : Pair) (h : Holder) : Type 0 where
  among : IsAmong h hs
  has : holder_pair S page h.id ≡ Some first
  earlier : (other : Holder) → IsAmong other hs → (holder_pair S page other.id ≡ None) ⊎ (is_before other.id h.id ≡ false)

module _ (S : State) (page : ℕ) where
  some_frame : (id : RecordId) → is_empty (rights_at S id page) ≡ false → (frame : ℕ) × (frame_at S id page ≡ Some frame)
  some_frame id some = let found = some_of (rights_at S id page) some in frame_at-right S id page found.0 (sym (right_in S page id found.0) ∙ found.1)

  -- nothing is had where there are no rights
  pair_none : (id : RecordId) → holder_pair S page id ≡ None → is_empty (rights_at S id page) ≡ true
  pair_none id none =
      elim (cases_Bool (is_empty (rights_at S id page))) [
        | inl empty ↦ empty
        | inr some ↦
            let frame = some_frame id some in
            absurd (apart (frame.0, rights_at S id page)
            (sym none ∙ ap (λ (o : Option ℕ). pair_with o (rights_at S id page)) frame.1 ∙ cond-false (is_empty (rights_at S id page)) None (Some (frame.0, rights_at S id page)) some))
      ]
    where
      apart : (pair : Pair) → None ≡ Some pair → ⊥
      apart pair e = cc

  pair_some : (id : RecordId) (pair : Pair) → holder_pair S page id ≡ Some pair → (is_empty (rights_at S id page) ≡ false) × (frame_at S id page ≡ Some pair.0)
  pair_some id pair has = by (frame_at S id page) refl has
    where
      same : (a : ℕ) (r : Rights) → Some (a, r) ≡ Some pair → a ≡ pair.0
      same a r e = let p : (a, r) ≡ pair = cc in ap (λ (x : Pair). x.0) p

      by_rights : (frame : ℕ) (b : Bool) → is_empty (rights_at S id page) ≡ b → frame_at S id page ≡ Some frame → (if b then None else Some (frame, rights_at S id page)) ≡ Some pair → (is_empty (rights_at S id page) ≡ false) × (frame_at S id page ≡ Some pair.0)
      by_rights frame true is at e = cc
      by_rights frame false is at e = (is, at ∙ ap Some (same frame (rights_at S id page) e))

      by : (o : Option ℕ) → frame_at S id page ≡ o → pair_with o (rights_at S id page) ≡ Some pair → (is_empty (rights_at S id page) ≡ false) × (frame_at S id page ≡ Some pair.0)
      by None at e = cc
      by (Some frame) at e = by_rights frame (is_empty (rights_at S id page)) refl at e

  -- no holder has anything there
  none_has : (hs : List Holder) → slice_get (holder_pairs S page hs) 0 ≡ None → (h : Holder) → IsAmong h hs → holder_pair S page h.id ≡ None
  none_has [] none h k = absurd k
  none_has (x ∷ xs) none h k = by (holder_pair S page x.id) refl none k (λ first m. none_has xs first h m)
    where
      by : (o : Option Pair) → holder_pair S page x.id ≡ o → slice_get (cons_option o (holder_pairs S page xs)) 0 ≡ None → IsAmong h (x ∷ xs)
          → (slice_get (holder_pairs S page xs) 0 ≡ None → IsAmong h xs → holder_pair S page h.id ≡ None) → holder_pair S page h.id ≡ None
      by (Some pair) is first m later = cc
      by None is first (inl e) later = ap (λ (y : Holder). holder_pair S page y.id) (sym e) ∙ is
      by None is first (inr m) later = later first m

  first_has : (hs : List Holder) (first : Pair) → IsAscending by_holder hs → slice_get (holder_pairs S page hs) 0 ≡ Some first → (h : Holder) × IsFirst S page hs first h
  first_has [] first rising is = cc
  first_has (x ∷ xs) first rising is = by (holder_pair S page x.id) refl is (λ later. first_has xs first rising.1 later)
    where
      by : (o : Option Pair) → holder_pair S page x.id ≡ o → slice_get (cons_option o (holder_pairs S page xs)) 0 ≡ Some first
          → (slice_get (holder_pairs S page xs) 0 ≡ Some first → (h : Holder) × IsFirst S page xs first h) → (h : Holder) × IsFirst S page (x ∷ xs) first h
      by (Some pair) here is_first later = (
        x,
        record {
          among = inl refl;
          has = here ∙ is_first;
          earlier = λ other k. elim k [
            | inl e ↦ inr (subst (λ (y : Holder). is_before y.id x.id ≡ false) e (before_same x.id))
            | inr m ↦ inr (before_back x.id other.id (after_at by_holder x.id xs other rising.0 m))
          ];
        },
      )
      by None here is_first later =
          let found = later is_first in (
            found.0,
            record {
              among = inr found.1.among;
              has = found.1.has;
              earlier = λ other k. elim k [
                | inl e ↦ inl (ap (λ (y : Holder). holder_pair S page y.id) (sym e) ∙ here)
                | inr m ↦ found.1.earlier other m
              ];
            },
          )

-- The holders of a space are in ascending order.
ascending_rest : (space : Space) (records : List Record) → IsAscending by_id records → IsAscending by_holder (record_holders space records)
ascending_rest space [] rising = tt
ascending_rest space (r ∷ rest) rising = by (same_space r.space space) (ascending_rest space rest rising.1)
  where
    after_r : (h : Holder) → IsAmong h (record_holders space rest) → is_before r.id h.id ≡ true
    after_r h k = let found = holder_into space rest h k in subst (λ (id : RecordId). is_before r.id id ≡ true) found.3 (after_at by_id r.id rest found.0 rising.0 found.1)

    by : (b : Bool) → IsAscending by_holder (record_holders space rest)
        → IsAscending by_holder (map holder_of (if b then r ∷ filter (λ (x : Record). same_space x.space space) rest else filter (λ (x : Record). same_space x.space space) rest))
    by true later = (after_from by_holder r.id (record_holders space rest) after_r, later)
    by false later = later

ascending_holders : (ops : List Op) (space : Space) → all_formed ops ≡ true → IsAscending by_holder (holders (records_of ops) space)
ascending_holders ops space all = by (is_first_space space) (ascending_rest space (records_of ops) (ascending_records ops))
  where
    after_root : (h : Holder) → IsAmong h (record_holders space (records_of ops)) → is_before root h.id ≡ true
    after_root h k =
        let found = holder_into space (records_of ops) h k in
        subst (λ (id : RecordId). is_before root id ≡ true) found.3 (root_before found.0.id (not_root ops found.0 all (listed_found ops found.0 found.1)))

    by : (b : Bool) → IsAscending by_holder (record_holders space (records_of ops)) → IsAscending by_holder ((if b then record { id = root; place = whole } ∷ [] else []) ++ record_holders space (records_of ops))
    by true rest = (after_from by_holder root (record_holders space (records_of ops)) after_root, rest)
    by false rest = rest

module _ (ops : List Op) (space : Space) (page : ℕ) (all : all_formed ops ≡ true) where
  abbrev here : List Holder
  here = holders (records_of ops) space

  served_none : slice_get (holder_pairs (state_of ops) page here) 0 ≡ None → IsServed (state_of ops) space page None
  served_none none id into =
      let h = into_from ops space id into in
      subst (λ (x : RecordId). is_empty (rights_at (state_of ops) x page) ≡ true) h.2 (pair_none (state_of ops) page h.0.id (none_has (state_of ops) page here none h.0 h.1))

  least_first : (first : Pair) (h : Holder) → IsFirst (state_of ops) page here first h → IsLeastHolder (state_of ops) space page h.id
  least_first first h is = record {
    into = into_to ops space h all is.among;
    has_some = (pair_some (state_of ops) page h.id first is.has).0;
    least = λ other into some.
        let k = into_from ops space other into in
        elim (is.earlier k.0 k.1) [
          | inl none ↦ absurd (false≢true (sym some ∙ subst (λ (x : RecordId). is_empty (rights_at (state_of ops) x page) ≡ true) k.2 (pair_none (state_of ops) page k.0.id none)))
          | inr late ↦ subst (λ (x : RecordId). is_before x h.id ≡ false) k.2 late
        ];
  }

  served_some : (first : Pair) → slice_get (holder_pairs (state_of ops) page here) 0 ≡ Some first → IsServed (state_of ops) space page (with_listed (Some first) (page_rights ops space page))
  served_some first is =
      let found = first_has (state_of ops) page here first (ascending_holders ops space all) is in
      let listed = page_rights_are_listed ops space page all in (
        found.0.id,
        least_first first found.0 found.1,
        (pair_some (state_of ops) page found.0.id first found.1.has).1,
        λ right. (
          λ h. (listed.1 first.0 right).0 ((listed_right (page_rights ops space page) first.0 right listed.0).0 h),
          λ pair. (listed_right (page_rights ops space page) first.0 right listed.0).1 ((listed.1 first.0 right).1 pair),
        ),
      )

  served_by : (o : Option Pair) → slice_get (holder_pairs (state_of ops) page here) 0 ≡ o → IsServed (state_of ops) space page (with_listed o (page_rights ops space page))
  served_by None none = served_none none
  served_by (Some first) is = served_some first is

pub page_is_served : PageIsServed
unfolding served
page_is_served ops space page all = served_by ops space page all (slice_get (holder_pairs (state_of ops) page (holders (records_of ops) space)) 0) refl
