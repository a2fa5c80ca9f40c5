-- The tree shows the state after a Map.
use Rattle.std.proofs.Common.{◌≡◌, ℕ, zero, suc, ◌<◌, ◌≤◌, Bool, true, false, Some, refl, sym, ap, subst, ◌∙◌, arith, inl, inr, List, [], ◌∷◌}
use Rattle.std.specs.Prelude.{◌&&◌, ◌⊎◌, nat_lt, not, Option, None, if◌then◌else◌}
use Rattle.std.proofs.lemmas.Bool.{and_parts, and_from, and_left, cond-true, cond-false, cases_Bool, false≢true}
use Rattle.std.specs.Option.{option_or}
use Rattle.mapdb_fpage.proofs.Booleans.{and_same}
use Rattle.mapdb_fpage.specs.Place.{Place, holds, is_page}
use Rattle.mapdb_fpage.specs.RightSets.{common, includes, is_empty}
use Rattle.mapdb_fpage.specs.declared.right_sets.Right.{Right}
use Rattle.mapdb_fpage.specs.declared.right_sets.Right.TheVariants.{Execute, Read, Write}
use Rattle.mapdb_fpage.specs.declared.right_sets.Rights.{Rights}
use Rattle.mapdb_facts.proofs.Lists.SameNames.{same_space_itself, same_space_true}
use Rattle.mapdb_facts.specs.Names.{is_first_space, is_root, same_space}
use Rattle.mapdb_facts.specs.State.{State}
use Rattle.mapdb_facts.specs.declared.names.RecordId.{RecordId}
use Rattle.mapdb_facts.specs.declared.names.Space.{Space}
use Rattle.mapdb_facts.specs.declared.operations.Record.{Record}
use Rattle.mapdb_rights.proofs.Rights.Steps.{earlier, has_right-record, has_right-root}
use Rattle.mapdb_rights.proofs.Rights.Walk.{rights_at-outside}
use Rattle.mapdb_rights.specs.PageRights.{is_into, is_record_into, lies_in, lies_in_record}
use Rattle.mapdb_rights.specs.Right.{allows, has_right, reaches, rights_at, source_page}
use Rattle.mapdb_replica.proofs.Unmaps.SharedPlaces.{number_behind}
use Rattle.mapdb_sequential.proofs.Trees.PathTrees.{PathNode, PathTree, is_path_taken, path_after_map, path_brought, path_handed}
use Rattle.mapdb_fpage.proofs.RightLemmas.{empty_from, none_of}
use Rattle.mapdb_sequential.proofs.Trees.Showing.{ComesThrough, IsBare, IsHeldBy, Shows, ShowsAt}
use Rattle.mapdb_replica.proofs.Copies.OpForms.{IsKnown}
use Rattle.mapdb_sequential.proofs.Lists.StateSteps.{IsGrown, IsMappedState, IsPiece}
use Rattle.mapdb_tree.specs.declared.nodes.Page.{Page}
use Rattle.mapdb_facts.proofs.Maps.CutRuns.{same_where}

module _ (S S' : State) (sender : Space) (source : Place) (receiver : Space) (target : Place) (rights : Rights) (grown : IsGrown S)
    (done : IsMappedState S S' sender source receiver target rights) where
  -- what is known keeps its rights
  kept_record : (n : ℕ) (id : RecordId) (r : Record) (page : ℕ) (right : Right) → is_root id ≡ false → S.record_at id ≡ Some r
      → ((q : RecordId) (s : ℕ) → q.number < id.number → IsKnown S q → has_right S' q s right ≡ has_right S q s right)
      → has_right S' id page right ≡ has_right S id page right
  kept_record n id r page right other held before =
      has_right-record S' id r page right other (done.old id r held)
      ∙ (λ i. reaches id r page && (includes r.rights right && not (done.cuts id page right i) && not (done.ends r.space i)) && has_right S' r.parent
      (source_page r page) right)
      ∙ and_same (reaches id r page) (allows S id r page right) (has_right S' r.parent (source_page r page) right)
      (has_right S r.parent (source_page r page) right)
      (λ reach. before r.parent (source_page r page) (earlier id r page reach) (grown.parents id r held))
      ∙ sym (has_right-record S id r page right other held)

  kept_root : (id : RecordId) (page : ℕ) (right : Right) → is_root id ≡ true → has_right S' id page right ≡ has_right S id page right
  kept_root id page right top =
      has_right-root S' id page right top ∙ ap (λ (c : Bool). is_page page && not c) (done.cuts id page right)
      ∙ sym (has_right-root S id page right top)

  kept_known : (n : ℕ) (id : RecordId) (page : ℕ) (right : Right)
      → ((q : RecordId) (s : ℕ) → q.number < id.number → IsKnown S q → has_right S' q s right ≡ has_right S q s right) → IsKnown S id
      → has_right S' id page right ≡ has_right S id page right
  kept_known n id page right before (inl top) = kept_root id page right top
  kept_known n id page right before (inr (r, held)) =
      elim (cases_Bool (is_root id)) [
        | inl top ↦ kept_root id page right top
        | inr other ↦ kept_record n id r page right other held before
      ]

  kept_within : (n : ℕ) (id : RecordId) (page : ℕ) (right : Right) → id.number ≤ n → IsKnown S id
      → has_right S' id page right ≡ has_right S id page right
  kept_within zero id page right below known = kept_known zero id page right (λ q s lt _. absurd (omega arith)) known
  kept_within (suc n) id page right below known = kept_known n id page right (λ q s lt there. kept_within n q s right (omega arith) there) known

  kept_rights_at : (id : RecordId) (page : ℕ) → IsKnown S id → rights_at S' id page ≡ rights_at S id page
  kept_rights_at id page known = same_where (has_right S' id page) (has_right S id page)
      (λ right. kept_within id.number id page right (omega arith) known)

  -- what is known stands where it stood
  same_known : (id : RecordId) → IsKnown S id → is_root id ≡ false → S'.record_at id ≡ S.record_at id
  same_known id (inl top) other = absurd (false≢true (sym other ∙ top))
  same_known id (inr (r, held)) other = done.old id r held ∙ sym held

  same_into_known : (space : Space) (id : RecordId) → IsKnown S id → is_into S' space id ≡ is_into S space id
  same_into_known space id known =
      elim (cases_Bool (is_root id)) [
        | inl top ↦ cond-true (is_root id) (is_first_space space) (is_record_into (S'.record_at id) space) top
            ∙ sym (cond-true (is_root id) (is_first_space space) (is_record_into (S.record_at id) space) top)
        | inr other ↦ ap (λ (o : Option Record). if is_root id then is_first_space space else is_record_into o space) (same_known id known other)
      ]

  same_lies_known : (id : RecordId) (page : ℕ) → IsKnown S id → lies_in S' id page ≡ lies_in S id page
  same_lies_known id page known =
      elim (cases_Bool (is_root id)) [
        | inl top ↦ cond-true (is_root id) (is_page page) (lies_in_record (S'.record_at id) page) top
            ∙ sym (cond-true (is_root id) (is_page page) (lies_in_record (S.record_at id) page) top)
        | inr other ↦ ap (λ (o : Option Record). if is_root id then is_page page else lies_in_record o page) (same_known id known other)
      ]

  through_known : (id : RecordId) (page frame : ℕ) (above : List Page) → ComesThrough S id page frame above → ComesThrough S' id page frame above
  through_known id page frame [] (top, inside, same) = (top, inside, same)
  through_known id page frame (next ∷ spots) (other, r, held, reach, next_page, next_into, next_lies, up) =
      let known : IsKnown S r.parent = grown.parents id r held in (
        other,
        r,
        done.old id r held,
        reach,
        next_page,
        same_into_known next.space r.parent known ∙ next_into,
        same_lies_known r.parent (source_page r page) known ∙ next_lies,
        through_known r.parent (source_page r page) frame spots up,
      )

  known_record : (id : RecordId) (space : Space) (o : Option Record) → S.record_at id ≡ o → is_record_into o space ≡ true → IsKnown S id
  known_record id space None is into = absurd (false≢true into)
  known_record id space (Some r) is into = inr (r, is)

  known_into : (space : Space) (id : RecordId) → is_into S space id ≡ true → IsKnown S id
  known_into space id into =
      elim (cases_Bool (is_root id)) [
        | inl top ↦ inl top
        | inr other ↦ known_record id space (S.record_at id) refl
            (sym (cond-false (is_root id) (is_first_space space) (is_record_into (S.record_at id) space) other) ∙ into)
      ]

  -- a piece has what its parent has of the rights named
  piece_right : (id : RecordId) (r : Record) (page : ℕ) (right : Right) → S'.record_at id ≡ Some r
      → (piece : IsPiece S sender source receiver target rights id r) → holds r.place page ≡ true
      → has_right S' id page right ≡ (has_right S r.parent (number_behind source target page) right && includes rights right)
  piece_right id r page right held piece inside =
      let reach : reaches id r page ≡ true = and_from (holds r.place page) (nat_lt r.parent.number id.number) inside piece.before in
      let uncut : S'.is_cut id page right ≡ false = done.cuts id page right ∙ grown.targets id page right piece.below piece.fresh in
      let alive : S'.is_ended r.space ≡ false = done.ends r.space ∙ ap S.is_ended piece.into ∙ done.alive in
      has_right-record S' id r page right piece.below held
      ∙ (λ i. reach i && (includes (piece.named i) right && not (uncut i) && not (alive i)) && has_right S' r.parent
      (piece.behind page inside i) right)
      ∙ ap (λ (h : Bool). true && (includes rights right && true && true) && h)
      (kept_within r.parent.number r.parent (number_behind source target page) right (omega arith) piece.known)
      ∙ plain (includes rights right) (has_right S r.parent (number_behind source target page) right)
    where
      plain : (a h : Bool) → (true && (a && true && true) && h) ≡ (h && a)
      plain true true = refl
      plain true false = refl
      plain false true = refl
      plain false false = refl

  piece_rights : (id : RecordId) (r : Record) (page : ℕ) → S'.record_at id ≡ Some r → (piece : IsPiece S sender source receiver target rights id r)
      → holds r.place page ≡ true → rights_at S' id page ≡ common (rights_at S r.parent (number_behind source target page)) rights
  piece_rights id r page held piece inside = same_where (has_right S' id page)
      (λ right. includes (rights_at S r.parent (number_behind source target page)) right && includes rights right) each
    where
      each : (right : Right) → has_right S' id page right ≡ (includes (rights_at S r.parent (number_behind source target page)) right
          && includes rights right)
      each Read = piece_right id r page Read held piece inside
      each Write = piece_right id r page Write held piece inside
      each Execute = piece_right id r page Execute held piece inside

  -- a record of the space is one that was there, or a piece
  abbrev Newcomer : Space → RecordId → Type 0
  Newcomer space id = (r : Record) × (S'.record_at id ≡ Some r) × IsPiece S sender source receiver target rights id r × (receiver ≡ space)

  abbrev Who : Space → RecordId → Type 0
  Who space id = (is_into S space id ≡ true) ⊎ Newcomer space id

  who_record : (space : Space) (id : RecordId) (o : Option Record) → S'.record_at id ≡ o → is_root id ≡ false → is_record_into o space ≡ true
      → Who space id
  who_record space id None is other into = absurd (false≢true into)
  who_record space id (Some r) is other into =
      elim (done.new id r is) [
        | inl held ↦ inl (cond-false (is_root id) (is_first_space space) (is_record_into (S.record_at id) space) other
            ∙ ap (λ (o : Option Record). is_record_into o space) held ∙ into)
        | inr piece ↦ inr (r, is, piece, sym piece.into ∙ same_space_true r.space space into)
      ]

  who : (space : Space) (id : RecordId) → is_into S' space id ≡ true → Who space id
  who space id into =
      elim (cases_Bool (is_root id)) [
        | inl top ↦ inl (cond-true (is_root id) (is_first_space space) (is_record_into (S.record_at id) space) top
            ∙ sym (cond-true (is_root id) (is_first_space space) (is_record_into (S'.record_at id) space) top) ∙ into)
        | inr other ↦ who_record space id (S'.record_at id) refl other
            (sym (cond-false (is_root id) (is_first_space space) (is_record_into (S'.record_at id) space) other) ∙ into)
      ]

  -- where no piece has anything, all is as it was
  abbrev NoPieces : Page → Type 0
  NoPieces spot = (id : RecordId) → Newcomer spot.space id → is_empty (rights_at S' id spot.number) ≡ true

  bare_still : (spot : Page) → NoPieces spot → IsBare S spot → IsBare S' spot
  bare_still spot none bare id into =
      elim (who spot.space id into) [
        | inl there ↦ ap is_empty (kept_rights_at id spot.number (known_into spot.space id there)) ∙ bare id there
        | inr newcomer ↦ none id newcomer
      ]

  shows_still : (spot : Page) (o : Option PathNode) → NoPieces spot → ShowsAt S spot o → ShowsAt S' spot o
  shows_still spot None none bare = bare_still spot none bare
  shows_still spot (Some node) none (id, held) =
      let known : IsKnown S id = known_into spot.space id held.into in (
        id,
        record {
          into = same_into_known spot.space id known ∙ held.into;
          through = through_known id spot.number node.frame node.above held.through;
          rights = kept_rights_at id spot.number known ∙ held.rights;
          some = held.some;
          alone = λ other into some. elim (who spot.space other into) [
            | inl there ↦ held.alone other there (sym (ap is_empty (kept_rights_at other spot.number (known_into spot.space other there))) ∙ some)
            | inr newcomer ↦ absurd (false≢true (sym some ∙ none other newcomer))
          ];
        },
      )

  empty_common : (a b : Rights) → is_empty a ≡ true → is_empty (common a b) ≡ true
  empty_common a b h = empty_from (common a b) each
    where
      each : (right : Right) → includes (common a b) right ≡ false
      each Read = and_left a.read b.read (none_of a Read h)
      each Write = and_left a.write b.write (none_of a Write h)
      each Execute = and_left a.execute b.execute (none_of a Execute h)

  some_of_common : (a b : Rights) (t : Bool) → is_empty a ≡ t → is_empty (common a b) ≡ false → is_empty a ≡ false
  some_of_common a b true is some = absurd (false≢true (sym some ∙ empty_common a b is))
  some_of_common a b false is some = is

  -- outside its place a piece has nothing
  piece_outside : (id : RecordId) (r : Record) (page : ℕ) → S'.record_at id ≡ Some r → IsPiece S sender source receiver target rights id r
      → holds r.place page ≡ false → is_empty (rights_at S' id page) ≡ true
  piece_outside id r page held piece out = ap is_empty (rights_at-outside S' id r page piece.below held out)

  piece_empty : (id : RecordId) (r : Record) (page : ℕ) → S'.record_at id ≡ Some r → IsPiece S sender source receiver target rights id r
      → is_empty (common (rights_at S r.parent (number_behind source target page)) rights) ≡ true → is_empty (rights_at S' id page) ≡ true
  piece_empty id r page held piece none =
      elim (cases_Bool (holds r.place page)) [
        | inl inside ↦ ap is_empty (piece_rights id r page held piece inside) ∙ none
        | inr out ↦ piece_outside id r page held piece out
      ]

  through_lies : (id : RecordId) (page frame : ℕ) (above : List Page) → ComesThrough S id page frame above → lies_in S id page ≡ true
  through_lies id page frame [] (top, inside, same) = cond-true (is_root id) (is_page page) (lies_in_record (S.record_at id) page) top ∙ inside
  through_lies id page frame (next ∷ spots) (other, r, held, reach, _, _, _, _) =
      cond-false (is_root id) (is_page page) (lies_in_record (S.record_at id) page) other
      ∙ ap (λ (o : Option Record). lies_in_record o page) held
      ∙ (and_parts (holds r.place page) (nat_lt r.parent.number id.number) reach).0

  -- what a piece has in common with the item, where the sender's page shows a node
  shared_by : (page : ℕ) (node : PathNode) (holder : RecordId)
      → IsHeldBy S (record { space = sender; number = number_behind source target page }) node holder → is_empty (common node.rights rights) ≡ true
      → (parent : RecordId) → is_into S sender parent ≡ true → is_empty (common (rights_at S parent (number_behind source target page)) rights) ≡ true
  shared_by page node holder held none parent into =
      elim (cases_Bool (is_empty (rights_at S parent (number_behind source target page)))) [
        | inl bare ↦ empty_common (rights_at S parent (number_behind source target page)) rights bare
        | inr some ↦
            let same : parent ≡ holder = held.alone parent into some in
            (λ i. is_empty (common (rights_at S (same i) (number_behind source target page)) rights))
            ∙ ap (λ (a : Rights). is_empty (common a rights)) held.rights ∙ none
      ]

  new_held : (spot : Page) (node : PathNode) (holder : RecordId) → receiver ≡ spot.space → holds target spot.number ≡ true
      → IsHeldBy S (record { space = sender; number = number_behind source target spot.number }) node holder
      → is_empty (common node.rights rights) ≡ false → IsBare S spot
      → (id : RecordId) × IsHeldBy S' spot (record {
        frame = node.frame;
        rights = common node.rights rights;
        above =
            record { space = sender; number = number_behind source target spot.number } ∷ node.above;
      }) id
  new_held spot node holder here inside held some bare =
      let behind : ℕ = number_behind source target spot.number in
      let shares : is_empty (common (rights_at S holder behind) rights) ≡ false = ap (λ (a : Rights). is_empty (common a rights)) held.rights
      ∙ some in
      let got = done.each holder spot.number held.into inside shares in
      made got.0 got.1 got.2 got.3 got.4 got.5
    where
      made : (id : RecordId) (r : Record) → S'.record_at id ≡ Some r → IsPiece S sender source receiver target rights id r → r.parent ≡ holder
          → holds r.place spot.number ≡ true → (id : RecordId) × IsHeldBy S' spot
          (record {
            frame = node.frame;
            rights = common node.rights rights;
            above =
                record { space = sender; number = number_behind source target spot.number } ∷ node.above;
          }) id
      made id r is piece parent within = (
        id,
        record {
          into =
              cond-false (is_root id) (is_first_space spot.space) (is_record_into (S'.record_at id) spot.space) piece.below
              ∙ ap (λ (o : Option Record). is_record_into o spot.space) is
              ∙ (λ i. same_space (piece.into i) spot.space)
              ∙ (λ i. same_space (here i) spot.space)
              ∙ same_space_itself spot.space;
          through = (
            piece.below,
            r,
            is,
            and_from (holds r.place spot.number) (nat_lt r.parent.number id.number) within piece.before,
            sym (piece.behind spot.number within),
            same_into_known sender r.parent piece.known ∙ piece.from,
            same_lies_known r.parent (source_page r spot.number) piece.known
                ∙ (λ i. lies_in S (parent i) (piece.behind spot.number within i))
                ∙ through_lies holder (number_behind source target spot.number) node.frame node.above held.through,
            through_known r.parent (source_page r spot.number) node.frame node.above
                (subst (λ (x : RecordId × ℕ). ComesThrough S x.0 x.1 node.frame node.above)
                (λ i. (sym parent i, sym (piece.behind spot.number within) i)) held.through),
          );
          rights =
              piece_rights id r spot.number is piece within
              ∙ (λ i. common (rights_at S (parent i) (number_behind source target spot.number)) rights)
              ∙ ap (λ (a : Rights). common a rights) held.rights;
          some = some;
          alone = λ other into has. elim (who spot.space other into) [
            | inl there ↦ absurd (false≢true (sym has ∙ ap is_empty (kept_rights_at other spot.number (known_into spot.space other there))
                ∙ bare other there))
            | inr newcomer ↦ same_piece other newcomer.0 newcomer.1 newcomer.2 has
          ];
        },
      )
        where
          same_piece : (other : RecordId) (s : Record) → S'.record_at other ≡ Some s → IsPiece S sender source receiver target rights other s
              → is_empty (rights_at S' other spot.number) ≡ false → other ≡ id
          same_piece other s there other_piece has =
              elim (cases_Bool (holds s.place spot.number)) [
                | inl at ↦
                    let common_some : is_empty (common (rights_at S s.parent (number_behind source target spot.number)) rights) ≡ false =
                    sym (ap is_empty (piece_rights other s spot.number there other_piece at)) ∙ has in
                    let parent_some = some_of_common (rights_at S s.parent (number_behind source target spot.number)) rights
                    (is_empty (rights_at S s.parent (number_behind source target spot.number))) refl common_some in
                    done.one_each other id s r other_piece there piece is (held.alone s.parent other_piece.from parent_some ∙ sym parent)
                | inr out ↦ absurd (false≢true (sym has ∙ piece_outside other s spot.number there other_piece out))
              ]

  shows_target : (spot : Page) (from old : Option PathNode) → receiver ≡ spot.space → holds target spot.number ≡ true
      → ShowsAt S (record { space = sender; number = number_behind source target spot.number }) from → ShowsAt S spot old
      → is_path_taken (path_handed from (record { space = sender; number = number_behind source target spot.number }) rights) old ≡ false
      → ShowsAt S' spot (option_or (path_handed from (record { space = sender; number = number_behind source target spot.number }) rights) old)
  shows_target spot None old here inside bare shown free =
      shows_still spot old (λ id (r, is, piece, _). piece_empty id r spot.number is piece
      (empty_common (rights_at S r.parent (number_behind source target spot.number)) rights (bare r.parent piece.from))) shown
  shows_target spot (Some node) old here inside (holder, held) shown free =
      elim (cases_Bool (is_empty (common node.rights rights))) [
        | inl none ↦
            subst (λ (new : Option PathNode). ShowsAt S' spot (option_or new old))
            (sym (cond-true (is_empty (common node.rights rights)) None (Some made) none))
            (shows_still spot old (λ id (r, is, piece, _). piece_empty id r spot.number is piece
            (shared_by spot.number node holder held none r.parent piece.from)) shown)
        | inr some ↦
            subst (λ (new : Option PathNode). ShowsAt S' spot (option_or new old))
            (sym (cond-false (is_empty (common node.rights rights)) None (Some made) some))
            (on_free old shown (sym (ap (λ (new : Option PathNode). is_path_taken new old)
            (cond-false (is_empty (common node.rights rights)) None (Some made) some)) ∙ free) some)
      ]
    where
      made : PathNode
      made = record {
        frame = node.frame;
        rights = common node.rights rights;
        above =
            record { space = sender; number = number_behind source target spot.number } ∷ node.above;
      }

      on_free : (o : Option PathNode) → ShowsAt S spot o → is_path_taken (Some made) o ≡ false → is_empty (common node.rights rights) ≡ false
          → (id : RecordId) × IsHeldBy S' spot made id
      on_free None bare free some = new_held spot node holder here inside held some bare
      on_free (Some taken) shown free some = absurd (false≢true (sym free))

  -- the tree after a Map shows the state after it, where no page that is brought a node has one
  pub shows_after_map : (T : PathTree) → Shows T S → ((spot : Page) → same_space receiver spot.space ≡ true
      → is_path_taken (path_brought T sender source target rights spot.number) (T.node_at spot) ≡ false)
      → Shows (path_after_map T sender source receiver target rights) S'
  shows_after_map T shows free = record {
    nodes = λ spot. elim (cases_Bool (same_space receiver spot.space)) [
      | inl here ↦
          subst (ShowsAt S' spot) (sym (cond-true (same_space receiver spot.space)
          (option_or (path_brought T sender source target rights spot.number) (T.node_at spot)) (T.node_at spot) here))
          (elim (cases_Bool (holds target spot.number)) [
            | inl inside ↦
                let is_handed = cond-true (holds target spot.number)
                (path_handed (T.node_at (record { space = sender; number = number_behind source target spot.number }))
                (record { space = sender; number = number_behind source target spot.number }) rights) None inside in
                subst (λ (new : Option PathNode). ShowsAt S' spot (option_or new (T.node_at spot))) (sym is_handed)
                (shows_target spot (T.node_at (record { space = sender; number = number_behind source target spot.number })) (T.node_at spot)
                (same_space_true receiver spot.space here) inside
                (shows.nodes (record { space = sender; number = number_behind source target spot.number })) (shows.nodes spot)
                (sym (ap (λ (new : Option PathNode). is_path_taken new (T.node_at spot)) is_handed) ∙ free spot here))
            | inr out ↦
                let no_more = cond-false (holds target spot.number)
                (path_handed (T.node_at (record { space = sender; number = number_behind source target spot.number }))
                (record { space = sender; number = number_behind source target spot.number }) rights) None out in
                subst (λ (new : Option PathNode). ShowsAt S' spot (option_or new (T.node_at spot))) (sym no_more)
                (shows_still spot (T.node_at spot) (λ id (r, is, piece, _). outside id r is piece spot.number out) (shows.nodes spot))
          ])
      | inr elsewhere ↦
          subst (ShowsAt S' spot) (sym (cond-false (same_space receiver spot.space)
          (option_or (path_brought T sender source target rights spot.number) (T.node_at spot)) (T.node_at spot) elsewhere))
          (shows_still spot (T.node_at spot) (λ id (r, is, piece, at). absurd
          (false≢true (sym elsewhere ∙ (λ i. same_space (at i) spot.space) ∙ same_space_itself spot.space))) (shows.nodes spot))
    ];
    ends = λ other. shows.ends other ∙ sym (done.ends other);
  }
    where
      outside : (id : RecordId) (r : Record) → S'.record_at id ≡ Some r → IsPiece S sender source receiver target rights id r → (page : ℕ)
          → holds target page ≡ false → is_empty (rights_at S' id page) ≡ true
      outside id r is piece page out = elim (cases_Bool (holds r.place page)) [
        | inl inside ↦ absurd (false≢true (sym out ∙ piece.within page inside))
        | inr beyond ↦ piece_outside id r page is piece beyond
      ]
