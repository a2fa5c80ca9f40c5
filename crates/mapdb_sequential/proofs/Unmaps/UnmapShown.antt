-- The tree shows the state after an Unmap.
use Rattle.std.proofs.Common.{◌≡◌, ℕ, zero, suc, ◌<◌, ◌≤◌, Bool, true, false, Some, refl, sym, ap, subst, ◌∙◌, arith, inl, inr, List, [], ◌∷◌}
use Rattle.std.specs.Prelude.{◌&&◌, not, Option, None, if◌then◌else◌}
use Rattle.std.proofs.lemmas.Bool.{and_parts, and_from, cond-true, cond-false, cases_Bool, false≢true}
use mathlib.Core.Bool.{and-false, and-true}
use Rattle.mapdb_fpage.specs.Place.{Place, is_page}
use Rattle.mapdb_fpage.specs.RightSets.{includes, is_empty, without}
use Rattle.mapdb_fpage.specs.declared.right_sets.Right.{Right}
use Rattle.mapdb_fpage.specs.declared.right_sets.Right.TheVariants.{Execute, Read, Write}
use Rattle.mapdb_fpage.specs.declared.right_sets.Rights.{Rights}
use Rattle.mapdb_facts.specs.Names.{is_first_space, is_root}
use Rattle.mapdb_facts.specs.State.{State}
use Rattle.mapdb_facts.specs.declared.names.RecordId.{RecordId}
use Rattle.mapdb_facts.specs.declared.names.Space.{Space}
use Rattle.mapdb_facts.specs.declared.operations.Record.{Record}
use Rattle.mapdb_rights.proofs.Rights.Backed.{backing}
use Rattle.mapdb_rights.proofs.Rights.Steps.{earlier, has_right-record, has_right-root}
use Rattle.mapdb_rights.specs.PageRights.{is_into, is_record_into, lies_in, lies_in_record}
use Rattle.mapdb_rights.specs.Right.{allows, has_right, reaches, rights_at, source_page}
use Rattle.mapdb_sequential.proofs.Trees.PathTrees.{PathNode, PathTree, is_path_reached, path_after_unmap, path_unmapped, path_with}
use Rattle.mapdb_fpage.proofs.RightLemmas.{empty_from, none_of}
use Rattle.mapdb_sequential.proofs.Trees.Showing.{ComesThrough, IsBare, IsHeldBy, Shows, ShowsAt}
use Rattle.mapdb_sequential.proofs.Lists.StateSteps.{IsTaken, IsUnmappedState}
use Rattle.mapdb_sequential.proofs.Unmaps.Unmapping.{has_right-unmapped}
use Rattle.mapdb_tree.specs.declared.nodes.Page.{Page}
use Rattle.mapdb_facts.proofs.Maps.CutRuns.{same_where}

not_kept : (c d : Bool) → (c ≡ true → d ≡ true) → not d ≡ true → not c ≡ true
not_kept false d keeps h = refl
not_kept true true keeps h = h
not_kept true false keeps h = absurd (false≢true (keeps refl))

false_kept : (a b : Bool) → (b ≡ true → a ≡ true) → a ≡ false → b ≡ false
false_kept a false keeps h = refl
false_kept a true keeps h = sym (keeps refl) ∙ h

module _ (S S' : State) (space : Space) (part : Place) (rights : Rights) (flush : Bool) (done : IsUnmappedState S S' space part rights flush) where
  less_root : (id : RecordId) (page : ℕ) (right : Right) → is_root id ≡ true → has_right S' id page right ≡ true → has_right S id page right ≡ true
  less_root id page right top h =
      let both = and_parts (is_page page) (not (S'.is_cut id page right)) (sym (has_right-root S' id page right top) ∙ h) in
      has_right-root S id page right top
      ∙ and_from (is_page page) (not (S.is_cut id page right)) both.0
      (not_kept (S.is_cut id page right) (S'.is_cut id page right) (done.kept id page right) both.1)

  less_record : (n : ℕ) (id : RecordId) (page : ℕ) (right : Right)
      → ((q : RecordId) (s : ℕ) → q.number < id.number → has_right S' q s right ≡ true → has_right S q s right ≡ true) → is_root id ≡ false
      → has_right S' id page right ≡ true → has_right S id page right ≡ true
  less_record n id page right before other h =
      let b = backing S' id page right other h in
      let parts = and_parts (includes b.r.rights right && not (S'.is_cut id page right)) (not (S'.is_ended b.r.space)) b.allowed in
      let front = and_parts (includes b.r.rights right) (not (S'.is_cut id page right)) parts.0 in
      let allowed : allows S id b.r page right ≡ true =
      and_from (includes b.r.rights right && not (S.is_cut id page right)) (not (S.is_ended b.r.space))
      (and_from (includes b.r.rights right) (not (S.is_cut id page right)) front.0
      (not_kept (S.is_cut id page right) (S'.is_cut id page right) (done.kept id page right) front.1))
      (ap not (sym (done.ends b.r.space)) ∙ parts.1) in
      has_right-record S id b.r page right other (sym (done.records id) ∙ b.held)
      ∙ and_from (reaches id b.r page && allows S id b.r page right) (has_right S b.r.parent (source_page b.r page) right)
      (and_from (reaches id b.r page) (allows S id b.r page right) b.reach allowed)
      (before b.r.parent (source_page b.r page) (earlier id b.r page b.reach) b.parent_has)

  less_within : (n : ℕ) (id : RecordId) (page : ℕ) (right : Right) → id.number ≤ n → has_right S' id page right ≡ true
      → has_right S id page right ≡ true
  less_within zero id page right below h = elim (cases_Bool (is_root id)) [
    | inl top ↦ less_root id page right top h
    | inr other ↦ less_record zero id page right (λ q s lt _. absurd (omega arith)) other h
  ]
  less_within (suc n) id page right below h = elim (cases_Bool (is_root id)) [
    | inl top ↦ less_root id page right top h
    | inr other ↦ less_record n id page right (λ q s lt had. less_within n q s right (omega arith) had) other h
  ]

  -- nobody gains by an Unmap
  less : (id : RecordId) (page : ℕ) (right : Right) → has_right S' id page right ≡ true → has_right S id page right ≡ true
  less id page right h = less_within id.number id page right (omega arith) h

module _ (S S' : State) (space : Space) (part : Place) (rights : Rights) (flush : Bool) (done : IsTaken S S' space part rights flush) where
  still_empty : (id : RecordId) (page : ℕ) → is_empty (rights_at S id page) ≡ true → is_empty (rights_at S' id page) ≡ true
  still_empty id page h =
      empty_from (rights_at S' id page) (λ right. each right)
    where
      had : (right : Right) → has_right S id page right ≡ false
      had Read = none_of (rights_at S id page) Read h
      had Write = none_of (rights_at S id page) Write h
      had Execute = none_of (rights_at S id page) Execute h

      has : (right : Right) → has_right S' id page right ≡ false
      has right = false_kept (has_right S id page right) (has_right S' id page right) (done.less id page right) (had right)

      each : (right : Right) → includes (rights_at S' id page) right ≡ false
      each Read = has Read
      each Write = has Write
      each Execute = has Execute

  same_into_after : (other : Space) (id : RecordId) → is_into S' other id ≡ is_into S other id
  same_into_after other id = ap (λ (o : Option Record). if is_root id then is_first_space other else is_record_into o other) (done.records id)

  same_lies : (id : RecordId) (page : ℕ) → lies_in S' id page ≡ lies_in S id page
  same_lies id page = ap (λ (o : Option Record). if is_root id then is_page page else lies_in_record o page) (done.records id)

  -- pages come through the same pages
  through_after : (id : RecordId) (page frame : ℕ) (above : List Page) → ComesThrough S id page frame above → ComesThrough S' id page frame above
  through_after id page frame [] (top, inside, same) = (top, inside, same)
  through_after id page frame (next ∷ spots) (other, r, held, reach, next_page, next_into, next_lies, up) = (
    other,
    r,
    done.records id ∙ held,
    reach,
    next_page,
    same_into_after next.space r.parent ∙ next_into,
    same_lies r.parent (source_page r page) ∙ next_lies,
    through_after r.parent (source_page r page) frame spots up,
  )

  taken_rights : (node : PathNode) (spot : Page) (id : RecordId) → IsHeldBy S spot node id → is_path_reached space part flush spot node ≡ true
      → rights_at S' id spot.number ≡ without node.rights rights
  taken_rights node spot id held reached = same_where (has_right S' id spot.number)
      (λ right. includes node.rights right && not (includes rights right)) each
    where
      after : (right : Right) → has_right S' id spot.number right ≡ (has_right S id spot.number right && not (includes rights right && true))
      after right =
          done.without_hits id spot.number node.frame node.above spot right held.through held.into refl
          ∙ ap (λ (t : Bool). has_right S id spot.number right && not (includes rights right && t)) reached

      step : (right : Right) → has_right S id spot.number right ≡ includes node.rights right
          → has_right S' id spot.number right ≡ (includes node.rights right && not (includes rights right))
      step right had = after right ∙ (λ i. had i && not (and-true (includes rights right) i))

      each : (right : Right) → has_right S' id spot.number right ≡ (includes node.rights right && not (includes rights right))
      each Read = step Read (ap (λ (a : Rights). a.read) held.rights)
      each Write = step Write (ap (λ (a : Rights). a.write) held.rights)
      each Execute = step Execute (ap (λ (a : Rights). a.execute) held.rights)

  kept_rights : (node : PathNode) (spot : Page) (id : RecordId) → IsHeldBy S spot node id → is_path_reached space part flush spot node ≡ false
      → rights_at S' id spot.number ≡ node.rights
  kept_rights node spot id held missed = same_where (has_right S' id spot.number) (has_right S id spot.number) each ∙ held.rights
    where
      each : (right : Right) → has_right S' id spot.number right ≡ has_right S id spot.number right
      each right =
          done.without_hits id spot.number node.frame node.above spot right held.through held.into refl
          ∙ ap (λ (t : Bool). has_right S id spot.number right && not (includes rights right && t)) missed
          ∙ ap (λ (t : Bool). has_right S id spot.number right && not t) (and-false (includes rights right))
          ∙ and-true (has_right S id spot.number right)

  -- who else has nothing has nothing after
  alone_after : (node : PathNode) (spot : Page) (id : RecordId) → IsHeldBy S spot node id → (other : RecordId) → is_into S' spot.space other ≡ true
      → is_empty (rights_at S' other spot.number) ≡ false → other ≡ id
  alone_after node spot id held other into some =
      held.alone other (sym (same_into_after spot.space other) ∙ into)
      (false_kept (is_empty (rights_at S' other spot.number)) (is_empty (rights_at S other spot.number)) (still_empty other spot.number) some)

  held_after : (node : PathNode) (spot : Page) (id : RecordId) (now : Rights) → IsHeldBy S spot node id → rights_at S' id spot.number ≡ now
      → is_empty now ≡ false → IsHeldBy S' spot (record node { rights = now }) id
  held_after node spot id now held same some = record {
    into = same_into_after spot.space id ∙ held.into;
    through = through_after id spot.number node.frame node.above held.through;
    rights = same;
    some = some;
    alone = alone_after node spot id held;
  }

  bare_after : (node : PathNode) (spot : Page) (id : RecordId) → IsHeldBy S spot node id → is_empty (rights_at S' id spot.number) ≡ true
      → IsBare S' spot
  bare_after node spot id held gone other into =
      elim (cases_Bool (is_empty (rights_at S' other spot.number))) [
        | inl none ↦ none
        | inr some ↦
            let same : other ≡ id = alone_after node spot id held other into some in
            subst (λ (x : RecordId). is_empty (rights_at S' x spot.number) ≡ true) (sym same) gone
      ]

  with_rights : (node : PathNode) (spot : Page) (id : RecordId) (now : Rights) → IsHeldBy S spot node id → rights_at S' id spot.number ≡ now
      → ShowsAt S' spot (path_with node now)
  with_rights node spot id now held same =
      elim (cases_Bool (is_empty now)) [
        | inl gone ↦
            subst (ShowsAt S' spot) (sym (cond-true (is_empty now) None (Some (record node { rights = now })) gone))
            (bare_after node spot id held (ap is_empty same ∙ gone))
        | inr some ↦
            subst (ShowsAt S' spot) (sym (cond-false (is_empty now) None (Some (record node { rights = now })) some))
            (id, held_after node spot id now held same some)
      ]

  shows_at_after : (spot : Page) (o : Option PathNode) → ShowsAt S spot o → ShowsAt S' spot (path_unmapped space part rights flush spot o)
  shows_at_after spot None bare = λ id into. still_empty id spot.number (bare id (sym (same_into_after spot.space id) ∙ into))
  shows_at_after spot (Some node) (id, held) =
      elim (cases_Bool (is_path_reached space part flush spot node)) [
        | inl reached ↦
            subst (ShowsAt S' spot) (sym (cond-true (is_path_reached space part flush spot node) (path_with node (without node.rights rights))
            (Some node) reached))
            (with_rights node spot id (without node.rights rights) held (taken_rights node spot id held reached))
        | inr missed ↦
            subst (ShowsAt S' spot) (sym (cond-false (is_path_reached space part flush spot node) (path_with node (without node.rights rights))
            (Some node) missed))
            (id, held_after node spot id node.rights held (kept_rights node spot id held missed) held.some)
      ]

  -- the nodes after an Unmap show the state after it
  pub nodes_after : (T : PathTree) → Shows T S → (spot : Page) → ShowsAt S' spot (path_unmapped space part rights flush spot (T.node_at spot))
  nodes_after T shows spot = shows_at_after spot (T.node_at spot) (shows.nodes spot)

unmap_takes : (S S' : State) (space : Space) (part : Place) (rights : Rights) (flush : Bool) → IsUnmappedState S S' space part rights flush
    → IsTaken S S' space part rights flush
unmap_takes S S' space part rights flush done = record {
  records = done.records;
  less = less S S' space part rights flush done;
  without_hits = has_right-unmapped S S' space part rights flush done;
}

-- the tree after an Unmap shows the state after it
pub shows_after_unmap : (S S' : State) (space : Space) (part : Place) (rights : Rights) (flush : Bool) → IsUnmappedState S S' space part rights flush
    → (T : PathTree) → Shows T S → Shows (path_after_unmap T space part rights flush) S'
shows_after_unmap S S' space part rights flush done T shows = record {
  nodes = nodes_after S S' space part rights flush (unmap_takes S S' space part rights flush done) T shows;
  ends = λ other. shows.ends other ∙ sym (done.ends other);
}
