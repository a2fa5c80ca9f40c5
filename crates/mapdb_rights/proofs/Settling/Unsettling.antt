-- Where an operation may change what follows from the parents'.
use Rattle.std.proofs.Common.{◌≡◌, ℕ, Bool, true, false, refl, sym, ap, ◌∙◌, inl, inr}
use Rattle.std.specs.Prelude.{◌⊎◌, ◌&&◌, ◌||◌, not, nat_lt, Option, Some, None, if◌then◌else◌}
use Rattle.std.proofs.lemmas.Bool.{and_left, and_right, cond-true, cond-false, cases_Bool}
use mathlib.Core.Bool.{or-false, or-true}
use Rattle.mapdb_fpage.specs.Bounds.{page_limit}
use Rattle.mapdb_fpage.specs.Place.{holds, is_page}
use Rattle.mapdb_fpage.specs.RightSets.{includes, is_empty}
use Rattle.mapdb_fpage.specs.declared.right_sets.Right.{Right}
use Rattle.mapdb_facts.specs.Names.{is_root, same_id, same_space}
use Rattle.mapdb_facts.specs.State.{State, cuts, first_of, join, said}
use Rattle.mapdb_facts.specs.declared.names.RecordId.{RecordId}
use Rattle.mapdb_facts.specs.declared.names.Space.{Space}
use Rattle.mapdb_facts.specs.declared.operations.Op.TheVariants.{Born, Closed, Cut}
use Rattle.mapdb_facts.specs.declared.operations.Record.{Record}
use Rattle.mapdb_facts.specs.declared.operations.Revocation.{Revocation}
use Rattle.mapdb_lists.specs.Changes.{Cached}
use Rattle.mapdb_rights.specs.Right.{allows, reaches, record_right, right_by, rights_at, source_page}
use Rattle.mapdb_rights.specs.Caching.{AreRights, IsSettled, OperationsUnsettle, Unsettles}
use Rattle.mapdb_rights.proofs.Rights.Settled.{exact_is_settled, tests}
use Rattle.mapdb_facts.proofs.Maps.CutRuns.{empty_none, same_where}
use Rattle.mapdb_facts.proofs.States.Newness.{first_of_none}

-- Two states that agree on a name at a page.
module _ (f : RecordId → ℕ → Right → Bool) (S T : State) (id : RecordId) (page : ℕ) (right : Right) (same_cut : T.is_cut id page right ≡ S.is_cut id page right) where
  abbrev SameRecord : Type 0
  SameRecord = record_right f T id (T.record_at id) page right ≡ record_right f S id (S.record_at id) page right

  by_parts : SameRecord → right_by page_limit f T id page right ≡ right_by page_limit f S id page right
  by_parts same = λ i. if is_root id then is_page page && not (same_cut i) else same i

  ends_alike : (o : Option Record) → ((r : Record) → o ≡ Some r → T.is_ended r.space ≡ S.is_ended r.space) → record_right f T id o page right ≡ record_right f S id o page right
  ends_alike None same = refl
  ends_alike (Some r) same =
      λ i. reaches id r page && (includes r.rights right && not (same_cut i) && not (same r refl i)) && f r.parent (source_page r page) right

  pub by_looks : T.record_at id ≡ S.record_at id → ((r : Record) → S.record_at id ≡ Some r → T.is_ended r.space ≡ S.is_ended r.space)
      → right_by page_limit f T id page right ≡ right_by page_limit f S id page right
  by_looks same_record same_ends =
      by_parts (ap (λ o. record_right f T id o page right) same_record ∙ ends_alike (S.record_at id) same_ends)

-- What follows from the parents' in one state follows in the other.
module _ (S T : State) (cached : Cached) (are : AreRights S cached) (id : RecordId) (page : ℕ) where
  settled_by : ((right : Right) → right_by page_limit (tests cached) T id page right ≡ right_by page_limit (tests cached) S id page right) → IsSettled T cached id page
  settled_by same =
      exact_is_settled S cached are id page
      ∙ same_where (right_by page_limit (tests cached) S id page) (right_by page_limit (tests cached) T id page) (λ right. sym (same right))

-- A record comes.
module _ (S : State) (cached : Cached) (are : AreRights S cached) (r : Record) (id : RecordId) (page : ℕ) where
  abbrev Later : State
  Later = join S (said (Born r))

  born_apart : same_id r.id id ≡ false → IsSettled Later cached id page
  born_apart other =
      settled_by S Later cached are id page (λ right.
      by_looks (tests cached) S Later id page right (or-false (S.is_cut id page right))
      (ap (first_of (S.record_at id)) (cond-false (same_id r.id id) (Some r) None other) ∙ first_of_none (S.record_at id))
      (λ s held. or-false (S.is_ended s.space)))

  born_again : (s : Record) → S.record_at id ≡ Some s → IsSettled Later cached id page
  born_again s held =
      settled_by S Later cached are id page (λ right.
      by_looks (tests cached) S Later id page right (or-false (S.is_cut id page right))
      (ap (λ o. first_of o (if same_id r.id id then Some r else None)) held ∙ sym held)
      (λ t other. or-false (S.is_ended t.space)))

  born_outside : S.record_at id ≡ None → same_id r.id id ≡ true → holds r.place page ≡ false → IsSettled Later cached id page
  born_outside none named out =
      settled_by S Later cached are id page (λ right.
      by_parts (tests cached) S Later id page right (or-false (S.is_cut id page right))
      (ap (λ o. record_right (tests cached) Later id o page right)
      (ap (λ o. first_of o (if same_id r.id id then Some r else None)) none ∙ cond-true (same_id r.id id) (Some r) None named)
      ∙ and_left (reaches id r page && allows Later id r page right) (tests cached r.parent (source_page r page) right)
      (and_left (reaches id r page) (allows Later id r page right) (and_left (holds r.place page) (nat_lt r.parent.number id.number) out))
      ∙ sym (ap (λ o. record_right (tests cached) S id o page right) none)))

  abbrev BornUnsettles : Type 0
  BornUnsettles = IsSettled Later cached id page ⊎ Unsettles S (Born r) id page

  born_new : S.record_at id ≡ None → same_id r.id id ≡ true → BornUnsettles
  born_new none named =
      elim (cases_Bool (holds r.place page)) [
        | inl inside ↦ inr (named, inside)
        | inr out ↦ inl (born_outside none named out)
      ]

  born_named : (o : Option Record) → S.record_at id ≡ o → same_id r.id id ≡ true → BornUnsettles
  born_named None none named = born_new none named
  born_named (Some s) held named = inl (born_again s held)

  pub born_unsettles : BornUnsettles
  born_unsettles =
      elim (cases_Bool (same_id r.id id)) [
        | inl named ↦ born_named (S.record_at id) refl named
        | inr other ↦ inl (born_apart other)
      ]

-- Rights are taken from a part.
module _ (S : State) (cached : Cached) (are : AreRights S cached) (cut : Revocation) (id : RecordId) (page : ℕ) where
  cut_apart : ((right : Right) → cuts cut id page right ≡ false) → IsSettled (join S (said (Cut cut))) cached id page
  cut_apart apart =
      settled_by S (join S (said (Cut cut))) cached are id page (λ right.
      by_looks (tests cached) S (join S (said (Cut cut))) id page right
      (ap (λ (t : Bool). S.is_cut id page right || t) (apart right) ∙ or-false (S.is_cut id page right))
      (first_of_none (S.record_at id)) (λ s held. or-false (S.is_ended s.space)))

  pub cut_unsettles : IsSettled (join S (said (Cut cut))) cached id page ⊎ Unsettles S (Cut cut) id page
  cut_unsettles =
      elim (cases_Bool (same_id cut.target id)) [
        | inr other ↦ inl (cut_apart (λ right. and_left (same_id cut.target id && holds cut.part page) (includes cut.rights right) (and_left (same_id cut.target id) (holds cut.part page) other)))
        | inl named ↦ elim (cases_Bool (holds cut.part page)) [
          | inl inside ↦ inr (named, inside)
          | inr out ↦ inl (cut_apart (λ right. and_left (same_id cut.target id && holds cut.part page) (includes cut.rights right) (and_right (same_id cut.target id) (holds cut.part page) out)))
        ]
      ]

-- A space ends.
module _ (S : State) (cached : Cached) (are : AreRights S cached) (space : Space) (id : RecordId) (page : ℕ) where
  abbrev Ended : State
  Ended = join S (said (Closed space))

  end_apart : ((r : Record) → S.record_at id ≡ Some r → same_space space r.space ≡ false) → IsSettled Ended cached id page
  end_apart apart =
      settled_by S Ended cached are id page (λ right.
      by_looks (tests cached) S Ended id page right (or-false (S.is_cut id page right)) (first_of_none (S.record_at id))
      (λ r held. ap (λ (t : Bool). S.is_ended r.space || t) (apart r held) ∙ or-false (S.is_ended r.space)))

  end_root : is_root id ≡ true → IsSettled Ended cached id page
  end_root top =
      settled_by S Ended cached are id page (λ right.
      cond-true (is_root id) _ _ top ∙ ap (λ (t : Bool). is_page page && not t) (or-false (S.is_cut id page right)) ∙ sym (cond-true (is_root id) _ _ top))

  end_none : (r : Record) → is_root id ≡ false → S.record_at id ≡ Some r → same_space space r.space ≡ true → is_empty (rights_at S id page) ≡ true → IsSettled Ended cached id page
  end_none r other held same none =
      are id page ∙ empty_none (rights_at S id page) none
      ∙ same_where (λ _. false) (right_by page_limit (tests cached) Ended id page) (λ right. sym (
      cond-false (is_root id) _ _ other
      ∙ ap (λ o. record_right (tests cached) Ended id o page right) (first_of_none (S.record_at id) ∙ held)
      ∙ and_left (reaches id r page && allows Ended id r page right) (tests cached r.parent (source_page r page) right)
      (and_right (reaches id r page) (allows Ended id r page right)
      (and_right (includes r.rights right && not (Ended.is_cut id page right)) (not (Ended.is_ended r.space)) (ap not (ap (λ (t : Bool). S.is_ended r.space || t) same ∙ or-true (S.is_ended r.space)))))))

  abbrev EndUnsettles : Type 0
  EndUnsettles = IsSettled Ended cached id page ⊎ Unsettles S (Closed space) id page

  end_of : (r : Record) → S.record_at id ≡ Some r → same_space space r.space ≡ true → is_root id ≡ false → EndUnsettles
  end_of r held same other =
      elim (cases_Bool (is_empty (rights_at S id page))) [
        | inl none ↦ inl (end_none r other held same none)
        | inr some ↦ inr (r, held, same, some)
      ]

  end_held : (r : Record) → S.record_at id ≡ Some r → EndUnsettles
  end_held r held =
      elim (cases_Bool (same_space space r.space)) [
        | inr other ↦ inl (end_apart (λ s again. ap (λ (o : Record). same_space space o.space) (some_same s r (sym again ∙ held)) ∙ other))
        | inl same ↦ elim (cases_Bool (is_root id)) [
          | inl top ↦ inl (end_root top)
          | inr other ↦ end_of r held same other
        ]
      ]
    where
      some_same : (r s : Record) → Some r ≡ Some s → r ≡ s
      some_same r s e = cc

  end_by : (o : Option Record) → S.record_at id ≡ o → EndUnsettles
  end_by None none = inl (end_apart (λ r held. absurd (none_some r (sym none ∙ held))))
    where
      none_some : (r : Record) → None ≡ Some r → ⊥
      none_some r e = cc
  end_by (Some r) held = end_held r held

  pub end_unsettles : EndUnsettles
  end_unsettles = end_by (S.record_at id) refl

pub operations_unsettle : OperationsUnsettle
operations_unsettle S (Born r) cached are id page = born_unsettles S cached are r id page
operations_unsettle S (Cut cut) cached are id page = cut_unsettles S cached are cut id page
operations_unsettle S (Closed space) cached are id page = end_unsettles S cached are space id page
