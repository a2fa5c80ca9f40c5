-- What a record has at a page by what is cached of its parent.
use Rattle.std.proofs.Common.{◌≡◌, ℕ, Bool, true, false, refl, ap, ◌∙◌}
use Rattle.std.specs.Prelude.{◌&&◌, nat_lt, not, Some, None}
use Rattle.std.proofs.lemmas.Bool.{and_left, and_right, cond-true, cond-false}
use Rattle.mapdb_fpage.specs.Bounds.{page_limit}
use Rattle.mapdb_fpage.specs.Place.{holds, is_page}
use Rattle.mapdb_fpage.specs.RightSets.{all_rights, common, includes, no_rights, without}
use Rattle.mapdb_fpage.specs.declared.right_sets.Right.{Right}
use Rattle.mapdb_fpage.specs.declared.right_sets.Right.TheVariants.{Read, Write, Execute}
use Rattle.mapdb_facts.specs.Adding.{cut_at}
use Rattle.mapdb_facts.specs.Names.{is_root}
use Rattle.mapdb_facts.specs.State.{State}
use Rattle.mapdb_facts.specs.declared.names.RecordId.{RecordId}
use Rattle.mapdb_facts.specs.declared.operations.Record.{Record}
use Rattle.mapdb_lists.specs.Changes.{Cached}
use Rattle.mapdb_rights.specs.Right.{allows, reaches, record_right, right_by, source_page}
use Rattle.mapdb_rights.specs.Caching.{rights_from}
use Rattle.mapdb_rights.proofs.Rights.Settled.{tests}
use Rattle.mapdb_facts.proofs.Maps.CutRuns.{same_where}

module _ (cached : Cached) (S : State) (id : RecordId) (page : ℕ) where
  pub from_root : is_root id ≡ true → is_page page ≡ true → rights_from cached S id page ≡ without all_rights (cut_at S id page)
  from_root top inside =
      same_where (right_by page_limit (tests cached) S id page) (λ right. includes all_rights right && not (includes (cut_at S id page) right)) (λ right.
      cond-true (is_root id) _ _ top ∙ ap (λ (t : Bool). t && not (S.is_cut id page right)) inside ∙ each right)
    where
      each : (right : Right) → (true && not (S.is_cut id page right)) ≡ (includes all_rights right && not (includes (cut_at S id page) right))
      each Read = refl
      each Write = refl
      each Execute = refl

  pub from_beyond : is_root id ≡ true → is_page page ≡ false → rights_from cached S id page ≡ no_rights
  from_beyond top out =
      same_where (right_by page_limit (tests cached) S id page) (λ _. false) (λ right.
      cond-true (is_root id) _ _ top ∙ ap (λ (t : Bool). t && not (S.is_cut id page right)) out)

  pub from_none : is_root id ≡ false → S.record_at id ≡ None → rights_from cached S id page ≡ no_rights
  from_none other none =
      same_where (right_by page_limit (tests cached) S id page) (λ _. false) (λ right.
      cond-false (is_root id) _ _ other ∙ ap (λ o. record_right (tests cached) S id o page right) none)

  module _ (r : Record) (other : is_root id ≡ false) (held : S.record_at id ≡ Some r) where
    from_record : (right : Right) → right_by page_limit (tests cached) S id page right ≡ (reaches id r page && allows S id r page right && tests cached r.parent (source_page r page) right)
    from_record right = cond-false (is_root id) _ _ other ∙ ap (λ o. record_right (tests cached) S id o page right) held

    pub from_outside : holds r.place page ≡ false → rights_from cached S id page ≡ no_rights
    from_outside out =
        same_where (right_by page_limit (tests cached) S id page) (λ _. false) (λ right.
        from_record right
        ∙ and_left (reaches id r page && allows S id r page right) (tests cached r.parent (source_page r page) right)
        (and_left (reaches id r page) (allows S id r page right) (and_left (holds r.place page) (nat_lt r.parent.number id.number) out)))

    -- a parent without rights gives none
    pub from_powerless : cached r.parent (source_page r page) ≡ no_rights → rights_from cached S id page ≡ no_rights
    from_powerless none =
        same_where (right_by page_limit (tests cached) S id page) (λ _. false) (λ right.
        from_record right
        ∙ and_right (reaches id r page && allows S id r page right) (tests cached r.parent (source_page r page) right)
        (ap (λ v. includes v right) none ∙ nothing_in right))
      where
        nothing_in : (right : Right) → includes no_rights right ≡ false
        nothing_in Read = refl
        nothing_in Write = refl
        nothing_in Execute = refl

    pub from_ended : S.is_ended r.space ≡ true → rights_from cached S id page ≡ no_rights
    from_ended over =
        same_where (right_by page_limit (tests cached) S id page) (λ _. false) (λ right.
        from_record right
        ∙ and_left (reaches id r page && allows S id r page right) (tests cached r.parent (source_page r page) right)
        (and_right (reaches id r page) (allows S id r page right)
        (and_right (includes r.rights right && not (S.is_cut id page right)) (not (S.is_ended r.space)) (ap not over))))

    pub from_up : reaches id r page ≡ true → S.is_ended r.space ≡ false
        → rights_from cached S id page ≡ without (common r.rights (cached r.parent (source_page r page))) (cut_at S id page)
    from_up reach open_still =
        same_where (right_by page_limit (tests cached) S id page) (λ right. includes (common r.rights (cached r.parent (source_page r page))) right && not (includes (cut_at S id page) right)) (λ right.
        from_record right
        ∙ ap (λ (t : Bool). t && allows S id r page right && tests cached r.parent (source_page r page) right) reach
        ∙ ap (λ (t : Bool). true && (includes r.rights right && not (S.is_cut id page right) && not t) && tests cached r.parent (source_page r page) right) open_still
        ∙ each right)
      where
        regroup : (i k h : Bool) → (true && (i && not k && true) && h) ≡ ((i && h) && not k)
        regroup false k h = refl
        regroup true true true = refl
        regroup true true false = refl
        regroup true false true = refl
        regroup true false false = refl

        each : (right : Right) → (true && (includes r.rights right && not (S.is_cut id page right) && true) && tests cached r.parent (source_page r page) right)
            ≡ (includes (common r.rights (cached r.parent (source_page r page))) right && not (includes (cut_at S id page) right))
        each Read = regroup r.rights.read (S.is_cut id page Read) (tests cached r.parent (source_page r page) Read)
        each Write = regroup r.rights.write (S.is_cut id page Write) (tests cached r.parent (source_page r page) Write)
        each Execute = regroup r.rights.execute (S.is_cut id page Execute) (tests cached r.parent (source_page r page) Execute)
