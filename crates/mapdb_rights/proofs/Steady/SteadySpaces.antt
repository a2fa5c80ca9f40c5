-- One record after the other: how far all records of a space go on.
use Rattle.std.proofs.Common.{◌≡◌, ℕ, ◌+◌, ◌<◌, ◌≤◌, true, List, [], ◌∷◌, sym, subst, ◌∙◌, inl, inr, arith}
use Rattle.std.specs.Prelude.{◌⊎◌, Some}
use Rattle.std.proofs.lemmas.Bool.{cases_Bool, cond-true}
use Rattle.mapdb_facts.proofs.Lists.SameNames.{same_id_true}
use Rattle.mapdb_facts.specs.Looking.{Holds}
use Rattle.mapdb_facts.specs.Merging.{IsNamed}
use Rattle.mapdb_facts.specs.Names.{is_first_space, is_root, root, same_space}
use Rattle.mapdb_facts.specs.Records.{IsAmong}
use Rattle.mapdb_facts.specs.State.{State}
use Rattle.mapdb_facts.specs.declared.names.RecordId.{RecordId}
use Rattle.mapdb_facts.specs.declared.names.Space.{Space}
use Rattle.mapdb_facts.specs.declared.operations.Record.{Record}
use Rattle.mapdb_rights.specs.Live.{ShowUntil, ShowsOn}
use Rattle.mapdb_rights.specs.PageRights.{is_record_into}
use Rattle.mapdb_rights.specs.Steady.{IsSteady}
use Rattle.mapdb_rights.proofs.Live.LiveRecords.{into_held}

module _ (S : State) (space : Space) (page : ℕ) where
  -- the root goes on up to the end, and so does each record that is not left
  pub record Passed (rest : List Record) (end : ℕ) : Type 0 where
    pub first : is_first_space space ≡ true → IsSteady S root page end
    pub held : (r : Record) → Holds S r → same_space r.space space ≡ true → IsAmong r rest ⊎ IsSteady S r.id page end

  sooner : (id : RecordId) (end least : ℕ) → least ≤ end → IsSteady S id page end → IsSteady S id page least
  sooner id end least less steady count inside = steady count (omega arith)

  -- one record more
  pub passed_next : (rest later : List Record) (r : Record) (end until least : ℕ) → rest ≡ r ∷ later → least ≤ end → least ≤ until
      → (same_space r.space space ≡ true → IsSteady S r.id page until) → Passed rest end → Passed later least
  passed_next rest later r end until least next a b here passed = record {
    first = λ top. sooner root end least a (passed.first top);
    held = λ s held in_space. elim (passed.held s held in_space) [
      | inr steady ↦ inr (sooner s.id end least a steady)
      | inl among ↦ left s in_space (subst (λ (rs : List Record). IsAmong s rs) next among)
    ];
  }
    where
      left : (s : Record) → same_space s.space space ≡ true → IsAmong s (r ∷ later) → IsAmong s later ⊎ IsSteady S s.id page least
      left s in_space (inr k) = inl k
      left s in_space (inl e) =
          inr (subst (λ (x : Record). IsSteady S x.id page least) e
          (sooner r.id until least b (here (subst (λ (x : Record). same_space x.space space ≡ true) (sym e) in_space))))

  steady_shows : (id : RecordId) (end : ℕ) → IsSteady S id page end → (count : ℕ) → page + count < end → ShowsOn S id page count
  steady_shows id end steady count inside =
      let on = steady count inside in record { rights = on.rights; frame = λ some. on.frame }

  -- once none are left, all were passed
  pub passed_all : (rest : List Record) (end : ℕ) → IsNamed S → rest ≡ [] → Passed rest end → ShowUntil S space page end
  passed_all rest end named none passed id into = elim (cases_Bool (is_root id)) [
    | inl top ↦
        let e : id ≡ root = same_id_true id root top in
        steady_shows id end (subst (λ (i : RecordId). IsSteady S i page end) (sym e)
        (passed.first (sym (cond-true (is_root id) (is_first_space space) (is_record_into (S.record_at id) space) top) ∙ into)))
    | inr other ↦ steady_shows id end (of_held (into_held S space id other into))
  ]
    where
      of_held : ((s : Record) × (S.record_at id ≡ Some s) × (same_space s.space space ≡ true)) → IsSteady S id page end
      of_held (s, at, in_space) =
          let own : s.id ≡ id = named id s at in
          let held : Holds S s = subst (λ (i : RecordId). S.record_at i ≡ Some s) (sym own) at in
          elim (passed.held s held in_space) [
            | inl among ↦ absurd (subst (λ (rs : List Record). IsAmong s rs) none among)
            | inr steady ↦ subst (λ (i : RecordId). IsSteady S i page end) own steady
          ]
