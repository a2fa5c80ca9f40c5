-- What one step up from a record to its parent does to the rights at a page.
use Rattle.std.proofs.Common.{◌≡◌, ℕ, Bool, true, false, Some, refl, sym, ap, ◌∙◌}
use Rattle.std.specs.Prelude.{◌&&◌, nat_lt, not, None}
use Rattle.std.proofs.lemmas.Bool.{and_left, and_right, cond-true, cond-false}
use Rattle.mapdb_facts.specs.declared.names.RecordId.{RecordId}
use Rattle.mapdb_facts.specs.declared.operations.Record.{Record}
use Rattle.mapdb_fpage.specs.declared.right_sets.Right.{Right}
use Rattle.mapdb_fpage.specs.declared.right_sets.Right.TheVariants.{Read, Write, Execute}
use Rattle.mapdb_fpage.specs.declared.right_sets.Rights.{Rights}
use Rattle.mapdb_facts.specs.Names.{is_root}
use Rattle.mapdb_fpage.specs.Place.{holds, is_page}
use Rattle.mapdb_fpage.specs.RightSets.{includes, rights_where, no_rights, all_rights, common, without}
use Rattle.mapdb_facts.specs.State.{State}
use Rattle.mapdb_rights.specs.Right.{allows, has_right, reaches, rights_at, source_page}
use Rattle.mapdb_rights.specs.Frame.{frame_at}
use Rattle.mapdb_rights.proofs.Rights.Steps.{has_right-root, has_right-record, has_right-none, frame_at-record}
use Rattle.mapdb_facts.proofs.Maps.CutRuns.{same_where}

pub common_none : (a : Rights) → common a no_rights ≡ no_rights
common_none a = same_where (λ right. includes a right && false) (λ _. false) (λ right. and_right (includes a right) false refl)

-- no rights where there is no record
pub rights_at-none : (S : State) (id : RecordId) (page : ℕ) → is_root id ≡ false → S.record_at id ≡ None → rights_at S id page ≡ no_rights
rights_at-none S id page other none = same_where (has_right S id page) (λ _. false) (λ right. has_right-none S id page right other none)

-- no rights outside the place
pub rights_at-outside : (S : State) (id : RecordId) (r : Record) (page : ℕ) → is_root id ≡ false → S.record_at id ≡ Some r → holds r.place page ≡ false → rights_at S id page ≡ no_rights
rights_at-outside S id r page other held out =
    same_where (has_right S id page) (λ _. false) (λ right.
    has_right-record S id r page right other held
    ∙ and_left (reaches id r page && allows S id r page right) (has_right S r.parent (source_page r page) right)
    (and_left (reaches id r page) (allows S id r page right) (and_left (holds r.place page) (nat_lt r.parent.number id.number) out)))

-- no rights in a space that has ended
pub rights_at-ended : (S : State) (id : RecordId) (r : Record) (page : ℕ) → is_root id ≡ false → S.record_at id ≡ Some r → S.is_ended r.space ≡ true → rights_at S id page ≡ no_rights
rights_at-ended S id r page other held over =
    same_where (has_right S id page) (λ _. false) (λ right.
    has_right-record S id r page right other held
    ∙ and_left (reaches id r page && allows S id r page right) (has_right S r.parent (source_page r page) right)
    (and_right (reaches id r page) (allows S id r page right)
    (and_right (includes r.rights right && not (S.is_cut id page right)) (not (S.is_ended r.space)) (ap not over))))

-- at the root, all that is not taken
pub rights_at-root : (S : State) (id : RecordId) (page : ℕ) → is_root id ≡ true → is_page page ≡ true → rights_at S id page ≡ without all_rights (rights_where (S.is_cut id page))
rights_at-root S id page top inside =
    same_where (has_right S id page) (λ right. true && not (S.is_cut id page right)) (λ right.
    has_right-root S id page right top ∙ ap (λ (t : Bool). t && not (S.is_cut id page right)) inside)

pub rights_at-beyond : (S : State) (id : RecordId) (page : ℕ) → is_root id ≡ true → is_page page ≡ false → rights_at S id page ≡ no_rights
rights_at-beyond S id page top out =
    same_where (has_right S id page) (λ _. false) (λ right.
    has_right-root S id page right top ∙ ap (λ (t : Bool). t && not (S.is_cut id page right)) out)

regroup : (l i k h : Bool) → (((l && i) && not k) && h) ≡ (l && (true && (i && not k && true) && h))
regroup false i k h = refl
regroup true false k h = refl
regroup true true true h = refl
regroup true true false h = refl

-- one step up
pub rights_at-up : (S : State) (id : RecordId) (r : Record) (page : ℕ) (left : Rights) → is_root id ≡ false → S.record_at id ≡ Some r → reaches id r page ≡ true → S.is_ended r.space ≡ false → common (without (common left r.rights) (rights_where (S.is_cut id page))) (rights_at S r.parent (source_page r page)) ≡ common left (rights_at S id page)
rights_at-up S id r page left other held reach open_still =
    same_where _ _ (λ right. at right)
  where
    step : (right : Right) → has_right S id page right ≡ (true && (includes r.rights right && not (S.is_cut id page right) && true) && has_right S r.parent (source_page r page) right)
    step right =
        has_right-record S id r page right other held
        ∙ ap (λ (t : Bool). t && allows S id r page right && has_right S r.parent (source_page r page) right) reach
        ∙ ap (λ (t : Bool). true && (includes r.rights right && not (S.is_cut id page right) && not t) && has_right S r.parent (source_page r page) right) open_still

    at : (right : Right) → (includes (without (common left r.rights) (rights_where (S.is_cut id page))) right && includes (rights_at S r.parent (source_page r page)) right) ≡ (includes left right && includes (rights_at S id page) right)
    at Read = regroup left.read r.rights.read (S.is_cut id page Read) (has_right S r.parent (source_page r page) Read) ∙ ap (λ v. left.read && v) (sym (step Read))
    at Write = regroup left.write r.rights.write (S.is_cut id page Write) (has_right S r.parent (source_page r page) Write) ∙ ap (λ v. left.write && v) (sym (step Write))
    at Execute = regroup left.execute r.rights.execute (S.is_cut id page Execute) (has_right S r.parent (source_page r page) Execute) ∙ ap (λ v. left.execute && v) (sym (step Execute))

-- nothing is left where the record at hand has nothing
pub ends_empty : (left now whole : Rights) → now ≡ no_rights → common left now ≡ whole → no_rights ≡ whole
ends_empty left now whole none kept = sym (common_none left) ∙ sym (ap (common left) none) ∙ kept

-- one step up, for what a program computes
pub kept_up : (S : State) (id : RecordId) (r : Record) (page : ℕ) (left met taken new whole : Rights) (up : ℕ) → is_root id ≡ false → S.record_at id ≡ Some r → reaches id r page ≡ true → S.is_ended r.space ≡ false → met ≡ common left r.rights → taken ≡ rights_where (S.is_cut id page) → new ≡ without met taken → up ≡ source_page r page → common left (rights_at S id page) ≡ whole → common new (rights_at S r.parent up) ≡ whole
kept_up S id r page left met taken new whole up other held reach open_still is_met is_taken is_new is_up kept =
    (λ i. common (is_new i) (rights_at S r.parent (is_up i)))
    ∙ (λ i. common (without (is_met i) (is_taken i)) (rights_at S r.parent (source_page r page)))
    ∙ rights_at-up S id r page left other held reach open_still
    ∙ kept

-- at the root, what is left without what is taken there
pub left_at_root : (S : State) (id : RecordId) (page : ℕ) (left taken new whole : Rights) → is_root id ≡ true → is_page page ≡ true → taken ≡ rights_where (S.is_cut id page) → new ≡ without left taken → common left (rights_at S id page) ≡ whole → new ≡ whole
left_at_root S id page left taken new whole top inside is_taken is_new kept =
    is_new ∙ ap (without left) is_taken ∙ sym (ap (common left) (rights_at-root S id page top inside)) ∙ kept

-- No frame where there is no record, or outside its place; one step up is the parent's.
pub frame_at-outside : (S : State) (id : RecordId) (r : Record) (page : ℕ) → is_root id ≡ false → S.record_at id ≡ Some r → holds r.place page ≡ false → frame_at S id page ≡ None
frame_at-outside S id r page other held out =
    frame_at-record S id r page other held
    ∙ cond-false (reaches id r page) (frame_at S r.parent (source_page r page)) None (and_left (holds r.place page) (nat_lt r.parent.number id.number) out)

pub frame_at-up : (S : State) (id : RecordId) (r : Record) (page : ℕ) → is_root id ≡ false → S.record_at id ≡ Some r → reaches id r page ≡ true → frame_at S id page ≡ frame_at S r.parent (source_page r page)
frame_at-up S id r page other held reach =
    frame_at-record S id r page other held ∙ cond-true (reaches id r page) (frame_at S r.parent (source_page r page)) None reach
