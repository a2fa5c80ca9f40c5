use Rattle.std.proofs.Common.{◌≡◌, ℕ, ap, sym, subst, ◌∙◌, arith}
use Rattle.std.proofs.lemmas.Grind.{common_steps}
use Rattle.std.specs.Prelude.{Option, None, false, true}
use Rattle.std.specs.Map.{lookup}
use Rattle.std.specs.Option.{option_copied}
use Rattle.mapdb_fpage.specs.RightSets.{is_empty}
use Rattle.mapdb_facts.specs.Names.{same_id}
use Rattle.mapdb_facts.specs.declared.names.RecordId.{RecordId}
use Rattle.mapdb_lists.specs.declared.changes.Change.{Change}
use Rattle.mapdb_lists.specs.Changes.{PageChanges, at_first, change_at, changed}
use Rattle.mapdb_lists.specs.Replacing.{HasNoRights, HasRights}
use Rattle.mapdb_lists.proofs.ChangeLemmas.LastChanges.{changed-none}
use Rattle.mapdb_lists.proofs.ChangeLemmas.RecordChanges.{own_absent, own_found}
use Rattle.mapdb_lists.proofs.ChangeLemmas.Replacing.{none_seen, some_seen}
use Rattle.mapdb_lists.proofs.changes.has_rights.Goals as goal

pub returns-in-Some-clause-some : goal.returns-in-Some-clause-some
returns-in-Some-clause-some c has =
    let entries = c.args.changes.now.own.entries in
    some_seen entries c.args.id
    (subst (λ (first : Change). HasRights (change_at entries c.args.id) first) c.first_change-first.ensures
    (subst (λ (at : ℕ → Option Change). HasRights at c.first_change-first.result)
    (own_found entries c.args.id c.in-Some.own.now (sym (ap option_copied c.in-Some.is) ∙ c.get.ensures)) (c.has_rights.ensures.some has)))

pub returns-in-Some-clause-none : goal.returns-in-Some-clause-none
returns-in-Some-clause-none c has =
    let entries = c.args.changes.now.own.entries in
    none_seen entries c.args.id
    (subst (λ (first : Change). HasNoRights (change_at entries c.args.id) first) c.first_change-first.ensures
    (subst (λ (at : ℕ → Option Change). HasNoRights at c.first_change-first.result)
    (own_found entries c.args.id c.in-Some.own.now (sym (ap option_copied c.in-Some.is) ∙ c.get.ensures)) (c.has_rights.ensures.none has)))

-- a record without changes has what stands before any
first_stands : (changes : PageChanges) (id : RecordId) (page : ℕ) → None ≡ lookup (same_id id) changes → changed (change_at changes id) (at_first id) page ≡ at_first id
first_stands changes id page absent = changed-none (change_at changes id) (at_first id) page (λ q _. own_absent changes id q absent)

pub returns-in-None-clause-some : goal.returns-in-None-clause-some
returns-in-None-clause-some c has =
    let entries = c.args.changes.now.own.entries in
    let some : c.is_none.result ≡ false = grind (arith, common_steps, has) in
    some_seen entries c.args.id
    (0, omega arith, ap (λ (change : Change). is_empty change.rights) (first_stands entries c.args.id 0 c.in-None.ensures ∙ sym c.first_change-first.ensures) ∙ sym c.is_none.ensures ∙ some)

pub returns-in-None-clause-none : goal.returns-in-None-clause-none
returns-in-None-clause-none c has =
    let entries = c.args.changes.now.own.entries in
    let none : c.is_none.result ≡ true = grind (arith, common_steps, has) in
    none_seen entries c.args.id
    (λ page inside. ap (λ (change : Change). is_empty change.rights) (first_stands entries c.args.id page c.in-None.ensures ∙ sym c.first_change-first.ensures) ∙ sym c.is_none.ensures ∙ none)
