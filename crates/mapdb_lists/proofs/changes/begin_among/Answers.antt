use Rattle.std.proofs.Common.{◌≡◌, ℕ, ◌<◌, ◌≤◌, cond, refl, sym, ap, subst, ◌∙◌}
use Rattle.std.specs.Prelude.{Bool, None, Option, Some, not}
use Rattle.std.proofs.lemmas.Bool.{true≢false}
use Rattle.mapdb_fpage.specs.Bounds.{page_limit}
use Rattle.mapdb_fpage.specs.RightSets.{is_empty}
use Rattle.mapdb_lists.proofs.ChangeLemmas.ListWrites.{rights_known, rights_same}
use Rattle.std.specs.Map.{lookup}
use Rattle.mapdb_facts.specs.Names.{same_id}
use Rattle.mapdb_facts.specs.declared.names.RecordId.{RecordId}
use Rattle.mapdb_lists.specs.declared.changes.Change.{Change}
use Rattle.mapdb_lists.specs.declared.own_changes.OwnChanges.{OwnChanges}
use Rattle.mapdb_lists.specs.Changes.{IsRewritten, PageChanges, at_first, no_change}
use Rattle.mapdb_lists.specs.OwnChanges.{own_change}
use Rattle.mapdb_lists.specs.Replacing.{IsReplaced, IsReplacedOf}
use Rattle.mapdb_lists.proofs.ChangeLemmas.RecordChanges.{none_changed, replaced_own}
use Rattle.mapdb_lists.proofs.ChangeLemmas.FirstChanges.{first_given, first_kept}
use Rattle.mapdb_lists.proofs.changes.begin_among.Goals as goal

-- a record that is found nowhere has no changes
module _ (old : PageChanges) (id : RecordId) (absent : None ≡ lookup (same_id id) old) (first limit : ℕ) (change : Change) (before : Change) (is : before ≡ at_first id) where
  stays : first < limit → before.rights ≡ change.rights → IsReplacedOf old id first limit change old (record { end = limit; had_some = None })
  stays some same = record {
    own = subst (λ (f : ℕ → Option Change). IsReplaced f (at_first id) first limit change f (record { end = limit; had_some = None })) (none_changed old id absent)
        (subst (λ (b : Change). IsReplaced no_change b first limit change no_change (record { end = limit; had_some = None })) is (first_kept before first limit change some same));
    others = λ other page apart. refl;
  }

  begins : (new : PageChanges) (own : OwnChanges) (had_some : Bool) → first < limit → limit ≤ page_limit → (before.rights ≡ change.rights → ⊥)
      → IsRewritten no_change before first limit before change (own_change own) → had_some ≡ not (is_empty before.rights)
      → ((q : RecordId) → lookup (same_id q) new ≡ cond (same_id id q) (Some own) (lookup (same_id q) old))
      → IsReplacedOf old id first limit change new (record { end = limit; had_some = Some had_some })
  begins new own had_some some inside other given told changed =
      replaced_own old new id first limit change (record { end = limit; had_some = Some had_some }) no_change own
      (subst (λ (had : Bool). IsReplaced no_change (at_first id) first limit change (own_change own) (record { end = limit; had_some = Some had })) (sym told)
      (subst (λ (b : Change). IsReplaced no_change b first limit change (own_change own) (record { end = limit; had_some = Some (not (is_empty before.rights)) })) is
      (first_given before first limit change (own_change own) some inside other given)))
      changed (none_changed old id absent)

pub returns-then-eq-clause-replaced : goal.returns-then-eq-clause-replaced
returns-then-eq-clause-replaced c =
    stays c.args.own_changes.now.entries c.args.id (sym c.requires.bare) c.args.first c.args.limit c.args.change c.first_change-before.result c.first_change-before.ensures c.requires.some
    (rights_same c.eq.result c.first_change-before.result.rights c.args.change.rights c.eq.ensures c.if-eq.true)

pub returns-clause-replaced : goal.returns-clause-replaced
returns-clause-replaced c =
    begins c.args.own_changes.now.entries c.args.id (sym c.requires.bare) c.args.first c.args.limit c.args.change c.first_change-before.result c.first_change-before.ensures
    c.insert.new.self.entries c.in_ok-own.own _ c.requires.some c.requires.limit
    (λ same. true≢false (sym (rights_known c.eq.result c.first_change-before.result.rights c.args.change.rights c.eq.ensures same) ∙ c.if-eq.false))
    c.in_ok-own.ensures (ap not c.is_none.ensures)
    c.in_ok-insert.ensures.ok
