-- What the changes of one record say of those of all.
use Rattle.std.proofs.Common.{◌≡◌, ℕ, cond, sym, ap, subst, ◌∙◌}
use Rattle.std.specs.Prelude.{Option, None, Some}
use Rattle.std.specs.Map.{lookup}
use Rattle.std.proofs.lemmas.Bool.{cond-false, cond-true}
use Rattle.mapdb_facts.specs.Names.{same_id}
use Rattle.mapdb_facts.specs.declared.names.RecordId.{RecordId}
use Rattle.mapdb_lists.specs.declared.changes.Change.{Change}
use Rattle.mapdb_lists.specs.declared.own_changes.OwnChanges.{OwnChanges}
use Rattle.mapdb_lists.specs.declared.changes.Replaced.{Replaced}
use Rattle.mapdb_lists.specs.Changes.{PageChanges, at_first, change_at, change_in, no_change}
use Rattle.mapdb_lists.specs.Replacing.{IsReplaced, IsReplacedOf}
use Rattle.mapdb_lists.specs.OwnChanges.{own_change}
use Rattle.mapdb_facts.proofs.Lists.SameNames.{same_id_itself}

-- the changes of a record that has some, and of one that has none
pub own_found : (changes : PageChanges) (id : RecordId) (own : OwnChanges) → Some own ≡ lookup (same_id id) changes → own_change own ≡ change_at changes id
own_found changes id own found = λ i. λ page. change_in (found i) page

pub none_changed : (changes : PageChanges) (id : RecordId) → None ≡ lookup (same_id id) changes → no_change ≡ change_at changes id
none_changed changes id absent = λ i. λ page. change_in (absent i) page

pub own_absent : (changes : PageChanges) (id : RecordId) (page : ℕ) → None ≡ lookup (same_id id) changes → change_at changes id page ≡ None
own_absent changes id page absent = ap (λ (own : Option OwnChanges). change_in own page) (sym absent)

-- pages of one record, with these changes before, are to get a change
module _ (old new : PageChanges) (id : RecordId) (first limit : ℕ) (change : Change) (replaced : Replaced) (before : ℕ → Option Change) (own : OwnChanges)
    (given : IsReplaced before (at_first id) first limit change (own_change own) replaced) where
  pub replaced_own : ((q : RecordId) → lookup (same_id q) new ≡ cond (same_id id q) (Some own) (lookup (same_id q) old)) → before ≡ change_at old id
      → IsReplacedOf old id first limit change new replaced
  replaced_own changed same = record {
    own =
        subst (λ (f : ℕ → Option Change). IsReplaced f (at_first id) first limit change (change_at new id) replaced) same
        (subst (λ (g : ℕ → Option Change). IsReplaced before (at_first id) first limit change g replaced) (sym here) given);
    others = λ other q apart.
        ap (λ (o : Option OwnChanges). change_in o q) (changed other ∙ cond-false (same_id id other) (Some own) (lookup (same_id other) old) apart);
  }
    where
      here : change_at new id ≡ own_change own
      here = λ i. λ q. change_in ((changed id ∙ cond-true (same_id id id) (Some own) (lookup (same_id id) old) (same_id_itself id)) i) q
