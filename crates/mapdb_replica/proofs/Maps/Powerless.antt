-- Records without any right: they have no piece of any source.
use Rattle.std.proofs.Common.{◌≡◌, ℕ, Bool, true, false, Some, refl, sym, ap, ◌∙◌, List, inl, inr}
use Rattle.std.specs.Prelude.{Option, None, not, if◌then◌else◌}
use Rattle.std.proofs.lemmas.Bool.{cases_Bool, cond-false, false≢true}
use Rattle.mapdb_fpage.specs.Place.{Place, meet}
use Rattle.mapdb_fpage.specs.RightSets.{common, includes, is_empty}
use Rattle.mapdb_fpage.specs.declared.right_sets.Right.{Right}
use Rattle.mapdb_fpage.specs.declared.right_sets.Rights.{Rights}
use Rattle.mapdb_fpage.proofs.Parts.{some_page_is_exact}
use Rattle.mapdb_fpage.proofs.RightLemmas.{common_left, empty_from, none_of}
use Rattle.mapdb_facts.specs.Names.{same_space}
use Rattle.mapdb_facts.specs.State.{State}
use Rattle.mapdb_facts.specs.declared.names.Space.{Space}
use Rattle.mapdb_facts.specs.declared.operations.Record.{Record}
use Rattle.mapdb_rights.specs.AllBut.{IsAllBut}
use Rattle.mapdb_rights.specs.LivePlaces.{IsPowerless}
use Rattle.mapdb_rights.specs.Meeting.{holders_of}
use Rattle.mapdb_rights.specs.Right.{rights_at}
use Rattle.mapdb_replica.specs.Issue.{has_any, piece_of, piece_with, record_piece}
use Rattle.mapdb_replica.proofs.Calls.AllBut.{all_given}
use Rattle.mapdb_replica.proofs.Maps.Gathering.{pieces_of}
use Rattle.mapdb_replica.proofs.Unmaps.MeetingRecords.{pieces_held}

module _ (S : State) (r : Record) (powerless : IsPowerless S r) where
  none_common : (page : ℕ) (rights : Rights) (right : Right) → includes (common (rights_at S r.id page) rights) right ≡ false
  none_common page rights right =
      elim (cases_Bool (includes (common (rights_at S r.id page) rights) right)) [
        | inl has ↦ absurd (false≢true (sym (none_of (rights_at S r.id page) right (powerless page)) ∙ common_left (rights_at S r.id page) rights right has))
        | inr none ↦ none
      ]

  none_any : (rights : Rights) (part : Place) → has_any S r.id rights part ≡ false
  none_any rights part =
      elim (cases_Bool (has_any S r.id rights part)) [
        | inl any ↦
            let found = (some_page_is_exact part (λ page. not (is_empty (common (rights_at S r.id page) rights)))).0 any in
            absurd (false≢true (sym (ap not (empty_from (common (rights_at S r.id found.0) rights) (none_common found.0 rights))) ∙ found.2))
        | inr none ↦ none
      ]

  no_piece_left : (sender : Space) (source : Place) (rights : Rights) → record_piece S sender source rights r ≡ None
  unfolding record_piece piece_of
  no_piece_left sender source rights = by (same_space r.space sender) (meet r.place source)
    where
      by : (b : Bool) (o : Option Place) → (if b then piece_with S rights r.id o else None) ≡ None
      by false o = refl
      by true None = refl
      by true (Some part) = cond-false (has_any S r.id rights part) (Some (record { parent = r.id; source = part })) None (none_any rights part)

-- the pieces of the records that are left are those of all
pub pieces_left : (S : State) (sender : Space) (source : Place) (rights : Rights) (records left : List Record) → IsAllBut (IsPowerless S) (holders_of records sender source) left
    → pieces_of S sender source rights left ≡ pieces_of S sender source rights records
pieces_left S sender source rights records left all_but =
    all_given (IsPowerless S) (record_piece S sender source rights) (holders_of records sender source) left (λ r k powerless. no_piece_left S r powerless sender source rights) all_but
    ∙ pieces_held S sender source rights records
