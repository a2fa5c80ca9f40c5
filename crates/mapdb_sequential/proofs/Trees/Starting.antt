-- The first tree shows the state of nothing.
use Rattle.std.proofs.Common.{◌≡◌, ℕ, Bool, true, false, Some, refl, sym, ap, subst, ◌∙◌, inl, inr, []}
use Rattle.std.specs.Prelude.{◌&&◌, None}
use Rattle.std.proofs.lemmas.Bool.{and_parts, cond-true, cond-false, cases_Bool, false≢true}
use Rattle.mapdb_fpage.specs.Place.{is_page}
use Rattle.mapdb_fpage.specs.RightSets.{all_rights, is_empty}
use Rattle.mapdb_facts.proofs.Lists.SameNames.{same_id_true}
use Rattle.mapdb_facts.specs.Names.{is_first_space, is_root, root}
use Rattle.mapdb_facts.specs.State.{nothing}
use Rattle.mapdb_facts.specs.declared.names.RecordId.{RecordId}
use Rattle.mapdb_rights.proofs.Rights.Steps.{has_right-root}
use Rattle.mapdb_rights.proofs.Rights.Walk.{rights_at-beyond}
use Rattle.mapdb_rights.specs.PageRights.{is_into}
use Rattle.mapdb_rights.specs.Right.{has_right, rights_at}
use Rattle.mapdb_sequential.proofs.Trees.PathTrees.{first_path_tree}
use Rattle.mapdb_sequential.proofs.Trees.Showing.{IsBare, IsHeldBy, Shows, ShowsAt}
use Rattle.mapdb_tree.specs.declared.nodes.Page.{Page}
use Rattle.mapdb_facts.proofs.Maps.CutRuns.{same_where}

-- only the root is into a space, the first
root_alone : (spot : Page) (id : RecordId) → is_into nothing spot.space id ≡ true → (is_root id ≡ true) × (is_first_space spot.space ≡ true)
root_alone spot id into =
    elim (cases_Bool (is_root id)) [
      | inl top ↦ (top, sym (cond-true (is_root id) (is_first_space spot.space) false top) ∙ into)
      | inr other ↦ absurd (false≢true (sym (cond-false (is_root id) (is_first_space spot.space) false other) ∙ into))
    ]

all_at_root : (page : ℕ) → is_page page ≡ true → rights_at nothing root page ≡ all_rights
all_at_root page inside = same_where (has_right nothing root page) (λ _. true)
    (λ right. has_right-root nothing root page right refl ∙ ap (λ (t : Bool). t && true) inside)

first_held : (spot : Page) → is_first_space spot.space ≡ true → is_page spot.number ≡ true
    → IsHeldBy nothing spot (record { frame = spot.number; rights = all_rights; above = [] }) root
first_held spot first inside = record {
  into = first;
  through = (refl, inside, refl);
  rights = all_at_root spot.number inside;
  some = refl;
  alone = λ other into _. same_id_true other root (root_alone spot other into).0;
}

first_bare : (spot : Page) → (is_first_space spot.space && is_page spot.number) ≡ false → IsBare nothing spot
first_bare spot out id into =
    let there = root_alone spot id into in
    let beyond : is_page spot.number ≡ false = sym (ap (λ (t : Bool). t && is_page spot.number) there.1) ∙ out in
    ap is_empty (rights_at-beyond nothing id spot.number there.0 beyond)

pub shows_start : Shows first_path_tree nothing
shows_start = record {
  nodes = λ spot. elim (cases_Bool (is_first_space spot.space && is_page spot.number)) [
    | inl there ↦
        let both = and_parts (is_first_space spot.space) (is_page spot.number) there in
        subst (ShowsAt nothing spot) (sym (cond-true (is_first_space spot.space && is_page spot.number)
        (Some (record { frame = spot.number; rights = all_rights; above = [] })) None there))
        (root, first_held spot both.0 both.1)
    | inr out ↦
        subst (ShowsAt nothing spot) (sym (cond-false (is_first_space spot.space && is_page spot.number)
        (Some (record { frame = spot.number; rights = all_rights; above = [] })) None out))
        (first_bare spot out)
  ];
  ends = λ space. refl;
}
