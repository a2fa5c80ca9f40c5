use Rattle.std.proofs.Common.{◌≡◌, ◌<◌, List, ap, sym, subst, ◌∙◌, arith}
use Rattle.std.specs.Prelude.{None}
use Rattle.mapdb_lists.specs.FewChanges.{ListedChanges, few_change, listed_rights}
use Rattle.mapdb_lists.specs.PageOrder.{PagesRise}
use Rattle.mapdb_lists.specs.Replacing.{HasNoRights, HasRights}
use Rattle.mapdb_lists.specs.declared.few_changes.PageRights.{PageRights}
use Rattle.mapdb_lists.proofs.ChangeLemmas.SomeRights.{first_behind, none_at_first, none_listed, some_before, some_listed}
use Rattle.mapdb_lists.proofs.few_changes.FewChanges.has_rights.Goals as goal
use Rattle.mapdb_lists.proofs.few_changes.FewChanges.has_rights.Goals.{else-not-is_none-via-then-not-is_none+else-end_at-gt0, else-not-is_none-via-else-not-is_none}

pub returns-then-end_at-gt0-clause-some : goal.returns-then-end_at-gt0-clause-some
returns-then-end_at-gt0-clause-some c _ =
    let slice : List PageRights = c.as_slice-changes.result.now in
    let rise : PagesRise slice = subst PagesRise (sym c.as_slice-changes.ensures) c.self.invariant in
    let bare : listed_rights slice 0 ≡ None = none_at_first slice rise (λ d inside. let l = c.end_at.ensures.there d inside in let k = c.if-end_at-gt0.true in omega (arith, l, k)) in
    subst (λ (few : ListedChanges). HasRights (few_change few) c.args.before.now) c.self.view_is
    (some_before (record { shift = c.self.inside.shift; list = c.self.inside.list.items }) c.args.before.now
    (subst (λ (list : List PageRights). listed_rights list 0 ≡ None) c.as_slice-changes.ensures bare)
    (sym c.is_none.ensures ∙ c.if-not-is_none.true))

pub returns-clause-some : goal.returns-clause-some
returns-clause-some c told =
    let found = c.any_rights.ensures.some told in
    subst (λ (few : ListedChanges). HasRights (few_change few) c.args.before.now) c.self.view_is
    (some_listed (record { shift = c.self.inside.shift; list = c.self.inside.list.items }) c.args.before.now found.0 found.1 found.2
    (ap (λ (list : List PageRights). listed_rights list found.0) (sym c.as_slice-changes.ensures) ∙ found.3) found.4)

pub returns-clause-none : goal.returns-clause-none
returns-clause-none c told =
    let slice : List PageRights = c.as_slice-changes.result.now in
    let rise : PagesRise slice = subst PagesRise (sym c.as_slice-changes.ensures) c.self.invariant in
    subst (λ (few : ListedChanges). HasNoRights (few_change few) c.args.before.now) c.self.view_is
    (none_listed (record { shift = c.self.inside.shift; list = c.self.inside.list.items }) c.args.before.now
    (λ page rights inside is. c.any_rights.ensures.none told page rights inside (ap (λ (list : List PageRights). listed_rights list page) c.as_slice-changes.ensures ∙ is))
    (λ bare. elim c.else-not-is_none.branch [
      | else-not-is_none-via-then-not-is_none+else-end_at-gt0 w ↦
          let l : 0 < w.end_at.result = w.end_at.ensures.above 0 (omega arith)
          (λ d inside. first_behind slice rise (ap (λ (list : List PageRights). listed_rights list 0) c.as_slice-changes.ensures ∙ bare) d inside) in
          let k = w.if-end_at-gt0.false in
          let no : ⊥ = omega (arith, l, k) in absurd no
      | else-not-is_none-via-else-not-is_none w ↦ sym c.is_none.ensures ∙ w.if-not-is_none.false
    ]))
