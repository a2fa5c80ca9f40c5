use Rattle.std.proofs.Common.{List, ap, sym, subst, ◌∙◌, arith}
use Rattle.mapdb_lists.specs.Changes.{IsStretch}
use Rattle.mapdb_lists.specs.FewChanges.{ListedChanges, few_change, listed_rights}
use Rattle.mapdb_lists.specs.OwnChanges.{IsLastChange, IsNoneUntil}
use Rattle.mapdb_lists.specs.PageOrder.{IsSpot, PagesRise}
use Rattle.mapdb_lists.specs.declared.few_changes.PageRights.{PageRights}
use Rattle.mapdb_lists.proofs.ChangeLemmas.FewChanges.{none_until}
use Rattle.mapdb_lists.proofs.ChangeLemmas.SharedShift.{first_stretch, shown_stretch}
use Rattle.mapdb_lists.proofs.few_changes.FewChanges.stretch.Goals as goal

pub returns : goal.returns
returns c page limit is =
    let slice : List PageRights = c.as_slice-changes.result.now in
    let here : IsSpot slice page c.args.spot =
    subst (λ (list : List PageRights). IsSpot list page c.args.spot) (ap (λ (few : ListedChanges). few.list) (sym c.self.view_is) ∙ sym c.as_slice-changes.ensures) is in
    subst (λ (few : ListedChanges). IsStretch (few_change few) c.args.first.now page (record { change = c.with_shift.result; end = c.end_at-end.result })) c.self.view_is
    (shown_stretch (record { shift = c.self.inside.shift; list = c.self.inside.list.items }) c.args.first.now page c.end_at-end.result
    c.in-Some.last.0 c.in-Some.last.1 c.with_shift.result c.with_shift.ensures
    (subst (λ (list : List PageRights). IsLastChange (listed_rights list) page c.in-Some.last) c.as_slice-changes.ensures (c.in-Some.ensures page here))
    (c.end_at-end.ensures.above page limit (λ d inside. here.behind c.args.spot d (omega arith) inside)) c.end_at-end.ensures.limit
    (subst (λ (list : List PageRights). IsNoneUntil (listed_rights list) page c.end_at-end.result) c.as_slice-changes.ensures
    (none_until slice (subst PagesRise (sym c.as_slice-changes.ensures) c.self.invariant) page c.args.spot here c.end_at-end.result c.end_at-end.ensures.there)))

pub returns-in_default : goal.returns-in_default
returns-in_default c page limit is =
    let slice : List PageRights = c.as_slice-changes.result.now in
    let here : IsSpot slice page c.args.spot =
    subst (λ (list : List PageRights). IsSpot list page c.args.spot) (ap (λ (few : ListedChanges). few.list) (sym c.self.view_is) ∙ sym c.as_slice-changes.ensures) is in
    subst (λ (few : ListedChanges). IsStretch (few_change few) c.args.first.now page (record { change = c.args.first.now; end = c.end_at-end.result })) c.self.view_is
    (first_stretch (record { shift = c.self.inside.shift; list = c.self.inside.list.items }) c.args.first.now page c.end_at-end.result
    (λ q up_to. ap (λ (list : List PageRights). listed_rights list q) (sym c.as_slice-changes.ensures) ∙ c.in_default.ensures page here q up_to)
    (c.end_at-end.ensures.above page limit (λ d inside. here.behind c.args.spot d (omega arith) inside)) c.end_at-end.ensures.limit
    (subst (λ (list : List PageRights). IsNoneUntil (listed_rights list) page c.end_at-end.result) c.as_slice-changes.ensures
    (none_until slice (subst PagesRise (sym c.as_slice-changes.ensures) c.self.invariant) page c.args.spot here c.end_at-end.result c.end_at-end.ensures.there)))
