use Rattle.std.proofs.Common.{◌≡◌, ◌+◌, List, length, ap, subst, sym, ◌∙◌}
use Rattle.std.specs.Prelude.{None, Some, Option, slice_set}
use Rattle.std.specs.List.{remove}
use Rattle.std.specs.Option.{unwrap_or}
use Rattle.std.proofs.lemmas.Bool.{true≢false}
use Rattle.std.proofs.lemmas.List.{length-set}
use Rattle.mapdb_fpage.specs.declared.right_sets.Rights.{Rights}
use Rattle.mapdb_lists.specs.declared.few_changes.PageRights.{PageRights}
use Rattle.mapdb_lists.specs.Changes.{left_before}
use Rattle.mapdb_lists.specs.FewChanges.{listed_rights}
use Rattle.mapdb_lists.specs.PageOrder.{AreInFront, IsSpot, PagesRise}
use Rattle.mapdb_lists.proofs.ChangeLemmas.FewChanges.{front_there, put_over, refilled, remove_rises, remove_spot, removed, set_rises, set_stands, spot_behind}
use Rattle.mapdb_lists.proofs.ChangeLemmas.ListWrites.{put_elsewhere, put_here, rights_known, rights_same}
use Rattle.mapdb_lists.proofs.list_writes.write_over.Goals as goal

pub returns-then-eq-clause-rise : goal.returns-then-eq-clause-rise
returns-then-eq-clause-rise c =
    subst (λ (l : List PageRights). PagesRise l) (sym c.take_out.ensures)
    (remove_rises c.args.list.now.items c.requires.rise c.args.page c.args.index c.requires.there)

pub returns-then-eq-clause-spot : goal.returns-then-eq-clause-spot
returns-then-eq-clause-spot c =
    subst (λ (l : List PageRights). IsSpot l c.args.page c.args.index) (sym c.take_out.ensures)
    (remove_spot c.args.list.now.items c.requires.rise c.args.page c.args.index c.requires.there)

pub returns-then-eq-clause-there : goal.returns-then-eq-clause-there
returns-then-eq-clause-there c =
    let xs = c.args.list.now.items in
    let left : c.in_front.result ≡ left_before (listed_rights xs) c.args.before c.args.page =
    subst (λ (l : List PageRights). AreInFront l c.args.page c.args.index → c.in_front.result ≡ left_before (listed_rights l) c.args.before c.args.page)
    c.as_slice.ensures (c.in_front.ensures c.args.page) (front_there xs c.requires.rise c.args.page c.args.index c.requires.there) in
    ap (λ (o : Option Rights). unwrap_or o (left_before (listed_rights xs) c.args.before c.args.page))
    (ap (λ (l : List PageRights). listed_rights l c.args.page) c.take_out.ensures
    ∙ put_here (listed_rights xs) (listed_rights (remove xs c.args.index)) c.args.page None
    (removed xs c.requires.rise c.args.index c.args.page c.requires.there))
    ∙ sym (rights_same c.eq.result c.args.rights c.in_front.result c.eq.ensures c.if-eq.true ∙ left)

pub returns-then-eq-clause-once : goal.returns-then-eq-clause-once
returns-then-eq-clause-once c same =
    let xs = c.args.list.now.items in
    ap (λ (l : List PageRights). listed_rights l c.args.page) c.take_out.ensures
    ∙ put_here (listed_rights xs) (listed_rights (remove xs c.args.index)) c.args.page None
    (removed xs c.requires.rise c.args.index c.args.page c.requires.there)

pub returns-then-eq-clause-elsewhere : goal.returns-then-eq-clause-elsewhere
returns-then-eq-clause-elsewhere c q apart =
    let xs = c.args.list.now.items in
    ap (λ (l : List PageRights). listed_rights l q) c.take_out.ensures
    ∙ put_elsewhere (listed_rights xs) (listed_rights (remove xs c.args.index)) c.args.page None
    (removed xs c.requires.rise c.args.index c.args.page c.requires.there) q apart

pub returns-clause-rise : goal.returns-clause-rise
returns-clause-rise c =
    let xs = c.args.list.now.items in
    let next : PageRights = record { page = c.args.page; rights = c.args.rights } in
    let is : c.set_at.new.list ≡ slice_set xs c.args.index next = c.set_at.ensures ∙ ap (λ (l : List PageRights). slice_set l c.args.index c.new.result) c.as_mut_slice.ensures.value
    ∙ ap (λ (n : PageRights). slice_set xs c.args.index n) c.new.ensures in
    subst (λ (l : List PageRights). PagesRise l)
    (sym (refilled xs c.set_at.new.list (ap (λ (l : List PageRights). length l) is ∙ length-set xs c.args.index next) ∙ is))
    (set_rises xs c.requires.rise c.args.page c.args.index c.args.rights c.requires.there)

pub returns-clause-spot : goal.returns-clause-spot
returns-clause-spot c =
    let xs = c.args.list.now.items in
    let next : PageRights = record { page = c.args.page; rights = c.args.rights } in
    let is : c.set_at.new.list ≡ slice_set xs c.args.index next = c.set_at.ensures ∙ ap (λ (l : List PageRights). slice_set l c.args.index c.new.result) c.as_mut_slice.ensures.value
    ∙ ap (λ (n : PageRights). slice_set xs c.args.index n) c.new.ensures in
    subst (λ (l : List PageRights). IsSpot l c.args.page (c.args.index + 1))
    (sym (refilled xs c.set_at.new.list (ap (λ (l : List PageRights). length l) is ∙ length-set xs c.args.index next) ∙ is))
    (spot_behind (slice_set xs c.args.index next) (set_rises xs c.requires.rise c.args.page c.args.index c.args.rights c.requires.there)
    c.args.page c.args.index (set_stands xs c.requires.rise c.args.page c.args.index c.args.rights c.requires.there))

pub returns-clause-there : goal.returns-clause-there
returns-clause-there c =
    let xs = c.args.list.now.items in
    let next : PageRights = record { page = c.args.page; rights = c.args.rights } in
    let is : c.set_at.new.list ≡ slice_set xs c.args.index next = c.set_at.ensures ∙ ap (λ (l : List PageRights). slice_set l c.args.index c.new.result) c.as_mut_slice.ensures.value
    ∙ ap (λ (n : PageRights). slice_set xs c.args.index n) c.new.ensures in
    ap (λ (o : Option Rights). unwrap_or o (left_before (listed_rights xs) c.args.before c.args.page))
    (ap (λ (l : List PageRights). listed_rights l c.args.page) (refilled xs c.set_at.new.list (ap (λ (l : List PageRights). length l) is ∙ length-set xs c.args.index next) ∙ is)
    ∙ put_here (listed_rights xs) (listed_rights (slice_set xs c.args.index next)) c.args.page (Some c.args.rights)
    (put_over xs c.requires.rise c.args.index c.args.page c.args.rights c.requires.there))

pub returns-clause-once : goal.returns-clause-once
returns-clause-once c same =
    let xs = c.args.list.now.items in
    let left : c.in_front.result ≡ left_before (listed_rights xs) c.args.before c.args.page =
    subst (λ (l : List PageRights). AreInFront l c.args.page c.args.index → c.in_front.result ≡ left_before (listed_rights l) c.args.before c.args.page)
    c.as_slice.ensures (c.in_front.ensures c.args.page) (front_there xs c.requires.rise c.args.page c.args.index c.requires.there) in
    absurd (true≢false (sym (rights_known c.eq.result c.args.rights c.in_front.result c.eq.ensures (same ∙ sym left)) ∙ c.if-eq.false))

pub returns-clause-elsewhere : goal.returns-clause-elsewhere
returns-clause-elsewhere c q apart =
    let xs = c.args.list.now.items in
    let next : PageRights = record { page = c.args.page; rights = c.args.rights } in
    let is : c.set_at.new.list ≡ slice_set xs c.args.index next = c.set_at.ensures ∙ ap (λ (l : List PageRights). slice_set l c.args.index c.new.result) c.as_mut_slice.ensures.value
    ∙ ap (λ (n : PageRights). slice_set xs c.args.index n) c.new.ensures in
    ap (λ (l : List PageRights). listed_rights l q) (refilled xs c.set_at.new.list (ap (λ (l : List PageRights). length l) is ∙ length-set xs c.args.index next) ∙ is)
    ∙ put_elsewhere (listed_rights xs) (listed_rights (slice_set xs c.args.index next)) c.args.page (Some c.args.rights)
    (put_over xs c.requires.rise c.args.index c.args.page c.args.rights c.requires.there) q apart
