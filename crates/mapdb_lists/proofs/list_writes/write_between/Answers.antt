use Rattle.std.proofs.Common.{◌≡◌, ◌+◌, List, ap, subst, sym, ◌∙◌}
use Rattle.std.specs.Prelude.{Some, Option}
use Rattle.std.specs.List.{insert}
use Rattle.std.specs.Option.{unwrap_or}
use Rattle.mapdb_fpage.specs.declared.right_sets.Rights.{Rights}
use Rattle.mapdb_lists.specs.declared.few_changes.PageRights.{PageRights}
use Rattle.mapdb_lists.specs.Changes.{left_before}
use Rattle.mapdb_lists.specs.FewChanges.{listed_rights}
use Rattle.mapdb_lists.specs.PageOrder.{AreInFront, IsSpot, PagesRise}
use Rattle.mapdb_lists.proofs.ChangeLemmas.FewChanges.{front_gap, insert_rises, insert_stands, listed_gap, put_between, spot_behind}
use Rattle.mapdb_lists.proofs.ChangeLemmas.ListWrites.{put_elsewhere, put_here, rights_same}
use Rattle.mapdb_lists.proofs.list_writes.write_between.Goals as goal

pub returns-then-eq-clause-there : goal.returns-then-eq-clause-there
returns-then-eq-clause-there c =
    let xs = c.args.list.now.items in
    let left : c.in_front.result ≡ left_before (listed_rights xs) c.args.before c.args.page =
    subst (λ (l : List PageRights). AreInFront l c.args.page c.args.index → c.in_front.result ≡ left_before (listed_rights l) c.args.before c.args.page)
    c.as_slice.ensures (c.in_front.ensures c.args.page) (front_gap xs c.requires.rise c.args.page c.args.index c.requires.gap) in
    ap (λ (o : Option Rights). unwrap_or o (left_before (listed_rights xs) c.args.before c.args.page))
    (listed_gap xs c.requires.rise c.args.page c.args.index c.requires.gap)
    ∙ sym (rights_same c.eq.result c.args.rights c.in_front.result c.eq.ensures c.if-eq.true ∙ left)

pub returns-then-eq-clause-once : goal.returns-then-eq-clause-once
returns-then-eq-clause-once c same = listed_gap c.args.list.now.items c.requires.rise c.args.page c.args.index c.requires.gap

pub returns-clause-rise : goal.returns-clause-rise
returns-clause-rise c =
    subst (λ (l : List PageRights). PagesRise l) (sym (c.in_ok-insert_at.ensures.ok ∙ ap (λ (n : PageRights). insert c.args.list.now.items c.args.index n) c.new.ensures))
    (insert_rises c.args.list.now.items c.requires.rise c.args.page c.args.index c.args.rights c.requires.gap)

pub returns-clause-spot : goal.returns-clause-spot
returns-clause-spot c =
    let xs = c.args.list.now.items in
    let next : PageRights = record { page = c.args.page; rights = c.args.rights } in
    subst (λ (l : List PageRights). IsSpot l c.args.page (c.args.index + 1)) (sym (c.in_ok-insert_at.ensures.ok ∙ ap (λ (n : PageRights). insert c.args.list.now.items c.args.index n) c.new.ensures))
    (spot_behind (insert xs c.args.index next) (insert_rises xs c.requires.rise c.args.page c.args.index c.args.rights c.requires.gap)
    c.args.page c.args.index (insert_stands xs c.requires.rise c.args.page c.args.index c.args.rights c.requires.gap))

pub returns-clause-there : goal.returns-clause-there
returns-clause-there c =
    let xs = c.args.list.now.items in
    let next : PageRights = record { page = c.args.page; rights = c.args.rights } in
    ap (λ (o : Option Rights). unwrap_or o (left_before (listed_rights xs) c.args.before c.args.page))
    (ap (λ (l : List PageRights). listed_rights l c.args.page) (c.in_ok-insert_at.ensures.ok ∙ ap (λ (n : PageRights). insert c.args.list.now.items c.args.index n) c.new.ensures)
    ∙ put_here (listed_rights xs) (listed_rights (insert xs c.args.index next)) c.args.page (Some c.args.rights)
    (put_between xs c.args.index c.args.page c.args.rights c.requires.gap))

pub returns-clause-elsewhere : goal.returns-clause-elsewhere
returns-clause-elsewhere c q apart =
    let xs = c.args.list.now.items in
    let next : PageRights = record { page = c.args.page; rights = c.args.rights } in
    ap (λ (l : List PageRights). listed_rights l q) (c.in_ok-insert_at.ensures.ok ∙ ap (λ (n : PageRights). insert c.args.list.now.items c.args.index n) c.new.ensures)
    ∙ put_elsewhere (listed_rights xs) (listed_rights (insert xs c.args.index next)) c.args.page (Some c.args.rights)
    (put_between xs c.args.index c.args.page c.args.rights c.requires.gap) q apart
