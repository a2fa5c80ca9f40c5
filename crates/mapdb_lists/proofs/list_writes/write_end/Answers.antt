use Rattle.std.proofs.Common.{◌≡◌, ◌<◌, List, length, get_or, ap, rules, subst, sym, ◌∙◌}
use Rattle.std.specs.Prelude.{None, Some, Option}
use Rattle.std.specs.List.{insert, remove}
use Rattle.std.specs.Option.{unwrap_or}
use Rattle.mapdb_fpage.specs.declared.right_sets.Rights.{Rights}
use Rattle.mapdb_lists.specs.declared.few_changes.PageRights.{PageRights}
use Rattle.mapdb_lists.specs.FewChanges.{listed_rights}
use Rattle.mapdb_lists.specs.PageOrder.{IsGap, PagesRise, StandsAtPage}
use Rattle.mapdb_lists.proofs.ChangeLemmas.FewChanges.{gap_at_end, insert_rises, listed_gap, put_between, remove_rises, removed}
use Rattle.mapdb_lists.proofs.ChangeLemmas.ListWrites.{put_elsewhere, put_here, rights_same}
use Rattle.mapdb_lists.proofs.list_writes.write_end.Goals as goal

pub returns-in-Some-clause-rise : goal.returns-in-Some-clause-rise
returns-in-Some-clause-rise c =
    subst (λ (l : List PageRights). PagesRise l) (sym c.take_out.ensures)
    (remove_rises c.args.list.now.items c.requires.rise c.args.end c.args.spot
    (subst (λ (l : List PageRights). StandsAtPage l c.args.end c.args.spot) c.as_slice.ensures c.in-Some.ensures.there))

pub returns-in-Some-clause-there : goal.returns-in-Some-clause-there
returns-in-Some-clause-there c inside =
    let xs = c.args.list.now.items in
    ap (λ (o : Option Rights). unwrap_or o c.args.rights)
    (ap (λ (l : List PageRights). listed_rights l c.args.end) c.take_out.ensures
    ∙ put_here (listed_rights xs) (listed_rights (remove xs c.args.spot)) c.args.end None
    (removed xs c.requires.rise c.args.spot c.args.end (subst (λ (l : List PageRights). StandsAtPage l c.args.end c.args.spot) c.as_slice.ensures c.in-Some.ensures.there)))
    ∙ sym (rights_same c.eq.result c.in-Some.next c.args.rights c.eq.ensures c.if-eq.true)
    ∙ sym (ap (λ (o : Option Rights). unwrap_or o c.args.was) (subst (λ (l : List PageRights). listed_rights l c.args.end ≡ Some c.in-Some.next) c.as_slice.ensures c.in-Some.ensures.change))

pub returns-in-Some-clause-once : goal.returns-in-Some-clause-once
returns-in-Some-clause-once c inside known =
    let xs = c.args.list.now.items in
    ap (λ (l : List PageRights). listed_rights l c.args.end) c.take_out.ensures
    ∙ put_here (listed_rights xs) (listed_rights (remove xs c.args.spot)) c.args.end None
    (removed xs c.requires.rise c.args.spot c.args.end (subst (λ (l : List PageRights). StandsAtPage l c.args.end c.args.spot) c.as_slice.ensures c.in-Some.ensures.there))

pub returns-in-Some-clause-elsewhere : goal.returns-in-Some-clause-elsewhere
returns-in-Some-clause-elsewhere c q apart =
    let xs = c.args.list.now.items in
    ap (λ (l : List PageRights). listed_rights l q) c.take_out.ensures
    ∙ put_elsewhere (listed_rights xs) (listed_rights (remove xs c.args.spot)) c.args.end None
    (removed xs c.requires.rise c.args.spot c.args.end (subst (λ (l : List PageRights). StandsAtPage l c.args.end c.args.spot) c.as_slice.ensures c.in-Some.ensures.there)) q apart

pub returns-in_ok-insert_at-in-None-clause-rise : goal.returns-in_ok-insert_at-in-None-clause-rise
returns-in_ok-insert_at-in-None-clause-rise c =
    let xs = c.args.list.now.items in
    let gap : IsGap xs c.args.end c.args.spot = gap_at_end xs c.requires.rise c.args.first c.args.end c.args.spot c.requires.spot c.requires.some c.requires.one
    (subst (λ (l : List PageRights). (d : PageRights) → c.args.spot < length l → (get_or l c.args.spot d).page ≡ c.args.end → ⊥) c.as_slice.ensures c.in-None.ensures.none) in
    subst (λ (l : List PageRights). PagesRise l) (sym (c.in_ok-insert_at-in-None.ensures.ok ∙ ap (λ (n : PageRights). insert c.args.list.now.items c.args.spot n) c.new-follows.ensures))
    (insert_rises xs c.requires.rise c.args.end c.args.spot c.args.was gap)

pub returns-in_ok-insert_at-in-None-clause-there : goal.returns-in_ok-insert_at-in-None-clause-there
returns-in_ok-insert_at-in-None-clause-there c inside =
    let xs = c.args.list.now.items in
    let next : PageRights = record { page = c.args.end; rights = c.args.was } in
    let gap : IsGap xs c.args.end c.args.spot = gap_at_end xs c.requires.rise c.args.first c.args.end c.args.spot c.requires.spot c.requires.some c.requires.one
    (subst (λ (l : List PageRights). (d : PageRights) → c.args.spot < length l → (get_or l c.args.spot d).page ≡ c.args.end → ⊥) c.as_slice.ensures c.in-None.ensures.none) in
    ap (λ (o : Option Rights). unwrap_or o c.args.rights)
    (ap (λ (l : List PageRights). listed_rights l c.args.end) (c.in_ok-insert_at-in-None.ensures.ok ∙ ap (λ (n : PageRights). insert c.args.list.now.items c.args.spot n) c.new-follows.ensures)
    ∙ put_here (listed_rights xs) (listed_rights (insert xs c.args.spot next)) c.args.end (Some c.args.was) (put_between xs c.args.spot c.args.end c.args.was gap))
    ∙ sym (ap (λ (o : Option Rights). unwrap_or o c.args.was) (listed_gap xs c.requires.rise c.args.end c.args.spot gap))

pub returns-in_ok-insert_at-in-None-clause-once : goal.returns-in_ok-insert_at-in-None-clause-once
returns-in_ok-insert_at-in-None-clause-once c inside known =
    let xs = c.args.list.now.items in
    let gap : IsGap xs c.args.end c.args.spot = gap_at_end xs c.requires.rise c.args.first c.args.end c.args.spot c.requires.spot c.requires.some c.requires.one
    (subst (λ (l : List PageRights). (d : PageRights) → c.args.spot < length l → (get_or l c.args.spot d).page ≡ c.args.end → ⊥) c.as_slice.ensures c.in-None.ensures.none) in
    absurd (some_none (sym known ∙ listed_gap xs c.requires.rise c.args.end c.args.spot gap))
  where
    some_none : {rights : Rights} → Some rights ≡ None → ⊥
    some_none e = search rules

pub returns-in_ok-insert_at-in-None-clause-elsewhere : goal.returns-in_ok-insert_at-in-None-clause-elsewhere
returns-in_ok-insert_at-in-None-clause-elsewhere c q apart =
    let xs = c.args.list.now.items in
    let next : PageRights = record { page = c.args.end; rights = c.args.was } in
    let gap : IsGap xs c.args.end c.args.spot = gap_at_end xs c.requires.rise c.args.first c.args.end c.args.spot c.requires.spot c.requires.some c.requires.one
    (subst (λ (l : List PageRights). (d : PageRights) → c.args.spot < length l → (get_or l c.args.spot d).page ≡ c.args.end → ⊥) c.as_slice.ensures c.in-None.ensures.none) in
    ap (λ (l : List PageRights). listed_rights l q) (c.in_ok-insert_at-in-None.ensures.ok ∙ ap (λ (n : PageRights). insert c.args.list.now.items c.args.spot n) c.new-follows.ensures)
    ∙ put_elsewhere (listed_rights xs) (listed_rights (insert xs c.args.spot next)) c.args.end (Some c.args.was) (put_between xs c.args.spot c.args.end c.args.was gap) q apart
