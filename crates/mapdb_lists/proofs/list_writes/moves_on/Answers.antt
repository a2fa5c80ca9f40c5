use Rattle.std.proofs.Common.{◌≡◌, sym, ◌∙◌}
use Rattle.std.proofs.lemmas.Bool.{true≢false}
use Rattle.mapdb_lists.specs.Changes.{left_before}
use Rattle.mapdb_lists.specs.FewChanges.{listed_rights}
use Rattle.mapdb_lists.proofs.ChangeLemmas.FewChanges.{front_there}
use Rattle.mapdb_lists.proofs.ChangeLemmas.ListWrites.{rights_known, rights_same}
use Rattle.mapdb_lists.proofs.ChangeLemmas.MovedChanges.{none_behind}
use Rattle.mapdb_lists.proofs.list_writes.moves_on.Goals as goal

pub returns-then-eq : goal.returns-then-eq
returns-then-eq c first there some one =
    let xs = c.args.list.now in
    let left : c.in_front.result ≡ left_before (listed_rights xs) c.args.before first = c.in_front.ensures first (front_there xs c.requires.rise first c.args.index there) in
    let none = none_behind xs c.requires.rise first c.args.end c.args.index some one there c.change_there.result c.is_none.result c.is_none.ensures c.change_there.ensures.none c.change_there.ensures.change in
    ((λ is. record { left = rights_same c.eq.result c.args.rights c.in_front.result c.eq.ensures c.if-eq.true ∙ left; none = none.0 is }), (λ on. none.1 on.none))

pub returns-else-eq : goal.returns-else-eq
returns-else-eq c first there some one =
    let xs = c.args.list.now in
    let left : c.in_front.result ≡ left_before (listed_rights xs) c.args.before first = c.in_front.ensures first (front_there xs c.requires.rise first c.args.index there) in
    ((λ is. absurd (true≢false (sym is ∙ c.if-eq.false))), (λ on. rights_known c.eq.result c.args.rights c.in_front.result c.eq.ensures (on.left ∙ sym left)))
