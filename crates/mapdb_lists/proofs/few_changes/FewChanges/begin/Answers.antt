use Rattle.std.proofs.Common.{sym, subst, []}
use Rattle.std.proofs.lemmas.Result.{on_ok_weaker}
use Rattle.mapdb_lists.specs.FewChanges.{ListedChanges, ShowsChange}
use Rattle.mapdb_lists.proofs.ChangeLemmas.SharedShift.{shown_written}
use Rattle.mapdb_lists.proofs.few_changes.FewChanges.begin.Goals as goal

pub returns : goal.returns
returns c =
    let before : ShowsChange c.self.inside.shift c.args.before = subst (λ (few : ListedChanges). ShowsChange few.shift c.args.before) (sym c.self.view_is) c.requires.before in
    on_ok_weaker c.list_begin.result
    (shown_written c.self.inside.shift [] c.list_begin.new.list.items c.args.first c.args.end c.args.before c.args.before c.args.change before before
    (subst (λ (few : ListedChanges). ShowsChange few.shift c.args.change) (sym c.self.view_is) c.requires.change))
    c.list_begin.ensures.written
