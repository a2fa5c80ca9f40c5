use Rattle.std.proofs.Common.{◌≡◌, sym, subst}
use Rattle.std.proofs.lemmas.Result.{on_ok_weaker}
use Rattle.mapdb_lists.specs.Changes.{IsRewritten, changed}
use Rattle.mapdb_lists.specs.FewChanges.{ShowsChange, ListedChanges, few_change}
use Rattle.mapdb_lists.proofs.ChangeLemmas.SharedShift.{shown_standing, shown_written}
use Rattle.mapdb_lists.proofs.few_changes.FewChanges.write.Goals as goal

pub returns : goal.returns
returns c =
    on_ok_weaker c.list_write.result
    (λ given. subst (λ (few : ListedChanges). IsRewritten (few_change few) c.args.before c.args.first c.args.end c.args.was c.args.change
    (few_change (record { shift = c.self.inside.shift; list = c.list_write.new.list.items }))) c.self.view_is
    (shown_written c.self.inside.shift c.self.inside.list.items c.list_write.new.list.items c.args.first c.args.end c.args.before c.args.was c.args.change
    (subst (λ (few : ListedChanges). ShowsChange few.shift c.args.before) (sym c.self.view_is) c.requires.before)
    (shown_standing (record { shift = c.self.inside.shift; list = c.self.inside.list.items }) c.args.before c.args.was c.args.first
    (subst (λ (few : ListedChanges). ShowsChange few.shift c.args.before) (sym c.self.view_is) c.requires.before)
    (subst (λ (few : ListedChanges). c.args.was ≡ changed (few_change few) c.args.before c.args.first) (sym c.self.view_is) c.requires.was))
    (subst (λ (few : ListedChanges). ShowsChange few.shift c.args.change) (sym c.self.view_is) c.requires.change)
    given))
    c.list_write.ensures.written
