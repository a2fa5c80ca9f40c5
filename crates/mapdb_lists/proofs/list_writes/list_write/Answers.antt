use Rattle.std.proofs.Common.{List, subst}
use Rattle.mapdb_lists.specs.Changes.{IsRewritten}
use Rattle.mapdb_lists.specs.FewChanges.{listed_rights}
use Rattle.mapdb_lists.specs.declared.few_changes.PageRights.{PageRights}
use Rattle.mapdb_lists.proofs.Lists.Results.{on_both}
use Rattle.mapdb_lists.proofs.ChangeLemmas.ListWrites.{written_parts}
use Rattle.mapdb_lists.proofs.list_writes.list_write.Goals as goal

pub returns-clause-written : goal.returns-clause-written
returns-clause-written c =
    on_both c.write_end.result
    (λ there elsewhere. subst (λ (list : List PageRights). IsRewritten (listed_rights list) c.args.before c.args.first c.args.end c.args.was c.args.rights (listed_rights c.write_end.new.list.items))
    (c.move_one.ensures.kept c.if-move_one.false)
    (written_parts (listed_rights c.move_one.new.list.items) (listed_rights c.write_first.new.list.items) (listed_rights c.write_end.new.list.items) c.args.before c.args.first c.args.end
    c.args.was c.args.rights c.requires.some c.in_ok-spot.ensures.there c.in_ok-spot.ensures.elsewhere there elsewhere))
    c.write_end.ensures.there c.write_end.ensures.elsewhere
