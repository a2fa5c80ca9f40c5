use Rattle.std.proofs.Common.{ap, subst, sym, ◌∙◌, arith}
use Rattle.std.proofs.lemmas.Bool.{true≢false}
use Rattle.mapdb_lists.specs.Changes.{IsRewritten}
use Rattle.mapdb_lists.specs.OwnChanges.{own_change}
use Rattle.mapdb_lists.specs.declared.changes.Change.{Change}
use Rattle.mapdb_lists.proofs.ChangeLemmas.ListWrites.{rights_known}
use Rattle.mapdb_lists.proofs.own_changes.OwnChanges.replace.Goals as goal

pub returns : goal.returns
returns c =
    let found = c.stretch_from-was.ensures in
    record {
      above = omega arith;
      within = omega arith;
      one = λ q after before. found.none q after (omega arith);
      how = record {
        other = λ same.
            true≢false (sym (rights_known c.eq.result c.stretch_from-was.result.change.rights c.args.change.rights c.eq.ensures
            (ap (λ (change : Change). change.rights) found.seen ∙ same)) ∙ c.if-eq.false);
        given = subst (λ (was : Change). IsRewritten (own_change c.args.self.now) c.args.before c.args.first c.min-end.result was c.args.change (own_change c.write.new.self)) found.seen c.in_ok-write.ensures;
        some = c.has_some-had_some.ensures.some;
        none = c.has_some-had_some.ensures.none;
      };
    }
