use Rattle.std.proofs.Common.{◌∙◌, sym, subst}
use Rattle.std.proofs.lemmas.Bool.{true≢false}
use Rattle.mapdb_fpage.specs.RightSets.{no_rights}
use Rattle.mapdb_fpage.specs.declared.right_sets.Rights.{Rights}
use Rattle.mapdb_facts.specs.Facts.{state_of_facts}
use Rattle.mapdb_facts.specs.Names.{root}
use Rattle.mapdb_rights.specs.First.{AreAsFar, IsJoined}
use Rattle.mapdb_rights.proofs.Live.FrameRights.{joined_found, joined_here, none_found, root_live}
use Rattle.mapdb_rights.proofs.index.frame_rights.root_rights.Goals as goal

pub returns-then-is_first : goal.returns-then-is_first
returns-then-is_first c =
    let S = state_of_facts c.args.facts.now in
    let changes = c.args.changes.now.own.entries in
    let is = sym c.with_record.ensures in
    record {
      found = subst (λ (r : Rights). AreAsFar S changes c.args.space c.args.page c.args.shift r) is
          (joined_found S changes c.args.space c.args.page c.args.shift root no_rights
          (root_live S changes c.args.space c.args.page c.args.shift c.requires.rights (sym c.is_first.ensures ∙ c.if-is_first.true))
          (none_found S changes c.args.space c.args.page c.args.shift));
      there = λ live. subst (λ (r : Rights). IsJoined changes c.args.page c.args.shift r root) is
          (joined_here S changes c.args.space c.args.page c.args.shift root no_rights);
    }

pub returns-else-is_first : goal.returns-else-is_first
returns-else-is_first c = record {
  found = none_found (state_of_facts c.args.facts.now) c.args.changes.now.own.entries c.args.space c.args.page c.args.shift;
  there = λ live. absurd (true≢false (sym live.into ∙ sym c.is_first.ensures ∙ c.if-is_first.false));
}
