use Rattle.std.proofs.Common.{◌≡◌, ◌/◌, Some, refl, rules, slice_get}
use Rattle.mapdb_script.proofs.MessageLemmas.{some_copy}
use Rattle.mapdb_script.proofs.StandingTrees.{tree_told}
use Rattle.mapdb_script.proofs.answering.ScriptCluster.tree.Goals as goal

pub returns : goal.returns
returns c accepted stands =
    let copies = c.args.self.now.copies.items in
    let there : slice_get copies 0 ≡ Some c.in-Some.copy.now = search rules in
    rw (
      some_copy copies 0 c.in-Some.copy.now there,
      tree_told copies accepted c.in-Some.copy.now (record { space = c.args.space; number = c.args.address / 4096 }) (rw c.if-not-shows_tree.false at stands) there,
      c.page_answer.ensures,
      c.served-found.ensures.value,
    ) refl
