use Rattle.std.proofs.Common.{◌≡◌, ◌∙◌, ◌++◌, List, ℕ, ap, false, refl, rules, sym, true}
use Rattle.mapdb_script.specs.Answering.{is_refusal, reply_text}
use Rattle.mapdb_script.specs.States.{reply_of}
use Rattle.mapdb_script.proofs.TurnLemmas.{Takes, takes_done, takes_refusal, turn_seen}
use Rattle.mapdb_script.proofs.engine.Engine.take.Goals as goal
use Rattle.mapdb_script.proofs.engine.Engine.take.Goals.{else-is_refusal, then-is_refusal}

pub returns : goal.returns
returns c accepted stands =
    let old = c.args.self.now in
    let new = c.if-is_refusal.self in
    let after = c.shows_tree_after-shows_tree.result in
    let reply = reply_of c.in_ok-reply.reply in
    let takes : Takes old new reply after = elim c.if-is_refusal.branch [
      | then-is_refusal w ↦
          let is : is_refusal reply ≡ true = sym c.is_refusal.ensures ∙ w.if-is_refusal.true in
          rw w.self-is (takes_refusal old _ reply after is refl refl refl refl)
      | else-is_refusal w ↦
          let is : is_refusal reply ≡ false = sym c.is_refusal.ensures ∙ w.if-is_refusal.false in
          rw w.self-is (takes_done old _ reply after is refl refl refl refl)
    ] in
    rw c.in-Some.is (turn_seen old new accepted c.in-Some.line after reply _ stands (rw c.in-Some.is at c.requires.places)
    c.shows_tree_after-shows_tree.ensures (search rules) takes (c.in_ok-push_line.ensures ∙ ap (λ (bytes : List ℕ). bytes ++ reply_text reply) c.clear.ensures.bytes))
