use Rattle.std.proofs.Common.{◌≡◌, ◌+◌, false, sym, ◌∙◌}
use Rattle.mapdb_fpage.specs.RightSets.{is_empty}
use Rattle.mapdb_facts.specs.Facts.{state_of_facts}
use Rattle.mapdb_lists.specs.Changes.{seen_in}
use Rattle.mapdb_rights.specs.Frame.{frame_at}
use Rattle.mapdb_rights.specs.Right.{rights_at}
use Rattle.mapdb_rights.proofs.Rights.FramesFrom.{pair_is}
use Rattle.mapdb_rights.proofs.index.page_pairs.pair_of.Goals as goal

pub returns : goal.returns
returns c =
    let S = state_of_facts c.args.facts.now in
    let seen : c.seen_at-change.result ≡ seen_in c.args.changes.now.own.entries c.args.id c.args.page = c.seen_at-change.ensures in
    let some : is_empty c.seen_at-change.result.rights ≡ false = sym c.is_none.ensures ∙ c.if-is_none.false in
    let has = c.requires.frames c.args.id c.args.page ((λ i. is_empty (sym seen i).rights) ∙ some) in
    pair_is (frame_at S c.args.id c.args.page) (rights_at S c.args.id c.args.page) c.seen_at-change.result.rights c.frame.result has.frame has.reached
    (c.frame.ensures has.frame has.below (has.far ∙ (λ i. c.args.page + (sym seen i).shift)))
    ((λ i. (seen i).rights) ∙ c.requires.rights c.args.id c.args.page) some
