use Rattle.std.proofs.Common.{◌≡◌, ◌+◌, false, Some, ap, sym, ◌∙◌}
use Rattle.mapdb_fpage.specs.RightSets.{is_empty}
use Rattle.mapdb_lists.specs.Changes.{seen_in}
use Rattle.mapdb_rights.specs.Frame.{frame_at}
use Rattle.mapdb_rights.specs.Right.{rights_at}
use Rattle.mapdb_rights.proofs.Rights.FramesFrom.{pair_is}
use Rattle.mapdb_rights.proofs.index.rights_index.RightsIndex.pair_at.Goals as goal

pub returns-clause-pair : goal.returns-clause-pair
returns-clause-pair c S stands =
    let seen : c.seen_at-change.result ≡ seen_in c.args.self.now.changes.own.entries c.args.id c.args.page = c.seen_at-change.ensures in
    let some : is_empty c.seen_at-change.result.rights ≡ false = sym c.is_none.ensures ∙ c.if-is_none.false in
    let has = stands.stands.shows.frames c.args.id c.args.page ((λ i. is_empty (sym seen i).rights) ∙ some) in
    ap Some (pair_is (frame_at S c.args.id c.args.page) (rights_at S c.args.id c.args.page) c.seen_at-change.result.rights c.frame.result has.frame has.reached
    (c.frame.ensures has.frame has.below (has.far ∙ (λ i. c.args.page + (sym seen i).shift)))
    ((λ i. (seen i).rights) ∙ stands.stands.shows.rights c.args.id c.args.page) some)
