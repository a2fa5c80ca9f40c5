use Rattle.std.proofs.Common.{◌<◌, length, arith}
use Rattle.mapdb_replica.proofs.Pages.PairSets.{few_by_frame}
use Rattle.mapdb_replica.proofs.page_rights.by_frame.Goals as goal

pub returns-then-len-lt2 : goal.returns-then-len-lt2
returns-then-len-lt2 c =
    let few : length c.args.pairs.items < 2 = omega (arith, c.len.ensures, c.if-len-lt2.true) in
    few_by_frame c.args.pairs.items few c.requires
