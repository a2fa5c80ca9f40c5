use Rattle.std.proofs.Common.{◌<◌, arith, length, refl}
use Rattle.std.proofs.lemmas.Option.{slice_get_read}
use Rattle.mapdb_script.proofs.SendingLemmas.{behind_back, behind_front, behind_own, there_back, there_front}
use Rattle.mapdb_script.specs.Sendings.{known_among}
use Rattle.mapdb_script.proofs.sendings.take_sending.Goals as goal

pub take_between-requires-clause-known : goal.take_between-requires-clause-known
take_between-requires-clause-known c =
    let cut = c.split_at_mut-front in
    let sent = c.requires.sent in
    let long : c.args.sending.sender < length c.args.copies.now = sent.there in
    let there = there_back c.args.copies.now cut.result.0.now cut.result.1.now c.args.into 0 c.args.sending c.index-front-into.result c.index-back-0.result cut.ensures.value (omega (arith, long))
    (omega arith) (omega arith) c.index-front-into.is c.index-back-0.is in
    rw (← c.index-front-into.is, ← c.index-back-0.is) (c.requires.held c.index-front-into.result c.index-back-0.result there.0 there.1)

pub take_between-requires-clause-within : goal.take_between-requires-clause-within
take_between-requires-clause-within c =
    let cut = c.split_at_mut-front in
    let sent = c.requires.sent in
    let long : c.args.sending.sender < length c.args.copies.now = sent.there in
    let there = there_back c.args.copies.now cut.result.0.now cut.result.1.now c.args.into 0 c.args.sending c.index-front-into.result c.index-back-0.result cut.ensures.value (omega (arith, long))
    (omega arith) (omega arith) c.index-front-into.is c.index-back-0.is in
    rw (← c.index-back-0.is) (sent.within c.index-back-0.result there.1)

pub take_between-requires-else-into-sending-clause-known : goal.take_between-requires-else-into-sending-clause-known
take_between-requires-else-into-sending-clause-known c =
    let cut = c.split_at_mut-front-else-into-sending in
    let there = there_front c.args.copies.now cut.result.0.now cut.result.1.now c.args.into 0 c.args.sending c.index-back-0-else-into-sending.result c.index-front-sending.result cut.ensures.value (omega arith)
    (omega arith) (omega arith) c.index-back-0-else-into-sending.is c.index-front-sending.is in
    rw (← c.index-back-0-else-into-sending.is, ← c.index-front-sending.is) (c.requires.held c.index-back-0-else-into-sending.result c.index-front-sending.result there.0 there.1)

pub take_between-requires-else-into-sending-clause-within : goal.take_between-requires-else-into-sending-clause-within
take_between-requires-else-into-sending-clause-within c =
    let cut = c.split_at_mut-front-else-into-sending in
    let sent = c.requires.sent in
    let there = there_front c.args.copies.now cut.result.0.now cut.result.1.now c.args.into 0 c.args.sending c.index-back-0-else-into-sending.result c.index-front-sending.result cut.ensures.value (omega arith)
    (omega arith) (omega arith) c.index-back-0-else-into-sending.is c.index-front-sending.is in
    rw (← c.index-front-sending.is) (sent.within c.index-front-sending.result there.1)

pub returns-then-into-sending : goal.returns-then-into-sending
returns-then-into-sending c =
    let cut = c.split_at_mut-front in
    let sent = c.requires.sent in
    let long : c.args.sending.sender < length c.args.copies.now = sent.there in
    behind_back c.args.copies.now cut.result.0.now cut.result.1.now c.args.into (known_among c.args.sending c.args.mark) c.args.sending c.index-front-into.result c.index-back-0.result cut.ensures.value (omega (arith, long))
    c.take_between.new.copy c.take_between.result (omega arith) (omega arith) c.index-front-into.is c.index-back-0.is (rw (← c.index-front-into.is, ← c.index-back-0.is) at c.take_between.ensures)

pub returns-else-into-sending : goal.returns-else-into-sending
returns-else-into-sending c =
    let cut = c.split_at_mut-front-else-into-sending in
    behind_front c.args.copies.now cut.result.0.now cut.result.1.now c.args.into (known_among c.args.sending c.args.mark) c.args.sending c.index-back-0-else-into-sending.result c.index-front-sending.result cut.ensures.value (omega arith)
    c.take_between-else-into-sending.new.copy c.take_between-else-into-sending.result (omega arith) (omega arith) c.index-back-0-else-into-sending.is c.index-front-sending.is (rw (← c.index-back-0-else-into-sending.is, ← c.index-front-sending.is) at c.take_between-else-into-sending.ensures)

pub returns-then-sending-into : goal.returns-then-sending-into
returns-then-sending-into c =
    let copy = c.index-copies-into.result in
    behind_own c.args.copies.now c.args.into c.args.sending copy c.take_own.new.copy c.take_own.result (omega arith)
    (slice_get_read c.args.copies.now (length c.args.copies.now) c.args.into copy refl c.requires.into c.index-copies-into.is) (rw (← c.index-copies-into.is) at c.take_own.ensures)
