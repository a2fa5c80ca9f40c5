use Rattle.mapdb_snapshot.proofs.rows.push_record.Goals as goal

pub returns : goal.returns
returns c = rw (← c.first_page.ensures.page, ← c.order.ensures.order, ← c.bits.ensures, ← c.number.ensures.number, ← c.processor.ensures, ← c.number-2.ensures.number, ← c.processor-2.ensures) c.push_row.ensures
