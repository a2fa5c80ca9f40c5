-- Rows of a translation table as C has them.
use Rattle.mapdb_fpage.specs.RightSets.{bits_of}
use Rattle.mapdb_table.specs.declared.rows.TableRow.{TableRow}
use Rattle.mapdb_c.specs.RawPlaces.{raw_space}
use Rattle.mapdb_c.specs.declared.tables.RawRow.{RawRow}

abbrev pub raw_row : TableRow → RawRow
raw_row row = record {
  space = raw_space row.space;
  page = row.page;
  count = row.count;
  frame = row.frame;
  rights = bits_of row.rights;
  reserved = 0;
}
