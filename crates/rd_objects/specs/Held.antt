-- What contracts see in place of the fields of a table.
use Rattle.rd_objects.specs.declared.table.Table.TheInside.{Inside}
use Rattle.rd_objects.specs.Tables.{TableValue}

abbrev pub table_value : Inside → TableValue
table_value t = record {
  entries = t.entries;
  truncation = t.truncation;
  continuation = t.continuation;
  escape = t.escape;
  control = t.control;
  border = t.border;
  ellipsis = t.ellipsis;
}
