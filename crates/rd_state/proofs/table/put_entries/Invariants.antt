use Rattle.std.proofs.Common.{◌≡◌, ◌++◌, map, take}
use Rattle.rd_state.specs.Making.{table_entry}
use Rattle.rd_state.proofs.table.put_entries.Given as goal

-- the table has its old entries, and behind them those that were put
abbrev pub invariant-loop-entry : goal.invariant-loop-entry
invariant-loop-entry l = l.table ≡ record l.initial.table { entries = l.initial.table.entries ++ map table_entry (take l.entry-index l.entries) }
