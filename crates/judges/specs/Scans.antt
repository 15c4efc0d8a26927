-- What a scan means: the table that it was set up over, and no notes. Assumes nothing.
use Rattle.std.specs.Prelude.{ℕ, List, []}
use Rattle.rules.specs.declared.interval.Interval.{Interval}
use Rattle.tables.specs.Tables.{table_rules}
use Rattle.judges.specs.declared.scan.Scan.{Scan}
use Rattle.judges.specs.Meanings.{Meaning}

abbrev pub scan_meaning : {Q D : Type 0} → List Interval → ℕ → Scan Q D → Meaning
scan_meaning ranges count scan = record { rules = table_rules ranges count scan.table; notes = [] }
