-- The rules that a draft or a table stands for: those that it keeps, cut to its kinds' own ranges and decisions. Assumes nothing.
use Rattle.std.specs.Prelude.{ℕ, List, vec_items}
use Rattle.tables.specs.declared.draft.Draft.{Draft}
use Rattle.rules.specs.declared.interval.Interval.{Interval}
use Rattle.rules.specs.declared.rule.Rule.{Rule}
use Rattle.tables.specs.declared.table.Table.{Table}
use Rattle.rules.specs.Rules.{cut}

abbrev pub table_rules : {Q D : Type 0} → List Interval → ℕ → Table Q D → List Rule
table_rules ranges count table = cut ranges count (vec_items table.list.rules)

-- a draft is a table in the making
abbrev pub draft_rules : {Q D : Type 0} → List Interval → ℕ → Draft Q D → List Rule
draft_rules ranges count draft = table_rules ranges count draft.table
