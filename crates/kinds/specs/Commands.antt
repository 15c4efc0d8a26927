-- The command kind: its fields' ranges and its decisions' numbers. Assumes nothing.
use Rattle.std.specs.Prelude.{ℕ, ◌+◌, List, [], ◌∷◌}
use Rattle.rules.specs.declared.interval.Interval.{Interval}
use Rattle.kinds.specs.declared.command_decision.CommandDecision.{CommandDecision}
use Rattle.kinds.specs.declared.command_decision.CommandDecision.TheVariants.{Refuse, Hold, Permit}
use Rattle.rules.specs.Intervals.{from_to}

-- code, level, command, loop, minute of the week
abbrev pub command_ranges : List Interval
command_ranges = from_to 0 9999 ∷ from_to 1 4 ∷ from_to 0 63 ∷ from_to 0 16 ∷ from_to 0 10079 ∷ []

-- permission for M minutes is numbered 1 + M, so the longest, 240 minutes, is 241
abbrev pub command_number : CommandDecision → ℕ
command_number Refuse = 0
command_number Hold = 1
command_number (Permit m) = 1 + m.value
