-- What lasts from turn to turn: the set so far is that of the rules so far.
use Rattle.std.proofs.Common.{◌≡◌, ◌-◌, take}
use Rattle.judges.specs.Matches.{matching_set}
use Rattle.judges.proofs.view.View.matching_set.Given as goal

abbrev pub invariant-loop-place : goal.invariant-loop-place
invariant-loop-place l = l.set ≡ matching_set (take (l.place - 1) l.self) l.values
