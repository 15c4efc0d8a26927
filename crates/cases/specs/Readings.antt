-- The ranges of the six sensors. Assumes nothing.
use Rattle.std.specs.Prelude.{List, [], ◌∷◌}
use Rattle.rules.specs.declared.interval.Interval.{Interval}
use Rattle.rules.specs.Intervals.{from_to}

abbrev pub reading_ranges : List Interval
reading_ranges = from_to 0 4294967295 ∷ from_to 5 5 ∷ from_to 0 1 ∷ from_to 10 20 ∷ from_to 4294967294 4294967295 ∷ from_to 1 1000 ∷ []
