-- The ranges of a pair: twice the first range of another kind. Assumes nothing.
use Rattle.std.specs.Prelude.{◌≡◌, List, [], ◌∷◌, length, slice_index_or, refl}
use Rattle.std.proofs.Common.{arith, rules}
use Rattle.rules.specs.declared.interval.Interval.{Interval}
use Rattle.rules.specs.Intervals.{from_to}
use Rattle.rules.specs.Kinds.{LawfulRange, LawfulRanges}

abbrev pub pair_ranges : List Interval → List Interval
pair_ranges ranges = slice_index_or ranges 0 (from_to 0 0) ∷ slice_index_or ranges 0 (from_to 0 0) ∷ []

pub pair_counted : (ranges : List Interval) → 2 ≡ length (pair_ranges ranges)
pair_counted ranges = refl

first_lawful : (ranges : List Interval) → LawfulRanges ranges → LawfulRange (slice_index_or ranges 0 (from_to 0 0))
first_lawful [] h = search rules
first_lawful (r ∷ rs) h = h.2.0

pub pair_lawful : (ranges : List Interval) → LawfulRanges ranges → LawfulRanges (pair_ranges ranges)
pair_lawful ranges h = let one = first_lawful ranges h in (omega arith, omega arith, (one, (one, tt)))
