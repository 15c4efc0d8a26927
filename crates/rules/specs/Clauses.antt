-- How an interval is declined as a clause, or as a window, on a field. Assumes nothing.
use Rattle.std.specs.Prelude.{not, None, Option}
use Rattle.rules.specs.declared.decline.Decline.{Decline}
use Rattle.rules.specs.declared.decline.Decline.TheVariants.{OutsideRange, LowerAboveUpper}
use Rattle.rules.specs.declared.interval.Interval.{Interval}
use Rattle.rules.specs.Declines.{unless}
use Rattle.rules.specs.Intervals.{inside, forward}

-- first its lower end, then its upper, then that the lower is not above the upper
abbrev pub clause_decline : Interval → Interval → Option Decline
clause_decline range clause =
    unless (not (inside range clause.lower)) OutsideRange
    (unless (not (inside range clause.upper)) OutsideRange
    (unless (not (forward clause)) LowerAboveUpper None))
