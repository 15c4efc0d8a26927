-- What the plain numbers of two kinds stand for. Assumes nothing.
use Rattle.std.specs.Prelude.{List, take}
use Rattle.rules.specs.declared.interval.Interval.{Interval}
use Rattle.rules.specs.declared.limits.Limits.{Limits}

-- the ranges of the fields that there are
abbrev pub ranges_in : Limits → List Interval
ranges_in l = take l.fields l.ranges
