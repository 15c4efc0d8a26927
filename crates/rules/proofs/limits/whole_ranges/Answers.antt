-- Field by field, what is gathered is the kind's range, and past its fields 0 to 0.
use Rattle.std.proofs.Common.{length, refl, rules}
use Rattle.rules.specs.Intervals.{from_to}
use Rattle.rules.proofs.Gathered.{gathered, blank_past}
use Rattle.rules.proofs.limits.whole_ranges.Goals as goal

pub returns-clause-own : goal.returns-clause-own
returns-clause-own g c =
    let own = g.Q.RequestKind.ranges in
    gathered (from_to 0 0) own (length own) refl g.met.Q.RequestKind.ranged.1 c.from_fn.ensures.items (λ i y q k. search rules)

pub returns-clause-past : goal.returns-clause-past
returns-clause-past g c =
    let own = g.Q.RequestKind.ranges in
    blank_past (from_to 0 0) own (length own) refl g.met.Q.RequestKind.ranged.1 c.from_fn.ensures.items (λ i y q k. search rules)
