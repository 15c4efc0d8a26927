-- The ranges that limits keep run forward, by the law of the kind of request.
use Rattle.std.proofs.Common.{take, ap, ◌∙◌}
use Rattle.rules.specs.Intervals.{every, forward}
use Rattle.rules.proofs.Insides.{forward_ranges}
use Rattle.rules.proofs.limits.Limits.of.Goals as goal

pub invariant_of-result-clause-run : goal.invariant_of-result-clause-run
invariant_of-result-clause-run g c =
    let own = g.met.Q.RequestKind.ranged in
    ap (λ k. every forward (take k c.whole_ranges.result)) c.field_count.ensures ∙ ap (every forward) c.whole_ranges.ensures.own ∙ forward_ranges g.Q.RequestKind.ranges own.2
