-- Field by field, what is gathered is what the request has.
use Rattle.std.proofs.Common.{length, rules}
use Rattle.rules.proofs.Gathered.{gathered, within_length}
use Rattle.rules.proofs.values.values_of.Goals as goal

pub returns : goal.returns
returns g c =
    let own = g.Q.RequestKind.values c.args.request.now in
    let long = within_length g.Q.RequestKind.ranges own (g.met.Q.RequestKind.valued c.args.request.now) in
    gathered 0 own (length g.Q.RequestKind.ranges) long g.met.Q.RequestKind.ranged.1 c.from_fn.ensures.items (λ i y q k. search rules)
