-- The rule seen at a place matches exactly when the kept rule, cut to the limits, does.
use Rattle.judges.proofs.Seeing.{seen_rule}
use Rattle.judges.proofs.view.View.matches_at.Goals as goal

pub returns : goal.returns
returns c =
    let v = c.self.inside in
    rw (seen_rule v.rules.now v.edit v.limits c.args.place c.self.invariant c.self.view_is c.requires.0 c.requires.1, ← c.source.ensures) c.matches.ensures
