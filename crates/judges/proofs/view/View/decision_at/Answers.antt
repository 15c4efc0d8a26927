-- The decision seen at a place is that of the rule that stands there, cut and under the edit.
use Rattle.judges.proofs.Seeing.{seen_rule}
use Rattle.judges.proofs.view.View.decision_at.Goals as goal

pub returns : goal.returns
returns c =
    let v = c.self.inside in
    rw (seen_rule v.rules.now v.edit v.limits c.args.place c.self.invariant c.self.view_is c.requires.0 c.requires.1, ← c.source.ensures) (simp (c.decision_after.ensures, c.cut_decision.ensures, c.decisions.ensures))
