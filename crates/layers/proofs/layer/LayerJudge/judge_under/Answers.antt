-- A verdict from below under the edit, lowered, is the layer's.
use Rattle.tables.specs.Edits.{plain_edit}
use Rattle.judges.specs.Meanings.{edited_meaning}
use Rattle.layers.proofs.layer.LayerJudge.judge_under.Goals as goal

pub returns : goal.returns
returns g c =
    let below = c.in_ok-verdict.ensures in
    let m = edited_meaning (g.J.Judge.meaning c.args.self.now.below) (plain_edit g.J.Decision.DecisionKind.number c.args.edit.now) in
    record { declines = below.declines; judged = c.lowered.ensures m below.judged }
