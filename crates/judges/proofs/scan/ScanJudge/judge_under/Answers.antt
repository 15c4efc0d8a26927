-- The scan's table can be read under an edit that was not declined.
use Rattle.std.proofs.Common.{sym}
use Rattle.judges.proofs.Readings.{readable_under}
use Rattle.judges.proofs.scan.ScanJudge.judge_under.Goals as goal

pub verdict-requires : goal.verdict-requires
verdict-requires g c =
    readable_under _ _ c.args.self.now.table.list g.met.Q.RequestKind.ranged g.met.D.DecisionKind.counted.0 c.rules.ensures
    g.D.DecisionKind.number g.met.D.DecisionKind.numbered c.args.edit.now c.from.ensures (sym c.in_ok-check_edit.ensures)
