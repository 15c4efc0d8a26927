-- The scan's table, lawful and under no edit, can be read.
use Rattle.judges.proofs.Readings.{readable}
use Rattle.judges.proofs.scan.ScanJudge.judge.Goals as goal

pub verdict-requires : goal.verdict-requires
verdict-requires g c = readable _ _ c.args.self.now.table.list g.met.Q.RequestKind.ranged g.met.D.DecisionKind.counted.0 c.rules.ensures
