-- The rules that a table keeps are lawful for its kinds.
use Rattle.tables.proofs.Cuts.{list_lawful}
use Rattle.tables.proofs.table.Table.count.Goals as goal

pub returns-clause-lawful : goal.returns-clause-lawful
returns-clause-lawful g c = list_lawful c.args.self.now.list g.Q.RequestKind.ranges g.D.DecisionKind.count g.met.Q.RequestKind.ranged g.met.D.DecisionKind.counted.0
