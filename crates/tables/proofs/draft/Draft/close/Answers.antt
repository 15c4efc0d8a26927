-- A draft's list is lawful for its kinds, and the table keeps that very list.
use Rattle.tables.proofs.Cuts.{list_lawful}
use Rattle.tables.proofs.draft.Draft.close.Goals as goal

pub returns-clause-lawful : goal.returns-clause-lawful
returns-clause-lawful g c = list_lawful c.args.self.table.list g.Q.RequestKind.ranges g.D.DecisionKind.count g.met.Q.RequestKind.ranged g.met.D.DecisionKind.counted.0
