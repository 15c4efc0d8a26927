-- Clauses that are not declined run forward, and an accepted rule is not changed by the cut.
use Rattle.std.proofs.Common.{◌≤◌, ◌∙◌, length, vec_items, sym, arith, rules}
use Rattle.tables.proofs.Added.{added}
use Rattle.tables.proofs.Adding.{taken_forward}
use Rattle.tables.proofs.draft.Draft.add.Goals as goal

pub asked-requires-clause-run : goal.asked-requires-clause-run
asked-requires-clause-run g c = taken_forward c.ranges-ranges.result.now c.args.clauses (search rules) (sym c.in_ok-check_clauses.ensures)

pub returns-clause-added : goal.returns-clause-added
returns-clause-added g c =
    let list = c.args.self.now.table.list.rules in
    let many = c.count.ensures.count in
    let own = c.ranges-ranges.ensures.value ∙ c.of-own.ensures.ranges in
    let six : length c.ranges-ranges.result.now ≤ length c.args.clauses = search rules in
    added g.Q.RequestKind.ranges g.D.DecisionKind.count (vec_items list) (vec_items c.add.new.self.rules) c.args.clauses c.asked.result (g.D.DecisionKind.number c.args.decision)
    (omega arith) (rw own at six) (g.met.D.DecisionKind.numbered c.args.decision)
    (rw own at c.in_ok-check_clauses.ensures) (rw own at c.asked.ensures.same) (rw c.number.ensures at c.add.ensures)
