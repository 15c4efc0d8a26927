-- The list keeps its facts under a change of decision.
use Rattle.std.proofs.Common.{◌-◌, ◌<◌, [], length, set, vec_items, ap, arith}
use Rattle.std.specs.Vec.{with_item}
use Rattle.std.proofs.lemmas.List.{get_or_read}
use Rattle.tables.specs.declared.edit.Edit.TheVariants.{Change}
use Rattle.tables.specs.Edits.{with_decision}
use Rattle.tables.proofs.Kept.{list_kept}
use Rattle.tables.proofs.rule_list.RuleList.change.Goals as goal

pub invariant_of-self : goal.invariant_of-self
invariant_of-self c =
    let old = c.args.self.now in
    let rules = vec_items old.rules in
    let i = c.args.place - 1 in
    let long = old.rules.ok.0 in
    let pre = c.requires in
    let within : i < length rules = omega arith in
    let read = get_or_read rules i c.index_mut.result.now within c.index_mut.ensures.value (record { clauses = []; decision = 0 }) in
    let kept = list_kept old (Change c.args.place c.args.decision) (with_item old.rules i (with_decision c.index_mut.result.now c.args.decision)) pre
    (ap (λ rule. set rules i (with_decision rule c.args.decision)) read) in
    record { some = old.some; few = old.few; room = old.room; run = kept.0; whole = kept.1 }
