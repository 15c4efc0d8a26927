-- The list keeps its facts under the edit.
use Rattle.std.proofs.Common.{arith}
use Rattle.tables.specs.declared.edit.Edit.TheVariants.{Swap}
use Rattle.tables.proofs.Kept.{list_kept}
use Rattle.tables.proofs.rule_list.RuleList.swap.Goals as goal

pub invariant_of-self : goal.invariant_of-self
invariant_of-self c =
    let old = c.args.self.now in
    let pre = c.requires in
    let kept = list_kept old (Swap c.args.first c.args.second) c.swap.new.self pre c.swap.ensures.items in
    record { some = omega arith; few = omega arith; room = omega arith; run = kept.0; whole = kept.1 }
