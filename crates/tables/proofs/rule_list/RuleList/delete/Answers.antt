-- The list keeps its facts under the edit.
use Rattle.std.proofs.Common.{arith}
use Rattle.tables.specs.declared.edit.Edit.TheVariants.{Delete}
use Rattle.tables.proofs.Kept.{list_kept}
use Rattle.tables.proofs.rule_list.RuleList.delete.Goals as goal

pub invariant_of-self : goal.invariant_of-self
invariant_of-self c =
    let old = c.args.self.now in
    let pre = c.requires in
    let kept = list_kept old (Delete c.args.place) c.remove.new.self pre c.remove.ensures.items in
    record { some = omega arith; few = omega arith; room = omega arith; run = kept.0; whole = kept.1 }
