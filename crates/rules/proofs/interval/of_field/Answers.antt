-- The range of a field is looked up by its index.
use Rattle.std.proofs.Common.{◌≡◌, ◌∙◌, arith}
use Rattle.rules.proofs.Gathered.{of_field_none, of_field_got}
use Rattle.rules.proofs.interval.of_field.Goals as goal

pub returns-in_err-checked_sub : goal.returns-in_err-checked_sub
returns-in_err-checked_sub c =
    let none : c.args.field ≡ 0 = omega (arith, c.in_err-checked_sub.ensures {u = tt}) in
    c.from_residual.ensures ∙ of_field_none c.args.ranges.now c.args.field none

pub returns : goal.returns
returns c =
    let at = c.in_ok-checked_sub.ensures {u = tt} in
    c.copied.ensures ∙ of_field_got c.args.ranges.now c.args.field c.in_ok-checked_sub.field-0 c.get.result (omega arith) c.get.ensures.lookup
