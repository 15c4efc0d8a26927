-- A value that is not kept yet leaves no value twice, and bars what bears it.
use Rattle.std.proofs.Common.{vec_items, sym, ◌∙◌, eq-eqb}
use Rattle.layers.proofs.KeptLists.{apart_push, withdraw_bars}
use Rattle.layers.proofs.withdrawing.KeptValuesKeeper.withdraw.Goals as goal

pub invariant_of-self : goal.invariant_of-self
invariant_of-self c =
    let kept = c.args.self.now in
    record { apart = rw c.push.ensures.items (apart_push (vec_items kept.list.items) c.args.value kept.apart (sym c.holds.ensures ∙ c.if-holds.false)) }

pub returns-clause-bars : goal.returns-clause-bars
returns-clause-bars c =
    let now = c.push.new.self in
    withdraw_bars now.field c.args.field c.args.value (vec_items c.args.self.now.list.items) (vec_items now.items)
    (eq-eqb now.field c.args.field (c.push.ensures.field ∙ sym c.if-field-self.false)) c.push.ensures.items _
