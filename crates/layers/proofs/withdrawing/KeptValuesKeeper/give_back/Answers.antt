-- A kept value is removed at its index, and is then kept no more.
use Rattle.std.proofs.Common.{◌≡◌, remove, vec_items, arith, refl, sym, ◌∙◌, eq-eqb}
use Rattle.judges.specs.Notes.{without}
use Rattle.layers.proofs.KeptLists.{holds_position, without_index, give_back_frees}
use Rattle.layers.proofs.withdrawing.KeptValuesKeeper.give_back.Goals as goal

pub returns-clause-acted : goal.returns-clause-acted
returns-clause-acted c =
    let kept = c.args.self.now.list in
    let at = sym c.index_of.ensures ∙ c.in-Some.is in
    let own = eq-eqb kept.field c.args.field (sym c.if-field-self.false) in
    let out : without (vec_items kept.items) c.args.value ≡ remove (vec_items kept.items) c.in-Some.index = grind (arith, at, without_index (vec_items kept.items) c.args.value) in
    record {
      answers = rw (own, holds_position (vec_items kept.items) c.args.value, at) refl;
      leaves = rw (own, c.remove.ensures.items, out) refl;
    }

pub returns-clause-frees : goal.returns-clause-frees
returns-clause-frees c =
    let kept = c.args.self.now.list in
    let at = sym c.index_of.ensures ∙ c.in-Some.is in
    give_back_frees kept.field c.args.field c.args.value c.in-Some.index (vec_items kept.items) (vec_items c.remove.new.self) (eq-eqb kept.field c.args.field (sym c.if-field-self.false))
    c.args.self.now.apart at c.remove.ensures.items _
