-- Each turn sets the next bit exactly when its rule matches.
use Rattle.std.proofs.Common.{◌≡◌, ◌+◌, ◌-◌, take, ap, ◌∙◌, sym, arith}
use Rattle.std.proofs.lemmas.List.{take_all}
use Rattle.judges.specs.Matches.{matching_set}
use Rattle.judges.proofs.Firsts.{set_skip, set_take}
use Rattle.judges.proofs.view.View.matching_set.Goals as goal
use Rattle.judges.proofs.view.View.matching_set.Goals.{then-matches_at, else-matches_at}

pub loop-place-preserved : goal.loop-place-preserved
loop-place-preserved c =
    let count = c.count-place-end.ensures in
    let at : c.loop-place.place ≡ c.loop-place.place + 1 - 1 = omega arith in
    let next = ap (λ n. matching_set (take n c.args.self.now) c.args.values.now) at in
    elim c.if-matches_at.branch [
      | then-matches_at w ↦ w.set-is ∙ set_take _ _ _ _ (omega arith) (omega arith) c.loop-place.invariant (omega arith) (sym c.matches_at.ensures ∙ w.if-matches_at.true) ∙ next
      | else-matches_at w ↦ w.set-is ∙ set_skip _ _ _ _ (omega arith) (omega arith) c.loop-place.invariant (sym c.matches_at.ensures ∙ w.if-matches_at.false) ∙ next
    ]

pub returns-after-matches_at : goal.returns-after-matches_at
returns-after-matches_at c =
    let count = c.count-place-end.ensures in
    let all = ap (λ l. matching_set l c.args.values.now) (take_all c.loop-place.place c.args.self.now (omega arith)) in
    elim c.if-matches_at.branch [
      | then-matches_at w ↦ w.set-is ∙ set_take _ _ _ _ (omega arith) (omega arith) c.loop-place.invariant (omega arith) (sym c.matches_at.ensures ∙ w.if-matches_at.true) ∙ all
      | else-matches_at w ↦ w.set-is ∙ set_skip _ _ _ _ (omega arith) (omega arith) c.loop-place.invariant (sym c.matches_at.ensures ∙ w.if-matches_at.false) ∙ all
    ]
