-- A verdict from below, its decision lowered by the note, is the verdict of the layer; a lowered decision can be made.
use Rattle.std.proofs.Common.{◌≡◌, Some, refl, ap, ◌∙◌, arith}
use Rattle.std.proofs.lemmas.Result.{IfOk-at_ok}
use Rattle.rules.specs.Kinds.{of_field}
use Rattle.rules.proofs.Making.{made_below}
use Rattle.judges.proofs.Lowering.{noted_less}
use Rattle.layers.proofs.Layering.{judged_over}
use Rattle.layers.proofs.layer.lowered.Goals as goal

pub unwrap-requires : goal.unwrap-requires
unwrap-requires g c =
    let number = g.D.DecisionKind.number c.args.verdict.decision in
    let less = noted_less (g.N.Keeper.note c.args.kept.now) (Some c.in-Some.value) number in
    let known = g.met.D.DecisionKind.numbered c.args.verdict.decision in
    made_below c.make.result c.make.ensures (grind (arith, less, known))

pub returns : goal.returns
returns g c m below =
    let note = g.N.Keeper.note c.args.kept.now in
    let values = g.Q.RequestKind.values c.args.request.now in
    let borne = c.in-Some.ensures ∙ ap (of_field values) c.field.ensures in
    let has = IfOk-at_ok (λ d. g.D.DecisionKind.number d ≡ c.from.result) c.unwrap.ensures c.make.ensures.has in
    judged_over m note values below (grind (arith, has, borne)) refl refl
