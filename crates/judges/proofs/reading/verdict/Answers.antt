-- What is seen is the table cut to the kinds' own limits, under the edit; so a rule matches, its decision can be made, and the verdict is the table's.
use Rattle.std.proofs.Common.{◌∙◌}
use Rattle.std.proofs.lemmas.Option.{MatchOption-at_some}
use Rattle.std.proofs.lemmas.Result.{IfOk-at_ok}
use Rattle.rules.proofs.Making.{made_below}
use Rattle.judges.proofs.Readings.{seen_own, place_found, decision_known, verdict_judged}
use Rattle.judges.proofs.reading.verdict.Goals as goal

pub unwrap-place-requires : goal.unwrap-place-requires
unwrap-place-requires g c =
    let shown = c.new-view.ensures ∙ seen_own c.args.rules.now c.args.edit c.of.result c.of.ensures.ranges c.of.ensures.decisions in
    let same = c.as_slice-values.ensures ∙ c.of-gathered.ensures in
    place_found _ _ _ _ c.requires _ (g.met.Q.RequestKind.valued c.args.request.now) c.first_match.result (rw (shown, same) at c.first_match.ensures)

pub unwrap-requires : goal.unwrap-requires
unwrap-requires g c =
    let shown = c.new-view.ensures ∙ seen_own c.args.rules.now c.args.edit c.of.result c.of.ensures.ranges c.of.ensures.decisions in
    let first = MatchOption-at_some _ _ c.unwrap-place.result c.unwrap-place.ensures c.first_match.ensures in
    made_below c.make.result c.make.ensures (decision_known _ _ _ _ c.requires (rw shown at first) (c.from.ensures ∙ rw shown at c.decision_at.ensures))

pub returns : goal.returns
returns g c =
    let shown = c.new-view.ensures ∙ seen_own c.args.rules.now c.args.edit c.of.result c.of.ensures.ranges c.of.ensures.decisions in
    let same = c.as_slice-values.ensures ∙ c.of-gathered.ensures in
    let first = MatchOption-at_some _ _ c.unwrap-place.result c.unwrap-place.ensures c.first_match.ensures in
    let told = IfOk-at_ok _ c.unwrap.ensures c.make.ensures.has in
    verdict_judged _ _ _ _ c.requires (rw (shown, same) at first) (told ∙ c.from.ensures ∙ rw shown at c.decision_at.ensures) (rw (shown, same) at c.matching_set.ensures)
