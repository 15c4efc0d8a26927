-- A verdict from below, lowered by a layer's note, is the verdict of the layer. Assumes nothing.
use Rattle.std.proofs.Common.{◌≡◌, ℕ, List, ap, ◌∙◌, subst}
use Rattle.judges.specs.Matches.{FirstMatch}
use Rattle.judges.specs.Meanings.{Meaning, Judged, over}
use Rattle.judges.specs.Notes.{Note, noted}
use Rattle.judges.proofs.Judging.{judged}

pub judged_over : (m : Meaning) (note : Note) (values : List ℕ) {decision place set new at all : ℕ} → Judged m values decision place set
    → new ≡ noted note values decision → at ≡ place → all ≡ set → Judged (over note m) values new at all
judged_over m note values below lowered same_place same_set =
    judged (over note m) values (subst (FirstMatch m.rules values) below.place_is below.first)
    (lowered ∙ ap (noted note values) below.decision_is) (same_place ∙ below.place_is) (same_set ∙ below.set_is)
