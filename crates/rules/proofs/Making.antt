-- For whoever writes a kind, or makes a decision of a number that there is. Assumes nothing.
use Rattle.std.proofs.Common.{◌≡◌, ℕ, ◌<◌, Bool, true, not, Ok, Err, None, Result, IsOk, refl, ap, ◌∙◌}
use Rattle.std.proofs.Math.Bool.{Bool-set}
use Rattle.std.proofs.lemmas.Bool.{lt-ltb}
use mathlib.Core.HLevel.{is_prop→PathP}
use mathlib.Core.Path.{PathP}
use Rattle.rules.specs.declared.decline.Decline.{Decline}
use Rattle.rules.specs.declared.decline.Decline.TheVariants.{NotOfKind}
use Rattle.rules.specs.Declines.{unless}
use Rattle.rules.specs.Kinds.{DecisionMade}

-- structs with a ghost field that says a test passes are equal where their other fields are: on the way from one test to the other it passes
pub same_test : {a b : Bool} (e : a ≡ b) (p : a ≡ true) (q : b ≡ true) → PathP (λ i. e i ≡ true) p q
same_test e p q = is_prop→PathP (λ i. e i ≡ true) (λ i. Bool-set _ _) p q

-- a decision of a number below their count can be made
pub made_below : {D : Type 0} {count given : ℕ} {number : D → ℕ} (r : Result D Decline) → DecisionMade count number given r → given < count → IsOk r
made_below (Ok d) made below = refl
made_below {count = count} {given = given} (Err e) made below =
    let none = made.answer ∙ ap (λ b. unless (not b) NotOfKind None) (lt-ltb given count below) in
    cc
