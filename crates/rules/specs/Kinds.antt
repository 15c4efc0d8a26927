-- What the laws of the two sorts of kind say. Assumes nothing.
use Rattle.std.specs.Prelude.{◌≡◌, ℕ, zero, suc, ◌^◌, ◌<◌, ◌≤◌, not, List, [], ◌∷◌, length, IfOk, Some, None, Option, Result, nat_lt}
use Rattle.std.specs.List.{AllByRecursion}
use Rattle.rules.specs.declared.decline.Decline.{Decline}
use Rattle.rules.specs.declared.decline.Decline.TheVariants.{NotOfKind}
use Rattle.rules.specs.declared.interval.Interval.{Interval}
use Rattle.rules.specs.Declines.{declined, unless}
use Rattle.rules.specs.Intervals.{Forward, within}

abbrev pub LawfulRange : Interval → Type 0
LawfulRange r = Forward r × (r.upper < 2 ^ 32)

abbrev pub LawfulRanges : List Interval → Type 0
LawfulRanges ranges = (1 ≤ length ranges) × (length ranges ≤ 6) × AllByRecursion LawfulRange ranges

-- what a list has for a field, fields being numbered from 1
abbrev pub of_field : {A : Type 0} → List A → ℕ → Option A
of_field [] field = None
of_field (x ∷ xs) zero = None
of_field (x ∷ xs) (suc zero) = Some x
of_field (x ∷ xs) (suc (suc field)) = of_field xs (suc field)

-- no request of the kind bears these values: there are not as many as fields, or one lies outside its range
abbrev pub request_decline : List Interval → List ℕ → Option Decline
request_decline ranges values = unless (not (within ranges values)) NotOfKind None

-- what making a request answers: declined 9, or the request that bears just these values
pub record MadeFrom {Q : Type 0} (ranges : List Interval) (values : Q → List ℕ) (given : List ℕ) (r : Result Q Decline) : Type 0 where
  pub answer : declined r ≡ request_decline ranges given
  pub bears : IfOk r (λ q. values q ≡ given)

abbrev pub decision_decline : ℕ → ℕ → Option Decline
decision_decline count number = unless (not (nat_lt number count)) NotOfKind None

-- what making a decision answers: declined 9, or the decision of this number
pub record DecisionMade {D : Type 0} (count : ℕ) (number : D → ℕ) (given : ℕ) (r : Result D Decline) : Type 0 where
  pub answer : declined r ≡ decision_decline count given
  pub has : IfOk r (λ d. number d ≡ given)
