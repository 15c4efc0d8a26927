-- Adding a rule to a draft: how it is declined, and what it leaves. Assumes nothing.
use Rattle.std.specs.Prelude.{◌≡◌, ℕ, List, [], ◌∷◌, ◌++◌, length, take, None, Option, nat_le}
use Rattle.rules.specs.declared.decline.Decline.{Decline}
use Rattle.rules.specs.declared.decline.Decline.TheVariants.{Full}
use Rattle.rules.specs.declared.interval.Interval.{Interval}
use Rattle.rules.specs.declared.rule.Rule.{Rule}
use Rattle.rules.specs.Declines.{unless, or_else, left_by}
use Rattle.rules.specs.Clauses.{clause_decline}
use Rattle.rules.specs.Rules.{above_default}

-- field by field; clauses past the kind's fields are not asked
abbrev pub clauses_decline : List Interval → List Interval → Option Decline
clauses_decline [] clauses = None
clauses_decline (range ∷ ranges) [] = None
clauses_decline (range ∷ ranges) (clause ∷ clauses) = or_else (clause_decline range clause) (clauses_decline ranges clauses)

-- a draft holds 63 rules besides the default, so 64 in all
abbrev pub add_decline : List Interval → ℕ → List Interval → Option Decline
add_decline ranges n clauses = unless (nat_le 64 n) Full (clauses_decline ranges clauses)

-- the rule as it was given, with as many clauses as the kind has fields
abbrev pub given_rule : List Interval → List Interval → ℕ → Rule
given_rule ranges clauses decision = record { clauses = take (length ranges) clauses; decision = decision }

-- what adding answers and leaves: declined, and the rules as they were, or the rule directly above the default
pub record Added (ranges : List Interval) (before : List Rule) (clauses : List Interval) (decision : ℕ) (answer : Option Decline) (after : List Rule) : Type 0 where
  pub declines : answer ≡ add_decline ranges (length before) clauses
  pub leaves : after ≡ left_by answer (above_default before (given_rule ranges clauses decision)) before
  -- a draft is the rules accepted so far, in the order in which they were added, and then its default
  pub in_order : (accepted : List Rule) (default : Rule) → before ≡ accepted ++ (default ∷ [])
      → after ≡ left_by answer ((accepted ++ (given_rule ranges clauses decision ∷ [])) ++ (default ∷ [])) before
