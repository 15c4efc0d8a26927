-- The first matching rule and the set of all matching rules. Assumes nothing.
-- Example: of four rules, of which those at places 1, 2 and 4 match, the first match is 1 and the set is 1 + 2 + 8 = 11.
use Rattle.std.specs.Prelude.{◌≡◌, ℕ, suc, ◌+◌, ◌-◌, ◌*◌, ◌/◌, ◌%◌, ◌^◌, ◌<◌, ◌≤◌, Bool, true, false, cond, List, [], ◌∷◌, length, ◌==◌}
use Rattle.rules.specs.declared.rule.Rule.{Rule}
use Rattle.rules.specs.Rules.{matches, rule_at}

-- as installers read it: the rule at this place matches, and none above it does
pub record FirstMatch (rules : List Rule) (values : List ℕ) (place : ℕ) : Type 0 where
  pub from_one : 1 ≤ place
  pub to_last : place ≤ length rules
  pub this : matches (rule_at rules place) values ≡ true
  pub none_above : (p : ℕ) → 1 ≤ p → p < place → matches (rule_at rules p) values ≡ false

-- the same place, computed from the top
abbrev pub first_match : List Rule → List ℕ → ℕ
first_match [] values = 1
first_match (rule ∷ rules) values = cond (matches rule values) 1 (suc (first_match rules values))

-- bit k of a number, bits counted from 0
abbrev pub bit : ℕ → ℕ → Bool
bit set k = (set / 2 ^ k % 2) == 1

-- bit p - 1 is set exactly when the rule at place p matches, and no bit stands past the last rule
pub record Matching (rules : List Rule) (values : List ℕ) (set : ℕ) : Type 0 where
  pub at_place : (p : ℕ) → 1 ≤ p → p ≤ length rules → bit set (p - 1) ≡ matches (rule_at rules p) values
  pub no_more : set < 2 ^ length rules

-- the same set, computed from the top
abbrev pub matching_set : List Rule → List ℕ → ℕ
matching_set [] values = 0
matching_set (rule ∷ rules) values = cond (matches rule values) 1 0 + 2 * matching_set rules values
