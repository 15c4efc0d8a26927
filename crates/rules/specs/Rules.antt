-- Rules, when one matches, and how rules are cut to the ranges and decisions of their kinds. Assumes nothing.
use Rattle.std.specs.Prelude.{◌≡◌, ℕ, ◌-◌, ◌<◌, ◌≤◌, min, Bool, List, [], ◌∷◌, map, length, replicate, slice_index_or}
use Rattle.std.specs.List.{insert, AllByRecursion}
use Rattle.rules.specs.declared.interval.Interval.{Interval}
use Rattle.rules.specs.declared.rule.Rule.{Rule}
use Rattle.rules.specs.Intervals.{within, cut_interval, from_to, every, forward, Forward, Inside}

-- the rule at a place, the top rule being at place 1; of no use where there is no such place
abbrev pub rule_at : List Rule → ℕ → Rule
rule_at rules place = slice_index_or rules (place - 1) (record { clauses = []; decision = 0 })

-- no clause has its lower end above its upper
abbrev pub forward_rule : Rule → Bool
forward_rule rule = every forward rule.clauses

-- the default as a table keeps it: cut to any ranges, its clauses are the whole ranges
abbrev pub default_rule : ℕ → Rule
default_rule decision = record { clauses = replicate 6 (from_to 0 4294967295); decision = decision }

-- one rule more, directly above the default, which stays last
abbrev pub above_default : List Rule → Rule → List Rule
above_default rules rule = insert rules (length rules - 1) rule

-- a rule matches a request exactly when each value lies in its interval, ends included
abbrev pub matches : Rule → List ℕ → Bool
matches rule values = within rule.clauses values

-- as many clauses as ranges, each cut to its range; where a clause is wanting, the whole range stands
abbrev pub cut_clauses : List Interval → List Interval → List Interval
cut_clauses [] clauses = []
cut_clauses (range ∷ ranges) [] = range ∷ cut_clauses ranges []
cut_clauses (range ∷ ranges) (clause ∷ clauses) = cut_interval range clause ∷ cut_clauses ranges clauses

abbrev pub cut_rule : List Interval → ℕ → Rule → Rule
cut_rule ranges count rule = record { clauses = cut_clauses ranges rule.clauses; decision = min rule.decision (count - 1) }

-- the rules that a table stands for: cut to the kinds' own ranges and decisions, they are lawful whatever numbers the table holds
abbrev pub cut : List Interval → ℕ → List Rule → List Rule
cut ranges count rules = map (cut_rule ranges count) rules

-- both ends in the field's range, the lower not above the upper
abbrev pub LawfulClause : Interval → Interval → Type 0
LawfulClause range clause = Forward clause × Inside range clause.lower × Inside range clause.upper

-- one lawful clause for each range
abbrev pub LawfulClauses : List Interval → List Interval → Type 0
LawfulClauses [] [] = Unit {0}
LawfulClauses [] (clause ∷ clauses) = ⊥
LawfulClauses (range ∷ ranges) [] = ⊥
LawfulClauses (range ∷ ranges) (clause ∷ clauses) = LawfulClause range clause × LawfulClauses ranges clauses

abbrev pub LawfulRule : List Interval → ℕ → Rule → Type 0
LawfulRule ranges count rule = LawfulClauses ranges rule.clauses × (rule.decision < count)

-- what every table in use keeps: 1 to 64 lawful rules, the last of which, the default, matches every request
pub record Lawful (ranges : List Interval) (count : ℕ) (rules : List Rule) : Type 0 where
  pub some : 1 ≤ length rules
  pub few : length rules ≤ 64
  pub each : AllByRecursion (LawfulRule ranges count) rules
  pub default : (rule_at rules (length rules)).clauses ≡ ranges
