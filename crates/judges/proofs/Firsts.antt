-- The first match and the matching set, read one place after the other from the top. Assumes nothing.
use Rattle.std.proofs.Common.{◌≡◌, ℕ, suc, ◌+◌, ◌-◌, ◌*◌, ◌%◌, ◌^◌, ◌<◌, ◌≤◌, Bool, true, false, not, cond, List, [], ◌∷◌, ◌++◌, length, get_or, take, Option, Some, None, MatchOption, sym, refl, subst, ap, ◌∙◌, arith}
use lib.Bits.{bit_or}
use Rattle.std.specs.List.{position_or_len}
use native.Mathlib.Numerals.{unary_clauses}
use Rattle.std.proofs.lemmas.Bool.{cond_both}
use Rattle.std.proofs.lemmas.List.{length-take, take_more}
use Rattle.std.proofs.lemmas.List.Recursion.{same_from_clauses}
use Rattle.std.proofs.lemmas.List.Sums.{position_or_len_is}
use Rattle.std.proofs.lemmas.Nat.{one_shl, or_comm, or_shifted}
use Rattle.std.proofs.Math.Nat.{pow-succ'}
use Rattle.rules.specs.declared.rule.Rule.{Rule}
use Rattle.rules.specs.Rules.{matches, rule_at}
use Rattle.tables.proofs.Cuts.{blank}
use Rattle.judges.specs.Matches.{FirstMatch, first_match, matching_set}

-- the computed place, in std's words
first_at : (rules : List Rule) (values : List ℕ) → first_match rules values ≡ suc (position_or_len (λ rule. matches rule values) rules)
first_at rules values =
    let past : (b : Bool) (n : ℕ) → suc (cond (not b) (1 + n) 0) ≡ cond b 1 (suc (suc n)) = λ b n. elim b as (λ t. suc (cond (not t) (1 + n) 0) ≡ cond t 1 (suc (suc n))) [ true ↦ refl | false ↦ omega arith ] in
    same_from_clauses (λ l. first_match l values) (λ l. suc (position_or_len (λ rule. matches rule values) l)) (λ rule n. cond (matches rule values) 1 (suc n)) refl (λ _ _. refl)
    (λ rule rest. past (matches rule values) (position_or_len (λ r. matches r values) rest)) rules

-- a first match as installers read it is the computed place
pub first_is : (rules : List Rule) (values : List ℕ) (place : ℕ) → FirstMatch rules values place → place ≡ first_match rules values
first_is rules values place first =
    let low = first.from_one in
    let high = first.to_last in
    let at = position_or_len_is (λ rule. matches rule values) rules (place - 1) blank (omega arith) (λ k above. simp unary_clauses at (first.none_above (suc k) (omega arith) (omega arith))) (λ _. first.this) in
    let is = first_at rules values in
    omega arith

twice : (b : Bool) (n : ℕ) → cond b (2 ^ suc n) 0 ≡ 2 * cond b (2 ^ n) 0
twice true n = pow-succ' 2 n
twice false n = refl

-- one rule more adds its bit
set_push : (rules : List Rule) (rule : Rule) (values : List ℕ) → matching_set (rules ++ rule ∷ []) values ≡ matching_set rules values + cond (matches rule values) (2 ^ length rules) 0
set_push [] rule values = omega arith
set_push (r ∷ rules) rule values =
    let rest = set_push rules rule values in
    let next = twice (matches rule values) (length rules) in
    omega arith

set_more : (rules : List Rule) (values : List ℕ) (k : ℕ) → k < length rules
    → matching_set (take (k + 1) rules) values ≡ matching_set (take k rules) values + cond (matches (get_or rules k blank) values) (2 ^ k) 0
set_more rules values k here =
    ap (λ l. matching_set l values) (take_more rules k blank here) ∙ set_push (take k rules) (get_or rules k blank) values
    ∙ ap (λ n. matching_set (take k rules) values + cond (matches (get_or rules k blank) values) (2 ^ n) 0) (omega (arith, length-take k rules))

-- no bit stands past the last rule
pub no_more_bits : (rules : List Rule) (values : List ℕ) → matching_set rules values < 2 ^ length rules
no_more_bits [] values = omega arith
no_more_bits (rule ∷ rules) values =
    let rest = no_more_bits rules values in
    let power = pow-succ' 2 (length rules) in
    cond_both (matches rule values) 1 0 (λ n. n + 2 * matching_set rules values < 2 ^ suc (length rules)) (λ _. omega arith) (λ _. omega arith)

-- a bit past those of a number is added to it
or_next : (set k : ℕ) → set < 2 ^ k → k < 64 → bit_or set ((1 * 2 ^ k) % 2 ^ 64) ≡ set + 2 ^ k
or_next set k small few = ap (bit_or set) (one_shl k 64 few) ∙ or_comm set (2 ^ k) ∙ ap (λ p. bit_or p set) (omega arith) ∙ or_shifted 1 k set small ∙ omega arith

module _ (rules : List Rule) (values : List ℕ) (set place : ℕ) (low : 1 ≤ place) (high : place ≤ length rules) (so_far : set ≡ matching_set (take (place - 1) rules) values) where
  turn : (t : Bool) → matches (rule_at rules place) values ≡ t → set + cond t (2 ^ (place - 1)) 0 ≡ matching_set (take place rules) values
  turn t is =
      let next : place - 1 + 1 ≡ place = omega arith in
      ap (λ s. s + cond t (2 ^ (place - 1)) 0) so_far ∙ ap (λ b. matching_set (take (place - 1) rules) values + cond b (2 ^ (place - 1)) 0) (sym is)
      ∙ sym (set_more rules values (place - 1) (omega arith)) ∙ ap (λ n. matching_set (take n rules) values) next

  -- the set of the rules so far, after one that does not match and after one that does
  pub set_skip : matches (rule_at rules place) values ≡ false → set ≡ matching_set (take place rules) values
  set_skip is = let same = turn false is in omega arith

  pub set_take : length rules ≤ 64 → matches (rule_at rules place) values ≡ true → bit_or set ((1 * 2 ^ (place - 1)) % 2 ^ 64) ≡ matching_set (take place rules) values
  set_take few is =
      let long : length (take (place - 1) rules) ≡ place - 1 = omega (arith, length-take (place - 1) rules) in
      let small = subst (λ n. matching_set (take (place - 1) rules) values < 2 ^ n) long (no_more_bits (take (place - 1) rules) values) in
      or_next set (place - 1) (omega arith) (omega arith) ∙ turn true is

-- what `find` answers over the places is the first match
pub found : (rules : List Rule) (values : List ℕ) (n : ℕ) (place : Option ℕ) → n ≡ length rules
    → MatchOption place ((p : ℕ) → 1 ≤ p → p < n + 1 → matches (rule_at rules p) values ≡ false)
    (λ i. (1 ≤ i) × (i < n + 1) × (matches (rule_at rules i) values ≡ true) × ((p : ℕ) → 1 ≤ p → p < i → matches (rule_at rules p) values ≡ false))
    → MatchOption place ((p : ℕ) → 1 ≤ p → p ≤ length rules → matches (rule_at rules p) values ≡ false) (FirstMatch rules values)
found rules values n None long none = λ p low high. none p low (omega arith)
found rules values n (Some i) long first = record { from_one = first.0; to_last = let high = first.1 in omega arith; this = first.2; none_above = first.3 }
