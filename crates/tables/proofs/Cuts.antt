-- Cut rules: they are lawful, and cutting goes before or after an edit alike. Assumes nothing.
use Rattle.std.proofs.Common.{◌≡◌, ℕ, ◌-◌, ◌<◌, ◌≤◌, min, true, List, [], ◌∷◌, length, vec_items, vec_len, None, sym, refl, ap, ◌∙◌, subst, arith}
use Rattle.std.specs.List.{swap, AllByRecursion}
use Rattle.std.proofs.lemmas.List.Elements.{All-map, All-weaker, recursion_from_All}
use Rattle.std.proofs.lemmas.List.{map-set, map-append, take-map, drop-map, get_or-map, length-map}
use Rattle.std.proofs.lemmas.Bool.Decides.{nat_tests}
use Rattle.std.proofs.lemmas.Bool.{and_parts, leb-true}
use Rattle.tables.specs.declared.edit.Edit.{Edit}
use Rattle.tables.specs.declared.edit.Edit.TheVariants.{Change, Swap, Delete}
use Rattle.rules.specs.declared.interval.Interval.{Interval}
use Rattle.rules.specs.declared.rule.Rule.{Rule}
use Rattle.tables.specs.declared.rule_list.RuleList.{RuleList}
use Rattle.tables.specs.Edits.{edit_decline, edited, InPlace, Known}
use Rattle.rules.specs.Intervals.{every, wide, forward, Forward, nearest, cut_interval, from_to}
use Rattle.rules.specs.Kinds.{LawfulRange, LawfulRanges}
use Rattle.rules.specs.Rules.{rule_at, forward_rule, above_default, default_rule, cut_clauses, cut_rule, cut, Lawful, LawfulRule, LawfulClause, LawfulClauses}
use Rattle.tables.proofs.Declining.{taken_in_place}
use Rattle.tables.proofs.Kept.{every_decides}

-- what `rule_at` reads where there is no rule
abbrev pub blank : Rule
blank = record { clauses = []; decision = 0 }

module _ (ranges : List Interval) (count : ℕ) where
  pub length_cut : (rules : List Rule) → length (cut ranges count rules) ≡ length rules
  length_cut rules = length-map rules (cut_rule ranges count)

  pub rule_at_cut : (rules : List Rule) (place : ℕ) → 1 ≤ place → place ≤ length rules → rule_at (cut ranges count rules) place ≡ cut_rule ranges count (rule_at rules place)
  rule_at_cut rules place low high = get_or-map (cut_rule ranges count) rules (place - 1) blank blank (omega arith)

  -- an edit that is not declined on the rules as cut is in place on the rules
  pub cut_in_place : (rules : List Rule) (edit : Edit ℕ) → edit_decline (cut ranges count rules) edit ≡ None → InPlace (length rules) edit
  cut_in_place rules edit taken = subst (λ n. InPlace n edit) (length_cut rules) (taken_in_place (cut ranges count rules) edit taken)

  map_swapped : (rules : List Rule) (i j : ℕ) → i < length rules → j < length rules → cut ranges count (swap rules i j) ≡ swap (cut ranges count rules) i j
  map_swapped [] i j hi hj = refl
  map_swapped (x ∷ xs) i j hi hj =
      let f = cut_rule ranges count in
      rw (get_or-map f (x ∷ xs) i x (f x) hi, get_or-map f (x ∷ xs) j x (f x) hj) (simp map-set refl)

  pub cut_edited : (rules : List Rule) (edit : Edit ℕ) → InPlace (length rules) edit → Known count edit → cut ranges count (edited rules edit) ≡ edited (cut ranges count rules) edit
  cut_edited rules (Change place decision) at known =
      let least : min decision (count - 1) ≡ decision = omega arith in
      simp (map-set, rule_at_cut rules place at.0 at.1, least) refl
  cut_edited rules (Swap first second) at known = map_swapped rules (first - 1) (second - 1) (omega arith) (omega arith)
  cut_edited rules (Delete place) at known = simp (map-append, take-map, drop-map) refl

  pub cut_add : (rules : List Rule) (rule : Rule) → cut ranges count (above_default rules rule) ≡ above_default (cut ranges count rules) (cut_rule ranges count rule)
  cut_add rules rule = simp (map-append, take-map, drop-map, length-map) refl

-- cut to any lawful ranges, wide clauses are the ranges themselves
pub wide_cut : (ranges clauses : List Interval) → AllByRecursion LawfulRange ranges → every wide clauses ≡ true → cut_clauses ranges clauses ≡ ranges
wide_cut [] clauses lawful h = refl
wide_cut (r ∷ rs) [] lawful h = ap (λ l. r ∷ l) (wide_cut rs [] lawful.1 refl)
wide_cut (r ∷ rs) (c ∷ cs) lawful h =
    let both = and_parts (wide c) (every wide cs) h in
    let whole = both.0 in
    let run = lawful.0.0 in
    let fit = lawful.0.1 in
    let lower : nearest r c.lower ≡ r.lower = grind (arith, nat_tests) in
    let upper : nearest r c.upper ≡ r.upper = grind (arith, nat_tests) in
    ap (λ i. i ∷ cut_clauses rs cs) (λ k. from_to (lower k) (upper k)) ∙ ap (λ l. r ∷ l) (wide_cut rs cs lawful.1 both.1)

lawful_cut_clause : (range clause : Interval) → LawfulRange range → Forward clause → LawfulClause range (cut_interval range clause)
lawful_cut_clause r c lawful run = let a = lawful.0 in (omega arith, (omega arith, omega arith), (omega arith, omega arith))

lawful_cut_clauses : (ranges clauses : List Interval) → AllByRecursion LawfulRange ranges → every forward clauses ≡ true → LawfulClauses ranges (cut_clauses ranges clauses)
lawful_cut_clauses [] clauses lawful run = tt
lawful_cut_clauses (r ∷ rs) [] lawful run = let a = lawful.0.0 in ((omega arith, (omega arith, omega arith), (omega arith, omega arith)), lawful_cut_clauses rs [] lawful.1 refl)
lawful_cut_clauses (r ∷ rs) (c ∷ cs) lawful run =
    let both = and_parts (forward c) (every forward cs) run in
    (lawful_cut_clause r c lawful.0 (leb-true c.lower c.upper both.0), lawful_cut_clauses rs cs lawful.1 both.1)

-- what a list of rules stands for is lawful for any kinds, once it is cut to theirs
pub list_lawful : (list : RuleList) (ranges : List Interval) (count : ℕ) → LawfulRanges ranges → 1 ≤ count → Lawful ranges count (cut ranges count (vec_items list.rules))
list_lawful list ranges count lawful counted =
    let rules = vec_items list.rules in
    let kept = list.rules.ok.0 in
    let some = list.some in
    let few = list.few in
    let long = length_cut ranges count rules in
    let last = rule_at_cut ranges count rules (vec_len list.rules) some (omega arith) in
    record {
      some = omega arith;
      few = omega arith;
      each = recursion_from_All (LawfulRule ranges count) (cut ranges count rules)
          (All-map (LawfulRule ranges count) (cut_rule ranges count) rules
          (All-weaker (λ r. forward_rule r ≡ true) (λ r. LawfulRule ranges count (cut_rule ranges count r))
          (λ r run. (lawful_cut_clauses ranges r.clauses lawful.2 run, omega arith)) rules ((every_decides forward_rule rules).0 list.run)));
      default = ap (λ n. (rule_at (cut ranges count rules) n).clauses) (long ∙ sym kept) ∙ ap (λ r. r.clauses) last
          ∙ wide_cut ranges (rule_at rules (vec_len list.rules)).clauses lawful.2 list.whole;
    }

-- the default alone, cut to lawful ranges
pub default_cut : (ranges : List Interval) (count decision : ℕ) → LawfulRanges ranges → decision < count
    → cut ranges count (default_rule decision ∷ []) ≡ record { clauses = ranges; decision = decision } ∷ []
default_cut ranges count decision lawful known =
    let clauses = wide_cut ranges (default_rule decision).clauses lawful.2 refl in
    let least : min decision (count - 1) ≡ decision = omega arith in
    λ k. record { clauses = clauses k; decision = least k } ∷ []
