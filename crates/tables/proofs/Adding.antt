-- Adding a rule: the checks of its clauses one after the other, and that a rule in range is not cut. Assumes nothing.
use Rattle.std.proofs.Common.{◌≡◌, ℕ, ◌≤◌, true, List, [], ◌∷◌, ◌++◌, length, take, drop, replicate, Some, None, Option, refl, ap, ◌∙◌, ◌⊎◌, inl, inr, le_of_suc-le-suc, not-suc-le-zero, arith}
use Rattle.std.proofs.lemmas.List.Elements.{All-append, All-drop, All-replicate}
use Rattle.std.proofs.lemmas.Bool.Decides.{nat_tests}
use Rattle.std.proofs.lemmas.Bool.{and_from}
use Rattle.rules.specs.declared.decline.Decline.{Decline}
use Rattle.rules.specs.declared.interval.Interval.{Interval}
use Rattle.rules.specs.Clauses.{clause_decline}
use Rattle.tables.specs.Adding.{clauses_decline}
use Rattle.rules.specs.Declines.{or_else}
use Rattle.rules.specs.Intervals.{forward, every, nearest, cut_interval, from_to}
use Rattle.rules.specs.Rules.{cut_clauses}
use Rattle.tables.proofs.Kept.{every_decides}

or_else_none : (o later : Option Decline) → or_else o later ≡ None → (o ≡ None) × (later ≡ None)
or_else_none None later h = (refl, h)
or_else_none (Some d) later h = (cc, cc)

clause_taken : (range clause : Interval) → clause_decline range clause ≡ None → (cut_interval range clause ≡ clause) × (forward clause ≡ true)
clause_taken range clause h =
    let lower : nearest range clause.lower ≡ clause.lower = grind (arith, nat_tests) in
    let upper : nearest range clause.upper ≡ clause.upper = grind (arith, nat_tests) in
    (λ k. from_to (lower k) (upper k), grind (arith, nat_tests))

-- clauses that are not declined run forward
pub taken_forward : (ranges clauses : List Interval) → length ranges ≤ length clauses → clauses_decline ranges clauses ≡ None → every forward (take (length ranges) clauses) ≡ true
taken_forward [] clauses le h = refl
taken_forward (r ∷ rs) [] le h = absurd (not-suc-le-zero le)
taken_forward (r ∷ rs) (c ∷ cs) le h =
    let both = or_else_none (clause_decline r c) (clauses_decline rs cs) h in
    and_from (forward c) (every forward (take (length rs) cs)) (clause_taken r c both.0).1 (taken_forward rs cs (le_of_suc-le-suc le) both.1)

-- and cutting leaves them as they are, whatever stands behind the kind's fields
pub taken_cut : (ranges clauses kept : List Interval) → length ranges ≤ length clauses → clauses_decline ranges clauses ≡ None
    → take (length ranges) kept ≡ take (length ranges) clauses → cut_clauses ranges kept ≡ take (length ranges) clauses
taken_cut [] clauses kept le h same = refl
taken_cut (r ∷ rs) [] kept le h same = absurd (not-suc-le-zero le)
taken_cut (r ∷ rs) (c ∷ cs) [] le h same = cc
taken_cut (r ∷ rs) (c ∷ cs) (k ∷ ks) le h same =
    let both = or_else_none (clause_decline r c) (clauses_decline rs cs) h in
    let first : k ≡ c = cc in
    let later : take (length rs) ks ≡ take (length rs) cs = cc in
    ap (λ i. cut_interval r i ∷ cut_clauses rs ks) first ∙ ap (λ i. i ∷ cut_clauses rs ks) (clause_taken r c both.0).0 ∙ ap (λ l. c ∷ l) (taken_cut rs cs ks (le_of_suc-le-suc le) both.1 later)

-- clauses that run forward do so with 0 to 0 behind them
pub padded_forward : (clauses : List Interval) (fields : ℕ) → every forward clauses ≡ true → every forward (clauses ++ drop fields (replicate 6 (from_to 0 0))) ≡ true
padded_forward clauses fields run =
    let runs : Interval → Type 0 = λ i. forward i ≡ true in
    let blanks : List Interval = replicate 6 (from_to 0 0) in
    (every_decides forward (clauses ++ drop fields blanks)).1
    (All-append runs clauses (drop fields blanks) ((every_decides forward clauses).0 run) (All-drop runs fields blanks (All-replicate runs 6 (from_to 0 0) refl)))

-- no field is left to check where there is no range or no clause
pub all_checked : (ranges clauses : List Interval) → (ranges ≡ []) ⊎ (clauses ≡ []) → clauses_decline ranges clauses ≡ None
all_checked [] clauses h = refl
all_checked (r ∷ rs) [] h = refl
all_checked (r ∷ rs) (c ∷ cs) (inl e) = cc
all_checked (r ∷ rs) (c ∷ cs) (inr e) = cc
