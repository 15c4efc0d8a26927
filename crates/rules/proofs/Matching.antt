-- A match tested field by field. Assumes nothing.
use Rattle.std.proofs.Common.{◌≡◌, ℕ, suc, ◌≤◌, false, ◌&&◌, List, [], ◌∷◌, length, map, refl, ap, le_of_suc-le-suc, not-suc-le-zero, arith}
use Rattle.std.specs.List.{list_all, zip}
use Rattle.std.proofs.lemmas.Bool.{and_right}
use Rattle.rules.specs.declared.interval.Interval.{Interval}
use Rattle.rules.specs.Intervals.{inside, within, cut_interval}
use Rattle.rules.specs.Rules.{cut_clauses}

pub length_cut_clauses : (ranges clauses : List Interval) → length (cut_clauses ranges clauses) ≡ length ranges
length_cut_clauses [] clauses = refl
length_cut_clauses (range ∷ ranges) [] = ap suc (length_cut_clauses ranges [])
length_cut_clauses (range ∷ ranges) (clause ∷ clauses) = ap suc (length_cut_clauses ranges clauses)

-- without as many values as intervals nothing matches
pub within_uneven : (is : List Interval) (vs : List ℕ) → (length is ≡ length vs → ⊥) → within is vs ≡ false
within_uneven [] [] h = absurd (h refl)
within_uneven [] (v ∷ vs) h = refl
within_uneven (i ∷ is) [] h = refl
within_uneven (i ∷ is) (v ∷ vs) h = and_right (inside i v) (within is vs) (within_uneven is vs (λ e. h (ap suc e)))

-- with as many values as intervals, all lie in theirs exactly when each passes its test; the intervals may be read off other items
pub within_each : {A : Type 0} (f : A → Interval) (xs : List A) (vs : List ℕ) → length xs ≡ length vs → within (map f xs) vs ≡ list_all (λ (p : A × ℕ). inside (f p.0) p.1) (zip xs vs)
within_each f [] [] even = refl
within_each f [] (v ∷ vs) even = absurd (omega arith)
within_each f (x ∷ xs) [] even = absurd (omega arith)
within_each f (x ∷ xs) (v ∷ vs) even = ap (λ b. inside (f x) v && b) (within_each f xs vs (omega arith))

-- a clause cut to its range
abbrev pub cut_pair : Interval × Interval → Interval
cut_pair p = cut_interval p.0 p.1

pub cut_each : (ranges clauses : List Interval) → length ranges ≤ length clauses → cut_clauses ranges clauses ≡ map cut_pair (zip ranges clauses)
cut_each [] clauses room = refl
cut_each (r ∷ rs) [] room = absurd (not-suc-le-zero room)
cut_each (r ∷ rs) (c ∷ cs) room = ap (λ l. cut_interval r c ∷ l) (cut_each rs cs (le_of_suc-le-suc room))
