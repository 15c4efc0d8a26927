-- The default under an edit: it still matches every request, so that some rule always does. Assumes nothing.
use Rattle.std.proofs.Common.{◌≡◌, ℕ, ◌-◌, ◌<◌, ◌≤◌, true, eqb, List, length, Some, None, Option, refl, ap, ◌∙◌, arith}
use Rattle.std.proofs.lemmas.Bool.{cond_both}
use Rattle.tables.specs.declared.edit.Edit.{Edit}
use Rattle.tables.specs.declared.edit.Edit.TheVariants.{Change, Swap, Delete}
use Rattle.rules.specs.declared.interval.Interval.{Interval}
use Rattle.rules.specs.declared.rule.Rule.{Rule}
use Rattle.rules.specs.Intervals.{within}
use Rattle.rules.specs.Rules.{matches, rule_at, Lawful, LawfulRule}
use Rattle.tables.proofs.Declining.{change_taken, swap_taken, delete_taken}
use Rattle.std.proofs.lemmas.Grind.{elements}
use Rattle.std.proofs.lemmas.List.Elements.{All-from_recursion}
use Rattle.judges.specs.Views.{under, Taken, KnownIn, source_of, count_under, decision_under}
use Rattle.tables.proofs.Cuts.{blank}
use Rattle.judges.proofs.Seeing.{stands, length_under}

same_end : (edit : Option (Edit ℕ)) (rules : List Rule) → Taken edit rules → (rule_at (under edit rules) (length (under edit rules))).clauses ≡ (rule_at rules (length rules)).clauses
same_end None rules t = refl
same_end (Some (Change i d)) rules t = let asks = change_taken (length rules) i (rule_at rules i).decision d t in grind (arith, elements)
same_end (Some (Swap i j)) rules t = let asks = swap_taken (length rules) i j t in grind (arith, elements)
same_end (Some (Delete i)) rules t = let asks = delete_taken (length rules) i t in grind (arith, elements)

some_left : (edit : Option (Edit ℕ)) (rules : List Rule) → Taken edit rules → 1 ≤ length rules → 1 ≤ count_under edit (length rules)
some_left None rules t some = some
some_left (Some (Change i d)) rules t some = some
some_left (Some (Swap i j)) rules t some = some
some_left (Some (Delete i)) rules t some = let asks = delete_taken (length rules) i t in omega arith

below_under : (edit : Option (Edit ℕ)) (count p own : ℕ) → KnownIn count edit → own < count → decision_under edit p own < count
below_under None count p own known h = h
below_under (Some (Change i d)) count p own known h = cond_both (eqb p i) d own (λ n. n < count) (λ e. known) (λ e. h)
below_under (Some (Swap i j)) count p own known h = h
below_under (Some (Delete i)) count p own known h = h

module _ (ranges : List Interval) (count : ℕ) (rules : List Rule) (edit : Option (Edit ℕ)) (lawful : Lawful ranges count rules) (taken : Taken edit rules) where
  -- a request with values in range is matched by the last rule
  pub default_matches : (values : List ℕ) → within ranges values ≡ true → (1 ≤ length (under edit rules)) × (matches (rule_at (under edit rules) (length (under edit rules))) values ≡ true)
  default_matches values ranged =
      let long = length_under edit rules taken in
      let some = some_left edit rules taken lawful.some in
      (omega arith, ap (λ clauses. within clauses values) (same_end edit rules taken ∙ lawful.default) ∙ ranged)

  -- every decision is one of those that there are
  pub decision_below : KnownIn count edit → (p : ℕ) → 1 ≤ p → p ≤ length (under edit rules) → (rule_at (under edit rules) p).decision < count
  decision_below known p low high =
      let both = stands edit rules p taken low high in
      let s = source_of edit p in
      let inside = both.1 in
      let own = (All-from_recursion (LawfulRule ranges count) rules lawful.each (s - 1) blank (omega arith)).1 in
      let is = ap (λ r. r.decision) both.0 in
      let below = below_under edit count p (rule_at rules s).decision known own in
      omega arith
