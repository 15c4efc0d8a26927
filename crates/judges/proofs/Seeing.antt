-- What stands at each place of a table under an edit. Assumes nothing.
use Rattle.std.proofs.Common.{◌≡◌, ℕ, ◌+◌, ◌-◌, ◌<◌, ◌≤◌, min, List, length, Some, None, Option, sym, refl, ap, ◌∙◌, arith}
use Rattle.std.proofs.lemmas.List.Edits.{length-remove, length-swap}
use Rattle.std.proofs.lemmas.List.{length-set}
use Rattle.tables.specs.declared.edit.Edit.{Edit}
use Rattle.tables.specs.declared.edit.Edit.TheVariants.{Change, Swap, Delete}
use Rattle.rules.specs.declared.limits.Limits.{Limits}
use Rattle.rules.specs.declared.rule.Rule.{Rule}
use Rattle.tables.specs.Edits.{with_decision}
use Rattle.rules.specs.Limits.{ranges_in}
use Rattle.rules.specs.Rules.{rule_at, cut_clauses}
use Rattle.tables.proofs.Declining.{change_taken, swap_taken, delete_taken}
use Rattle.tables.proofs.Cuts.{length_cut, rule_at_cut}
use Rattle.std.proofs.lemmas.Grind.{elements}
use Rattle.judges.specs.Views.{under, Taken, in_force, seen, Viewable, source_of, count_under, decision_under}

pub length_under : (edit : Option (Edit ℕ)) (rules : List Rule) → Taken edit rules → length (under edit rules) ≡ count_under edit (length rules)
length_under None rules t = refl
length_under (Some (Change i d)) rules t = length-set rules (i - 1) (with_decision (rule_at rules i) d)
length_under (Some (Swap i j)) rules t = length-swap rules (i - 1) (j - 1)
length_under (Some (Delete i)) rules t =
    let asks = delete_taken (length rules) i t in
    let gone = length-remove rules (i - 1) (omega arith) in
    omega arith

-- the rule at a place after the edit is one of the old rules, with its decision changed at most
abbrev Stands : Option (Edit ℕ) → List Rule → ℕ → Type 0
Stands edit rules p = rule_at (under edit rules) p ≡ with_decision (rule_at rules (source_of edit p)) (decision_under edit p (rule_at rules (source_of edit p)).decision)

abbrev In : Option (Edit ℕ) → List Rule → ℕ → Type 0
In edit rules p = (1 ≤ source_of edit p) × (source_of edit p ≤ length rules)

changed : (rules : List Rule) (i d p : ℕ) → (1 ≤ i) × (i ≤ length rules) → 1 ≤ p → Stands (Some (Change i d)) rules p
changed rules i d p asks low = grind (arith, elements)

swapped : (rules : List Rule) (i j p : ℕ) → (1 ≤ i) × (i < j) × (j < length rules) → 1 ≤ p → p ≤ length rules → Stands (Some (Swap i j)) rules p × In (Some (Swap i j)) rules p
swapped rules i j p asks low high = (grind (arith, elements), grind (arith, elements))

deleted : (rules : List Rule) (i p : ℕ) → (1 ≤ i) × (i < length rules) → 1 ≤ p → p + 1 ≤ length rules → Stands (Some (Delete i)) rules p × In (Some (Delete i)) rules p
deleted rules i p asks low high = (grind (arith, elements), grind (arith, elements))

pub stands : (edit : Option (Edit ℕ)) (rules : List Rule) (p : ℕ) → Taken edit rules → 1 ≤ p → p ≤ length (under edit rules) → Stands edit rules p × In edit rules p
stands None rules p t low high = (refl, (low, high))
stands (Some (Change i d)) rules p t low high =
    let long = length_under (Some (Change i d)) rules t in
    (changed rules i d p (change_taken (length rules) i (rule_at rules i).decision d t) low, (low, omega arith))
stands (Some (Swap i j)) rules p t low high =
    let long = length_under (Some (Swap i j)) rules t in
    swapped rules i j p (swap_taken (length rules) i j t) low (omega arith)
stands (Some (Delete i)) rules p t low high =
    let asks = delete_taken (length rules) i t in
    let long = length_under (Some (Delete i)) rules t in
    deleted rules i p asks low (omega arith)

-- what stands at a place of the rules that are seen, in terms of the rules as kept
pub seen_rule : (rules : List Rule) (edit : Option (Edit ℕ)) (limits : Limits) {shown : List Rule} (p : ℕ) → Viewable rules edit limits → seen rules edit limits ≡ shown → 1 ≤ p → p ≤ length shown
    → rule_at shown p ≡ record { clauses = cut_clauses (ranges_in limits) (rule_at rules (source_of edit p)).clauses; decision = decision_under edit p (min (rule_at rules (source_of edit p)).decision (limits.decisions - 1)) }
seen_rule rules edit limits p view is low high =
    let long = ap length is in
    let both = stands edit (in_force rules limits) p view.taken low (omega arith) in
    let inside = both.1 in
    let kept = length_cut (ranges_in limits) limits.decisions rules in
    ap (λ l. rule_at l p) (sym is) ∙ both.0
    ∙ ap (λ r. with_decision r (decision_under edit p r.decision)) (rule_at_cut (ranges_in limits) limits.decisions rules (source_of edit p) (omega arith) (omega arith))
