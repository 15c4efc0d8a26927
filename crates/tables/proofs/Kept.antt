-- What each edit of a list of rules keeps: every clause runs forward, and the last rule is wide. Assumes nothing.
use Rattle.std.proofs.Common.{◌≡◌, ℕ, suc, ◌-◌, ◌<◌, ◌≤◌, Bool, true, List, length, take, drop, vec_items, vec_len, Vec, refl, ap, ◌∙◌, subst, arith}
use Rattle.std.specs.declared.alloc.Global.{Global}
use Rattle.std.specs.Bool.{Decides}
use Rattle.std.specs.List.{All, swap}
use Rattle.std.proofs.lemmas.Bool.Decides.{Decides-by_and}
use Rattle.std.proofs.lemmas.Grind.{elements}
use Rattle.std.proofs.lemmas.List.Sorted.{All-permutation, IsPermutation-swap}
use Rattle.std.proofs.lemmas.List.Elements.{All-take, All-drop, All-append}
use Rattle.tables.specs.declared.edit.Edit.{Edit}
use Rattle.tables.specs.declared.edit.Edit.TheVariants.{Change, Swap, Delete}
use Rattle.tables.specs.declared.rule_list.RuleList.{RuleList}
use Rattle.rules.specs.declared.rule.Rule.{Rule}
use Rattle.tables.specs.Edits.{edited, InPlace}
use Rattle.rules.specs.Intervals.{every, wide}
use Rattle.rules.specs.Rules.{rule_at, forward_rule}

-- the test of a whole list, and the fact that it passes at each element
pub every_decides : {A : Type 0} (f : A → Bool) (xs : List A) → Decides (every f xs) (All (λ x. f x ≡ true) xs)
every_decides f xs = Decides-by_and f (λ x. f x ≡ true) (every f) (λ x. (λ h. h, λ h. h)) refl (λ x xs. refl) xs

abbrev passes : Rule → Type 0
passes rule = forward_rule rule ≡ true

-- the last rule keeps its clauses under each edit
pub change_end : (xs : List Rule) (place decision : ℕ) → 1 ≤ place → place ≤ length xs
    → (rule_at (edited xs (Change place decision)) (length (edited xs (Change place decision)))).clauses ≡ (rule_at xs (length xs)).clauses
change_end xs place decision low high = grind (arith, elements)

pub swap_end : (xs : List Rule) (first second : ℕ) → 1 ≤ first → first < second → second < length xs
    → (rule_at (edited xs (Swap first second)) (length (edited xs (Swap first second)))).clauses ≡ (rule_at xs (length xs)).clauses
swap_end xs first second low order high = grind (arith, elements)

pub delete_end : (xs : List Rule) (place : ℕ) → 1 ≤ place → place < length xs
    → (rule_at (edited xs (Delete place)) (length (edited xs (Delete place)))).clauses ≡ (rule_at xs (length xs)).clauses
delete_end xs place low high = grind (arith, elements)

all_kept : (xs : List Rule) (edit : Edit ℕ) → InPlace (length xs) edit → All passes xs → All passes (edited xs edit)
all_kept xs (Change place decision) at all = grind (arith, elements)
all_kept xs (Swap first second) at all =
    All-permutation passes xs (swap xs (first - 1) (second - 1)) (IsPermutation-swap xs (swap xs (first - 1) (second - 1)) (first - 1) (second - 1) (omega arith) (omega arith) refl) all
all_kept xs (Delete place) at all =
    All-append passes (take (place - 1) xs) (drop (suc (place - 1)) xs) (All-take passes (place - 1) xs all) (All-drop passes (suc (place - 1)) xs all)

end_kept : (xs : List Rule) (edit : Edit ℕ) → InPlace (length xs) edit → (rule_at (edited xs edit) (length (edited xs edit))).clauses ≡ (rule_at xs (length xs)).clauses
end_kept xs (Change place decision) at = change_end xs place decision at.0 at.1
end_kept xs (Swap first second) at = swap_end xs first second at.0 at.1 at.2
end_kept xs (Delete place) at = delete_end xs place at.0 at.1

-- the facts of a `RuleList` on its rules, from those of the list of rules
pub ghosts : (v : Vec Rule Global) (rules : List Rule) → vec_items v ≡ rules → every forward_rule rules ≡ true → every wide (rule_at rules (length rules)).clauses ≡ true
    → (every forward_rule (vec_items v) ≡ true) × (every wide (rule_at (vec_items v) (vec_len v)).clauses ≡ true)
ghosts v rules is run whole =
    (ap (every forward_rule) is ∙ run, ap (λ n. every wide (rule_at (vec_items v) n).clauses) v.ok.0 ∙ ap (λ l. every wide (rule_at l (length l)).clauses) is ∙ whole)

-- and once they are edited
pub list_kept : (old : RuleList) (edit : Edit ℕ) (new : Vec Rule Global) → InPlace (vec_len old.rules) edit → vec_items new ≡ edited (vec_items old.rules) edit
    → (every forward_rule (vec_items new) ≡ true) × (every wide (rule_at (vec_items new) (vec_len new)).clauses ≡ true)
list_kept old edit new at is =
    let xs = vec_items old.rules in
    let inside = subst (λ n. InPlace n edit) old.rules.ok.0 at in
    let whole = subst (λ n. every wide (rule_at xs n).clauses ≡ true) old.rules.ok.0 old.whole in
    ghosts new (edited xs edit) is ((every_decides forward_rule (edited xs edit)).1 (all_kept xs edit inside ((every_decides forward_rule xs).0 old.run)))
    (ap (every wide) (end_kept xs edit inside) ∙ whole)
