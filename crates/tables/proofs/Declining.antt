-- What the checks of an edit tell. Assumes nothing.
use Rattle.std.proofs.Common.{◌≡◌, ℕ, List, length, ◌<◌, ◌≤◌, None, arith}
use Rattle.std.proofs.lemmas.Bool.Decides.{nat_tests}
use Rattle.tables.specs.declared.edit.Edit.{Edit}
use Rattle.tables.specs.declared.edit.Edit.TheVariants.{Change, Swap, Delete}
use Rattle.rules.specs.declared.rule.Rule.{Rule}
use Rattle.rules.specs.Rules.{rule_at}
use Rattle.tables.specs.Edits.{change_decline, swap_decline, delete_decline, edit_decline, InPlace}

pub change_taken : (n place present wanted : ℕ) → change_decline n place present wanted ≡ None → (1 ≤ place) × (place ≤ n)
change_taken n place present wanted h = (grind (arith, nat_tests), grind (arith, nat_tests))

pub swap_taken : (n first second : ℕ) → swap_decline n first second ≡ None → (1 ≤ first) × (first < second) × (second < n)
swap_taken n first second h = (grind (arith, nat_tests), grind (arith, nat_tests), grind (arith, nat_tests))

pub delete_taken : (n place : ℕ) → delete_decline n place ≡ None → (1 ≤ place) × (place < n)
delete_taken n place h = (grind (arith, nat_tests), grind (arith, nat_tests))

-- an edit that is not declined is in place
pub taken_in_place : (rules : List Rule) (edit : Edit ℕ) → edit_decline rules edit ≡ None → InPlace (length rules) edit
taken_in_place rules (Change place decision) taken = change_taken (length rules) place (rule_at rules place).decision decision taken
taken_in_place rules (Swap first second) taken = swap_taken (length rules) first second taken
taken_in_place rules (Delete place) taken = delete_taken (length rules) place taken
