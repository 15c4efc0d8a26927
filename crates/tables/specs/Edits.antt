-- The single edits: what each makes of a table, and when it is declined. Assumes nothing.
-- Places are numbered from 1; the default stands at the last place.
use Rattle.std.specs.Prelude.{◌≡◌, ℕ, ◌-◌, ◌<◌, ◌≤◌, Bool, not, ◌&&◌, List, length, IfOk, None, Option, Result, ◌==◌, nat_le, nat_lt, slice_set}
use Rattle.std.specs.List.{swap, remove}
use Rattle.rules.specs.declared.decline.Decline.{Decline}
use Rattle.rules.specs.declared.decline.Decline.TheVariants.{NoSuchPlace, DefaultStays, OutOfOrder, SameDecision}
use Rattle.tables.specs.declared.edit.Edit.{Edit}
use Rattle.tables.specs.declared.edit.Edit.TheVariants.{Change, Swap, Delete}
use Rattle.rules.specs.declared.rule.Rule.{Rule}
use Rattle.rules.specs.Declines.{declined, unless, left_by}
use Rattle.rules.specs.Rules.{rule_at}

-- an edit with each decision read as its number
abbrev pub plain_edit : {D : Type 0} → (D → ℕ) → Edit D → Edit ℕ
plain_edit number (Change place decision) = Change place (number decision)
plain_edit number (Swap first second) = Swap first second
plain_edit number (Delete place) = Delete place

abbrev pub with_decision : Rule → ℕ → Rule
with_decision rule decision = record { clauses = rule.clauses; decision = decision }

-- the edited table
abbrev pub edited : List Rule → Edit ℕ → List Rule
edited rules (Change place decision) = slice_set rules (place - 1) (with_decision (rule_at rules place) decision)
edited rules (Swap first second) = swap rules (first - 1) (second - 1)
edited rules (Delete place) = remove rules (place - 1)

-- a table of n rules has a rule at this place
abbrev pub placed : ℕ → ℕ → Bool
placed n place = nat_le 1 place && nat_le place n

-- the checks of each edit, in the order in which they run
abbrev pub change_decline : ℕ → ℕ → ℕ → ℕ → Option Decline
change_decline n place present wanted =
    unless (not (placed n place)) NoSuchPlace (unless (present == wanted) SameDecision None)

abbrev pub swap_decline : ℕ → ℕ → ℕ → Option Decline
swap_decline n first second =
    unless (not (placed n first && placed n second)) NoSuchPlace
    (unless (not (nat_lt first second)) OutOfOrder (unless (second == n) DefaultStays None))

abbrev pub delete_decline : ℕ → ℕ → Option Decline
delete_decline n place =
    unless (not (placed n place)) NoSuchPlace (unless (place == n) DefaultStays None)

-- how an edit of a table is declined
abbrev pub edit_decline : List Rule → Edit ℕ → Option Decline
edit_decline rules (Change place decision) = change_decline (length rules) place (rule_at rules place).decision decision
edit_decline rules (Swap first second) = swap_decline (length rules) first second
edit_decline rules (Delete place) = delete_decline (length rules) place

-- the decision of a change is one of those that there are
abbrev pub Known : ℕ → Edit ℕ → Type 0
Known count (Change place decision) = decision < count
Known count (Swap first second) = Unit {0}
Known count (Delete place) = Unit {0}

-- a list of n rules takes the edit at its places: they are there, and the default, the last, is neither swapped nor deleted
abbrev pub InPlace : ℕ → Edit ℕ → Type 0
InPlace n (Change place decision) = (1 ≤ place) × (place ≤ n)
InPlace n (Swap first second) = (1 ≤ first) × (first < second) × (second < n)
InPlace n (Delete place) = (1 ≤ place) × (place < n)

-- what an edit answers and leaves: declined, and the table as it was, or the edited table
pub record Edited (rules : List Rule) (edit : Edit ℕ) (answer : Option Decline) (after : List Rule) : Type 0 where
  pub declines : answer ≡ edit_decline rules edit
  pub leaves : after ≡ left_by answer (edited rules edit) rules

-- what asking for the decision at a place answers: declined 10, or that rule's decision
pub record Told {D : Type 0} (rules : List Rule) (place : ℕ) (number : D → ℕ) (r : Result D Decline) : Type 0 where
  pub answer : declined r ≡ unless (not (placed (length rules) place)) NoSuchPlace None
  pub has : IfOk r (λ d. number d ≡ (rule_at rules place).decision)
