-- A table read as an edit would leave it, without building it: which rule stands at a place, and its decision. Assumes nothing.
use Rattle.std.specs.Prelude.{◌≡◌, ℕ, ◌+◌, ◌-◌, ◌≤◌, cond, List, length, Some, None, Option, ◌==◌, nat_lt}
use Rattle.tables.specs.declared.edit.Edit.{Edit}
use Rattle.tables.specs.declared.edit.Edit.TheVariants.{Change, Swap, Delete}
use Rattle.rules.specs.declared.interval.Interval.{Interval}
use Rattle.rules.specs.declared.limits.Limits.{Limits}
use Rattle.rules.specs.declared.rule.Rule.{Rule}
use Rattle.tables.specs.Edits.{edited, edit_decline, Known}
use Rattle.rules.specs.Limits.{ranges_in}
use Rattle.rules.specs.Rules.{cut, Lawful}

-- the rules under an edit, or as they are
abbrev pub under : Option (Edit ℕ) → List Rule → List Rule
under None rules = rules
under (Some edit) rules = edited rules edit

-- the edit, if there is one, would not be declined
abbrev pub Taken : Option (Edit ℕ) → List Rule → Type 0
Taken None rules = Unit {0}
Taken (Some edit) rules = edit_decline rules edit ≡ None

-- its decision, if it has one, is one of those that there are
abbrev pub KnownIn : ℕ → Option (Edit ℕ) → Type 0
KnownIn count None = Unit {0}
KnownIn count (Some edit) = Known count edit

-- the rules that are seen: cut to the limits, then under the edit
abbrev pub in_force : List Rule → Limits → List Rule
in_force rules limits = cut (ranges_in limits) limits.decisions rules

abbrev pub seen : List Rule → Option (Edit ℕ) → Limits → List Rule
seen rules edit limits = under edit (in_force rules limits)

-- the place, before the edit, of the rule that stands at a place after it
abbrev pub source_of : Option (Edit ℕ) → ℕ → ℕ
source_of None place = place
source_of (Some (Change i d)) place = place
source_of (Some (Swap i j)) place = cond (place == i) j (cond (place == j) i place)
source_of (Some (Delete i)) place = cond (nat_lt place i) place (place + 1)

-- how many rules there are after the edit
abbrev pub count_under : Option (Edit ℕ) → ℕ → ℕ
count_under None n = n
count_under (Some (Change i d)) n = n
count_under (Some (Swap i j)) n = n
count_under (Some (Delete i)) n = n - 1

-- the decision at a place after the edit, where the rule's own is this number
abbrev pub decision_under : Option (Edit ℕ) → ℕ → ℕ → ℕ
decision_under None place own = own
decision_under (Some (Change i d)) place own = cond (place == i) d own
decision_under (Some (Swap i j)) place own = own
decision_under (Some (Delete i)) place own = own

-- what reading a table under an edit asks: at most 64 rules, and that the edit would not be declined
pub record Viewable (rules : List Rule) (edit : Option (Edit ℕ)) (limits : Limits) : Type 0 where
  pub few : length rules ≤ 64
  pub taken : Taken edit (in_force rules limits)

-- what a verdict on a table asks: that the table is lawful for its kinds, and of the edit that it could be made
pub record Readable (ranges : List Interval) (count : ℕ) (rules : List Rule) (edit : Option (Edit ℕ)) : Type 0 where
  pub lawful : Lawful ranges count (cut ranges count rules)
  pub taken : Taken edit (cut ranges count rules)
  pub known : KnownIn count edit
