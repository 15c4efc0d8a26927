-- What a judge means, a table and the notes of its layers, and what each of its calls answers and leaves. Assumes nothing.
use Rattle.std.specs.Prelude.{◌≡◌, ℕ, ◌≤◌, true, false, List, ◌∷◌, IfOk, Some, None, Option, Result}
use Rattle.rules.specs.declared.decline.Decline.{Decline}
use Rattle.tables.specs.declared.edit.Edit.{Edit}
use Rattle.rules.specs.declared.interval.Interval.{Interval}
use Rattle.rules.specs.declared.rule.Rule.{Rule}
use Rattle.rules.specs.Declines.{declined, left_by}
use Rattle.tables.specs.Edits.{edited, edit_decline}
use Rattle.rules.specs.Kinds.{of_field}
use Rattle.rules.specs.Rules.{rule_at}
use Rattle.judges.specs.declared.verdict.Verdict.{Verdict}
use Rattle.judges.specs.Matches.{FirstMatch, first_match, Matching, matching_set}
use Rattle.judges.specs.Notes.{Note, lowered, bears_withdrawn, caps_on, strictest, withdraw_decline, withdrawn, give_back_decline, given_back, keeps}

pub record Meaning : Type 0 where
  pub rules : List Rule
  pub notes : List Note

-- a layer over a judge: the table from below, and the layer's own note before the notes below
abbrev pub over : Note → Meaning → Meaning
over note m = record { rules = m.rules; notes = note ∷ m.notes }

-- the decision on a request: the first matching rule's, lowered by the notes
abbrev pub decided : Meaning → List ℕ → ℕ
decided m values = lowered m.notes values (rule_at m.rules (first_match m.rules values)).decision

-- what judging answers, as a relation that installers read and as a computation
pub record Judged (m : Meaning) (values : List ℕ) (decision place set : ℕ) : Type 0 where
  pub first : FirstMatch m.rules values place
  pub matching : Matching m.rules values set
  pub decision_is : decision ≡ decided m values
  pub place_is : place ≡ first_match m.rules values
  pub set_is : set ≡ matching_set m.rules values
  -- under any pile, whatever its order: a request that bears a withdrawn value is refused; any other gets the strictest of
  -- the table's own decision and the caps of all the windows that it is inside; no decision is laxer than the table's own
  pub refused : bears_withdrawn m.notes values ≡ true → decision ≡ 0
  pub capped : bears_withdrawn m.notes values ≡ false → decision ≡ strictest (rule_at m.rules place).decision (caps_on m.notes values)
  pub no_laxer : decision ≤ (rule_at m.rules place).decision

abbrev pub VerdictOn : {D : Type 0} → Meaning → List ℕ → (D → ℕ) → Verdict D → Type 0
VerdictOn m values number v = Judged m values (number v.decision) v.place v.matching

abbrev pub edited_meaning : Meaning → Edit ℕ → Meaning
edited_meaning m edit = record { rules = edited m.rules edit; notes = m.notes }

-- judging under an edit: declined as the edit would be, or what judging would answer after it
pub record JudgedUnder {D : Type 0} (m : Meaning) (values : List ℕ) (edit : Edit ℕ) (number : D → ℕ) (r : Result (Verdict D) Decline) : Type 0 where
  pub declines : declined r ≡ edit_decline m.rules edit
  pub judged : IfOk r (VerdictOn (edited_meaning m edit) values number)

-- an edit: declined, and the meaning as it was, or the edited table under the same notes
pub record EditDone (m : Meaning) (edit : Edit ℕ) (answer : Option Decline) (after : Meaning) : Type 0 where
  pub declines : answer ≡ edit_decline m.rules edit
  pub leaves : after ≡ left_by answer (edited_meaning m edit) m

abbrev pub noted_meaning : Meaning → List Note → Meaning
noted_meaning m notes = record { rules = m.rules; notes = notes }

-- a withdrawal: declined, and the meaning as it was, or the value in the outermost withdrawal note on the field
pub record WithdrawDone (ranges : List Interval) (m : Meaning) (field value : ℕ) (answer : Option Decline) (after : Meaning) : Type 0 where
  pub declines : answer ≡ withdraw_decline ranges m.notes field value
  pub leaves : after ≡ left_by answer (noted_meaning m (withdrawn m.notes field value)) m
  -- after it a request that bears the value in that field bears a withdrawn one, and so is refused
  pub bars : answer ≡ None → (values : List ℕ) → of_field values field ≡ Some value → bears_withdrawn after.notes values ≡ true

-- giving back: declined, and the meaning as it was, or the value gone from that note
pub record GiveBackDone (ranges : List Interval) (m : Meaning) (field value : ℕ) (answer : Option Decline) (after : Meaning) : Type 0 where
  pub declines : answer ≡ give_back_decline ranges m.notes field value
  pub leaves : after ≡ left_by answer (noted_meaning m (given_back m.notes field value)) m
  -- after it that note keeps the value no more
  pub frees : answer ≡ None → keeps after.notes field value ≡ false
