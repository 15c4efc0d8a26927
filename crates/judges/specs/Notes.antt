-- The notes of layers: what each keeps, what it does to a decision, and how withdrawing and giving back change it. Assumes nothing.
-- A list of notes has the outermost first. Fields are numbered from 1, decisions from 0, the strictest.
use Rattle.std.specs.Prelude.{ℕ, min, Bool, false, cond, not, ◌||◌, List, [], ◌∷◌, ◌++◌, length, Some, None, Option, ◌==◌, nat_le}
use Rattle.rules.specs.declared.decline.Decline.{Decline}
use Rattle.rules.specs.declared.decline.Decline.TheVariants.{NoSuchField, OutsideRange, NoWithdrawalLayer, AlreadyWithdrawn, NoteFull, NotWithdrawn}
use Rattle.rules.specs.declared.interval.Interval.{Interval}
use Rattle.rules.specs.Declines.{unless, or_else}
use Rattle.rules.specs.Intervals.{inside}
use Rattle.rules.specs.Kinds.{of_field}
use Rattle.judges.specs.declared.window.Window.{Window}

pub data Note : Type 0 where
  withdrawals : (field : ℕ) (values : List ℕ) → Note
  windows : (field : ℕ) (list : List Window) → Note

abbrev pub holds_value : List ℕ → ℕ → Bool
holds_value [] value = false
holds_value (x ∷ xs) value = x == value || holds_value xs value

-- the field that a note is on
abbrev pub note_field : Note → ℕ
note_field (withdrawals field kept) = field
note_field (windows field list) = field

-- a request bearing a kept value is refused
abbrev pub refuse_kept : List ℕ → ℕ → ℕ → ℕ
refuse_kept kept value decision = cond (holds_value kept value) 0 decision

-- a request inside windows is lowered to their smallest cap, if that is stricter; both ends of a window are inside
-- Example: inside windows capped 5 and 3, decision 9 becomes 3 and decision 2 stays 2.
abbrev pub cap_inside : List Window → ℕ → ℕ → ℕ
cap_inside [] value decision = decision
cap_inside (w ∷ ws) value decision = cond (inside w.interval value) (min w.cap (cap_inside ws value decision)) (cap_inside ws value decision)

-- what one note makes of a decision, given the value of its field
abbrev pub noted_value : Note → Option ℕ → ℕ → ℕ
noted_value note None decision = decision
noted_value (withdrawals field kept) (Some value) decision = refuse_kept kept value decision
noted_value (windows field list) (Some value) decision = cap_inside list value decision

-- what one note makes of a decision on a request of these values
abbrev pub noted : Note → List ℕ → ℕ → ℕ
noted note values decision = noted_value note (of_field values (note_field note)) decision

-- lowered by each note, from the innermost outwards
abbrev pub lowered : List Note → List ℕ → ℕ → ℕ
lowered [] values decision = decision
lowered (note ∷ notes) values decision = noted note values (lowered notes values decision)

-- a withdrawal note keeps the value that the request bears in its field
abbrev pub bears_kept : Note → Option ℕ → Bool
bears_kept note None = false
bears_kept (withdrawals field kept) (Some value) = holds_value kept value
bears_kept (windows field list) (Some value) = false

-- the request bears a value that some withdrawal note keeps
abbrev pub bears_withdrawn : List Note → List ℕ → Bool
bears_withdrawn [] values = false
bears_withdrawn (note ∷ notes) values = bears_kept note (of_field values (note_field note)) || bears_withdrawn notes values

-- the caps of the windows that hold a value
abbrev pub caps_at : List Window → ℕ → List ℕ
caps_at [] value = []
caps_at (w ∷ ws) value = cond (inside w.interval value) (w.cap ∷ caps_at ws value) (caps_at ws value)

-- the caps that a note sets, given the value of its field
abbrev pub caps_of : Note → Option ℕ → List ℕ
caps_of note None = []
caps_of (withdrawals field kept) (Some value) = []
caps_of (windows field list) (Some value) = caps_at list value

-- the caps of all the windows, of any note, that the request is inside
abbrev pub caps_on : List Note → List ℕ → List ℕ
caps_on [] values = []
caps_on (note ∷ notes) values = caps_of note (of_field values (note_field note)) ++ caps_on notes values

-- the strictest of a decision and these caps: of decision 9 and caps 5 and 3 it is 3
abbrev pub strictest : ℕ → List ℕ → ℕ
strictest decision [] = decision
strictest decision (cap ∷ caps) = min cap (strictest decision caps)

-- what the outermost withdrawal note on a field keeps, if there is one
abbrev pub kept_on : List Note → ℕ → Option (List ℕ)
kept_on [] field = None
kept_on (withdrawals f kept ∷ notes) field = cond (f == field) (Some kept) (kept_on notes field)
kept_on (windows f list ∷ notes) field = kept_on notes field

-- the notes with another list of values in the outermost withdrawal note on a field
abbrev pub with_kept : List Note → ℕ → List ℕ → List Note
with_kept [] field new = []
with_kept (withdrawals f kept ∷ notes) field new = cond (f == field) (withdrawals f new ∷ notes) (withdrawals f kept ∷ with_kept notes field new)
with_kept (windows f list ∷ notes) field new = windows f list ∷ with_kept notes field new

-- the list without the first value that equals this one
abbrev pub without : List ℕ → ℕ → List ℕ
without [] value = []
without (x ∷ xs) value = cond (x == value) xs (x ∷ without xs value)

-- a value of a field: first that there is such a field, then that the value lies in its range
abbrev pub value_decline : Option Interval → ℕ → Option Decline
value_decline None value = Some NoSuchField
value_decline (Some range) value = unless (not (inside range value)) OutsideRange None

-- a note keeps up to 32 values
abbrev pub withdraw_checks : Option (List ℕ) → ℕ → Option Decline
withdraw_checks None value = Some NoWithdrawalLayer
withdraw_checks (Some kept) value = unless (holds_value kept value) AlreadyWithdrawn (unless (nat_le 32 (length kept)) NoteFull None)

abbrev pub give_back_checks : Option (List ℕ) → ℕ → Option Decline
give_back_checks None value = Some NoWithdrawalLayer
give_back_checks (Some kept) value = unless (not (holds_value kept value)) NotWithdrawn None

abbrev pub withdraw_decline : List Interval → List Note → ℕ → ℕ → Option Decline
withdraw_decline ranges notes field value = or_else (value_decline (of_field ranges field) value) (withdraw_checks (kept_on notes field) value)

abbrev pub give_back_decline : List Interval → List Note → ℕ → ℕ → Option Decline
give_back_decline ranges notes field value = or_else (value_decline (of_field ranges field) value) (give_back_checks (kept_on notes field) value)

abbrev pub kept_or_none : Option (List ℕ) → List ℕ
kept_or_none None = []
kept_or_none (Some kept) = kept

-- the outermost withdrawal note on a field keeps this value
abbrev pub keeps : List Note → ℕ → ℕ → Bool
keeps notes field value = holds_value (kept_or_none (kept_on notes field)) value

-- the notes after an accepted withdrawal, and after a value was accepted back
abbrev pub withdrawn : List Note → ℕ → ℕ → List Note
withdrawn notes field value = with_kept notes field (kept_or_none (kept_on notes field) ++ (value ∷ []))

abbrev pub given_back : List Note → ℕ → ℕ → List Note
given_back notes field value = with_kept notes field (without (kept_or_none (kept_on notes field)) value)
