-- What a layer keeps, and its part in withdrawing and giving back. Assumes nothing.
use Rattle.std.specs.Prelude.{◌≡◌, ℕ, true, false, List, [], ◌∷◌, Some, None, Option, Result}
use Rattle.rules.specs.declared.decline.Decline.{Decline}
use Rattle.rules.specs.Declines.{declined, left_by}
use Rattle.rules.specs.Kinds.{of_field}
use Rattle.judges.specs.Notes.{Note, bears_withdrawn, kept_on, keeps}

-- a call is the layer's own where its note keeps withdrawn values of that field; it then answers, else the judge below does
abbrev pub if_own : Option (List ℕ) → Option Decline → Option (Option Decline)
if_own None answer = None
if_own (Some kept) answer = Some answer

abbrev pub own_answer : {A : Type 0} → Option (Result A Decline) → Option (Option Decline)
own_answer None = None
own_answer (Some r) = Some (declined r)

abbrev pub flat : Option (Option Decline) → Option Decline
flat None = None
flat (Some answer) = answer

-- what a layer's note answers to a call with these checks, and what it leaves: the note changed, or as it was
pub record Acted (checks : Option (List ℕ) → ℕ → Option Decline) (change : List Note → ℕ → ℕ → List Note)
    (note : Note) (field value : ℕ) (answer : Option (Option Decline)) (after : Note) : Type 0 where
  pub answers : answer ≡ if_own (kept_on (note ∷ []) field) (checks (kept_on (note ∷ []) field) value)
  pub leaves : after ∷ [] ≡ left_by (flat answer) (change (note ∷ []) field value) (note ∷ [])

-- once a withdrawal is accepted, a request that bears the value in that field bears a withdrawn one, whatever notes stand below
abbrev pub Bars : ℕ → ℕ → Option (Option Decline) → Note → Type 0
Bars field value answer after =
    answer ≡ Some None → (below : List Note) (values : List ℕ) → of_field values field ≡ Some value → bears_withdrawn (after ∷ below) values ≡ true

-- once a value is accepted back, the note keeps it no more, whatever notes stand below
abbrev pub Frees : ℕ → ℕ → Option (Option Decline) → Note → Type 0
Frees field value answer after = answer ≡ Some None → (below : List Note) → keeps (after ∷ below) field value ≡ false
