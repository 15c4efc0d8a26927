-- Setting layers up and piling them on judges. Assumes nothing.
use Rattle.std.specs.Prelude.{◌≡◌, ℕ, List, [], ◌∷◌, ◌++◌, length, Some, None, Option, nat_le}
use Rattle.rules.specs.declared.decline.Decline.{Decline}
use Rattle.rules.specs.declared.decline.Decline.TheVariants.{NoSuchField, NoMemory, Full}
use Rattle.rules.specs.declared.interval.Interval.{Interval}
use Rattle.rules.specs.Clauses.{clause_decline}
use Rattle.rules.specs.Declines.{unless, left_by}
use Rattle.layers.specs.declared.layer.Layer.{Layer}
use Rattle.judges.specs.declared.window.Window.{Window}
use Rattle.judges.specs.Meanings.{Meaning, over}
use Rattle.judges.specs.Notes.{Note, windows}

-- what a layer over a judge means, by its note and what the judge below means
abbrev pub layer_meaning : {N J : Type 0} → (N → Note) → (J → Meaning) → Layer N J → Meaning
layer_meaning note meaning layer = over (note layer.kept) (meaning layer.below)

-- how setting up a layer is declined, if it is: where there is no such field, else only for want of memory
abbrev pub set_up_decline : Option Interval → Decline
set_up_decline None = NoSuchField
set_up_decline (Some range) = NoMemory

-- a window's ends are checked as a rule's clause is; a layer that was set up stands on a field that there is
abbrev pub ends_decline : Option Interval → Interval → Option Decline
ends_decline None interval = Some NoSuchField
ends_decline (Some range) interval = clause_decline range interval

-- a layer keeps up to 8 windows
abbrev pub window_decline : Option Interval → ℕ → Interval → Option Decline
window_decline range n interval = unless (nat_le 8 n) Full (ends_decline range interval)

-- what adding a window answers and leaves: declined, and the note as it was, or the window behind those added before
pub record WindowAdded (range : Option Interval) (field : ℕ) (before : List Window) (window : Window) (answer : Option Decline) (after : Note) : Type 0 where
  pub declines : answer ≡ window_decline range (length before) window.interval
  pub leaves : after ≡ windows field (left_by answer (before ++ (window ∷ [])) before)
