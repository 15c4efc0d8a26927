-- Intervals of numbers, both ends included. Assumes nothing.
use Rattle.std.specs.Prelude.{ℕ, ◌≤◌, min, max, Bool, true, false, ◌&&◌, List, [], ◌∷◌, ◌==◌, nat_le}
use Rattle.rules.specs.declared.interval.Interval.{Interval}

-- the lower end is not above the upper
abbrev pub Forward : Interval → Type 0
Forward i = i.lower ≤ i.upper

-- the test of Forward
abbrev pub forward : Interval → Bool
forward i = nat_le i.lower i.upper

-- the test f passes at each element
abbrev pub every : {A : Type 0} → (A → Bool) → List A → Bool
every f [] = true
every f (x ∷ xs) = f x && every f xs

abbrev pub Inside : Interval → ℕ → Type 0
Inside i v = (i.lower ≤ v) × (v ≤ i.upper)

-- the test of Inside
abbrev pub inside : Interval → ℕ → Bool
inside i v = nat_le i.lower v && nat_le v i.upper

-- there are as many values as intervals, and each value lies in its interval
abbrev pub within : List Interval → List ℕ → Bool
within [] [] = true
within [] (v ∷ vs) = false
within (i ∷ is) [] = false
within (i ∷ is) (v ∷ vs) = inside i v && within is vs

-- the value of the range that is nearest to v: at the range 1 to 4, of 0 it is 1, of 3 it is 3, of 9 it is 4
abbrev pub nearest : Interval → ℕ → ℕ
nearest range v = max range.lower (min range.upper v)

abbrev pub cut_interval : Interval → Interval → Interval
cut_interval range i = record { lower = nearest range i.lower; upper = nearest range i.upper }

abbrev pub from_to : ℕ → ℕ → Interval
from_to lower upper = record { lower = lower; upper = upper }

-- holds every number of 32 bits
abbrev pub wide : Interval → Bool
wide i = i.lower == 0 && i.upper == 4294967295
