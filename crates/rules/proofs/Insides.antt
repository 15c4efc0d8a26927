-- A value inside an interval, as a test and as a fact. Assumes nothing.
use Rattle.std.proofs.Common.{◌≡◌, ℕ, true, leb, List, [], ◌∷◌, refl}
use Rattle.std.specs.List.{AllByRecursion}
use Rattle.std.proofs.lemmas.Bool.{leb-true, le-leb, and_parts, and_from}
use Rattle.rules.specs.declared.interval.Interval.{Interval}
use Rattle.rules.specs.Intervals.{Inside, inside, forward, every}
use Rattle.rules.specs.Kinds.{LawfulRange}

pub inside_true : (i : Interval) (v : ℕ) → inside i v ≡ true → Inside i v
inside_true i v h =
    let both = and_parts (leb i.lower v) (leb v i.upper) h in
    (leb-true i.lower v both.0, leb-true v i.upper both.1)

pub inside_from : (i : Interval) (v : ℕ) → Inside i v → inside i v ≡ true
inside_from i v h = and_from (leb i.lower v) (leb v i.upper) (le-leb i.lower v h.0) (le-leb v i.upper h.1)

pub forward_ranges : (ranges : List Interval) → AllByRecursion LawfulRange ranges → every forward ranges ≡ true
forward_ranges [] h = refl
forward_ranges (r ∷ rs) h = and_from (forward r) (every forward rs) (le-leb r.lower r.upper h.0.0) (forward_ranges rs h.1)
