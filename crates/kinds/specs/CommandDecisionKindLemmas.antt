-- Numbers and decisions on commands determine each other: what the laws of `DecisionKind` ask. Assumes nothing.
use Rattle.std.specs.Prelude.{◌≡◌, ℕ, zero, suc, ◌<◌, refl}
use Rattle.std.proofs.Common.{ap, arith}
use Rattle.kinds.specs.declared.minutes.Minutes.{Minutes}
use Rattle.kinds.specs.declared.command_decision.CommandDecision.{CommandDecision}
use Rattle.kinds.specs.declared.command_decision.CommandDecision.TheVariants.{Refuse, Hold, Permit}
use Rattle.rules.specs.Intervals.{inside, from_to}
use Rattle.kinds.specs.Commands.{command_number}
use Rattle.rules.proofs.Making.{same_test}
use Rattle.rules.proofs.Insides.{inside_true, inside_from}

pub minutes_same : (m n : Minutes) → m.value ≡ n.value → m ≡ n
minutes_same m n e =
    λ i. record { value = e i; ranged = same_test (λ j. inside (from_to 1 240) (e j)) m.ranged n.ranged i }

pub same : (d e : CommandDecision) → command_number d ≡ command_number e → d ≡ e
same Refuse Refuse h = refl
same Refuse Hold h = absurd (omega arith)
same Refuse (Permit m) h = absurd (omega arith)
same Hold Refuse h = absurd (omega arith)
same Hold Hold h = refl
same Hold (Permit m) h = absurd (omega (arith, inside_true (from_to 1 240) m.value m.ranged))
same (Permit m) Refuse h = absurd (omega arith)
same (Permit m) Hold h = absurd (omega (arith, inside_true (from_to 1 240) m.value m.ranged))
same (Permit m) (Permit n) h = ap Permit (minutes_same m n (omega arith))

pub numbered : (n : ℕ) → n < 242 → (d : CommandDecision) × (command_number d ≡ n)
numbered zero h = (Refuse, refl)
numbered (suc zero) h = (Hold, refl)
numbered (suc (suc n)) h =
    (Permit (record { value = suc n; ranged = inside_from (from_to 1 240) (suc n) (omega arith, omega arith) }), omega arith)
