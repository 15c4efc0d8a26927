-- Numbers and decisions on packets determine each other: what the laws of `DecisionKind` ask. Assumes nothing.
use Rattle.std.specs.Prelude.{◌≡◌, ℕ, zero, suc, ◌<◌, refl}
use Rattle.std.proofs.Common.{arith}
use Rattle.kinds.specs.declared.packet_decision.PacketDecision.{PacketDecision}
use Rattle.kinds.specs.declared.packet_decision.PacketDecision.TheVariants.{Discard, Accept}
use Rattle.kinds.specs.Packets.{packet_number}

pub numbered : (n : ℕ) → n < 2 → (d : PacketDecision) × (packet_number d ≡ n)
numbered zero h = (Discard, refl)
numbered (suc zero) h = (Accept, refl)
numbered (suc (suc n)) h = absurd (omega arith)
