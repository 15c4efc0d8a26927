-- The packet kind: its fields' ranges and its decisions' numbers. Assumes nothing.
use Rattle.std.specs.Prelude.{ℕ, List, [], ◌∷◌}
use Rattle.rules.specs.declared.interval.Interval.{Interval}
use Rattle.kinds.specs.declared.packet_decision.PacketDecision.{PacketDecision}
use Rattle.kinds.specs.declared.packet_decision.PacketDecision.TheVariants.{Discard, Accept}
use Rattle.rules.specs.Intervals.{from_to}

-- source, destination, source port, destination port, protocol
abbrev pub packet_ranges : List Interval
packet_ranges = from_to 0 4294967295 ∷ from_to 0 4294967295 ∷ from_to 0 65535 ∷ from_to 0 65535 ∷ from_to 0 255 ∷ []

abbrev pub packet_number : PacketDecision → ℕ
packet_number Discard = 0
packet_number Accept = 1
