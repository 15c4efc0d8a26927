pub mod Commands
pub mod Packets
pub mod CommandDecisionKindLemmas
pub mod PacketDecisionKindLemmas
