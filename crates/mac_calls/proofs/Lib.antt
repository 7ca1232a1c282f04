pub mod BodyLemmas
pub mod ListLemmas
pub mod ReceivedLemmas
pub mod JudgedLemmas
pub mod InspectLemmas
pub mod WireLemmas
pub mod WarnedLemmas
