pub mod Appends
pub mod InspectedLemmas
pub mod MomentLemmas
pub mod WarnedLemmas
pub mod PayloadLemmas
pub mod KeyLineLemmas
pub mod KeptLines
pub mod ExplainedLemmas
