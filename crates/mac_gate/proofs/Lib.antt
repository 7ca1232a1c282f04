pub mod ListLemmas
pub mod TurnLemmas
pub mod Sent
pub mod LifeLemmas
pub mod GoingLemmas
pub mod AnsweredLemmas
pub mod LawLemmas
pub mod LineLemmas
