pub mod TextLemmas
pub mod QuotaLemmas
pub mod Appends
pub mod LineLemmas
pub mod FieldLemmas
pub mod CutLemmas
pub mod ShortLemmas
