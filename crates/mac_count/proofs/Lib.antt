pub mod OnceLemmas
pub mod CountLemmas
pub mod TimeLemmas
pub mod TextLemmas
