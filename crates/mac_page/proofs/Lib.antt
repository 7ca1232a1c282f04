pub mod HomeLemmas
pub mod PageLemmas
pub mod SecretLemmas
