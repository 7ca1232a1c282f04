pub mod HttpLemmas
