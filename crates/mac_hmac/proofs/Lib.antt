pub mod ChainLemmas
pub mod HmacLemmas
pub mod DigestLemmas
pub mod BegunLemmas
