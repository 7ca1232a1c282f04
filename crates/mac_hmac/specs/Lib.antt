pub mod Hmac
pub mod HmacState
pub mod Chain
pub mod Begun
