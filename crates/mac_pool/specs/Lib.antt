pub mod Pool
pub mod Parcel
pub mod Working
