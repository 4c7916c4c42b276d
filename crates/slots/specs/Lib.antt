pub mod Slots
pub mod Lending
