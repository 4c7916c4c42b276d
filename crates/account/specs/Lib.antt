pub mod Made
pub mod Account
pub mod History
