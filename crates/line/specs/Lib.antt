pub mod Ring
pub mod Line
