pub mod First
pub mod Taking
