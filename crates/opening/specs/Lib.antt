pub mod Feeding
pub mod Headed
pub mod Opening
