pub mod Unended
pub mod Relaid
pub mod Obeys
pub mod Relayed
pub mod Turns
