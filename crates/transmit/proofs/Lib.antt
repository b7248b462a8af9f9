pub mod Adding
pub mod Passing
pub mod Allowing
pub mod Agreement
pub mod Lawfulness
