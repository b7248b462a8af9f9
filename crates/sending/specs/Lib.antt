pub mod Printing
pub mod Tailing
pub mod Running
pub mod Text
