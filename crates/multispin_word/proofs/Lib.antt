pub mod Bits
pub mod Numbers
pub mod Halves
mod WorkedNumbers
