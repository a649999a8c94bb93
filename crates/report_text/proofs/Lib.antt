pub mod DigitsTold
mod SpinsOf
