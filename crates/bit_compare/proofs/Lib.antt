pub mod Adding
mod WorkedCounts
