-- what public contracts say
pub mod Kinds
pub mod Encoding
pub mod Lengths
pub mod Rooms
pub mod Reading
pub mod Tests
pub mod Decoding
pub mod UnevenDecoding
pub mod BankEncoding
pub mod BankDecoding
pub mod Laws
-- what the steps inside say: for proofs alone
pub mod PackedBytes
pub mod Unfilled
