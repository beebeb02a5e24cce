pub mod BlockOf
pub mod Blocks
pub mod SignatureOf
pub mod UnitOf
pub mod UnitReads
pub mod Units
pub mod WrittenUnits
