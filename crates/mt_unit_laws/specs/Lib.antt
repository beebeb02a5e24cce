pub mod UnitLaw
pub mod EachPlace
