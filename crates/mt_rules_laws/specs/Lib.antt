pub mod ReductionLaws
pub mod AllowanceLaws
pub mod RuleTables
