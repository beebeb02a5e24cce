pub mod HoldingRules
