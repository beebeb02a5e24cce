-- What is kept as the pool of a comparison grows.
use Rattle.mt_pool.proofs.Region.{kept}
use Rattle.mt_layers.proofs.Kept.{environment_rules}
use Rattle.mt_rules_laws.proofs.ComparisonLaws.{heads-rest, spines-rest}

pub ruleset convert_held = (kept, environment_rules)

pub ruleset heads_held = (convert_held, heads-rest)

pub ruleset spines_held = (convert_held, spines-rest)
