-- What decides whether a metavariable is reached says what the test says.
use Rattle.std.specs.Prelude.{◌≡◌, ℕ, Bool}
use Rattle.std.specs.Bool.{Decides, one_answer}
use Rattle.mt_term.specs.Trees.{Tree}
use Rattle.mt_term.specs.Stores.{Owned, Acyclic, AllMetas, InStore, Reaches, store_of}
use Rattle.mt_unification_rules.specs.Reach.{reaches}
use Rattle.mt_unification_rules.specs.Placeholders.{Metas}
use Rattle.mt_unification_laws.proofs.ReachTest.{reach_test_law}

pub reaches-decided : (ms : Metas) (t : Tree) (n : ℕ) (b : Bool) → Owned (store_of ms) → Acyclic (store_of ms) → AllMetas (InStore (store_of ms)) t → Decides b (Reaches (store_of ms) t n) → reaches ms t n ≡ b
reaches-decided ms t n b own acyclic a h = one_answer (reaches ms t n) b (reach_test_law ms own acyclic t a n) h
