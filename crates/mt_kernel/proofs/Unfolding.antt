-- What a constant on arguments becomes, by the entry that the program holds.
use Rattle.std.proofs.Common.{ℕ, ◌≡◌, ◌≤◌, Bool, true, false, List, Some, None, slice_get, ap, ◌∙◌}
use Rattle.mt_term.specs.Trees.{Bytes, Tree, Trees, Const}
use Rattle.mt_term.specs.Substitution.{apps}
use Rattle.mt_term.specs.Declarations.{Constructor, Axiom, Definition, Inductive, Recursive}
use Rattle.mt_term.specs.Reasons.{Reason}
use Rattle.mt_rules.specs.Charges.{Done, Refused, Spent, rest}
use Rattle.mt_term.specs.Spines.{item_at}
use Rattle.mt_term.specs.Stores.{no_store}
use Rattle.mt_rules.specs.WeakHead.{look, recursive_step, whd}
use Rattle.mt_rules_laws.proofs.WeakHeadRules.{look-missing, look-axiom, look-inductive, look-definition, look-corecursive, look-recursive_past, look-recursive_done, look-recursive_spent, look-recursive_refused, look-recursive_within, look_rules}
use Rattle.mt_term.specs.declared.environment.PlainEnv.{PlainEnv}
use Rattle.mt_term.specs.EnvironmentOf.{environment_of}

module _ (env : PlainEnv) (c : ℕ) (s : Trees) (n : ℕ) where
  pub missing_stays : slice_get env.entries c ≡ None → look (environment_of env) no_store (Const c) s n ≡ Done None n
  missing_stays h = look-missing (environment_of env) no_store c s n h

  pub axiom_stays : (x : Bytes) (t : Tree) → slice_get env.entries c ≡ Some (Axiom x t) → look (environment_of env) no_store (Const c) s n ≡ Done None n
  axiom_stays x t h = look-axiom (environment_of env) no_store c s n x t h

  pub inductive_stays : (x : Bytes) (co : Bool) (p : ℕ) (t : Tree) (cs : List Constructor) (large : Bool) → slice_get env.entries c ≡ Some (Inductive x co p t cs large) → look (environment_of env) no_store (Const c) s n ≡ Done None n
  inductive_stays x co p t cs large h = look-inductive (environment_of env) no_store c s n x co p t cs large h

  pub definition_unfolds : (x : Bytes) (t b : Tree) → slice_get env.entries c ≡ Some (Definition x t b) → look (environment_of env) no_store (Const c) s n ≡ Done (Some (apps b s)) n
  definition_unfolds x t b h = look-definition (environment_of env) no_store c s n x t b h

-- of a recursive or corecursive function
module _ (env : PlainEnv) (c : ℕ) (s : Trees) (n : ℕ) (x : Bytes) (co : Bool) (binders r : ℕ) (t b : Tree) (made : Bool) (h : slice_get env.entries c ≡ Some (Recursive x co binders r t b made)) where
  pub corecursive_stays : co ≡ true → look (environment_of env) no_store (Const c) s n ≡ Done None n
  corecursive_stays e = look-corecursive (environment_of env) no_store c s n x binders r t b made (h ∙ ap (λ q. Some (Recursive x q binders r t b made)) e)

  pub short_stays : co ≡ false → item_at s r ≡ None → look (environment_of env) no_store (Const c) s n ≡ Done None n
  short_stays e p = look-recursive_past (environment_of env) no_store c s n x binders r t b made (h ∙ ap (λ q. Some (Recursive x q binders r t b made)) e) p

  module _ (e : co ≡ false) (a : Tree) (p : item_at s r ≡ Some a) where
    pub recursive_unfolds : (d : Tree) (l : ℕ) → whd (environment_of env) no_store a n ≡ Done d l → look (environment_of env) no_store (Const c) s n ≡ Done (recursive_step env.entries r b s d) l
    recursive_unfolds d l g = look-recursive_done (environment_of env) no_store c s n x binders r t b made (h ∙ ap (λ q. Some (Recursive x q binders r t b made)) e) a d l p g

    pub recursive_spent : whd (environment_of env) no_store a n ≡ Spent → look (environment_of env) no_store (Const c) s n ≡ Spent
    recursive_spent g = look-recursive_spent (environment_of env) no_store c s n x binders r t b made (h ∙ ap (λ q. Some (Recursive x q binders r t b made)) e) a p g

    pub recursive_refused : (l : ℕ) (q : Reason) → whd (environment_of env) no_store a n ≡ Refused q l → look (environment_of env) no_store (Const c) s n ≡ Refused q l
    recursive_refused l q g = look-recursive_refused (environment_of env) no_store c s n x binders r t b made (h ∙ ap (λ q. Some (Recursive x q binders r t b made)) e) a l q p g

    pub recursive_within : rest (look (environment_of env) no_store (Const c) s n) ≤ rest (whd (environment_of env) no_store a n)
    recursive_within = look-recursive_within (environment_of env) no_store c s n x binders r t b made (h ∙ ap (λ q. Some (Recursive x q binders r t b made)) e) a p

pub ruleset unfolding_rules = (look_rules, missing_stays, axiom_stays, inductive_stays, definition_unfolds, corecursive_stays, short_stays, recursive_unfolds, recursive_spent, recursive_refused, recursive_within)
