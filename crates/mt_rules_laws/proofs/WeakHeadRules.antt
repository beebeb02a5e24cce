-- The weak head, rule by rule, as a program follows it: what each case gives, at what cost, and that no case leaves more than its first part.
use Rattle.std.specs.Prelude.{ℕ, zero, suc, ◌≡◌, ◌-◌, ◌<◌, ◌≤◌, refl, List, Bool, true, false, if◌then◌else◌, Option, Some, None, is_some, slice_get}
use Rattle.std.proofs.Common.{sym, ◌∙◌, ap, arith}
use Rattle.mt_term.specs.Trees.{Bytes, Tree, Trees, Arms, Var, Sort, Prod, Lam, App, Const, Ind, Con, Match, Meta, End, Item}
use Rattle.mt_term.specs.Substitution.{apps}
use Rattle.mt_term.specs.Declarations.{Constructor, Declaration, Axiom, Definition, Inductive, Recursive, Environment}
use Rattle.mt_term.specs.Reasons.{Reason}
use Rattle.mt_term.specs.declared.universes.Sort.{Sort as AnySort}
use Rattle.mt_rules.specs.Charges.{Outcome, Done, Refused, Spent, Charged, give, charge, and_then, rest}
use Rattle.mt_term.specs.Spines.{on_args, with_first, item_at, put_at}
use Rattle.mt_term.specs.Stores.{Store, body_of}
use Rattle.mt_rules.specs.WeakHead.{plain, full_con, matched, beta, body_under, opened, on_opened, unfolded, recursive_step, follow, whd, beside, look, paid, step}
use Rattle.mt_rules_laws.proofs.Charged.{then-rest, charge-rest}
use Rattle.mt_rules_laws.proofs.WeakHeadLaws.{whd-is, whd-rest, look-rest, step-rest}

pub plain-beside : (E : Environment) (S : Store) (s : Trees) → plain (beside E S s) ≡ s
plain-beside E S End = refl
plain-beside E S (Item a s) = ap (Item a) (plain-beside E S s)

some_inj : {A : Type 0} {a b : A} → Some a ≡ Some b → a ≡ b
some_inj {a = a} e = ap (elim [ None ↦ a | Some x ↦ x ]) e

module _ (E : Environment) (S : Store) where
  pub whd-look : (t : Tree) (n : ℕ) → whd E S t n ≡ and_then (look E S t End n) (follow (whd E S) t)
  unfolding look
  whd-look t n = whd-is E S t n

  pub whd-none : (t : Tree) (n l : ℕ) → look E S t End n ≡ Done None l → whd E S t n ≡ Done t l
  whd-none t n l e = whd-look t n ∙ ap (λ o. and_then o (follow (whd E S) t)) e

  whd-some : (t u : Tree) (n l : ℕ) → look E S t End n ≡ Done (Some u) l → whd E S t n ≡ charge (whd E S u) l
  whd-some t u n l e = whd-look t n ∙ ap (λ o. and_then o (follow (whd E S) t)) e

  -- a step is paid for by one charge
  pub whd-goes : (t u : Tree) (n l : ℕ) → look E S t End n ≡ Done (Some u) l → 0 < l → whd E S t n ≡ whd E S u (l - 1)
  whd-goes t u n l e h =
      let p : l ≡ suc (l - 1) = omega (arith, h) in
      whd-some t u n l e ∙ ap (charge (whd E S u)) p

  pub whd-out : (t u : Tree) (n l : ℕ) → look E S t End n ≡ Done (Some u) l → l ≡ 0 → whd E S t n ≡ Spent
  whd-out t u n l e p = whd-some t u n l e ∙ ap (charge (whd E S u)) p

  pub whd-spent : (t : Tree) (n : ℕ) → look E S t End n ≡ Spent → whd E S t n ≡ Spent
  whd-spent t n e = whd-look t n ∙ ap (λ o. and_then o (follow (whd E S) t)) e

  pub whd-refused : (t : Tree) (n l : ℕ) (r : Reason) → look E S t End n ≡ Refused r l → whd E S t n ≡ Refused r l
  whd-refused t n l r e = whd-look t n ∙ ap (λ o. and_then o (follow (whd E S) t)) e

  follow-rest : (t : Tree) (o : Option Tree) (l : ℕ) → rest (follow (whd E S) t o l) ≤ l
  follow-rest t None l = omega arith
  follow-rest t (Some u) l = charge-rest (whd E S u) (whd-rest E S u) l

  pub whd-within : (t : Tree) (n : ℕ) → rest (whd E S t n) ≤ rest (look E S t End n)
  whd-within t n = rw (whd-look t n) (then-rest (look E S t End n) _ (follow-rest t))

  pub look-lam : (x : Bytes) (a b : Tree) (s : Trees) (n : ℕ) → look E S (Lam x a b) s n ≡ Done (beta b s) n
  unfolding look
  look-lam x a b s n = ap (λ q. Done (beta b q) n) (plain-beside E S s)

  pub look-app : (f a : Tree) (s : Trees) (n : ℕ) → look E S (App f a) s n ≡ look E S f (Item a s) n
  unfolding look
  look-app f a s n = refl

  pub look-meta : (m : ℕ) (t s : Trees) (n : ℕ) → look E S (Meta m t) s n ≡ Done (on_args (body_under (body_of (S.at m)) t) s) n
  unfolding look
  look-meta m t s n = ap (λ q. Done (on_args (body_under (body_of (S.at m)) t) q) n) (plain-beside E S s)

  pub look-var : (i : ℕ) (s : Trees) (n : ℕ) → look E S (Var i) s n ≡ Done None n
  unfolding look
  look-var i s n = refl

  pub look-sort : (r : AnySort) (s : Trees) (n : ℕ) → look E S (Sort r) s n ≡ Done None n
  unfolding look
  look-sort r s n = refl

  pub look-prod : (x : Bytes) (a b : Tree) (s : Trees) (n : ℕ) → look E S (Prod x a b) s n ≡ Done None n
  unfolding look
  look-prod x a b s n = refl

  pub look-ind : (e : ℕ) (s : Trees) (n : ℕ) → look E S (Ind e) s n ≡ Done None n
  unfolding look
  look-ind e s n = refl

  pub look-con : (e k : ℕ) (s : Trees) (n : ℕ) → look E S (Con e k) s n ≡ Done None n
  unfolding look
  look-con e k s n = refl

  -- matches
  pub look-match : (e : ℕ) (r c : Tree) (bs : Arms) (s : Trees) (n : ℕ)
      → look E S (Match e r c bs) s n ≡ and_then (whd E S c n) (λ d. give (on_args (matched E.entries e r bs d) s))
  unfolding look
  look-match e r c bs s n =
      rw (plain-beside E S s) (ap (λ o. and_then o (λ d. give (on_args (matched E.entries e r bs d) s))) (sym (whd-is E S c n)))

  pub look-match_done : (e : ℕ) (r c d : Tree) (bs : Arms) (s : Trees) (n l : ℕ) → whd E S c n ≡ Done d l
      → look E S (Match e r c bs) s n ≡ Done (on_args (matched E.entries e r bs d) s) l
  look-match_done e r c d bs s n l h = look-match e r c bs s n ∙ ap (λ o. and_then o (λ d. give (on_args (matched E.entries e r bs d) s))) h

  pub look-match_spent : (e : ℕ) (r c : Tree) (bs : Arms) (s : Trees) (n : ℕ) → whd E S c n ≡ Spent → look E S (Match e r c bs) s n ≡ Spent
  look-match_spent e r c bs s n h = look-match e r c bs s n ∙ ap (λ o. and_then o (λ d. give (on_args (matched E.entries e r bs d) s))) h

  pub look-match_refused : (e : ℕ) (r c : Tree) (bs : Arms) (s : Trees) (n l : ℕ) (q : Reason) → whd E S c n ≡ Refused q l → look E S (Match e r c bs) s n ≡ Refused q l
  look-match_refused e r c bs s n l q h = look-match e r c bs s n ∙ ap (λ o. and_then o (λ d. give (on_args (matched E.entries e r bs d) s))) h

  pub look-match_within : (e : ℕ) (r c : Tree) (bs : Arms) (s : Trees) (n : ℕ) → rest (look E S (Match e r c bs) s n) ≤ rest (whd E S c n)
  look-match_within e r c bs s n = rw (look-match e r c bs s n) (then-rest (whd E S c n) _ (λ d l. omega arith))

  -- constants
  pub look-const : (c : ℕ) (s : Trees) (n : ℕ) (o : Option Declaration) → slice_get E.entries c ≡ o → look E S (Const c) s n ≡ unfolded E.entries o (beside E S s) n
  unfolding look
  look-const c s n o h = ap (λ q. unfolded E.entries q (beside E S s) n) h

  pub look-missing : (c : ℕ) (s : Trees) (n : ℕ) → slice_get E.entries c ≡ None → look E S (Const c) s n ≡ Done None n
  look-missing c s n h = look-const c s n None h

  pub look-axiom : (c : ℕ) (s : Trees) (n : ℕ) (x : Bytes) (t : Tree) → slice_get E.entries c ≡ Some (Axiom x t) → look E S (Const c) s n ≡ Done None n
  look-axiom c s n x t h = look-const c s n _ h

  pub look-inductive : (c : ℕ) (s : Trees) (n : ℕ) (x : Bytes) (co : Bool) (p : ℕ) (t : Tree) (cs : List Constructor) (large : Bool) → slice_get E.entries c ≡ Some (Inductive x co p t cs large) → look E S (Const c) s n ≡ Done None n
  look-inductive c s n x co p t cs large h = look-const c s n _ h

  pub look-definition : (c : ℕ) (s : Trees) (n : ℕ) (x : Bytes) (t b : Tree) → slice_get E.entries c ≡ Some (Definition x t b) → look E S (Const c) s n ≡ Done (Some (apps b s)) n
  look-definition c s n x t b h = look-const c s n _ h ∙ ap (λ q. Done (Some (apps b q)) n) (plain-beside E S s)

  pub look-corecursive : (c : ℕ) (s : Trees) (n : ℕ) (x : Bytes) (bound r : ℕ) (t b : Tree) (made : Bool) → slice_get E.entries c ≡ Some (Recursive x true bound r t b made) → look E S (Const c) s n ≡ Done None n
  look-corecursive c s n x bound r t b made h = look-const c s n _ h

  -- the arguments opened at a place that is there, or past them
  opened-past : (r : ℕ) (s : Trees) (n : ℕ) → item_at s r ≡ None → opened E.entries r (beside E S s) n ≡ Done None n
  opened-past r End n h = refl
  opened-past zero (Item b s) n h = absurd cc
  opened-past (suc r) (Item b s) n h = ap (λ o. and_then o (λ q. give (with_first b q))) (opened-past r s n h)

  abbrev opening : ℕ → Trees → Tree → Charged (Option Trees)
  opening r s d = give (if is_some (full_con E.entries d) then Some (put_at r d s) else None)

  with_if : (b : Tree) (p : Bool) (q : Trees) → with_first b (if p then Some q else None) ≡ (if p then Some (Item b q) else None)
  with_if b true q = refl
  with_if b false q = refl

  opened-then : (b : Tree) (r : ℕ) (s : Trees) (o : Outcome Tree) → and_then (and_then o (opening r s)) (λ q. give (with_first b q)) ≡ and_then o (opening (suc r) (Item b s))
  opened-then b r s (Done d l) = ap (λ q. Done q l) (with_if b (is_some (full_con E.entries d)) (put_at r d s))
  opened-then b r s (Refused q l) = refl
  opened-then b r s Spent = refl

  opened-item : (r : ℕ) (s : Trees) (a : Tree) (n : ℕ) → item_at s r ≡ Some a → opened E.entries r (beside E S s) n ≡ and_then (whd E S a n) (opening r s)
  opened-item r End a n h = absurd cc
  opened-item zero (Item b s) a n h =
      rw (plain-beside E S s) (ap (λ o. and_then o (opening zero (Item b s))) (sym (whd-is E S b n)) ∙ ap (λ t. and_then (whd E S t n) (opening zero (Item b s))) (some_inj h))
  opened-item (suc r) (Item b s) a n h =
      ap (λ o. and_then o (λ q. give (with_first b q))) (opened-item r s a n h) ∙ opened-then b r s (whd E S a n)

  on_if : (b : Tree) (p : Bool) (q : Trees) → on_opened b (if p then Some q else None) ≡ (if p then Some (apps b q) else None)
  on_if b true q = refl
  on_if b false q = refl

  stepped : (b : Tree) (r : ℕ) (s : Trees) (o : Outcome Tree) → and_then (and_then o (opening r s)) (λ q. give (on_opened b q)) ≡ and_then o (λ d. give (recursive_step E.entries r b s d))
  stepped b r s (Done d l) = ap (λ q. Done q l) (on_if b (is_some (full_con E.entries d)) (put_at r d s))
  stepped b r s (Refused q l) = refl
  stepped b r s Spent = refl

  module _ (c : ℕ) (s : Trees) (n : ℕ) (x : Bytes) (bound r : ℕ) (t b : Tree) (made : Bool) (h : slice_get E.entries c ≡ Some (Recursive x false bound r t b made)) where
    pub look-recursive_past : item_at s r ≡ None → look E S (Const c) s n ≡ Done None n
    look-recursive_past p = look-const c s n _ h ∙ ap (λ o. and_then o (λ q. give (on_opened b q))) (opened-past r s n p)

    pub look-recursive : (a : Tree) → item_at s r ≡ Some a → look E S (Const c) s n ≡ and_then (whd E S a n) (λ d. give (recursive_step E.entries r b s d))
    look-recursive a p = look-const c s n _ h ∙ ap (λ o. and_then o (λ q. give (on_opened b q))) (opened-item r s a n p) ∙ stepped b r s (whd E S a n)

    pub look-recursive_done : (a d : Tree) (l : ℕ) → item_at s r ≡ Some a → whd E S a n ≡ Done d l → look E S (Const c) s n ≡ Done (recursive_step E.entries r b s d) l
    look-recursive_done a d l p e = look-recursive a p ∙ ap (λ o. and_then o (λ d. give (recursive_step E.entries r b s d))) e

    pub look-recursive_spent : (a : Tree) → item_at s r ≡ Some a → whd E S a n ≡ Spent → look E S (Const c) s n ≡ Spent
    look-recursive_spent a p e = look-recursive a p ∙ ap (λ o. and_then o (λ d. give (recursive_step E.entries r b s d))) e

    pub look-recursive_refused : (a : Tree) (l : ℕ) (q : Reason) → item_at s r ≡ Some a → whd E S a n ≡ Refused q l → look E S (Const c) s n ≡ Refused q l
    look-recursive_refused a l q p e = look-recursive a p ∙ ap (λ o. and_then o (λ d. give (recursive_step E.entries r b s d))) e

    pub look-recursive_within : (a : Tree) → item_at s r ≡ Some a → rest (look E S (Const c) s n) ≤ rest (whd E S a n)
    look-recursive_within a p = rw (look-recursive a p) (then-rest (whd E S a n) _ (λ d l. omega arith))

  -- one step
  pub step-none : (t : Tree) (n l : ℕ) → look E S t End n ≡ Done None l → step E S t n ≡ Done None l
  unfolding step
  step-none t n l e = ap (λ o. and_then o paid) e

  step-some : (t u : Tree) (n l : ℕ) → look E S t End n ≡ Done (Some u) l → step E S t n ≡ charge (give (Some u)) l
  unfolding step
  step-some t u n l e = ap (λ o. and_then o paid) e

  pub step-paid : (t u : Tree) (n l : ℕ) → look E S t End n ≡ Done (Some u) l → 0 < l → step E S t n ≡ Done (Some u) (l - 1)
  step-paid t u n l e h =
      let p : l ≡ suc (l - 1) = omega (arith, h) in
      step-some t u n l e ∙ ap (charge (give (Some u))) p

  pub step-out : (t u : Tree) (n l : ℕ) → look E S t End n ≡ Done (Some u) l → l ≡ 0 → step E S t n ≡ Spent
  step-out t u n l e p = step-some t u n l e ∙ ap (charge (give (Some u))) p

  pub step-spent : (t : Tree) (n : ℕ) → look E S t End n ≡ Spent → step E S t n ≡ Spent
  unfolding step
  step-spent t n e = ap (λ o. and_then o paid) e

  pub step-refused : (t : Tree) (n l : ℕ) (r : Reason) → look E S t End n ≡ Refused r l → step E S t n ≡ Refused r l
  unfolding step
  step-refused t n l r e = ap (λ o. and_then o paid) e

  paid-rest : (o : Option Tree) (l : ℕ) → rest (paid o l) ≤ l
  paid-rest None l = omega arith
  paid-rest (Some u) l = charge-rest (give (Some u)) (λ l. omega arith) l

  pub step-within : (t : Tree) (n : ℕ) → rest (step E S t n) ≤ rest (look E S t End n)
  unfolding step
  step-within t n = then-rest (look E S t End n) _ paid-rest

pub ruleset look_rules = (look-rest, whd-rest, look-lam, look-app, look-meta, look-var, look-sort, look-prod, look-ind, look-con, look-match_done, look-match_spent, look-match_refused, look-match_within, look-missing, look-axiom, look-inductive, look-definition, look-corecursive, look-recursive_past, look-recursive_done, look-recursive_spent, look-recursive_refused, look-recursive_within)

pub ruleset whd_rules = (look-rest, whd-rest, whd-none, whd-goes, whd-out, whd-spent, whd-refused, whd-within)

pub ruleset step_rules = (look-rest, step-rest, step-none, step-paid, step-out, step-spent, step-refused, step-within)
