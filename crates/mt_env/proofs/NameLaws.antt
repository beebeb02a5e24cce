-- Names that are found, and names that are distinct.
use Rattle.std.proofs.Common.{ℕ, ◌≡◌, Bool, true, false, cond, if◌then◌else◌, List, [], ◌∷◌, ◌++◌, map, take, drop, Some, None, refl, sym, ap, ◌∙◌, subst, append_assoc}
use Rattle.std.specs.Prelude.{nat_eq}
use Rattle.std.specs.Str.{bytes_eq}
use Rattle.std.specs.Cmp.Lexicographic.{pointwise, nat_list_eq_equiv}
use Rattle.std.specs.Map.{lookup}
use Rattle.std.proofs.lemmas.List.{take-append-drop}
use Rattle.indexmap.specs.IndexMap.{insert_entry}
use Rattle.mt_term.specs.Trees.{Tree, Bytes}
use Rattle.mt_term.specs.Naming.{Naming, find}
use Rattle.mt_env.specs.declared.refs.Ref.{Ref}
use Rattle.mt_env.specs.declared.stops.EnvStop.{EnvStop}
use Rattle.mt_env.specs.declared.stops.EnvStop.TheVariants.{Taken, OutOfMemory}
use Rattle.mt_env.specs.Names.{term_of, said, Distinct}
use Rattle.mt_env.specs.Refusals.{AreRefusedBy}

module _ {V : Type 0} (items : V → List ℕ) where
  abbrev pub seen_of : V × Ref → Bytes × Tree
  seen_of e = (items e.0, term_of e.1)

  pub found_name : (es : List (V × Ref)) (w : List ℕ) → said (lookup (λ v. pointwise nat_eq w (items v)) es) ≡ find (map seen_of es) w
  found_name [] w = refl
  found_name (e ∷ es) w = by (pointwise nat_eq w (items e.0)) (bytes_eq (items e.0) w) (nat_list_eq_equiv.symm w (items e.0)) (found_name es w)
    where
      by : (a b : Bool) → a ≡ b → said (lookup (λ v. pointwise nat_eq w (items v)) es) ≡ find (map seen_of es) w
          → said (cond a (Some e.1) (lookup (λ v. pointwise nat_eq w (items v)) es)) ≡ (if b then Some (term_of e.1) else find (map seen_of es) w)
      by true true q h = refl
      by false false q h = h
      by true false q h = cc
      by false true q h = cc

  pub entry_last : (es : List (V × Ref)) (v : V) (r : Ref) → find (map seen_of es) (items v) ≡ None
      → map seen_of (insert_entry (λ u w. pointwise nat_eq (items u) (items w)) es v r) ≡ map seen_of es ++ seen_of (v, r) ∷ []
  entry_last [] v r h = refl
  entry_last (e ∷ es) v r h = by (pointwise nat_eq (items v) (items e.0)) (bytes_eq (items e.0) (items v)) (nat_list_eq_equiv.symm (items v) (items e.0)) h (entry_last es v r)
    where
      by : (a b : Bool) → a ≡ b → (if b then Some (term_of e.1) else find (map seen_of es) (items v)) ≡ None
          → (find (map seen_of es) (items v) ≡ None
          → map seen_of (insert_entry (λ u w. pointwise nat_eq (items u) (items w)) es v r) ≡ map seen_of es ++ seen_of (v, r) ∷ [])
          → map seen_of (if a then (e.0, r) ∷ es else e ∷ insert_entry (λ u w. pointwise nat_eq (items u) (items w)) es v r)
          ≡ seen_of e ∷ (map seen_of es ++ seen_of (v, r) ∷ [])
      by true true q h f = let no : ⊥ = cc in absurd no
      by false false q h f = ap (λ (l : Naming). seen_of e ∷ l) (f h)
      by true false q h f = let no : ⊥ = cc in absurd no
      by false true q h f = let no : ⊥ = cc in absurd no

head_missed : (n : Bytes × Tree) (ns : Naming) (x : Bytes) → find (n ∷ ns) x ≡ None → bytes_eq n.0 x ≡ false
head_missed n ns x h = by (bytes_eq n.0 x) h
  where
    by : (b : Bool) → (if b then Some n.1 else find ns x) ≡ None → b ≡ false
    by true q = let no : ⊥ = cc in absurd no
    by false q = refl

tail_missed : (n : Bytes × Tree) (ns : Naming) (x : Bytes) → find (n ∷ ns) x ≡ None → find ns x ≡ None
tail_missed n ns x h = by (bytes_eq n.0 x) h
  where
    by : (b : Bool) → (if b then Some n.1 else find ns x) ≡ None → find ns x ≡ None
    by true q = let no : ⊥ = cc in absurd no
    by false q = q

missed : (n : Bytes × Tree) (ns : Naming) (x : Bytes) → bytes_eq n.0 x ≡ false → find ns x ≡ None → find (n ∷ ns) x ≡ None
missed n ns x e h = ap (λ b. if b then Some n.1 else find ns x) e ∙ h

missed_last : (ns : Naming) (m : Bytes × Tree) (x : Bytes) → find ns x ≡ None → bytes_eq m.0 x ≡ false → find (ns ++ m ∷ []) x ≡ None
missed_last [] m x h e = missed m [] x e refl
missed_last (n ∷ ns) m x h e = missed n (ns ++ m ∷ []) x (head_missed n ns x h) (missed_last ns m x (tail_missed n ns x h) e)

found_there : (ns : Naming) (m : Bytes × Tree) (rest : Naming) (x : Bytes) → bytes_eq m.0 x ≡ true → find (ns ++ m ∷ rest) x ≡ None → ⊥
found_there [] m rest x e h = let f = head_missed m rest x h in cc
found_there (n ∷ ns) m rest x e h = found_there ns m rest x e (tail_missed n (ns ++ m ∷ rest) x h)

pub distinct_more : (ns : Naming) (m : Bytes × Tree) → Distinct ns → find ns m.0 ≡ None → Distinct (ns ++ m ∷ [])
distinct_more [] m d h = (refl, tt)
distinct_more (n ∷ ns) m d h =
    (missed_last ns m n.0 d.0 (nat_list_eq_equiv.symm m.0 n.0 ∙ head_missed n ns m.0 h), distinct_more ns m d.1 (tail_missed n ns m.0 h))

pub distinct_clash : (ns : Naming) (m : Bytes × Tree) (rest : Naming) → Distinct (ns ++ m ∷ rest) → (find ns m.0 ≡ None → ⊥) → ⊥
distinct_clash [] m rest d h = h refl
distinct_clash (n ∷ ns) m rest d h = distinct_clash ns m rest d.1 (λ e. h (by (bytes_eq n.0 m.0) refl e))
  where
    by : (b : Bool) → bytes_eq n.0 m.0 ≡ b → find ns m.0 ≡ None → find (n ∷ ns) m.0 ≡ None
    by true q e = absurd (found_there ns m rest n.0 (nat_list_eq_equiv.symm m.0 n.0 ∙ q) d.0)
    by false q e = missed n ns m.0 q e

missed_front : (ns ms : Naming) (x : Bytes) → find (ns ++ ms) x ≡ None → find ns x ≡ None
missed_front [] ms x h = refl
missed_front (n ∷ ns) ms x h = missed n ns x (head_missed n (ns ++ ms) x h) (missed_front ns ms x (tail_missed n (ns ++ ms) x h))

pub distinct_front : (ns ms : Naming) → Distinct (ns ++ ms) → Distinct ns
distinct_front [] ms d = tt
distinct_front (n ∷ ns) ms d = (missed_front ns ms n.0 d.0, distinct_front ns ms d.1)

pub distinct_take : (k : ℕ) (ns : Naming) → Distinct ns → Distinct (take k ns)
distinct_take k ns d = distinct_front (take k ns) (drop k ns) (subst Distinct (sym (take-append-drop k ns)) d)

-- what refuses a name refuses it after and before others
pub refused_among : (e : EnvStop) (old ns : Naming) (m : Bytes × Tree) (rest : Naming) → AreRefusedBy e (old ++ ns) (m ∷ []) → AreRefusedBy e old (ns ++ m ∷ rest)
refused_among Taken old ns m rest h = λ d.
    h (distinct_front ((old ++ ns) ++ m ∷ []) rest
    (subst Distinct (sym (append_assoc old ns (m ∷ rest)) ∙ sym (append_assoc (old ++ ns) (m ∷ []) rest)) d))
refused_among OutOfMemory old ns m rest h = tt
