-- Tables of names: what is found after names are added.
use Rattle.std.proofs.Common.{◌≡◌, ℕ, zero, suc, ◌+◌, Bool, true, false, cond, List, [], ◌∷◌, ◌++◌, length, take, map, Option, Some, None, refl, sym, ap, ◌∙◌, arith, Vec, Global}
use Rattle.std.specs.Prelude.{nat_eq, if◌then◌else◌, is_some, slice_get}
use Rattle.std.proofs.Math.Seq.{take-append_seam}
use Rattle.indexmap.specs.IndexMap.{insert_entry}
use Rattle.std.specs.Cmp.Lexicographic.{pointwise, nat_list_eq_equiv, same_text}
use Rattle.std.specs.Str.{bytes_eq}
use Rattle.std.specs.Map.{lookup}
use Rattle.std.proofs.lemmas.List.{append_assoc, append-nil}
use Rattle.mt_term.specs.Trees.{Tree, Bytes, Con}
use Rattle.mt_term.specs.Declarations.{Declaration, Constructor}
use Rattle.mt_term.specs.Naming.{Naming, find, named, naming, naming_from, naming_entry, naming_constructors}
use Rattle.mt_resolver.specs.declared.meanings.Meaning.{Meaning}
use Rattle.mt_resolver.specs.TableOf.{tree_meant, seen_meaning, FindsSame, AreNamesOf, Extends}

abbrev Bytes' : Type 0
Bytes' = Vec ℕ Global

-- how a table's entries are seen
abbrev pub seen_entry : Bytes' × Meaning → Bytes × Tree
seen_entry e = (e.0.items, tree_meant e.1)

-- the first of two that is there
abbrev pub or_else : {A : Type 0} → Option A → Option A → Option A
or_else (Some a) o = Some a
or_else None o = o

pub find-append : (a b : Naming) (x : Bytes) → find (a ++ b) x ≡ or_else (find a x) (find b x)
find-append [] b x = refl
find-append (n ∷ a) b x = by (bytes_eq n.0 x) (find-append a b x)
  where
    by : (c : Bool) → find (a ++ b) x ≡ or_else (find a x) (find b x) → (if c then Some n.1 else find (a ++ b) x) ≡ or_else (if c then Some n.1 else find a x) (find b x)
    by true _ = refl
    by false rest = rest

-- what the map finds is what is found in the table
pub lookup-find : (es : List (Bytes' × Meaning)) (x : Bytes) → seen_meaning (lookup (λ k. pointwise nat_eq x k.items) es) ≡ find (map seen_entry es) x
lookup-find [] x = refl
lookup-find (e ∷ es) x = by (pointwise nat_eq x e.0.items) (pointwise nat_eq e.0.items x) (nat_list_eq_equiv.symm x e.0.items) (lookup-find es x)
  where
    by : (a b : Bool) → a ≡ b → seen_meaning (lookup (λ k. pointwise nat_eq x k.items) es) ≡ find (map seen_entry es) x → seen_meaning (cond a (Some e.1) (lookup (λ k. pointwise nat_eq x k.items) es)) ≡ (if b then Some (tree_meant e.1) else find (map seen_entry es) x)
    by true true _ _ = refl
    by false false _ rest = rest
    by true false s _ = let no : ⊥ = cc in absurd no
    by false true s _ = let no : ⊥ = cc in absurd no

-- a new name goes last
pub insert-last : (es : List (Bytes' × Meaning)) (k : Bytes') (m : Meaning) → is_some (find (map seen_entry es) k.items) ≡ false
    → map seen_entry (insert_entry (λ (u v : Bytes'). pointwise nat_eq u.items v.items) es k m) ≡ map seen_entry es ++ (k.items, tree_meant m) ∷ []
insert-last [] k m e = refl
insert-last (e ∷ es) k m none = by (pointwise nat_eq k.items e.0.items) (pointwise nat_eq e.0.items k.items) (nat_list_eq_equiv.symm k.items e.0.items) none (insert-last es k m)
  where
    by : (a b : Bool) → a ≡ b → is_some (if b then Some (tree_meant e.1) else find (map seen_entry es) k.items) ≡ false
        → (is_some (find (map seen_entry es) k.items) ≡ false → map seen_entry (insert_entry (λ (u v : Bytes'). pointwise nat_eq u.items v.items) es k m) ≡ map seen_entry es ++ (k.items, tree_meant m) ∷ [])
        → map seen_entry (if a then (e.0, m) ∷ es else e ∷ insert_entry (λ (u v : Bytes'). pointwise nat_eq u.items v.items) es k m) ≡ seen_entry e ∷ (map seen_entry es ++ (k.items, tree_meant m) ∷ [])
    by false false _ f rest = ap (λ ns. seen_entry e ∷ ns) (rest f)
    by true true _ f rest = let no : ⊥ = cc in absurd no
    by true false s f rest = let no : ⊥ = cc in absurd no
    by false true s f rest = let no : ⊥ = cc in absurd no

-- a name that is there already
pub FindsSame-present : (T : Naming) (x : Bytes) (u : Tree) → is_some (find T x) ≡ true → FindsSame T (T ++ (x, u) ∷ [])
FindsSame-present T x u e = record { each = λ y. by y (find T y) refl (bytes_eq x y) refl ∙ sym (find-append T ((x, u) ∷ []) y) }
  where
    by : (y : Bytes) (o : Option Tree) → find T y ≡ o → (b : Bool) → bytes_eq x y ≡ b → find T y ≡ or_else (find T y) (if b then Some u else None)
    by y (Some s) f b g = f ∙ ap (λ p. or_else p (if b then Some u else None)) (sym f)
    by y None f false g = f ∙ ap (λ p. or_else p None) (sym f)
    by y None f true g =
        let same : x ≡ y = same_text x y (sym g) in
        let no : false ≡ true = sym (ap is_some f) ∙ ap (λ z. is_some (find T z)) (sym same) ∙ e in
        let never : ⊥ = cc in absurd never

pub FindsSame-equal : (S T : Naming) → S ≡ T → FindsSame S T
FindsSame-equal S T e = record { each = λ x. ap (λ n. find n x) e }

-- some names, and then more
pub FindsSame-then : (T T' T'' xs ys : Naming) → FindsSame T' (T ++ xs) → FindsSame T'' (T' ++ ys) → FindsSame T'' (T ++ (xs ++ ys))
FindsSame-then T T' T'' xs ys a b = record {
  each = λ x. b.each x ∙ find-append T' ys x ∙ ap (λ o. or_else o (find ys x)) (a.each x) ∙ sym (find-append (T ++ xs) ys x)
      ∙ ap (λ n. find n x) (append_assoc T xs ys);
}

-- the names of one more entry
naming-push : (n : ℕ) (es : List Declaration) (d : Declaration) → naming_from n (es ++ d ∷ []) ≡ naming_from n es ++ naming_entry (n + length es) d
naming-push n [] d = let e : n ≡ n + 0 = omega arith in append-nil (naming_entry n d) ∙ ap (λ k. naming_entry k d) e
naming-push n (e ∷ es) d =
    let k : suc n + length es ≡ n + suc (length es) = omega arith in
    ap (λ ns. naming_entry n e ++ ns) (naming-push (suc n) es d ∙ ap (λ k. naming_from (suc n) es ++ naming_entry k d) k)
    ∙ sym (append_assoc (naming_entry n e) (naming_from (suc n) es) (naming_entry (n + suc (length es)) d))

pub AreNamesOf-push : (T T' : Naming) (es : List Declaration) (n : ℕ) (d : Declaration) → FindsSame T' (T ++ naming_entry n d) → length es ≡ n → AreNamesOf T es → AreNamesOf T' (es ++ d ∷ [])
AreNamesOf-push T T' es n d s count names = record {
  each = λ x. s.each x ∙ find-append T (naming_entry n d) x ∙ ap (λ o. or_else o (find (naming_entry n d) x)) (names.each x)
      ∙ sym (find-append (naming es) (naming_entry n d) x)
      ∙ ap (λ ns. find ns x) (sym (naming-push 0 es d ∙ ap (λ k. naming es ++ naming_entry k d) (zeroed ∙ count)));
}
  where
    zeroed : 0 + length es ≡ length es
    zeroed = omega arith

-- ---- tables that grow

pub Extends-same : (T : Naming) → Extends T T
Extends-same T = record { more = []; is = sym (append-nil T) }

pub Extends-further : (T T' T'' : Naming) → Extends T T' → Extends T' T'' → Extends T T''
Extends-further T T' T'' a b = record { more = a.more ++ b.more; is = b.is ∙ ap (λ ns. ns ++ b.more) a.is ∙ append_assoc T a.more b.more }

pub Extends-back : (T T' : Naming) → Extends T T' → take (length T) T' ≡ T
Extends-back T T' e = ap (take (length T)) e.is ∙ take-append_seam T e.more

-- the names of constructors, one more
pub constructors-push : (n s k : ℕ) (cs : List Constructor) (c : Constructor) → slice_get cs k ≡ Some c
    → naming_constructors n s (take (suc k) cs) ≡ naming_constructors n s (take k cs) ++ (c.name, Con n (s + k)) ∷ []
constructors-push n s k [] c e = let no : ⊥ = cc in absurd no
constructors-push n s zero (b ∷ cs) c e =
    let same : b ≡ c = cc in
    let z : s ≡ s + 0 = omega arith in
    ap (λ (d : Constructor). (d.name, Con n s) ∷ []) same ∙ ap (λ k. (c.name, Con n k) ∷ []) z
constructors-push n s (suc k) (b ∷ cs) c e =
    let z : suc s + k ≡ s + suc k = omega arith in
    ap (λ ns. (b.name, Con n s) ∷ ns) (constructors-push n (suc s) k cs c e ∙ ap (λ j. naming_constructors n (suc s) (take k cs) ++ (c.name, Con n j) ∷ []) z)

pub constructors-next : (T T' T'' : Naming) (n k : ℕ) (cs : List Constructor) (c : Constructor) → slice_get cs k ≡ Some c
    → FindsSame T' (T ++ naming_constructors n 0 (take k cs)) → FindsSame T'' (T' ++ (c.name, Con n k) ∷ []) → FindsSame T'' (T ++ naming_constructors n 0 (take (k + 1) cs))
constructors-next T T' T'' n k cs c e a b =
    let z : 0 + k ≡ k = omega arith in
    let s : suc k ≡ k + 1 = omega arith in
    let next : naming_constructors n 0 (take k cs) ++ (c.name, Con n k) ∷ [] ≡ naming_constructors n 0 (take (k + 1) cs) =
    ap (λ j. naming_constructors n 0 (take k cs) ++ (c.name, Con n j) ∷ []) (sym z) ∙ sym (constructors-push n 0 k cs c e) ∙ ap (λ j. naming_constructors n 0 (take j cs)) s in
    let both : FindsSame T'' (T ++ (naming_constructors n 0 (take k cs) ++ (c.name, Con n k) ∷ [])) = FindsSame-then T T' T'' (naming_constructors n 0 (take k cs)) ((c.name, Con n k) ∷ []) a b in
    record { each = λ x. both.each x ∙ ap (λ ns. find (T ++ ns) x) next }

-- a type's name, and then its constructors
pub FindsSame-entry : (T T' T'' ys : Naming) (x : Bytes) (t : Tree) → FindsSame T' (T ++ (x, t) ∷ []) → FindsSame T'' (T' ++ ys) → FindsSame T'' (T ++ (x, t) ∷ ys)
FindsSame-entry T T' T'' ys x t a b = FindsSame-then T T' T'' ((x, t) ∷ []) ys a b

pub Extends-push : (T T' : Naming) (n : Bytes × Tree) → T' ≡ T ++ n ∷ [] → Extends T T'
Extends-push T T' n e = record { more = n ∷ []; is = e }

pub Extends-equal : (T T' : Naming) → T' ≡ T → Extends T T'
Extends-equal T T' e = record { more = []; is = e ∙ sym (append-nil T) }

-- the oldest names of a table that grew
pub Extends-cut : (S T T' : Naming) (n : ℕ) → Extends T T' → n ≡ length T → S ≡ take n T' → S ≡ T
Extends-cut S T T' n e count cut = cut ∙ ap (λ k. take k T') count ∙ Extends-back T T' e

pub ruleset table_rules = (FindsSame-present, FindsSame-equal, FindsSame-entry, constructors-next, Extends-same, Extends-push, Extends-equal, Extends-further, Extends-cut)

pub AreNamesOf-nothing : (T : Naming) (es : List Declaration) → T ≡ [] → es ≡ [] → AreNamesOf T es
AreNamesOf-nothing T es e f = record { each = λ x. ap (λ (ns : Naming). find ns x) e ∙ sym (ap (λ (ds : List Declaration). named ds x) f) }

pub ruleset nothing_rules = (AreNamesOf-nothing)
