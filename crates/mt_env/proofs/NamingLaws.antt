-- The names of entries, in their order.
use Rattle.std.proofs.Common.{ℕ, zero, suc, ◌+◌, ◌<◌, ◌≤◌, ◌≡◌, List, [], ◌∷◌, ◌++◌, map, length, take, drop, slice_index_or, Some, slice_get, refl, sym, ap, ◌∙◌, append_assoc, length-append, add-zero, zero-add, arith}
use Rattle.std.proofs.lemmas.List.{take-append-drop, append-nil}
use Rattle.std.proofs.Math.Seq.{take-append_seam}
use Rattle.mt_term.specs.Trees.{Tree, Ind, Con}
use Rattle.mt_term.specs.Declarations.{Constructor as ConstructorTree, Declaration, Axiom, Definition, Inductive, Recursive}
use Rattle.mt_term.specs.Naming.{Naming, naming, naming_from, naming_entry, naming_constructors}
use Rattle.mt_pool.specs.declared.held.HeldConstructor.{HeldConstructor}
use Rattle.mt_pool.specs.declared.held.Held.{Held}
use Rattle.mt_pool.specs.declared.held.Held.TheVariants.{Axiom as HeldAxiom, Definition as HeldDefinition, Inductive as HeldInductive, Recursive as HeldRecursive}
use Rattle.mt_pool.specs.HeldOf.{declaration_in, constructors_in}
use Rattle.mt_env.specs.Environments.{declarations_in, names_held, starts_from, IsKept}
use Rattle.mt_env.specs.Names.{Distinct}
use Rattle.mt_env.proofs.NameLaws.{distinct_take}

pub take_next : {A : Type 0} (xs : List A) (k : ℕ) (x : A) → slice_get xs k ≡ Some x → take (suc k) xs ≡ take k xs ++ x ∷ []
take_next [] k x h = let no : ⊥ = cc in absurd no
take_next (y ∷ ys) zero x h = cc
take_next (y ∷ ys) (suc k) x h = ap (λ l. y ∷ l) (take_next ys k x h)

pub take_all : {A : Type 0} (k : ℕ) (xs : List A) → length xs ≤ k → take k xs ≡ xs
take_all zero [] h = refl
take_all (suc k) [] h = refl
take_all zero (x ∷ xs) h = absurd (omega arith)
take_all (suc k) (x ∷ xs) h = ap (λ l. x ∷ l) (take_all k xs (omega arith))

pub map_append : {A B : Type 0} (f : A → B) (xs ys : List A) → map f (xs ++ ys) ≡ map f xs ++ map f ys
map_append f [] ys = refl
map_append f (x ∷ xs) ys = ap (λ l. f x ∷ l) (map_append f xs ys)

length_map : {A B : Type 0} (f : A → B) (xs : List A) → length (map f xs) ≡ length xs
length_map f [] = refl
length_map f (x ∷ xs) = ap suc (length_map f xs)

constructors_any : (p q : List Tree) (n k : ℕ) (cs : List HeldConstructor) → naming_constructors n k (constructors_in p cs) ≡ naming_constructors n k (constructors_in q cs)
constructors_any p q n k [] = refl
constructors_any p q n k (c ∷ cs) = ap (λ (l : Naming). (c.name, Con n k) ∷ l) (constructors_any p q n (suc k) cs)

pub entry_any : (p q : List Tree) (n : ℕ) (h : Held) → naming_entry n (declaration_in p h) ≡ naming_entry n (declaration_in q h)
entry_any p q n (HeldAxiom name ty) = refl
entry_any p q n (HeldDefinition name ty body) = refl
entry_any p q n (HeldInductive name co params ty cons large) = ap (λ (l : Naming). (name, Ind n) ∷ l) (constructors_any p q n 0 cons)
entry_any p q n (HeldRecursive name co binders place ty body made) = refl

names_any_from : (p q : List Tree) (n : ℕ) (es : List Held) → naming_from n (declarations_in p es) ≡ naming_from n (declarations_in q es)
names_any_from p q n [] = refl
names_any_from p q n (h ∷ hs) = λ i. entry_any p q n h i ++ names_any_from p q (suc n) hs i

-- names do not depend on what the pool says
pub names_any : (p q : List Tree) (es : List Held) → naming (declarations_in p es) ≡ naming (declarations_in q es)
names_any p q es = names_any_from p q 0 es

from_append : (n : ℕ) (ds es : List Declaration) → naming_from n (ds ++ es) ≡ naming_from n ds ++ naming_from (n + length ds) es
from_append n [] es = ap (λ k. naming_from k es) (sym (add-zero n))
from_append n (d ∷ ds) es =
    let e : suc n + length ds ≡ n + suc (length ds) = omega arith in
    ap (λ (l : Naming). naming_entry n d ++ l) (from_append (suc n) ds es) ∙ sym (append_assoc (naming_entry n d) (naming_from (suc n) ds) (naming_from (suc n + length ds) es))
    ∙ ap (λ k. (naming_entry n d ++ naming_from (suc n) ds) ++ naming_from k es) e

pub naming_last : (ds : List Declaration) (d : Declaration) → naming (ds ++ d ∷ []) ≡ naming ds ++ naming_entry (length ds) d
naming_last ds d =
    from_append 0 ds (d ∷ []) ∙ ap (λ k. naming ds ++ (naming_entry k d ++ [])) (zero-add (length ds))
    ∙ ap (λ (l : Naming). naming ds ++ l) (append-nil (naming_entry (length ds) d))

pub names_last : (es : List Held) (d : Declaration) → naming (declarations_in [] es ++ d ∷ []) ≡ names_held es ++ naming_entry (length es) d
names_last es d = naming_last (declarations_in [] es) d ∙ ap (λ k. names_held es ++ naming_entry k d) (length_map (declaration_in []) es)

-- the constructors one by one
pub constructors_last : (n k : ℕ) (cs : List ConstructorTree) (c : ConstructorTree) → naming_constructors n k (cs ++ c ∷ []) ≡ naming_constructors n k cs ++ (c.name, Con n (k + length cs)) ∷ []
constructors_last n k [] c = ap (λ j. (c.name, Con n j) ∷ []) (sym (add-zero k))
constructors_last n k (b ∷ cs) c =
    let e : suc k + length cs ≡ k + suc (length cs) = omega arith in
    ap (λ (l : Naming). (b.name, Con n k) ∷ l) (constructors_last n (suc k) cs c ∙ ap (λ j. naming_constructors n (suc k) cs ++ (c.name, Con n j) ∷ []) e)

constructors_count : (n k m j : ℕ) (cs : List ConstructorTree) → length (naming_constructors n k cs) ≡ length (naming_constructors m j cs)
constructors_count n k m j [] = refl
constructors_count n k m j (c ∷ cs) = ap suc (constructors_count n (suc k) m (suc j) cs)

entry_count : (n m : ℕ) (d : Declaration) → length (naming_entry n d) ≡ length (naming_entry m d)
entry_count n m (Axiom x T) = refl
entry_count n m (Definition x T b) = refl
entry_count n m (Inductive x co p T cs l) = ap suc (constructors_count n 0 m 0 cs)
entry_count n m (Recursive x co r s T b made) = refl

-- where the names of an entry begin
pub start_at : (n m : ℕ) (es : List Held) (k d : ℕ) → k < length es
    → slice_index_or (starts_from n es) k d ≡ n + length (naming_from m (declarations_in [] (take k es)))
start_at n m [] k e h = absurd (omega arith)
start_at n m (h ∷ hs) zero e l = sym (add-zero n)
start_at n m (h ∷ hs) (suc k) e l =
    let d : Declaration = declaration_in [] h in
    let i = start_at (n + length (naming_entry 0 d)) (suc m) hs k e (omega arith) in
    let c = entry_count 0 m d in
    let a = length-append (naming_entry m d) (naming_from (suc m) (declarations_in [] (take k hs))) in
    i ∙ omega (arith, c, a)

pub starts_last : (n m : ℕ) (es : List Held) (h : Held) → starts_from n (es ++ h ∷ []) ≡ starts_from n es ++ (n + length (naming_from m (declarations_in [] es))) ∷ []
starts_last n m [] h = ap (λ k. k ∷ []) (sym (add-zero n))
starts_last n m (g ∷ es) h =
    let d : Declaration = declaration_in [] g in
    let c = entry_count 0 m d in
    let a = length-append (naming_entry m d) (naming_from (suc m) (declarations_in [] es)) in
    let e : n + length (naming_entry 0 d) + length (naming_from (suc m) (declarations_in [] es)) ≡ n + length (naming_entry m d ++ naming_from (suc m) (declarations_in [] es)) = omega (arith, c, a) in
    ap (λ (l : List ℕ). n ∷ l) (starts_last (n + length (naming_entry 0 d)) (suc m) es h
    ∙ ap (λ k. starts_from (n + length (naming_entry 0 d)) es ++ k ∷ []) e)

starts_take : (n k : ℕ) (es : List Held) → take k (starts_from n es) ≡ starts_from n (take k es)
starts_take n zero es = refl
starts_take n (suc k) [] = refl
starts_take n (suc k) (h ∷ hs) = ap (λ (l : List ℕ). n ∷ l) (starts_take (n + length (naming_entry 0 (declaration_in [] h))) k hs)

pub starts_count : (n : ℕ) (es : List Held) → length (starts_from n es) ≡ length es
starts_count n [] = refl
starts_count n (h ∷ hs) = ap suc (starts_count (n + length (naming_entry 0 (declaration_in [] h))) hs)

names_take : (k : ℕ) (es : List Held) → take (length (names_held (take k es))) (names_held es) ≡ names_held (take k es)
names_take k es =
    let a = declarations_in [] (take k es) in
    let b = declarations_in [] (drop k es) in
    let e : names_held es ≡ names_held (take k es) ++ naming_from (0 + length a) b =
    ap names_held (sym (take-append-drop k es)) ∙ ap naming (map_append (declaration_in []) (take k es) (drop k es)) ∙ from_append 0 a b in
    ap (take (length (names_held (take k es)))) e ∙ take-append_seam (names_held (take k es)) (naming_from (0 + length a) b)

pub kept_take : (es : List Held) (starts : List ℕ) (names : Naming) (k s : ℕ) → IsKept es starts names → s ≡ length (names_held (take k es))
    → IsKept (take k es) (take k starts) (take s names)
kept_take es starts names k s h e = record {
  names_are = ap (take s) h.names_are ∙ ap (λ j. take j (names_held es)) e ∙ names_take k es;
  starts_are = ap (take k) h.starts_are ∙ starts_take 0 k es;
  distinct = distinct_take s names h.distinct;
}

pub kept_more : (es : List Held) (starts : List ℕ) (names : Naming) (p : List Tree) (h : Held) (more : Naming) → IsKept es starts names
    → more ≡ names ++ naming_entry (length es) (declaration_in p h) → Distinct more → IsKept (es ++ h ∷ []) (starts ++ length names ∷ []) more
kept_more es starts names p h more k e d = record {
  names_are = e ∙ (λ i. k.names_are i ++ entry_any p [] (length es) h i) ∙ sym (names_last es (declaration_in [] h))
      ∙ ap naming (sym (map_append (declaration_in []) es (h ∷ [])));
  starts_are = (λ i. k.starts_are i ++ length (k.names_are i) ∷ []) ∙ ap (λ j. starts_from 0 es ++ j ∷ []) (sym (zero-add (length (names_held es)))) ∙ sym (starts_last 0 0 es h);
  distinct = d;
}
