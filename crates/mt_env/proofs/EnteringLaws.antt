-- The names and the constructors of an entry, one by one.
use Rattle.std.proofs.Common.{ℕ, zero, suc, ◌+◌, ◌<◌, ◌≡◌, List, [], ◌∷◌, ◌++◌, length, take, drop, Some, slice_get, refl, sym, ap, ◌∙◌, subst, append_assoc, zero-add, arith}
use Rattle.std.proofs.lemmas.List.{append-nil}
use Rattle.std.proofs.Math.Seq.{take-append_seam}
use Rattle.mt_term.specs.Trees.{Tree, Bytes, Con}
use Rattle.mt_term.specs.Declarations.{Constructor as ConstructorTree}
use Rattle.mt_term.specs.Naming.{Naming, naming_constructors}
use Rattle.mt_pool.specs.declared.held.HeldConstructor.{HeldConstructor}
use Rattle.mt_pool.specs.Region.{Kept}
use Rattle.mt_pool.specs.HeldOf.{constructor_in, constructors_in, ConstructorsBelow}
use Rattle.mt_pool.proofs.Region.{tree-kept, length-kept}
use Rattle.mt_env.specs.declared.stops.EnvStop.{EnvStop}
use Rattle.mt_env.specs.declared.stops.EnvStop.TheVariants.{Taken, OutOfMemory}
use Rattle.mt_env.specs.Names.{Distinct}
use Rattle.mt_env.specs.Refusals.{AreRefusedBy}
use Rattle.mt_env.proofs.NameLaws.{refused_among, distinct_more}
use Rattle.mt_env.proofs.NamingLaws.{take_next, map_append, constructors_last}

-- the names of constructors up to one, that one and those after it
constructors_split : (n j : ℕ) (cs : List ConstructorTree) (k : ℕ) (c : ConstructorTree) → slice_get cs k ≡ Some c
    → naming_constructors n j cs ≡ naming_constructors n j (take k cs) ++ (c.name, Con n (j + k)) ∷ naming_constructors n (suc (j + k)) (drop (suc k) cs)
constructors_split n j [] k c h = let no : ⊥ = cc in absurd no
constructors_split n j (b ∷ cs) zero c h =
    let e : b ≡ c = cc in
    let z : j + 0 ≡ j = omega arith in
    λ i. ((e i).name, Con n (sym z i)) ∷ naming_constructors n (suc (sym z i)) cs
constructors_split n j (b ∷ cs) (suc k) c h =
    let e : suc j + k ≡ j + suc k = omega arith in
    ap (λ (l : Naming). (b.name, Con n j) ∷ l) (constructors_split n (suc j) cs k c h
    ∙ (λ i. naming_constructors n (suc j) (take k cs) ++ (c.name, Con n (e i)) ∷ naming_constructors n (suc (e i)) (drop (suc k) cs)))

length_taken : {A : Type 0} (xs : List A) (k : ℕ) (x : A) → slice_get xs k ≡ Some x → length (take k xs) ≡ k
length_taken [] k x h = let no : ⊥ = cc in absurd no
length_taken (y ∷ ys) zero x h = refl
length_taken (y ∷ ys) (suc k) x h = ap suc (length_taken ys k x h)

-- the names up to the next constructor
pub entered_next : (old : Naming) (n : ℕ) (cs : List ConstructorTree) (k : ℕ) (c : ConstructorTree) (t u : Naming) → slice_get cs k ≡ Some c
    → t ≡ old ++ naming_constructors n 0 (take k cs) → u ≡ t ++ (c.name, Con n k) ∷ [] → u ≡ old ++ naming_constructors n 0 (take (k + 1) cs)
entered_next old n cs k c t u h e f =
    let s : k + 1 ≡ suc k = omega arith in
    let l : 0 + length (take k cs) ≡ k = zero-add (length (take k cs)) ∙ length_taken cs k c h in
    let m : naming_constructors n 0 (take (k + 1) cs) ≡ naming_constructors n 0 (take k cs) ++ (c.name, Con n k) ∷ [] =
    ap (λ j. naming_constructors n 0 (take j cs)) s ∙ ap (naming_constructors n 0) (take_next cs k c h) ∙ constructors_last n 0 (take k cs) c
    ∙ ap (λ j. naming_constructors n 0 (take k cs) ++ (c.name, Con n j) ∷ []) l in
    f ∙ ap (λ (l : Naming). l ++ (c.name, Con n k) ∷ []) e ∙ append_assoc old (naming_constructors n 0 (take k cs)) ((c.name, Con n k) ∷ [])
    ∙ ap (λ (l : Naming). old ++ l) (sym m)

pub refused_next : (e : EnvStop) (old : Naming) (n : ℕ) (cs : List ConstructorTree) (k : ℕ) (c : ConstructorTree) (t : Naming) → slice_get cs k ≡ Some c
    → t ≡ old ++ naming_constructors n 0 (take k cs) → AreRefusedBy e t ((c.name, Con n k) ∷ []) → AreRefusedBy e old (naming_constructors n 0 cs)
refused_next e old n cs k c t h q r =
    let z : 0 + k ≡ k = zero-add k in
    let s : naming_constructors n 0 cs ≡ naming_constructors n 0 (take k cs) ++ (c.name, Con n k) ∷ naming_constructors n (suc k) (drop (suc k) cs) =
    constructors_split n 0 cs k c h ∙ (λ i. naming_constructors n 0 (take k cs) ++ (c.name, Con n (z i)) ∷ naming_constructors n (suc (z i)) (drop (suc k) cs)) in
    subst (AreRefusedBy e old) (sym s)
    (refused_among e old (naming_constructors n 0 (take k cs)) (c.name, Con n k) (naming_constructors n (suc k) (drop (suc k) cs))
    (subst (λ (l : Naming). AreRefusedBy e l ((c.name, Con n k) ∷ [])) q r))

pub refused_first : (e : EnvStop) (old : Naming) (m : Bytes × Tree) (rest : Naming) → AreRefusedBy e old (m ∷ []) → AreRefusedBy e old (m ∷ rest)
refused_first e old m rest h = refused_among e old [] m rest (subst (λ (l : Naming). AreRefusedBy e l (m ∷ [])) (sym (append-nil old)) h)

pub refused_rest : (e : EnvStop) (old : Naming) (m : Bytes × Tree) (rest t : Naming) → t ≡ old ++ m ∷ [] → AreRefusedBy e t rest → AreRefusedBy e old (m ∷ rest)
refused_rest Taken old m rest t q h = λ d. h (subst Distinct (sym (ap (λ (l : Naming). l ++ rest) q ∙ append_assoc old (m ∷ []) rest)) d)
refused_rest OutOfMemory old m rest t q h = tt

-- what only grew is cut to what it was
pub cut_old : (old more t : Naming) → t ≡ old ++ more → take (length old) t ≡ old
cut_old old more t e = ap (take (length old)) e ∙ take-append_seam old more

pub cut_shorter : (old more t : Naming) → take (length (old ++ more)) t ≡ old ++ more → take (length old) t ≡ old
cut_shorter [] more t e = refl
cut_shorter (m ∷ old) more [] e = let no : ⊥ = cc in absurd no
cut_shorter (m ∷ old) more (n ∷ t) e =
    let f : n ≡ m = cc in
    let g : take (length (old ++ more)) t ≡ old ++ more = cc in
    λ i. f i ∷ cut_shorter old more t g i

-- the constructors up to the next one, as the pool grows
same_constructors : (p q : List Tree) (gs : List HeldConstructor) → Kept p q → ConstructorsBelow (length p) gs → constructors_in q gs ≡ constructors_in p gs
same_constructors p q [] k b = refl
same_constructors p q (g ∷ gs) k b = λ i. record { name = g.name; ty = tree-kept p q g.ty k b.0 i } ∷ same_constructors p q gs k b.1 i

below_more : (p q : List Tree) (h : HeldConstructor) (gs : List HeldConstructor) → Kept p q → h.ty.at < length q → ConstructorsBelow (length p) gs → ConstructorsBelow (length q) (gs ++ h ∷ [])
below_more p q h [] k t b = (t, tt)
below_more p q h (g ∷ gs) k t b = let l = length-kept p q k in (omega (arith, b.0, l), below_more p q h gs k t b.1)

pub held_below : (p q : List Tree) (hs : List HeldConstructor) (h : HeldConstructor) → Kept p q → ConstructorsBelow (length p) hs → h.ty.at < length q → ConstructorsBelow (length q) (hs ++ h ∷ [])
held_below p q hs h k b t = below_more p q h hs k t b

pub held_next : (p q : List Tree) (hs : List HeldConstructor) (h : HeldConstructor) (cs : List ConstructorTree) (k : ℕ) (c : ConstructorTree) → Kept p q → slice_get cs k ≡ Some c
    → ConstructorsBelow (length p) hs → constructors_in p hs ≡ take k cs → constructor_in q h ≡ c → constructors_in q (hs ++ h ∷ []) ≡ take (k + 1) cs
held_next p q hs h cs k c kept there below says is =
    let s : k + 1 ≡ suc k = omega arith in
    map_append (constructor_in q) hs (h ∷ []) ∙ ap (λ (l : List ConstructorTree). l ++ constructor_in q h ∷ []) (same_constructors p q hs kept below ∙ says)
    ∙ ap (λ x. take k cs ++ x ∷ []) is ∙ sym (take_next cs k c there) ∙ ap (λ j. take j cs) (sym s)

-- an entry whose constructors came after its type
pub constructors_same : (p q : List Tree) (gs : List HeldConstructor) → Kept p q → ConstructorsBelow (length p) gs → constructors_in q gs ≡ constructors_in p gs
constructors_same = same_constructors

pub ruleset entering = (entered_next, refused_next, refused_first, refused_rest, cut_old, cut_shorter, distinct_more)

pub ruleset holding = (held_below, held_next)
