-- Units, rule by rule, as a program follows them.
use Rattle.std.specs.Prelude.{ℕ, ◌≡◌, ◌≤◌, Bool, true, false, nat_eq, List, [], ◌∷◌, length, map, drop, Some, None, slice_get, refl}
use Rattle.std.proofs.Common.{◌∙◌, ap, arith}
use Rattle.std.proofs.lemmas.Bool.{eqb-true}
use Rattle.mt_term.proofs.Options.{none_some}
use Rattle.mt_term.specs.Trees.{Bytes, Tree}
use Rattle.mt_term.specs.declared.universes.Sort.{Sort as AnySort}
use Rattle.mt_term.specs.Declarations.{Declaration, Axiom, Definition, Environment}
use Rattle.mt_term.specs.Reasons.{Reason, NotHere}
use Rattle.mt_term_parser.specs.Written.{Written, Absent, Given}
use Rattle.mt_term_parser.specs.declared.raw.Raw.{Raw}
use Rattle.mt_term_parser.specs.WrittenOf.{written_of}
use Rattle.mt_unit_parser.specs.declared.units.Group.{Group}
use Rattle.mt_unit_parser.specs.declared.units.RawType.{RawType}
use Rattle.mt_unit_parser.specs.declared.units.RawFunction.{RawFunction}
use Rattle.mt_unit_parser.specs.UnitOf.{function_of, group_of, type_of}
use Rattle.mt_unit_parser.specs.WrittenUnits as unit
use Rattle.mt_tactical.specs.Tacticals.{Sequence}
use Rattle.mt_tiny.specs.declared.Tiny.{Tiny}
use Rattle.mt_unit_parser.specs.WrittenUnits.{WrittenAction, WrittenEq, WrittenGroup, WrittenKind}
use Rattle.mt_resolver.specs.Resolution.{Resolution, Found, Faults, resolved}
use Rattle.mt_decl.specs.Answers.{Answer, Made, Refused, Spent, Answering, and_then, make, taken}
use Rattle.mt_decl.specs.Declaring.{constructor_names, declared_corecursive, declared_entry, declared_function, declared_recursive}
use Rattle.mt_decl.specs.EntryLaws.{rest}
use Rattle.mt_decl.specs.Fronts.{newness, opening, names_in}
use Rattle.mt_decl.specs.Judging.{type_judged, term_judged}
use Rattle.mt_decl.specs.Ends.{closed_end, ended, walked, family_end, type_end, recursive_end, corecursive_end}
use Rattle.mt_decl.specs.Units.{axiom_unit, body_judged, definition_unit, types_unit, functions_unit, on_unit, unit_declared}
use denote.Bor.{Bor}
use Rattle.mt_decl.specs.declared.groups.End.{End}
use Rattle.mt_decl.specs.declared.groups.End.TheVariants as end
use Rattle.mt_decl.proofs.Allowance.{axiom_goes, definition_goes, entry_goes}
use Rattle.mt_decl.proofs.FrontRules.{constructor_names_in, new_taken}
use Rattle.mt_decl.proofs.JudgingRules.{term-rest}
use Rattle.mt_decl.proofs.EndRules.{walk-rest}
use Rattle.mt_decl.proofs.Sequences.{taken_rest, taken_then, then_rest}

-- ---- axioms

module _ (E : Environment) (start : ℕ) (x : Bytes) (w : Written) where
  axiom_made : Tree → AnySort → Answering Declaration
  axiom_made T s = make (Axiom x T)

  axiom_judged : Tree → Answering Declaration
  axiom_judged T n = and_then (type_judged E start T n) (axiom_made T)

  axiom-is : (n : ℕ) → axiom_unit E start x w n ≡ and_then (taken (opening E start x w) n) axiom_judged
  unfolding axiom_unit opening type_judged axiom_judged axiom_made
  axiom-is n =
      ap (λ o. and_then o (λ z m. and_then (taken (resolved E [] w) m) axiom_judged)) (new_taken E start [] (x ∷ []) n)
      ∙ taken_then (newness E start [] (x ∷ [])) (λ z. resolved E [] w) axiom_judged n

  pub axiom-faults : (r : Reason) (at n : ℕ) → opening E start x w ≡ Faults r at → axiom_unit E start x w n ≡ Refused r at n
  axiom-faults r at n e = axiom-is n ∙ ap (λ (q : Resolution Tree). and_then (taken q n) axiom_judged) e

  pub axiom-rest : (n : ℕ) → rest (axiom_unit E start x w n) ≤ n
  unfolding axiom_unit
  axiom-rest n = (axiom_goes E start x w).1 n

  module _ (T : Tree) (found : opening E start x w ≡ Found T) where
    axiom_here : (n : ℕ) → axiom_unit E start x w n ≡ and_then (type_judged E start T n) (axiom_made T)
    unfolding axiom_judged
    axiom_here n = axiom-is n ∙ ap (λ (q : Resolution Tree). and_then (taken q n) axiom_judged) found

    pub axiom-refused : (r : Reason) (n at l : ℕ) → type_judged E start T n ≡ Refused r at l → axiom_unit E start x w n ≡ Refused r at l
    axiom-refused r n at l e = axiom_here n ∙ ap (λ (o : Answer AnySort). and_then o (axiom_made T)) e

    pub axiom-spent : (n : ℕ) → type_judged E start T n ≡ Spent → axiom_unit E start x w n ≡ Spent
    axiom-spent n e = axiom_here n ∙ ap (λ (o : Answer AnySort). and_then o (axiom_made T)) e

    pub axiom-within : (n : ℕ) → rest (axiom_unit E start x w n) ≤ rest (type_judged E start T n)
    unfolding axiom_made
    axiom-within n = rw (axiom_here n) (then_rest (type_judged E start T n) (axiom_made T) (λ s l. omega arith))

    pub axiom-made : (s : AnySort) (n l : ℕ) → type_judged E start T n ≡ Made s l → axiom_unit E start x w n ≡ Made (Axiom x T) l
    unfolding axiom_made
    axiom-made s n l e = axiom_here n ∙ ap (λ (o : Answer AnySort). and_then o (axiom_made T)) e

pub ruleset axiom_rules = (axiom-faults, axiom-rest, axiom-refused, axiom-spent, axiom-within, axiom-made)

-- ---- definitions

module _ (E : Environment) (start : ℕ) (T : Tree) (v : Raw) where
  body_made : Tree → Unit {0} → Answering Tree
  body_made b z = make b

  after_body : Tree → Answering Tree
  after_body b n = and_then (term_judged E start b T n) (body_made b)

  body-is : (n : ℕ) → body_judged E start T (written_of v) n ≡ and_then (taken (resolved E [] (written_of v)) n) after_body
  unfolding body_judged after_body body_made
  body-is n = refl

  pub body-faults : (r : Reason) (at n : ℕ) → resolved E [] (written_of v) ≡ Faults r at → body_judged E start T (written_of v) n ≡ Refused r at n
  body-faults r at n e = body-is n ∙ ap (λ (q : Resolution Tree). and_then (taken q n) after_body) e

  after_body-rest : (b : Tree) (n : ℕ) → rest (after_body b n) ≤ rest (term_judged E start b T n)
  unfolding after_body body_made
  after_body-rest b n = then_rest (term_judged E start b T n) (body_made b) (λ z l. omega arith)

  pub body-rest : (n : ℕ) → rest (body_judged E start T (written_of v) n) ≤ n
  body-rest n = rw (body-is n) (taken_rest (resolved E [] (written_of v)) after_body n (λ b. omega (arith, after_body-rest b n, term-rest E start b T n)))

  module _ (b : Tree) (found : resolved E [] (written_of v) ≡ Found b) where
    body_here : (n : ℕ) → body_judged E start T (written_of v) n ≡ and_then (term_judged E start b T n) (body_made b)
    unfolding after_body
    body_here n = body-is n ∙ ap (λ (q : Resolution Tree). and_then (taken q n) after_body) found

    pub body-refused : (r : Reason) (n at l : ℕ) → term_judged E start b T n ≡ Refused r at l → body_judged E start T (written_of v) n ≡ Refused r at l
    body-refused r n at l e = body_here n ∙ ap (λ (o : Answer (Unit {0})). and_then o (body_made b)) e

    pub body-spent : (n : ℕ) → term_judged E start b T n ≡ Spent → body_judged E start T (written_of v) n ≡ Spent
    body-spent n e = body_here n ∙ ap (λ (o : Answer (Unit {0})). and_then o (body_made b)) e

    pub body-within : (n : ℕ) → rest (body_judged E start T (written_of v) n) ≤ rest (term_judged E start b T n)
    unfolding body_made
    body-within n = rw (body_here n) (then_rest (term_judged E start b T n) (body_made b) (λ z l. omega arith))

    pub body-made : (z : Unit {0}) (n l : ℕ) → term_judged E start b T n ≡ Made z l → body_judged E start T (written_of v) n ≡ Made b l
    unfolding body_made
    body-made z n l e = body_here n ∙ ap (λ (o : Answer (Unit {0})). and_then o (body_made b)) e

pub ruleset body_rules = (body-faults, body-rest, body-refused, body-spent, body-within, body-made)

module _ (E : Environment) (start : ℕ) (x : Bytes) (w v : Written) where
  definition_made : Tree → Tree → Answering Declaration
  definition_made T b = make (Definition x T b)

  definition_body : Tree → Answering Declaration
  definition_body T n = and_then (body_judged E start T v n) (definition_made T)

  in_order : (r : Resolution Tree) (f : Tree → Answering (Unit {0})) (T : Tree) (n : ℕ)
      → and_then (taken r n) (λ b m. and_then (f b m) (λ z. make (Definition x T b))) ≡ and_then (and_then (taken r n) (λ b m. and_then (f b m) (λ z. make b))) (λ b. make (Definition x T b))
  in_order (Found b) f T n = by (f b n)
    where
      by : (o : Answer (Unit {0})) → and_then o (λ z. make (Definition x T b)) ≡ and_then (and_then o (λ z. make b)) (λ c. make (Definition x T c))
      by (Made z l) = refl
      by (Refused r at l) = refl
      by Spent = refl
  in_order (Faults r at) f T n = refl

  typed_body : (T : Tree) (n : ℕ) → and_then (taken (resolved E [] v) n) (λ b m. and_then (term_judged E start b T m) (λ z. make (Definition x T b))) ≡ definition_body T n
  unfolding definition_body definition_made body_judged
  typed_body T n = in_order (resolved E [] v) (λ b. term_judged E start b T) T n

  definition-front : (n : ℕ) → definition_unit E start x w v n ≡ and_then (taken (opening E start x w) n) (λ T m. and_then (taken (resolved E [] v) m) (λ b k. and_then (term_judged E start b T k) (λ z. make (Definition x T b))))
  unfolding definition_unit opening term_judged
  definition-front n =
      ap (λ o. and_then o (λ z m. and_then (taken (resolved E [] w) m) (λ T m. and_then (taken (resolved E [] v) m) (λ b k. and_then (term_judged E start b T k) (λ z. make (Definition x T b)))))) (new_taken E start [] (x ∷ []) n)
      ∙ taken_then (newness E start [] (x ∷ [])) (λ z. resolved E [] w) (λ T m. and_then (taken (resolved E [] v) m) (λ b k. and_then (term_judged E start b T k) (λ z. make (Definition x T b)))) n

  pub definition-faults : (r : Reason) (at n : ℕ) → opening E start x w ≡ Faults r at → definition_unit E start x w v n ≡ Refused r at n
  definition-faults r at n e = definition-front n ∙ ap (λ (q : Resolution Tree). and_then (taken q n) (λ T m. and_then (taken (resolved E [] v) m) (λ b k. and_then (term_judged E start b T k) (λ z. make (Definition x T b))))) e

  pub definition-rest : (n : ℕ) → rest (definition_unit E start x w v n) ≤ n
  unfolding definition_unit
  definition-rest n = (definition_goes E start x w v).1 n

  module _ (T : Tree) (found : opening E start x w ≡ Found T) where
    definition_here : (n : ℕ) → definition_unit E start x w v n ≡ and_then (body_judged E start T v n) (definition_made T)
    unfolding definition_body
    definition_here n =
        definition-front n ∙ ap (λ (q : Resolution Tree). and_then (taken q n) (λ T m. and_then (taken (resolved E [] v) m) (λ b k. and_then (term_judged E start b T k) (λ z. make (Definition x T b))))) found
        ∙ typed_body T n

    pub definition-refused : (r : Reason) (n at l : ℕ) → body_judged E start T v n ≡ Refused r at l → definition_unit E start x w v n ≡ Refused r at l
    definition-refused r n at l e = definition_here n ∙ ap (λ (o : Answer Tree). and_then o (definition_made T)) e

    pub definition-spent : (n : ℕ) → body_judged E start T v n ≡ Spent → definition_unit E start x w v n ≡ Spent
    definition-spent n e = definition_here n ∙ ap (λ (o : Answer Tree). and_then o (definition_made T)) e

    pub definition-within : (n : ℕ) → rest (definition_unit E start x w v n) ≤ rest (body_judged E start T v n)
    unfolding definition_made
    definition-within n = rw (definition_here n) (then_rest (body_judged E start T v n) (definition_made T) (λ b l. omega arith))

    pub definition-made : (b : Tree) (n l : ℕ) → body_judged E start T v n ≡ Made b l → definition_unit E start x w v n ≡ Made (Definition x T b) l
    unfolding definition_made
    definition-made b n l e = definition_here n ∙ ap (λ (o : Answer Tree). and_then o (definition_made T)) e

pub ruleset definition_rules = (definition-faults, definition-rest, definition-refused, definition-spent, definition-within, definition-made)

-- ---- units of one type

one_item : {A : Type 0} (xs : List A) (x : A) → nat_eq (length xs) 1 ≡ true → slice_get xs 0 ≡ Some x → xs ≡ x ∷ []
one_item [] x e f = absurd (none_some f)
one_item (y ∷ []) x e f = let same : y ≡ x = cc in ap (λ z. z ∷ []) same
one_item (y ∷ z ∷ xs) x e f = absurd (omega (arith, eqb-true (length (y ∷ z ∷ xs)) 1 e))

module _ (E : Environment) (start : ℕ) where
  pub types-several : (co : Bool) (gs : List Group) (ts : List RawType) (n : ℕ) → nat_eq (length ts) 1 ≡ false → types_unit E start co gs ts n ≡ Refused NotHere start n
  unfolding types_unit
  types-several co gs [] n e = refl
  types-several co gs (t ∷ []) n e = let no : ⊥ = cc in absurd no
  types-several co gs (t ∷ u ∷ ts) n e = refl

  pub types-rest : (co : Bool) (gs : List Group) (ts : List RawType) (n : ℕ) → rest (types_unit E start co gs ts n) ≤ n
  unfolding types_unit
  types-rest co gs ts n = (entry_goes E start (unit.Inductive co (map group_of gs) (map type_of ts))).1 n

  module _ (co : Bool) (gs : List Group) (ts : List RawType) (t : Bor RawType) (one : nat_eq (length ts) 1 ≡ true) (at : slice_get ts 0 ≡ Some t.now) where
    walk : Unit {0} → Answering Declaration
    walk z n = walked E start (end.Inductive co t) [] gs n

    types-is : (n : ℕ) → types_unit E start co gs ts n ≡ and_then (taken (newness E start [] (t.now.name ∷ names_in t.now.cons)) n) walk
    unfolding types_unit walked walk ended type_end closed_end family_end type_judged
    types-is n =
        ap (λ us. types_unit E start co gs us n) (one_item ts t.now one at)
        ∙ ap (λ o. and_then o walk) (new_taken E start [] (t.now.name ∷ constructor_names (type_of t.now).cons) n)
        ∙ ap (λ xs. and_then (taken (newness E start [] (t.now.name ∷ xs)) n) walk) (constructor_names_in t.now.cons)

    pub types-faults : (r : Reason) (place n : ℕ) → newness E start [] (t.now.name ∷ names_in t.now.cons) ≡ Faults r place → types_unit E start co gs ts n ≡ Refused r place n
    types-faults r place n e = types-is n ∙ ap (λ (q : Resolution (Unit {0})). and_then (taken q n) walk) e

    pub types-new : (z : Unit {0}) (n : ℕ) → newness E start [] (t.now.name ∷ names_in t.now.cons) ≡ Found z → types_unit E start co gs ts n ≡ walked E start (end.Inductive co t) [] (drop 0 gs) n
    unfolding walk
    types-new z n e = types-is n ∙ ap (λ (q : Resolution (Unit {0})). and_then (taken q n) walk) e

pub ruleset types_rules = (types-several, types-rest, types-faults, types-new)

-- ---- units of one function

module _ (E : Environment) (start : ℕ) (f : RawFunction) (e : End) where
  on_walk : Unit {0} → Answering Declaration
  on_walk z n = walked E start e [] f.groups n

  on-is : (n : ℕ) → on_unit E start f e n ≡ and_then (taken (newness E start [] (f.name ∷ [])) n) on_walk
  unfolding on_unit on_walk
  on-is n = refl

  pub on-unit_faults : (r : Reason) (place n : ℕ) → newness E start [] (f.name ∷ []) ≡ Faults r place → on_unit E start f e n ≡ Refused r place n
  on-unit_faults r place n g = on-is n ∙ ap (λ (q : Resolution (Unit {0})). and_then (taken q n) on_walk) g

  pub on-unit_new : (z : Unit {0}) (n : ℕ) → newness E start [] (f.name ∷ []) ≡ Found z → on_unit E start f e n ≡ walked E start e [] (drop 0 f.groups) n
  unfolding on_walk
  on-unit_new z n g = on-is n ∙ ap (λ (q : Resolution (Unit {0})). and_then (taken q n) on_walk) g

  pub on-unit_rest : (n : ℕ) → rest (on_unit E start f e n) ≤ n
  unfolding on_walk
  on-unit_rest n = rw (on-is n) (taken_rest (newness E start [] (f.name ∷ [])) on_walk n (λ z. walk-rest E start e [] f.groups n))

-- the definitions of functions, by their binders
recursive_on : (E : Environment) (start : ℕ) (f : Bor RawFunction) (y : Bor Bytes) (n : ℕ) → declared_recursive E start (function_of f.now) y.now n ≡ on_unit E start f.now (end.Recursive f y) n
unfolding on_unit on_walk walked ended recursive_end type_judged
recursive_on E start f y n = ap (λ o. and_then o (on_walk E start f.now (end.Recursive f y))) (new_taken E start [] (f.now.name ∷ []) n)

corecursive_on : (E : Environment) (start : ℕ) (f : Bor RawFunction) (n : ℕ) → declared_corecursive E start (function_of f.now) n ≡ on_unit E start f.now (end.Corecursive f) n
unfolding on_unit on_walk walked ended corecursive_end type_judged
corecursive_on E start f n = ap (λ o. and_then o (on_walk E start f.now (end.Corecursive f))) (new_taken E start [] (f.now.name ∷ []) n)

pub ruleset on_rules = (on-unit_faults, on-unit_new, on-unit_rest)

module _ (E : Environment) (start : ℕ) where
  pub functions-several : (co : Bool) (fs : List RawFunction) (n : ℕ) → nat_eq (length fs) 1 ≡ false → functions_unit E start co fs n ≡ Refused NotHere start n
  unfolding functions_unit
  functions-several co [] n e = refl
  functions-several co (f ∷ []) n e = let no : ⊥ = cc in absurd no
  functions-several co (f ∷ g ∷ fs) n e = refl

  pub functions-rest : (co : Bool) (fs : List RawFunction) (n : ℕ) → rest (functions_unit E start co fs n) ≤ n
  unfolding functions_unit
  functions-rest co fs n = (entry_goes E start (unit.Recursive co (map function_of fs))).1 n

  module _ (fs : List RawFunction) (f : Bor RawFunction) (one : nat_eq (length fs) 1 ≡ true) (at : slice_get fs 0 ≡ Some f.now) where
    single : (co : Bool) (n : ℕ) → functions_unit E start co fs n ≡ declared_function E start co (function_of f.now) f.now.on n
    unfolding functions_unit
    single co n = ap (λ gs. functions_unit E start co gs n) (one_item fs f.now one at)

    pub functions-no_binder : (n : ℕ) → f.now.on ≡ None → functions_unit E start false fs n ≡ Refused NotHere start n
    functions-no_binder n e = single false n ∙ ap (λ o. declared_function E start false (function_of f.now) o n) e

    pub functions-binder : (y : Bytes) (n : ℕ) → f.now.on ≡ Some y → functions_unit E start true fs n ≡ Refused NotHere start n
    functions-binder y n e = single true n ∙ ap (λ o. declared_function E start true (function_of f.now) o n) e

    pub functions-recursive : (y : Bor Bytes) (n : ℕ) → f.now.on ≡ Some y.now → functions_unit E start false fs n ≡ on_unit E start f.now (end.Recursive f y) n
    functions-recursive y n e = single false n ∙ ap (λ o. declared_function E start false (function_of f.now) o n) e ∙ recursive_on E start f y n

    pub functions-corecursive : (n : ℕ) → f.now.on ≡ None → functions_unit E start true fs n ≡ on_unit E start f.now (end.Corecursive f) n
    functions-corecursive n e = single true n ∙ ap (λ o. declared_function E start true (function_of f.now) o n) e ∙ corecursive_on E start f n

pub ruleset functions_rules = (functions-several, functions-rest, functions-no_binder, functions-binder, functions-recursive, functions-corecursive)

-- ---- units

module _ (E : Environment) (start : ℕ) where
  pub unit-is : (kind : WrittenKind) (n : ℕ) → unit_declared E start kind n ≡ declared_entry E start kind n
  unfolding unit_declared
  unit-is kind n = refl

  pub unit-axiom : (x : Bytes) (w : Written) (n : ℕ) → unit_declared E start (unit.Axiom x w) n ≡ axiom_unit E start x w n
  unfolding unit_declared axiom_unit
  unit-axiom x w n = refl

  pub unit-definition : (x : Bytes) (w v : Written) (n : ℕ) → unit_declared E start (unit.Definition x (Given w) v) n ≡ definition_unit E start x w v n
  unfolding unit_declared definition_unit
  unit-definition x w v n = refl

  pub unit-absent : (x : Bytes) (v : Written) (n : ℕ) → unit_declared E start (unit.Definition x Absent v) n ≡ Refused NotHere start n
  unfolding unit_declared
  unit-absent x v n = refl

  pub unit-types : (co : Bool) (gs : List Group) (ts : List RawType) (n : ℕ) → unit_declared E start (unit.Inductive co (map group_of gs) (map type_of ts)) n ≡ types_unit E start co gs ts n
  unfolding unit_declared types_unit
  unit-types co gs ts n = refl

  pub unit-functions : (co : Bool) (fs : List RawFunction) (n : ℕ) → unit_declared E start (unit.Recursive co (map function_of fs)) n ≡ functions_unit E start co fs n
  unfolding unit_declared functions_unit
  unit-functions co fs n = refl

  pub unit-constraint : (x y : Bytes) (n : ℕ) → unit_declared E start (unit.Constraint x y) n ≡ Refused NotHere start n
  unfolding unit_declared
  unit-constraint x y n = refl

  pub unit-hint : (p : ℕ) (gs : List WrittenGroup) (es : List WrittenEq) (l r : Written) (n : ℕ) → unit_declared E start (unit.Hint p gs es l r) n ≡ Refused NotHere start n
  unfolding unit_declared
  unit-hint p gs es l r n = refl

  pub unit-coercion : (x : Bytes) (n : ℕ) → unit_declared E start (unit.Coercion x) n ≡ Refused NotHere start n
  unfolding unit_declared
  unit-coercion x n = refl

  pub unit-theorem : (x : Bytes) (w : Written) (n : ℕ) → unit_declared E start (unit.Theorem x w) n ≡ Refused NotHere start n
  unfolding unit_declared
  unit-theorem x w n = refl

  pub unit-qed : (n : ℕ) → unit_declared E start unit.Qed n ≡ Refused NotHere start n
  unfolding unit_declared
  unit-qed n = refl

  pub unit-step : (s : Tiny WrittenAction) (n : ℕ) → unit_declared E start (unit.Step s) n ≡ Refused NotHere start n
  unfolding unit_declared
  unit-step s n = refl

  pub unit-block : (b : Sequence WrittenAction) (n : ℕ) → unit_declared E start (unit.Block b) n ≡ Refused NotHere start n
  unfolding unit_declared
  unit-block b n = refl

pub ruleset plain_rules = (unit-is)

pub ruleset unit_rules = (unit-axiom, unit-definition, unit-absent, unit-types, unit-functions, unit-constraint, unit-hint, unit-coercion, unit-theorem, unit-qed, unit-step, unit-block)
