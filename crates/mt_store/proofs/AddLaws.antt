-- Ids that are added to those that were found.
use Rattle.std.proofs.Common.{◌≡◌, ◌<◌, ◌+◌, ℕ, zero, suc, List, [], ◌∷◌, ◌++◌, map, length, take, slice_index_or, slice_get, Option, None, Bool, true, false, ◌||◌, if◌then◌else◌, refl, sym, ap, subst, ◌∙◌, append_assoc, add-one, ◌⊎◌, inl, inr, arith}
use Rattle.std.specs.List.{list_any}
use Rattle.std.specs.Prelude.{nat_eq}
use Rattle.std.proofs.lemmas.Bool.{eqb-true}
use Rattle.std.proofs.lemmas.List.{append-nil}
use Rattle.indexmap.specs.IndexSet.{insert_key}
use Rattle.mt_pool.specs.declared.nodes.TermId.{TermId}
use Rattle.mt_pool.specs.declared.contexts.HeldHyp.{HeldHyp}
use Rattle.mt_store.specs.declared.metavariables.HeldMeta.{HeldMeta}
use Rattle.mt_store.specs.Search.{id_at, types_held, ids_at, some_ids, IsFound, AreFound, Adds}

pub found_before : (js ks : List TermId) (k : TermId) → IsFound js k → IsFound (js ++ ks) k
found_before [] ks k h = absurd h
found_before (j ∷ js) ks k (inl e) = inl e
found_before (j ∷ js) ks k (inr h) = inr (found_before js ks k h)

pub found_after : (js ks : List TermId) (k : TermId) → IsFound ks k → IsFound (js ++ ks) k
found_after [] ks k h = h
found_after (j ∷ js) ks k h = inr (found_after js ks k h)

pub found_either : (js ks : List TermId) (k : TermId) → IsFound (js ++ ks) k → IsFound js k ⊎ IsFound ks k
found_either [] ks k h = inr h
found_either (j ∷ js) ks k (inl e) = inl (inl e)
found_either (j ∷ js) ks k (inr h) = elim (found_either js ks k h) [ inl a ↦ inl (inr a) | inr b ↦ inr b ]

-- one of many that are all found
pub found_of : (ks js : List TermId) (k : TermId) → AreFound ks js → IsFound js k → IsFound ks k
found_of ks [] k all h = absurd h
found_of ks (j ∷ js) k all (inl e) = subst (IsFound ks) e all.0
found_of ks (j ∷ js) k all (inr h) = found_of ks js k all.1 h

pub all_found : (ks js : List TermId) → ((k : TermId) → IsFound js k → IsFound ks k) → AreFound ks js
all_found ks [] h = tt
all_found ks (j ∷ js) h = (h j (inl refl), all_found ks js (λ k a. h k (inr a)))

-- what was found stays so
pub still_found : (old new ids : List TermId) → Adds old new ids → (k : TermId) → IsFound old k → IsFound new k
still_found old new ids a k h = subst (λ (l : List TermId). IsFound l k) (sym a.after) (found_before old a.more k h)

-- what is found was so before, or is one of those that were added
pub found_by : (old new ids : List TermId) → Adds old new ids → (k : TermId) → IsFound new k → IsFound old k ⊎ IsFound ids k
found_by old new ids a k h =
    let e : IsFound old k ⊎ IsFound a.more k = found_either old a.more k (subst (λ (l : List TermId). IsFound l k) a.after h) in
    elim e [ inl b ↦ inl b | inr b ↦ inr (found_of ids a.more k a.only b) ]

pub adds_none : (ks : List TermId) → Adds ks ks []
adds_none ks = record { found = tt; more = []; after = sym (append-nil ks); only = tt }

pub adds_then : (a b c js ks : List TermId) → Adds a b js → Adds b c ks → Adds a c (js ++ ks)
adds_then a b c js ks g h = record {
  found = all_found c (js ++ ks) (λ k f. elim (found_either js ks k f) [ inl x ↦ still_found b c ks h k (found_of b js k g.found x) | inr y ↦ found_of c ks k h.found y ]);
  more = g.more ++ h.more;
  after = h.after ∙ ap (λ (l : List TermId). l ++ h.more) g.after ∙ append_assoc a g.more h.more;
  only = all_found (js ++ ks) (g.more ++ h.more) (λ k f. elim (found_either g.more h.more k f) [ inl x ↦ found_before js ks k (found_of js g.more k g.only x) | inr y ↦ found_after js ks k (found_of ks h.more k h.only y) ]);
}

pub adds_first : (a b c : List TermId) (j : TermId) (ks : List TermId) → Adds a b (j ∷ []) → Adds b c ks → Adds a c (j ∷ ks)
adds_first a b c j ks g h = adds_then a b c (j ∷ []) ks g h

-- no metavariable is there
pub adds_absent : (ks : List TermId) (ms : List HeldMeta) (n : ℕ) → slice_get ms n ≡ None → Adds ks ks (ids_at ms n)
adds_absent ks ms n e = subst (λ (o : Option HeldMeta). Adds ks ks (some_ids o)) (sym e) (adds_none ks)

-- an id that is added if it is new
key_found : (ks : List ℕ) (k : ℕ) → list_any (nat_eq k) ks ≡ true → IsFound (map id_at ks) (id_at k)
key_found [] k e = let no : ⊥ = cc in absurd no
key_found (j ∷ js) k e = by (λ f. key_found js k f) (nat_eq k j) refl e
  where
    by : (list_any (nat_eq k) js ≡ true → IsFound (map id_at js) (id_at k)) → (b : Bool) → nat_eq k j ≡ b → (b || list_any (nat_eq k) js) ≡ true → IsFound (map id_at (j ∷ js)) (id_at k)
    by rest true t f = inl (ap id_at (sym (eqb-true k j t)))
    by rest false t f = inr (rest f)

map_after : (ks : List ℕ) (k : ℕ) → map id_at (ks ++ k ∷ []) ≡ map id_at ks ++ id_at k ∷ []
map_after [] k = refl
map_after (j ∷ js) k = ap (λ (l : List TermId). id_at j ∷ l) (map_after js k)

pub adds_one : (ks new : List ℕ) (k : ℕ) → new ≡ insert_key nat_eq ks k → Adds (map id_at ks) (map id_at new) (id_at k ∷ [])
adds_one ks new k e = by (list_any (nat_eq k) ks) refl e
  where
    by : (b : Bool) → list_any (nat_eq k) ks ≡ b → new ≡ (if b then ks else ks ++ k ∷ []) → Adds (map id_at ks) (map id_at new) (id_at k ∷ [])
    by true t f =
        let f' : map id_at new ≡ map id_at ks = ap (map id_at) f in
        record {
          found = (subst (λ (l : List TermId). IsFound l (id_at k)) (sym f') (key_found ks k t), tt);
          more = [];
          after = f' ∙ sym (append-nil (map id_at ks));
          only = tt;
        }
    by false t f =
        let f' : map id_at new ≡ map id_at ks ++ id_at k ∷ [] = ap (map id_at) f ∙ map_after ks k in
        record {
          found = (subst (λ (l : List TermId). IsFound l (id_at k)) (sym f') (found_after (map id_at ks) (id_at k ∷ []) (id_at k) (inl refl)), tt);
          more = id_at k ∷ [];
          after = f';
          only = (inl refl, tt);
        }

-- the types of a context up to the next one
pub types_more : (Γ : List HeldHyp) (i : ℕ) (h : HeldHyp) → i < length Γ → h ≡ slice_index_or Γ i h → types_held (take (i + 1) Γ) ≡ types_held (take i Γ) ++ h.ty ∷ []
types_more Γ i h l e = ap (λ j. types_held (take j Γ)) (add-one i) ∙ by Γ i l e
  where
    by : (Δ : List HeldHyp) (j : ℕ) → j < length Δ → h ≡ slice_index_or Δ j h → types_held (take (suc j) Δ) ≡ types_held (take j Δ) ++ h.ty ∷ []
    by [] j l e = absurd (omega arith)
    by (x ∷ Δ) zero l e = λ i. (sym e i).ty ∷ []
    by (x ∷ Δ) (suc j) l e = ap (λ (k : List TermId). x.ty ∷ k) (by Δ j (omega arith) e)

pub ruleset adding = (adds_none, adds_then, adds_first, adds_absent)
