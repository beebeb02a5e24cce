-- After any list of commands, all units that a session counts are accepted from scratch.
use Rattle.std.proofs.Common.{◌≡◌, ◌<◌, ◌≤◌, ℕ, zero, suc, ◌+◌, ◌-◌, Bool, true, false, ◌&&◌, if◌then◌else◌, nat_lt, nat_le, List, [], ◌∷◌, ◌++◌, length, take, drop, Option, Some, None, refl, ap, sym, ◌∙◌, subst, arith, length-append}
use Rattle.std.proofs.lemmas.Str.{IsUtf8-from_is_utf8, IsUtf8-take, IsUtf8-drop, IsUtf8-append, IsUtf8-nil}
use Rattle.std.specs.Str.{IsUtf8, IsCharBoundary, is_utf8}
use Rattle.mt_term.specs.Trees.{Bytes}
use Rattle.mt_text.specs.declared.UnitSpan.{UnitSpan}
use Rattle.mt_cursor.specs.Runners.{Rules, PlaceLaw, SeenLaw}
use Rattle.mt_cursor.specs.Sessions.{Standing, Session, Command, Load, Advance, Retract, Goto, Edit, Outcome, Turn, Goes, Over, Stops, Leads, Stays, Carried, Passed, ScratchLaw, IsWhole, CanReplace, after, advanced, moved, ended, outcome_after, turn, with_next, standing_after, fold, standing, place_of, first_passing, is_seen_by, ends_by, is_text, most, replaced, kept_by, no_text, Allowed}
use Rattle.mt_cursor.proofs.Folding.{Accepted, accepted, turn_of, next_of, Front, front, same_fold, AllPass, all_first, first_within}
use Rattle.mt_cursor.proofs.Texting.{replaced_front}

-- a standing is the first units of a text from a state, as many as it has
abbrev pub IsFold : {S : Type 0} → Rules S → Bytes → S → Standing S → Type 0
IsFold rules text s st = st ≡ fold rules text s (length st.units)

-- one more unit
fold_on : {S : Type 0} (rules : Rules S) (limit : Option ℕ) (text : Bytes) (s : S) (st next : Standing S) (c : ℕ) → IsFold rules text s st
    → turn rules limit text st ≡ Goes next c → IsFold rules text s next
fold_on rules limit text s st next c is went =
    let a : Accepted rules text st next c = accepted rules limit text st next c went in
    let n : length next.units ≡ suc (length st.units) = ap (λ t. length t.units) a.is ∙ length-append st.units (a.unit ∷ []) ∙ plus_one (length st.units) in
    a.is ∙ sym (next_of rules text st a.unit a.state c a.found a.step) ∙ ap (with_next rules text) is ∙ ap (fold rules text s) (sym n)
  where
    plus_one : (n : ℕ) → n + 1 ≡ suc n
    plus_one n = omega arith

fold_after : {S : Type 0} (rules : Rules S) (limit : Option ℕ) (text : Bytes) (s : S) (st : Standing S) (go : Standing S → Outcome S) (t : Turn S)
    → turn rules limit text st ≡ t → ((next : Standing S) → IsFold rules text s next → IsFold rules text s (go next).standing) → IsFold rules text s st
    → IsFold rules text s (outcome_after st go t).standing
fold_after rules limit text s st go (Goes next c) e more is = more next (fold_on rules limit text s st next c is e)
fold_after rules limit text s st go Over e more is = is
fold_after rules limit text s st go (Stops h c) e more is = is

pub advanced_fold : {S : Type 0} (rules : Rules S) (text : Bytes) (s : S) (n : ℕ) (st : Standing S) → IsFold rules text s st → IsFold rules text s (advanced rules text n st).standing
advanced_fold rules text s zero st is = is
advanced_fold rules text s (suc n) st is =
    fold_after rules None text s st (advanced rules text n) (turn rules None text st) refl (λ next i. advanced_fold rules text s n next i) is

moved_by : {S : Type 0} (rules : Rules S) (text : Bytes) (s : S) (b : Bool) (st : Standing S) (o : Outcome S) → IsFold rules text s st → IsFold rules text s o.standing
    → IsFold rules text s (if b then o else ended st).standing
moved_by rules text s true st o is more = more
moved_by rules text s false st o is more = is

pub moved_fold : {S : Type 0} (rules : Rules S) (text : Bytes) (s : S) (pos n : ℕ) (st : Standing S) → IsFold rules text s st → IsFold rules text s (moved rules text pos n st).standing
moved_fold rules text s pos zero st is = is
moved_fold rules text s pos (suc n) st is =
    moved_by rules text s (nat_lt (place_of st.units) pos) st _ is
    (fold_after rules (Some pos) text s st (moved rules text pos n) (turn rules (Some pos) text st) refl (λ next i. moved_fold rules text s pos n next i) is)

-- a session whose text is a text and whose units are all accepted
pub record Good {S : Type 0} (rules : Rules S) (s : S) (c : Session) : Type 0 where
  pub utf8 : IsUtf8 c.text
  pub whole : IsWhole rules s c

good_fold : {S : Type 0} (rules : Rules S) (s : S) (text : Bytes) (k : ℕ) → length (fold rules text s k).units ≡ k → IsFold rules text s (fold rules text s k)
good_fold rules s text k whole = ap (fold rules text s) (sym whole)

whole_of : {S : Type 0} (rules : Rules S) (s : S) (text : Bytes) (st : Standing S) → IsFold rules text s st → length (fold rules text s (length st.units)).units ≡ length st.units
whole_of rules s text st is = ap (λ t. length t.units) (sym is)

-- what is loaded is a text
loads_text : (text : Bytes) → is_text text ≡ true → IsUtf8 text
loads_text text e = by_test (is_utf8 text) refl e
  where
    by_test : (b : Bool) → is_utf8 text ≡ b → (b && nat_le (length text) most) ≡ true → IsUtf8 text
    by_test true u e = IsUtf8-from_is_utf8 text u
    by_test false u e = absurd (cc)

-- a command that is carried out
good_after : {S : Type 0} (rules : Rules S) (s : S) (k : Command) (c : Session) → PlaceLaw rules → SeenLaw rules → Allowed k c → Good rules s c → Good rules s (after rules s k c)
good_after rules s (Load text) c place seen may good = record { utf8 = loads_text text may; whole = refl }
good_after rules s (Advance n) c place seen may good = record {
  utf8 = good.utf8;
  whole = whole_of rules s c.text (advanced rules c.text n (standing rules s c)).standing
      (advanced_fold rules c.text s n (standing rules s c) (good_fold rules s c.text c.count good.whole));
}
good_after rules s (Retract n) c place seen may good = record {
  utf8 = good.utf8;
  whole = (front rules c.text s c.count (c.count - n) good.whole (omega arith)).whole;
}
good_after rules s (Goto pos) c place seen may good =
    let j : ℕ = first_passing (ends_by pos) (standing rules s c).units in
    let le : j ≤ c.count = subst (λ n. j ≤ n) good.whole (first_within (ends_by pos) (standing rules s c).units) in
    let f : Front rules c.text s c.count j = front rules c.text s c.count j good.whole le in
    record {
      utf8 = good.utf8;
      whole = whole_of rules s c.text (moved rules c.text pos pos (kept_by rules s pos c)).standing
          (moved_fold rules c.text s pos pos (kept_by rules s pos c) (good_fold rules s c.text j f.whole));
    }
good_after rules s (Edit start del new) c place seen may good =
    let j : ℕ = first_passing (is_seen_by start) (standing rules s c).units in
    let le : j ≤ c.count = subst (λ n. j ≤ n) good.whole (first_within (is_seen_by start) (standing rules s c).units) in
    let f : Front rules c.text s c.count j = front rules c.text s c.count j good.whole le in
    let utf8 : IsUtf8 (replaced start del new c.text) =
    IsUtf8-append _ _ (IsUtf8-append _ _ (IsUtf8-take c.text start good.utf8 may.first) (IsUtf8-from_is_utf8 new may.new_text)) (IsUtf8-drop c.text (start + del) good.utf8 may.last) in
    let all : AllPass (is_seen_by start) (fold rules c.text s j).units = subst (AllPass (is_seen_by start)) (sym f.units) (all_first (is_seen_by start) (standing rules s c).units) in
    let same : fold rules (replaced start del new c.text) s j ≡ fold rules c.text s j =
    same_fold rules c.text (replaced start del new c.text) s start j good.utf8 utf8 place seen (replaced_front start del new c.text may.first.0) f.whole all in
    record { utf8 = utf8; whole = ap (λ t. length t.units) same ∙ f.whole }

good_leads : {S : Type 0} (rules : Rules S) (s : S) (ks : List Command) (c d : Session) → PlaceLaw rules → SeenLaw rules → Leads rules s ks c d → Good rules s c → Good rules s d
good_leads rules s _ c _ place seen (Stays _) good = good
good_leads rules s _ c d place seen (Carried k ks _ _ may more) good = good_leads rules s ks (after rules s k c) d place seen more (good_after rules s k c place seen may good)
good_leads rules s _ c d place seen (Passed k ks _ _ not more) good = good_leads rules s ks c d place seen more good

pub scratch : {S : Type 0} (rules : Rules S) → PlaceLaw rules → SeenLaw rules → ScratchLaw rules
scratch rules place seen s ks c leads =
    let good : Good rules s c = good_leads rules s ks no_text c place seen leads (record { utf8 = IsUtf8-nil; whole = refl }) in
    (good.utf8, good.whole)
