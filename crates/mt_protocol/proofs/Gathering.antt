-- What was gathered of a source while a command was looked for.
use Rattle.std.proofs.Common.{◌≡◌, ◌<◌, ◌≤◌, ℕ, ◌+◌, ◌-◌, Bool, true, false, ◌&&◌, nat_le, nat_lt, if◌then◌else◌, List, [], ◌∷◌, ◌++◌, length, take, drop, inr, Ok, Err, Option, Some, None, refl, sym, ap, ◌∙◌, subst, arith, length-append, append_assoc}
use Rattle.std.proofs.lemmas.Bool.{leb-false, ltb-false}
use Rattle.std.specs.Io.KnownBytes.{Consumes}
use Rattle.mt_term.specs.Trees.{Bytes}
use Rattle.mt_protocol.specs.declared.commands.Command.{Command}
use Rattle.mt_protocol.specs.declared.frames.Shown.{Shown}
use Rattle.mt_protocol.specs.declared.frames.Shown.TheVariants.{Whole, Bad, Long, More}
use Rattle.mt_protocol.specs.Frames.{limited, limited_by, most_input, shown}
use Rattle.mt_protocol.specs.Taking.{Held, Fills, Takes, Answers, IsRead, used, stop_at_end}

pub record Gathers (old now : Held) (source left : Option Bytes) (faults later : ℕ) : Type 0 where
  pub given : Bytes
  pub taken : Consumes source left given
  pub bytes : now.bytes ≡ old.bytes ++ given
  pub read : now.read ≡ old.read + length given
  pub rises : faults ≤ later

consumes_nothing : (o : Option Bytes) → Consumes o o []
consumes_nothing None = tt
consumes_nothing (Some xs) = refl

consumes_both : (a b c : Option Bytes) (xs ys : Bytes) → Consumes a b xs → Consumes b c ys → Consumes a c (xs ++ ys)
consumes_both None b c xs ys p q = tt
consumes_both (Some a) None c xs ys p q = absurd p
consumes_both (Some a) (Some b) None xs ys p q = absurd q
consumes_both (Some a) (Some b) (Some c) xs ys p q = p ∙ ap (λ l. xs ++ l) q ∙ sym (append_assoc xs ys c)

nothing_more : (bs : Bytes) → bs ≡ bs ++ []
nothing_more [] = refl
nothing_more (b ∷ bs) = ap (λ l. b ∷ l) (nothing_more bs)

pub gather_start : (h : Held) (source : Option Bytes) (faults : ℕ) → Gathers h h source source faults faults
gather_start h source faults = record { given = []; taken = consumes_nothing source; bytes = nothing_more h.bytes; read = omega arith; rises = omega arith }

pub gather_more : (old now next : Held) (source left rest : Option Bytes) (faults later last n : ℕ) → Gathers old now source left faults later
    → Fills now next left rest n → later ≤ last → Gathers old next source rest faults last
gather_more old now next source left rest faults later last n g f le = record {
  given = g.given ++ f.given;
  taken = consumes_both source left rest g.given f.given g.taken f.taken;
  bytes = f.bytes ∙ ap (λ l. l ++ f.given) g.bytes ∙ append_assoc old.bytes g.given f.given;
  read = omega (arith, f.read, g.read, length-append g.given f.given);
  rises = omega (arith, g.rises, le);
}

-- the place of the command stays
pub used_is : (old now : Held) (source left : Option Bytes) (faults later : ℕ) → Gathers old now source left faults later → length now.bytes ≤ now.read → used now ≡ used old
used_is old now source left faults later g within =
    let n : length now.bytes ≡ length old.bytes + length g.given = ap length g.bytes ∙ length-append old.bytes g.given in
    omega (arith, n, g.read, within)

-- where nothing is shown yet, few bytes are there
more_by : (room : ℕ) (bs : Bytes) (s : Shown) (b : Bool) → (nat_le room (length bs) && nat_lt 0 (length bs)) ≡ b → limited_by room bs s ≡ More → b ≡ false
more_by room bs (Whole c n) b t e = absurd (cc)
more_by room bs Bad b t e = absurd (cc)
more_by room bs Long b t e = absurd (cc)
more_by room bs More true t e = absurd (long (subst (λ u. (if u then Long else More) ≡ More) t e))
  where
    long : Long ≡ More → ⊥
    long e = cc
more_by room bs More false t e = refl

few_by : (room n : ℕ) (a : Bool) → nat_le room n ≡ a → (a && nat_lt 0 n) ≡ false → room ≤ 16777216 → n < 16777217
few_by room n true e t le = omega (arith, ltb-false 0 n t)
few_by room n false e t le = omega (arith, leb-false room n e)

pub more_within : (before : ℕ) (bs : Bytes) → limited before bs ≡ More → length bs < 16777217
more_within before bs e =
    few_by (most_input - before) (length bs) (nat_le (most_input - before) (length bs)) refl
    (more_by (most_input - before) bs (shown (take (most_input - before) bs)) (nat_le (most_input - before) (length bs) && nat_lt 0 (length bs)) refl e) (omega arith)

-- what is shown of the bytes held is shown of those held at first and taken
shown_first : (old now : Held) (source left : Option Bytes) (faults later : ℕ) (s : Shown) (g : Gathers old now source left faults later) → length now.bytes ≤ now.read
    → limited (used now) now.bytes ≡ s → limited (used old) (old.bytes ++ g.given) ≡ s
shown_first old now source left faults later s g within e =
    sym (ap (λ n. limited n now.bytes) (used_is old now source left faults later g within) ∙ ap (limited (used old)) g.bytes) ∙ e

pub takes_whole : (old now next : Held) (source left : Option Bytes) (faults later n : ℕ) (c : Command) → Gathers old now source left faults later → length now.bytes ≤ now.read
    → limited (used now) now.bytes ≡ Whole c n → n ≤ length now.bytes → next ≡ record { bytes = drop n now.bytes; read = now.read } → Takes old next source left faults later (Ok c)
takes_whole old now next source left faults later n c g within e size is = record {
  given = g.given;
  taken = g.taken;
  read = ap (λ h. h.read) is ∙ g.read;
  later = g.rises;
  answer = record {
    size = n;
    is = shown_first old now source left faults later (Whole c n) g within e;
    within = subst (λ l. n ≤ length l) g.bytes size;
    held = ap (λ h. h.bytes) is ∙ ap (drop n) g.bytes;
  };
}

empty_of : (bs : Bytes) → length bs ≡ 0 → bs ≡ []
empty_of [] e = refl
empty_of (b ∷ bs) e = absurd (omega arith)

pub takes_end : (old now next : Held) (source left rest : Option Bytes) (faults later last : ℕ) → Gathers old now source left faults later → length now.bytes ≤ now.read
    → limited (used now) now.bytes ≡ More → Fills now next left rest 0 → later ≤ last → Takes old next source rest faults last (Err (stop_at_end next.bytes))
takes_end old now next source left rest faults later last g within e f le = record {
  given = all.given;
  taken = all.taken;
  read = all.read;
  later = all.rises;
  answer = by_bytes next.bytes refl;
}
  where
    all : Gathers old next source rest faults last
    all = gather_more old now next source left rest faults later last 0 g f le

    none : f.given ≡ []
    none = empty_of f.given (sym f.counted)

    same : next.bytes ≡ now.bytes
    same = f.bytes ∙ ap (λ l. now.bytes ++ l) none ∙ sym (nothing_more now.bytes)

    more : limited (used old) (old.bytes ++ all.given) ≡ More
    more = ap (limited (used old)) (sym all.bytes ∙ same ∙ g.bytes) ∙ shown_first old now source left faults later More g within e

    by_bytes : (bs : Bytes) → next.bytes ≡ bs → Answers (used old) (old.bytes ++ all.given) next rest faults last (Err (stop_at_end bs))
    by_bytes [] is = (sym all.bytes ∙ is, all.bytes, f.end refl)
    by_bytes (b ∷ bs) is = (all.bytes, inr (more, subst (λ l. 0 < length l) all.bytes (subst (λ l. 0 < length l) (sym is) (omega arith)), f.end refl))
