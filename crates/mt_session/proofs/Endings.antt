-- From what was read to what is written.
use Rattle.std.proofs.Common.{◌≡◌, ◌<◌, ◌≤◌, ℕ, ◌+◌, Bool, true, false, List, [], length, Option, Some, None, IfSome, refl, ap, ◌∙◌, sym, subst, arith}
use Rattle.std.specs.Prelude.{if◌then◌else◌, nat_lt}
use Rattle.std.specs.Str.{is_utf8, IsUtf8}
use Rattle.std.proofs.lemmas.Str.{is_utf8-from_IsUtf8, IsUtf8-from_is_utf8}
use Rattle.std.proofs.lemmas.Bool.Decides.{nat_tests}
use Rattle.std.specs.Io.KnownBytes.{Appends}
use Rattle.std.proofs.KnownBytes.{Appends-nil}
use Rattle.mt_text.specs.Causes.{AppendsPrefix}
use Rattle.mt_session.specs.declared.serving.Status.TheVariants.{Done, Refused, BadFrame, TooLong}
use Rattle.mt_session.specs.Runs.{run, cost, is_clean}
use Rattle.mt_session.specs.Output.{run_text, is_too_long, is_script, output_of, script_status, status_of, charges_of, most}

pub script_short : (b : List ℕ) → length b ≤ most → is_script b ≡ is_utf8 b
script_short b le = let e : nat_lt most (length b) ≡ false = grind (arith, nat_tests) in ap (λ t. if t then false else is_utf8 b) e

pub script_long : (b : List ℕ) → most < length b → is_script b ≡ false
script_long b lt = let e : nat_lt most (length b) ≡ true = grind (arith, nat_tests) in ap (λ t. if t then false else is_utf8 b) e

-- bytes that are no script
pub long_status : (b : List ℕ) → most < length b → TooLong ≡ status_of b
long_status b lt =
    let e : is_too_long b ≡ true = grind (arith, nat_tests) in
    sym (ap (λ t. if t then TooLong else (if is_utf8 b then script_status b else BadFrame)) e)

pub short_status : (b : List ℕ) → length b ≤ most → status_of b ≡ (if is_utf8 b then script_status b else BadFrame)
short_status b le =
    let e : is_too_long b ≡ false = grind (arith, nat_tests) in
    ap (λ t. if t then TooLong else (if is_utf8 b then script_status b else BadFrame)) e

pub bad_status : (b : List ℕ) → length b ≤ most → is_utf8 b ≡ false → BadFrame ≡ status_of b
bad_status b le e = sym (short_status b le ∙ ap (λ t. if t then script_status b else BadFrame) e)

pub bad_output : (b : List ℕ) (a : Option (List ℕ)) → is_script b ≡ false → Appends a a (output_of b)
bad_output b a e = subst (Appends a a) (sym (ap (λ t. if t then run_text b (run b) else []) e)) (Appends-nil a)

-- a script
pub good_status : (b : List ℕ) (clean : Bool) → length b ≤ most → is_utf8 b ≡ true → clean ≡ is_clean (run b) → (if clean then Done else Refused) ≡ status_of b
good_status b clean le e c =
    ap (λ t. if t then Done else Refused) c ∙ sym (short_status b le ∙ ap (λ t. if t then script_status b else BadFrame) e)

pub good_output : (b text : List ℕ) → is_script b ≡ true → text ≡ run_text b (run b) → text ≡ output_of b
good_output b text e t = t ∙ sym (ap (λ t. if t then run_text b (run b) else []) e)

-- what a script is charged, and other bytes are not
pub script_charged : (b : List ℕ) (before now : ℕ) → is_script b ≡ true → now ≡ before + cost b → now ≡ before + charges_of b
script_charged b before now e c = c ∙ ap (λ t. before + (if t then cost b else 0)) (sym e)

pub script_at_most : (b : List ℕ) (before now : ℕ) → is_script b ≡ true → now ≤ before + cost b → now ≤ before + charges_of b
script_at_most b before now e c = subst (λ t. now ≤ before + (if t then cost b else 0)) (sym e) c

pub other_uncharged : (b : List ℕ) (before : ℕ) → is_script b ≡ false → before ≡ before + charges_of b
other_uncharged b before e =
    let none : before ≡ before + 0 = omega arith in none ∙ ap (λ t. before + (if t then cost b else 0)) (sym e)

-- nothing is a prefix
pub prefix_none : (a : Option (List ℕ)) (bs : List ℕ) → AppendsPrefix a a bs
prefix_none a bs = (0, omega arith, Appends-nil a)

pub if_known : (o : Option (List ℕ)) (x : List ℕ) (P : List ℕ → Type 0) → IfSome o (λ b. x ≡ b) → P x → IfSome o P
if_known None x P e p = tt
if_known (Some b) x P e p = subst P e p

pub if_any : (o : Option (List ℕ)) (P : List ℕ → Type 0) → ((b : List ℕ) → P b) → IfSome o P
if_any None P p = tt
if_any (Some b) P p = p b

pub if_such : (o : Option (List ℕ)) (Q P : List ℕ → Type 0) → ((b : List ℕ) → Q b → P b) → IfSome o Q → IfSome o P
if_such None Q P f q = tt
if_such (Some b) Q P f q = f b q

pub false_from : (t : Bool) → (t ≡ true → ⊥) → t ≡ false
false_from true f = absurd (f refl)
false_from false f = refl

-- a text within the limit is a script, and other bytes are none
pub text_is_script : (b : List ℕ) → IsUtf8 b → length b ≤ most → is_script b ≡ true
text_is_script b u le = script_short b le ∙ is_utf8-from_IsUtf8 b u

pub other_is_bad : (b : List ℕ) → ¬ (IsUtf8 b) → is_utf8 b ≡ false
other_is_bad b wrong = false_from (is_utf8 b) (λ t. wrong (IsUtf8-from_is_utf8 b t))

pub other_is_none : (b : List ℕ) → ¬ (IsUtf8 b) → length b ≤ most → is_script b ≡ false
other_is_none b wrong le = script_short b le ∙ other_is_bad b wrong
