-- A sample meets the premises of the law, and so its text is read back.
use Rattle.std.proofs.Common.{◌≡◌, ℕ, zero, suc, Some, [], ◌++◌, length, refl, ap, subst, lit<, lit≤}
use Rattle.std.specs.Prelude.{codes, slice_get, bytes_eq}
use Rattle.std.specs.Fmt.{digits}
use Rattle.std.specs.Str.{chars}
use lib.Utf8.{encode}
use Rattle.unicode_ident.proofs.Computing.{unicode_ident}
use Rattle.mt_term.specs.Trees.{Bytes, Sort, Const}
use Rattle.mt_term.specs.Declarations.{Declaration, Axiom}
use Rattle.mt_term.specs.Naming.{name_of, as_term, named}
use Rattle.mt_calculus.specs.Scopes.{Plain}
use Rattle.mt_term.specs.declared.universes.Sort.TheVariants.{Prop}
use Rattle.mt_printer.specs.Chosen.{fit_name}
use Rattle.mt_printer.specs.TermText.{term_text}
use Rattle.mt_resolver.specs.Resolution.{first_place}
use Rattle.mt_reading_laws.specs.Names.{IsName}
use Rattle.mt_reading_laws.specs.ReadingBack.{AreApart, IsConstant, HasForms, HasNames, ReadsAs}
use Rattle.mt_reading_laws.specs.Examples.{sample, apart}
use Rattle.mt_reading_laws.proofs.Words.{false≢true}
use Rattle.mt_reading_laws.proofs.Law.{reading-back}

entry_same : (n : ℕ) (d e : Declaration) → Some d ≡ Some e → named sample.entries (name_of d) ≡ Some (as_term n d) → named sample.entries (name_of e) ≡ Some (as_term n e)
entry_same n d e h k = let same : d ≡ e = cc in subst (λ x. named sample.entries (name_of x) ≡ Some (as_term n x)) same k

universe_same : (n : ℕ) (x y : Bytes) → Some x ≡ Some y → first_place sample.names x ≡ Some n → first_place sample.names y ≡ Some n
universe_same n x y h k = let same : x ≡ y = cc in subst (λ z. first_place sample.names z ≡ Some n) same k

entries_apart : (n : ℕ) (d : Declaration) → slice_get sample.entries n ≡ Some d → named sample.entries (name_of d) ≡ Some (as_term n d)
entries_apart zero d e = entry_same 0 (Axiom (codes "a") (Sort Prop)) d e refl
entries_apart (suc zero) d e = entry_same 1 (Axiom (codes "x") (Const 0)) d e refl
entries_apart (suc (suc n)) d e = absurd (cc)

universes_apart : (n : ℕ) (x : Bytes) → slice_get sample.names n ≡ Some x → first_place sample.names x ≡ Some n
universes_apart zero x e = universe_same 0 (codes "u") x e refl
universes_apart (suc zero) x e = universe_same 1 (codes "v") x e refl
universes_apart (suc (suc n)) x e = absurd (cc)

sample_apart : AreApart sample
sample_apart = record { entries = entries_apart; universes = universes_apart }

a_name : IsName (codes "a")
unfolding chars encode unicode_ident
a_name = record { word = record { utf8 = (codes "a", (refl, refl)); starts = refl; continues = refl; short = lit≤ tt }; free = refl; named = λ e. false≢true (ap (λ y. bytes_eq y (codes "_")) e) }

x_name : IsName (codes "x")
unfolding chars encode unicode_ident
x_name = record { word = record { utf8 = (codes "x", (refl, refl)); starts = refl; continues = refl; short = lit≤ tt }; free = refl; named = λ e. false≢true (ap (λ y. bytes_eq y (codes "_")) e) }

x_1_name : IsName (codes "x_1")
unfolding chars encode unicode_ident
x_1_name = record { word = record { utf8 = (codes "x_1", (refl, refl)); starts = refl; continues = refl; short = lit≤ tt }; free = refl; named = λ e. false≢true (ap (λ y. bytes_eq y (codes "_")) e) }

apart_closed : Plain 0 apart
apart_closed = (tt, (lit< tt, (tt, (tt, lit< tt))))

apart_forms : HasForms sample apart
apart_forms =
    let a : IsConstant sample.entries 0 = (Axiom (codes "a") (Sort Prop), refl, refl) in
    let x : IsConstant sample.entries 1 = (Axiom (codes "x") (Const 0), refl, refl) in
    (a, (tt, (x, (a, tt))))

apart_names : HasNames sample [] apart
unfolding fit_name digits
apart_names = (x_1_name, a_name, (tt, (x_name, (tt, a_name, tt))))

apart_read : ReadsAs sample (term_text sample [] apart ++ codes " .") (length (term_text sample [] apart)) apart
unfolding fit_name digits
apart_read = reading-back sample apart sample_apart apart_closed apart_forms apart_names (lit≤ tt) (lit< tt)
