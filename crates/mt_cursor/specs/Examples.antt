-- Sessions on small texts.
use Rattle.std.specs.Prelude.{◌≡◌, ℕ, ◌+◌, refl, eqb, if◌then◌else◌, List, [], ◌∷◌, length, Option, Some, None, codes}
use Rattle.mt_term.specs.Reasons.{Lex, Incomplete, NotHere}
use Rattle.mt_term.specs.Trees.{Bytes}
use Rattle.mt_text.specs.declared.UnitSpan.{UnitSpan}
use Rattle.mt_cursor.specs.Runners.{Parsed, Found, AtEnd, Faults, Stepped, Becomes, Refuses, Spends, Rules}
use Rattle.mt_cursor.specs.Sessions.{Session, Command, Load, Advance, Retract, Goto, Edit, Hindrance, Refused, Spent, after, standing, advanced, gone_to, first_passing, ends_by, loaded, replaced, without_units}

abbrev unit_at : ℕ → ℕ → ℕ → Parsed
unit_at start end seen = Found (record { start = start; end = end; seen = seen })

-- ---- a phrase whose closing sign decides it: `theorem p : Prop. whd ;`

abbrev phrase_parse : Bytes → ℕ → Parsed
phrase_parse text at =
    if eqb at 0 then unit_at 0 17 17 else (if eqb at 17 then unit_at 18 21 23 else (if eqb at 21 then unit_at 22 23 23 else AtEnd))

-- each unit costs one, and the state counts the units
abbrev phrase_rules : Rules ℕ
phrase_rules = record { parse = phrase_parse; step = λ s text u. Becomes (s + 1) 1 }

abbrev phrase : Session
phrase = loaded (codes "theorem p : Prop. whd ;")

abbrev then_counts : Command → Session → ℕ
then_counts k c = (after phrase_rules 0 k c).count

abbrev advanced_phrase : Session
advanced_phrase = after phrase_rules 0 (Advance 9) phrase

phrase_advanced : advanced_phrase.count ≡ 3
phrase_advanced = refl

-- a blank after all units keeps them
phrase_lengthened : then_counts (Edit 23 0 (codes " ")) advanced_phrase ≡ 3
phrase_lengthened = refl

-- past the end nothing is taken
past_the_end : then_counts (Advance 1) (after phrase_rules 0 (Edit 23 0 (codes " ")) advanced_phrase) ≡ 3
past_the_end = refl

-- where the closing sign changes, the phrase before it goes too
phrase_closed_otherwise : then_counts (Edit 22 1 (codes ".")) advanced_phrase ≡ 1
phrase_closed_otherwise = refl

phrase_text : (after phrase_rules 0 (Edit 22 1 (codes ".")) advanced_phrase).text ≡ codes "theorem p : Prop. whd ."
phrase_text = refl

phrase_again : then_counts (Advance 9) (after phrase_rules 0 (Edit 22 1 (codes ".")) advanced_phrase) ≡ 3
phrase_again = refl

phrase_cost : (advanced phrase_rules phrase.text 9 (without_units 0)).cost ≡ 3
phrase_cost = refl

-- ---- two units: `axiom a : Prop. axiom b : a.`

abbrev two_parse : Bytes → ℕ → Parsed
two_parse text at = if eqb at 0 then unit_at 0 15 15 else (if eqb at 15 then unit_at 16 28 28 else AtEnd)

abbrev two_rules : Rules ℕ
two_rules = record { parse = two_parse; step = λ s text u. Becomes (s + 1) 24 }

abbrev two : Session
two = loaded (codes "axiom a : Prop. axiom b : a.")

abbrev gone : Session
gone = after two_rules 0 (Goto 20) two

-- a unit that ends past the place is not taken, and costs nothing
goto_between : gone.count ≡ 1
goto_between = refl

goto_cost : (gone_to two_rules 0 20 two).cost ≡ 24
goto_cost = refl

one_more : (after two_rules 0 (Advance 1) gone).count ≡ 2
one_more = refl

goto_back : (after two_rules 0 (Goto 15) (after two_rules 0 (Advance 1) gone)).count ≡ 1
goto_back = refl

retract_past_the_start : (after two_rules 0 (Retract 5) (after two_rules 0 (Advance 1) gone)).count ≡ 0
retract_past_the_start = refl

-- ---- a refused unit: the units before it stay, and those after it are not tried

abbrev refused_rules : Rules ℕ
refused_rules = record { parse = two_parse; step = λ s text u. if eqb s 0 then Becomes 1 24 else Refuses (NotHere, u.start) 0 }

refused_second : (advanced refused_rules two.text 9 (without_units 0)).hindrance ≡ Some (Refused (NotHere, 16))
refused_second = refl

refused_count : (after refused_rules 0 (Advance 9) two).count ≡ 1
refused_count = refl

-- ---- the end of a text inside a unit

abbrev open_rules : Rules ℕ
open_rules = record { parse = λ text at. if eqb at 0 then unit_at 0 15 15 else Faults (Incomplete, length text); step = λ s text u. Becomes (s + 1) 1 }

unfinished : (advanced open_rules (codes "axiom a : Prop. axiom b") 9 (without_units 0)).hindrance ≡ Some (Refused (Incomplete, 23))
unfinished = refl

unfinished_count : (after open_rules 0 (Advance 9) (loaded (codes "axiom a : Prop. axiom b"))).count ≡ 1
unfinished_count = refl
