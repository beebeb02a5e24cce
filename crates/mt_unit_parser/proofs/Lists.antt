-- Lists that are read or built an item at a time.
use Rattle.std.proofs.Common.{◌≡◌, ℕ, ◌-◌, Bool, Option, List, [], ◌∷◌, ◌++◌, length, map, refl, ap, ◌∙◌, sym, arith}
use Rattle.mt_tactical.specs.Tacticals.{Item, Branch, Choices}
use Rattle.mt_tactical.specs.declared.TacBranch.{TacBranch}
use Rattle.mt_term.specs.declared.refusals.Halt.{Halt}
use Rattle.mt_term.specs.declared.refusals.Halt.TheVariants as halt
use Rattle.mt_term_parser.specs.Readings.{Reading, Got, then_read, many, many_from, HaltsAs}
use Rattle.mt_term_parser.proofs.Rows.{Row, after}
use Rattle.mt_unit_parser.specs.declared.blocks.Led.{Led}
use Rattle.mt_unit_parser.specs.declared.units.Action.{Action}
use Rattle.mt_unit_parser.specs.WrittenUnits.{WrittenAction}
use Rattle.mt_unit_parser.specs.BlockOf.{branch_of, led_of}
use Rattle.mt_unit_parser.specs.Blocks.{Block', Step', WrittenLed, item_onto, led_onto, choices_onto, separator, separated_by, optional_item, led_item}

-- parts after parts that were read before
pub Row-onto : {A : Type 0} (text : List ℕ) (sees : ℕ → Bool) (one : ℕ → Reading A) (before : List A) (at : ℕ) → Row text sees one (after before (many_from text sees one at)) before at
Row-onto text sees one before at = record { bound = length text - at; enough = omega arith; known = refl }

-- parts after a first one
pub Row-followed : {A : Type 0} (text : List ℕ) (sees : ℕ → Bool) (one : ℕ → Reading A) (r : Reading A) (end : ℕ) (a : A) (before : List A) → r ≡ Got a end → before ≡ a ∷ []
    → Row text sees one (then_read r (λ a e. then_read (many_from text sees one e) (λ more last. Got (a ∷ more) last))) before end
Row-followed {A} text sees one r end a before got e =
    record {
      bound = length text - end;
      enough = omega arith;
      known =
          ap (λ (r : Reading A). then_read r (λ a e. then_read (many_from text sees one e) (λ more last. Got (a ∷ more) last))) got
          ∙ ap (λ b. after b (many sees one (length text - end) end)) (sym e);
    }

pub led_onto-push : (xs : List Led) (x : Led) (more : Block') → led_onto (map led_of (xs ++ x ∷ [])) more ≡ led_onto (map led_of xs) (led_onto (led_of x ∷ []) more)
led_onto-push [] x more = refl
led_onto-push (y ∷ ys) x more = ap (λ r. Item (led_of y).sign (item_onto (led_of y).item r)) (led_onto-push ys x more)

pub choices_onto-push : (xs : List (TacBranch Action)) (x : TacBranch Action) (more : Choices WrittenAction)
    → choices_onto (map branch_of (xs ++ x ∷ [])) more ≡ choices_onto (map branch_of xs) (choices_onto (branch_of x ∷ []) more)
choices_onto-push [] x more = refl
choices_onto-push (y ∷ ys) x more = ap (λ r. Branch (branch_of y).at (branch_of y).pick (branch_of y).body r) (choices_onto-push ys x more)

-- a sign, and what follows it
abbrev with_item : Bool × ℕ → Reading (Option Step') → Reading WrittenLed
with_item s r = then_read r (λ i end. Got (record { sign = separated_by s; item = i }) end)

abbrev from_sign : ℕ → (ℕ → Reading Block') → List ℕ → Reading (Bool × ℕ) → Reading WrittenLed
from_sign depth inner text r = then_read r (λ s a. with_item s (optional_item depth inner text a))

pub led_item-reads : (depth : ℕ) (inner : ℕ → Reading Block') (text : List ℕ) (at a end : ℕ) (s : Bool × ℕ) (i : Option Step') → separator text at ≡ Got s a
    → optional_item depth inner text a ≡ Got i end → led_item depth inner text at ≡ Got (record { sign = separated_by s; item = i }) end
led_item-reads depth inner text at a end s i sign item = ap (from_sign depth inner text) sign ∙ ap (with_item s) item

pub led_item-halts : (depth : ℕ) (inner : ℕ → Reading Block') (text : List ℕ) (at a : ℕ) (s : Bool × ℕ) (h : Halt) → separator text at ≡ Got s a
    → HaltsAs (optional_item depth inner text a) h → HaltsAs (led_item depth inner text at) h
led_item-halts depth inner text at a s (halt.Refused fault) sign stops = ap (from_sign depth inner text) sign ∙ ap (with_item s) stops
led_item-halts depth inner text at a s halt.Spent sign stops = stops
led_item-halts depth inner text at a s halt.OutOfMemory sign stops = tt
