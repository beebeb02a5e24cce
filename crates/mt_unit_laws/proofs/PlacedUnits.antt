-- The places in a unit that is read are bounds of characters.
use Rattle.std.proofs.Common.{◌≡◌, ℕ, zero, suc, ◌-◌, ◌==◌, Bool, true, false, cond, List, [], ◌∷◌, Ok, Err, refl, ap, ◌∙◌, subst}
use Rattle.std.specs.Prelude.{codes, Option, Some, None, Result}
use Rattle.std.specs.Str.{IsCharBoundary}
use Rattle.std.proofs.lemmas.Str.{IsUtf8-drop}
use Rattle.mt_lexer.specs.declared.Token.{Token}
use Rattle.mt_lexer.specs.declared.TokenKind.{TokenKind}
use Rattle.mt_lexer.specs.declared.TokenKind.TheVariants as kind
use Rattle.mt_lexer.specs.declared.LexStop.{LexStop}
use Rattle.mt_lexer.specs.declared.LexStop.TheVariants as lex
use Rattle.mt_lexer.specs.Tokens.{next_token}
use Rattle.mt_term.specs.Reasons.{Syntax}
use Rattle.mt_tactical.specs.Tacticals.{Choices, End, Action, Skip, Semicolon, Dot, Branches, Focus, NoBranch}
use Rattle.mt_tactical.specs.declared.Pick.TheVariants as pick
use Rattle.mt_term_parser.specs.Readings.{Reading, Got, sign_of, seen_token, seen_from, seen, sees_sign}
use Rattle.mt_tiny.specs.declared.Tiny.TheVariants as tiny
use Rattle.mt_unit_parser.specs.declared.words.Command.{Command}
use Rattle.mt_unit_parser.specs.declared.words.Command.TheVariants as command
use Rattle.mt_unit_parser.specs.declared.words.Lead.{Lead}
use Rattle.mt_unit_parser.specs.declared.words.Lead.TheVariants as lead
use Rattle.mt_unit_parser.specs.WrittenUnits.{WrittenAction, WrittenKind, WrittenUnit, Step as OneStep, Block}
use Rattle.mt_unit_parser.specs.Units.{is_spelled}
use Rattle.mt_unit_parser.specs.Blocks.{lead_of, begins_item, is_separator, Block', Step', WrittenLed, item_onto, led_onto, WrittenBranch, choices_onto, choices, placed, is_number_kind, positions, rest_of, pick_by, picked, branch, barred, branch_list, branches, is_dot, separator, unfocus_place, focus, item_by, optional_by, optional_item, separated_by, led_item, sees_separator, items, ends_sequence, full_at, full, sequence, closes, phrase, plain, command_of, command_by, block, named, all_named, signed_step, other_kind, step_by, is_command, unit_by, unit_from}
use Rattle.mt_unit_laws.specs.EachPlace.{EachOf, InPick, InSequence, InStep, InChoices, InKind, EachPlaceLaw}
use Rattle.mt_unit_laws.proofs.Tokens.{Stands, Next, next-stands}
use Rattle.mt_unit_laws.proofs.Units.{Begun, begun-by}
use Rattle.mt_unit_laws.proofs.Carried.{Carries, bound-at, carries-got, carries-stop, carries-at, carries-where, carries-then, carries-token, carries-pass, carries-if, row-carries, sign-carries}
use Rattle.mt_unit_laws.proofs.PlacedCommands.{nums-carries, constraint-carries, assumed-carries, theorem-carries, defined-carries, inductive-carries, letting-carries, hint-carries, coercion-carries, qed-carries, action-carries}

-- ---- the next token

seen-by : (t : Token) (k : TokenKind) (u : Token) → seen_token t k ≡ Some u → t ≡ u
seen-by t kind.End u e = absurd (cc)
seen-by t kind.Name u e = cc
seen-by t kind.Reserved u e = cc
seen-by t (kind.Number n) u e = cc
seen-by t kind.Sign u e = cc

seen-next-by : (text : List ℕ) (at : ℕ) (u : Token) → Stands text at → (r : Result Token LexStop) → next_token text at ≡ r → seen_from r ≡ Some u → Next text at u
seen-next-by text at u v (Ok t) is e = next-stands text at u v (is ∙ ap Ok (seen-by t t.kind u e))
seen-next-by text at u v (Err stop) is e = absurd (cc)

-- the next token, where one is seen, stands at a character
seen-next : (text : List ℕ) (at : ℕ) (u : Token) → seen text at ≡ Some u → Stands text at → Next text at u
seen-next text at u e v = seen-next-by text at u v (next_token text at) refl e

module _ (text : List ℕ) where
  abbrev P : ℕ → Type 0
  P = IsCharBoundary text

  -- ---- parts of items

  placed-carries : (c at : ℕ) → Carries text P at (placed c text at)
  placed-carries c at = carries-token (λ t s. carries-pass {Q = P} t (sign_of text t == c) t.start s)

  positions-carries : (t : Token) → P t.start → Carries text (InPick P) t.start (positions text t)
  positions-carries t s =
      carries-then (nums-carries text t.start) (λ ns a _. carries-then (sign-carries 58) (λ _ end _. carries-got {Q = InPick P} (pick.Positions t.start ns) s))

  rest-carries : (t : Token) → P t.start → Carries text (InPick P) t.end (rest_of text t)
  rest-carries t s = carries-then (sign-carries 58) (λ _ end _. carries-got {Q = InPick P} (pick.Rest t.start) s)

  pick-by : (at : ℕ) (o : Option Token) → seen text at ≡ o → Carries text (InPick P) at (pick_by o text at)
  pick-by at None e = carries-got {Q = InPick P} pick.Next tt
  pick-by at (Some t) e = carries-where (λ v. by (seen-next text at t e v))
    where
      by : Next text at t → Carries text (InPick P) at (pick_by (Some t) text at)
      by n =
          carries-if (is_number_kind t.kind) (carries-at t.start (λ _. n.begins) (positions-carries t (bound-at text t.start n.begins)))
          (carries-if (sign_of text t == 42) (carries-at t.end (λ _. n.ends) (rest-carries t (bound-at text t.start n.begins))) (carries-got {Q = InPick P} pick.Next tt))

  picked-carries : (at : ℕ) → Carries text (InPick P) at (picked text at)
  picked-carries at = pick-by at (seen text at) refl

  abbrev InBranch : WrittenBranch → Type 0
  InBranch b = P b.at × InPick P b.pick × InSequence P b.body

  abbrev InSign : Bool × ℕ → Type 0
  InSign s = P s.1

  separator-carries : (at : ℕ) → Carries text InSign at (separator text at)
  separator-carries at = carries-token (λ t s. carries-pass {Q = InSign} t (is_separator (lead_of text t)) (is_dot (lead_of text t), t.start) s)

  unfocus-carries : (at : ℕ) → Carries text P at (unfocus_place text at)
  unfocus-carries at = carries-token (λ t s. carries-pass {Q = P} t (is_spelled (codes "unfocus") text t) t.start s)

  abbrev InOptional : Option Step' → Type 0
  InOptional None = Unit {0}
  InOptional (Some s) = InStep P s

  in-separator : (s : Bool × ℕ) → P s.1 → InStep P (separated_by s)
  in-separator s p = by s.0
    where
      by : (b : Bool) → InStep P (cond b (Dot s.1) (Semicolon s.1))
      by true = p
      by false = p

  abbrev InLed : WrittenLed → Type 0
  InLed l = InStep P l.sign × InOptional l.item

  in-item : (o : Option Step') (more : Block') → InOptional o → InSequence P more → InSequence P (item_onto o more)
  in-item None more p q = q
  in-item (Some s) more p q = (p, q)

  in-led : (ls : List WrittenLed) (more : Block') → EachOf InLed ls → InSequence P more → InSequence P (led_onto ls more)
  in-led [] more p q = q
  in-led (l ∷ ls) more p q = (p.0.0, in-item l.item (led_onto ls more) p.0.1 (in-led ls more p.1 q))

  in-choices : (bs : List WrittenBranch) (more : Choices WrittenAction) → EachOf InBranch bs → InChoices P more → InChoices P (choices_onto bs more)
  in-choices [] more p q = q
  in-choices (b ∷ bs) more p q = (p.0.0, p.0.1, p.0.2, in-choices bs more p.1 q)

  -- ---- items, where the places in a sequence within the sequence are bounds

  module _ (inner : ℕ → Reading Block') (within : (at : ℕ) → Carries text (InSequence P) at (inner at)) where
    branch-carries : (start at : ℕ) → P start → Carries text InBranch at (branch inner text start at)
    branch-carries start at s =
        carries-then (picked-carries at) (λ p a q.
        carries-then (within a) (λ b end r. carries-got {Q = InBranch} (record { at = start; pick = p; body = b }) (s, q, r)))

    barred-carries : (at : ℕ) → Carries text InBranch at (barred inner text at)
    barred-carries at = carries-then (placed-carries 124 at) (λ start a s. branch-carries start a s)

    branches-carries : (start at : ℕ) → P start → Carries text (InStep P) at (branches inner text start at)
    branches-carries start at s =
        carries-then list (λ bs a p.
        carries-then (placed-carries 93 a) (λ close end q. carries-got {Q = InStep P} (Branches (choices bs) close) (in-choices bs NoBranch p tt, q)))
      where
        list : Carries text (EachOf InBranch) at (branch_list inner text start at)
        list =
            carries-then (branch-carries start at s) (λ b a p.
            carries-then (row-carries text InBranch (barred inner text) barred-carries (sees_sign 124 text) a) (λ more end q.
            carries-got {Q = EachOf InBranch} (b ∷ more) (p, q)))

    focus-carries : (start at : ℕ) → P start → Carries text (InStep P) at (focus inner text start at)
    focus-carries start at p =
        carries-then (nums-carries text at) (λ ns a _.
        carries-then (separator-carries a) (λ s b q.
        carries-then (within b) (λ body c r.
        carries-then (unfocus-carries c) (λ u end w. carries-got {Q = InStep P} (Focus start ns s.0 s.1 body u) (p, q, r, w)))))

    item-by : (l : Lead) (depth : ℕ) (t : Token) → P t.start → Carries text (InStep P) t.end (item_by l depth inner text t)
    item-by (lead.Action v) depth t s = carries-then (action-carries text v depth t s) (λ a end p. carries-got {Q = InStep P} (Action t.start a) (s, p))
    item-by lead.Skip depth t s = carries-got {Q = InStep P} (Skip t.start) s
    item-by lead.Open depth t s = branches-carries t.start t.end s
    item-by lead.Focus depth t s = focus-carries t.start t.end s
    item-by lead.Semicolon depth t s = carries-stop Syntax t.start
    item-by lead.Dot depth t s = carries-stop Syntax t.start
    item-by lead.Other depth t s = carries-stop Syntax t.start

    optional-by : (depth at : ℕ) (o : Option Token) → seen text at ≡ o → Carries text InOptional at (optional_by o depth inner text at)
    optional-by depth at None e = carries-got {Q = InOptional} None tt
    optional-by depth at (Some t) e = carries-where (λ v. by (seen-next text at t e v))
      where
        by : Next text at t → Carries text InOptional at (optional_by (Some t) depth inner text at)
        by n =
            carries-if (begins_item (lead_of text t))
            (carries-at t.end (λ _. n.ends) (carries-then (item-by (lead_of text t) depth t (bound-at text t.start n.begins)) (λ s end p. carries-got {Q = InOptional} (Some s) p)))
            (carries-got {Q = InOptional} None tt)

    optional-carries : (depth at : ℕ) → Carries text InOptional at (optional_item depth inner text at)
    optional-carries depth at = optional-by depth at (seen text at) refl

    led-carries : (depth at : ℕ) → Carries text InLed at (led_item depth inner text at)
    led-carries depth at =
        carries-then (separator-carries at) (λ s a p.
        carries-then (optional-carries depth a) (λ i end q. carries-got {Q = InLed} (record { sign = separated_by s; item = i }) (in-separator s p, q)))

    items-carries : (depth at : ℕ) → Carries text (InSequence P) at (items depth inner text at)
    items-carries depth at =
        carries-then (optional-carries depth at) (λ first a p.
        carries-then (row-carries text InLed (led_item depth inner text) (led-carries depth) (sees_separator text) a) (λ rest end q.
        carries-got {Q = InSequence P} (item_onto first (led_onto rest End)) (in-item first (led_onto rest End) p (in-led rest End q tt))))

  full-carries : (at : ℕ) (t : Token) → Stands text at → Carries text (InSequence P) t.end (full text at t)
  full-carries at t v = by (ends_sequence text t)
    where
      by : (b : Bool) → Carries text (InSequence P) t.end (cond b (Got End at) (full_at (lead_of text t) t.start))
      by true = record { holds = λ w y end e. let p : End ≡ y = cc in subst (InSequence P) p tt; stays = λ w y end e. let p : at ≡ end = cc in subst (Stands text) p v }
      by false = carries-stop _ t.start

  pub sequence-carries : (room at : ℕ) → Carries text (InSequence P) at (sequence room text at)
  sequence-carries zero at = carries-where (λ v. carries-token {g = λ t. full text at t} (λ t s. full-carries at t v))
  sequence-carries (suc room) at = items-carries (sequence room text) (sequence-carries room) (200 - room) at

  -- ---- units

  abbrev InUnit : WrittenUnit → Type 0
  InUnit u = InKind P u.kind

  phrase-carries : (start : ℕ) (k : WrittenKind) (at : ℕ) → InKind P k → Carries text InUnit at (phrase start k text at)
  phrase-carries start k at p =
      carries-token (λ t s. carries-pass {Q = InUnit} t (closes (sign_of text t)) (record { start = start; end = at; seen = t.end; kind = k }) p)

  plain-carries : (start at : ℕ) (r : Reading WrittenKind) → Carries text (InKind P) at r → Carries text InUnit at (plain start r)
  plain-carries start at r c = carries-then c (λ k end p. carries-got {Q = InUnit} (record { start = start; end = end; seen = end; kind = k }) p)

  command-by : (c : Command) (t : Token) → Carries text (InKind P) t.end (command_by c text t)
  command-by command.Universe t = constraint-carries text t.end
  command-by command.Axiom t = assumed-carries text t.end
  command-by command.Definition t = defined-carries text t.end
  command-by command.Inductive t = inductive-carries text false t.end
  command-by command.Coinductive t = inductive-carries text true t.end
  command-by command.Let t = letting-carries text t.end
  command-by command.Unification t = hint-carries text t.end
  command-by command.Coercion t = coercion-carries text t.end
  command-by command.Theorem t = theorem-carries text t.end
  command-by command.Qed t = qed-carries text t.end
  command-by command.Other t = carries-stop Syntax t.start

  block-carries : (at : ℕ) → Carries text (InKind P) at (block text at)
  block-carries at = carries-then (sequence-carries 200 at) (λ s a p. carries-then (sign-carries 125) (λ _ end _. carries-got {Q = InKind P} (Block s) p))

  named-carries : (t : Token) → Carries text (InKind P) t.start (named text t)
  named-carries t = carries-then (nums-carries text t.start) (λ ns a _. carries-then (sign-carries 58) (λ _ end _. carries-got {Q = InKind P} (OneStep (tiny.Positions ns)) tt))

  all-carries : (at : ℕ) → Carries text (InKind P) at (all_named text at)
  all-carries at = carries-then (sign-carries 58) (λ _ end _. carries-got {Q = InKind P} (OneStep tiny.Wildcard) tt)

  signed-carries : (c : ℕ) (t : Token) → Carries text (InKind P) t.end (signed_step c text t)
  signed-carries c t =
      carries-if (c == 124) (carries-got {Q = InKind P} (OneStep tiny.Bar) tt)
      (carries-if (c == 93) (carries-got {Q = InKind P} (OneStep tiny.BranchClose) tt)
      (carries-if (c == 42) (all-carries t.end)
      (carries-if (c == 123) (block-carries t.end) (carries-stop Syntax t.start))))

  other-carries : (t : Token) → Stands text t.start → Carries text (InKind P) t.end (other_kind text t)
  other-carries t v = carries-if (is_number_kind t.kind) (carries-at t.start (λ _. v) (named-carries t)) (signed-carries (sign_of text t) t)

  step-by : (l : Lead) (t : Token) → Stands text t.start → Carries text InUnit t.end (step_by l text t)
  step-by (lead.Action v) t s =
      carries-then (action-carries text v 0 t (bound-at text t.start s)) (λ a end p. phrase-carries t.start (OneStep (tiny.Action a)) end p)
  step-by lead.Skip t s = phrase-carries t.start (OneStep tiny.Skip) t.end tt
  step-by lead.Focus t s = carries-then (nums-carries text t.end) (λ ns end _. phrase-carries t.start (OneStep (tiny.Focus ns)) end tt)
  step-by lead.Open t s = plain-carries t.start t.end (Got (OneStep tiny.BranchOpen) t.end) (carries-got {Q = InKind P} (OneStep tiny.BranchOpen) tt)
  step-by lead.Semicolon t s = plain-carries t.start t.end (Got (OneStep tiny.Semicolon) t.end) (carries-got {Q = InKind P} (OneStep tiny.Semicolon) tt)
  step-by lead.Dot t s = plain-carries t.start t.end (Got (OneStep tiny.Dot) t.end) (carries-got {Q = InKind P} (OneStep tiny.Dot) tt)
  step-by lead.Other t s =
      carries-if (is_spelled (codes "unfocus") text t) (phrase-carries t.start (OneStep tiny.Unfocus) t.end tt)
      (plain-carries t.start t.end (other_kind text t) (other-carries t s))

  unit-carries : (t : Token) → Stands text t.start → Carries text InUnit t.end (unit_by text t)
  unit-carries t s =
      carries-if (is_command (command_of text t)) (plain-carries t.start t.end (command_by (command_of text t) text t) (command-by (command_of text t) t))
      (step-by (lead_of text t) t s)

  places-by : (at : ℕ) (u : WrittenUnit) (n : ℕ) → Stands text at → (r : Result Token LexStop) → next_token text at ≡ r → unit_from r text ≡ Got (Some u) n → InKind P u.kind
  places-by at u n v (Ok t) is h =
      let b : Begun text t u n = begun-by text t t.kind u n refl h in
      let m : Next text at t = next-stands text at t v is in
      (unit-carries t m.begins).holds m.ends u n b.reads
  places-by at u n v (Err (lex.Lex place)) is h = absurd (cc)
  places-by at u n v (Err (lex.Incomplete place)) is h = absurd (cc)

pub each_place_law : EachPlaceLaw
each_place_law text at u end utf8 boundary h = places-by text at u end (record { inside = boundary.0; utf8 = IsUtf8-drop text at utf8 boundary }) (next_token text at) refl h
