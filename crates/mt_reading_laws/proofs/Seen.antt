-- What the grammar makes of a token that stands at a place.
use Rattle.std.proofs.Common.{◌≡◌, ℕ, Bool, true, cond, not, ◌&&◌, ◌==◌, List, Some, refl, ap, ◌∙◌}
use Rattle.std.specs.Prelude.{codes, bytes_eq}
use Rattle.mt_lexer.specs.declared.Token.{Token}
use Rattle.mt_lexer.specs.declared.TokenKind.{TokenKind}
use Rattle.mt_lexer.specs.declared.TokenKind.TheVariants as kind
use Rattle.mt_term_parser.specs.declared.terms.Lead.{Lead}
use Rattle.mt_term_parser.specs.declared.terms.Lead.TheVariants as lead
use Rattle.mt_term_parser.specs.Readings.{Got, then_read, needed, needed_from, needed_token, seen, seen_from, seen_token, word_of, sign_from, sign_spelled, sign_by, sign_of, is_reserved_kind, is_name_kind, is_name, sign, binder, number_by, number, sees, sees_by, sees_sign, passed}
use Rattle.mt_term_parser.specs.Grammar.{lead_of_sign, lead_of, begins_argument, sees_argument}
use Rattle.mt_reading_laws.proofs.Words.{head_of, TokenAt}

-- the character of a sign of this kind and these bytes
abbrev pub sign_with : TokenKind → List ℕ → ℕ
sign_with kind.Sign w = sign_from (head_of w)
sign_with kind.Reserved w = sign_spelled w
sign_with _ w = 0

-- what a token of this kind and these bytes begins
abbrev pub lead_with : TokenKind → List ℕ → ℕ → Lead
lead_with k w c =
    cond (is_name_kind k && not (bytes_eq w (codes "_"))) lead.Name (
    cond (is_reserved_kind k && bytes_eq w (codes "Prop")) lead.Prop (
    cond (is_reserved_kind k && bytes_eq w (codes "Type")) lead.Type (
    cond (is_reserved_kind k && bytes_eq w (codes "match")) lead.Match (lead_of_sign c))))

module _ {text : List ℕ} {at : ℕ} {k : TokenKind} {w rest : List ℕ} (t : TokenAt text at k w rest) where
  pub needed-is : needed text at ≡ Got t.token t.token.end
  needed-is = ap needed_from t.is ∙ ap (needed_token t.token) t.kind ∙ t.needed t.token

  pub seen-is : seen text at ≡ Some t.token
  seen-is = ap seen_from t.is ∙ ap (seen_token t.token) t.kind ∙ t.seen t.token

  sign-by : (q : TokenKind) → sign_by q text t.token ≡ sign_with q w
  sign-by kind.Name = refl
  sign-by kind.Reserved = ap sign_spelled t.word
  sign-by (kind.Number n) = refl
  sign-by kind.Sign = ap sign_from t.head
  sign-by kind.End = refl

  pub sign-is : sign_of text t.token ≡ sign_with k w
  sign-is = ap (λ q. sign_by q text t.token) t.kind ∙ sign-by k

  pub lead-is : lead_of text t.token ≡ lead_with k w (sign_with k w)
  lead-is = λ i. lead_with (t.kind i) (t.word i) (sign-is i)

  pub sees-is : (p : Token → Bool) → sees p text at ≡ p t.token
  sees-is p = ap (λ o. sees_by o p) seen-is

  pub sees_sign-is : (c : ℕ) → sees_sign c text at ≡ (sign_with k w == c)
  sees_sign-is c = sees-is (λ u. sign_of text u == c) ∙ ap (λ s. s == c) sign-is

  pub sees_argument-is : sees_argument text at ≡ begins_argument (lead_with k w (sign_with k w))
  sees_argument-is = sees-is (λ u. begins_argument (lead_of text u)) ∙ ap begins_argument lead-is

  pub sign-read : (c : ℕ) → (sign_with k w == c) ≡ true → sign c text at ≡ Got tt t.token.end
  sign-read c e = ap (λ r. then_read r (λ u _. passed (sign_of text u == c) u tt)) needed-is ∙ ap (λ s. passed (s == c) t.token tt) sign-is ∙ ap (λ b. passed b t.token tt) e

  pub binder-read : is_name_kind k ≡ true → binder text at ≡ Got w t.token.end
  binder-read e =
      ap (λ r. then_read r (λ u _. passed (is_name_kind u.kind) u (word_of text u))) needed-is
      ∙ ap (λ q. passed (is_name_kind q) t.token (word_of text t.token)) t.kind ∙ ap (λ b. passed b t.token (word_of text t.token)) e ∙ ap (λ x. Got x t.token.end) t.word

  pub name-is : is_name text t.token ≡ (is_name_kind k && not (bytes_eq w (codes "_")))
  name-is = λ i. is_name_kind (t.kind i) && not (bytes_eq (t.word i) (codes "_"))

pub number-read : {text w rest : List ℕ} {at n : ℕ} (t : TokenAt text at (kind.Number n) w rest) → number text at ≡ Got n t.token.end
number-read {text} t = ap (λ r. then_read r (λ u _. number_by u.kind u)) (needed-is t) ∙ ap (λ q. number_by q t.token) t.kind
