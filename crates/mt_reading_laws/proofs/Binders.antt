-- Abstractions, products and arrows are read as the terms that they are.
use Rattle.std.proofs.Common.{◌≡◌, ℕ, zero, suc, ◌+◌, false, cond, ◌==◌, List, [], ◌∷◌, ◌++◌, drop, refl, ap, ◌∙◌, lit<}
use Rattle.std.specs.Prelude.{codes}
use Rattle.std.specs.Str.{chars}
use Rattle.std.proofs.lemmas.Bool.{and_from}
use Rattle.unicode_ident.proofs.Computing.{unicode_ident}
use Rattle.mt_lexer.specs.declared.TokenKind.TheVariants as kind
use Rattle.mt_lexer.specs.Tokens.{is_continue, is_reserved}
use Rattle.mt_term.specs.Trees.{Tree, Bytes, Prod, Lam}
use Rattle.mt_term.specs.Declarations.{Environment}
use Rattle.mt_term.specs.Alike.{alike}
use Rattle.mt_term_parser.specs.declared.terms.Lead.TheVariants as lead
use Rattle.mt_term_parser.specs.Written as raw
use Rattle.mt_term_parser.specs.Written.{Written, Term, Given, Absent}
use Rattle.mt_term_parser.specs.Readings.{Reading, Got, then_read, needed_from, sign, sees_sign}
use Rattle.mt_term_parser.specs.Grammar.{lead_of, begins_argument, sees_argument, domain, applied, term_by, full, term}
use Rattle.mt_resolver.specs.Resolution.{Found, then_found, resolved}
use Rattle.mt_reading_laws.specs.Names.{IsWord}
use Rattle.mt_reading_laws.proofs.Words.{head_of, head-byte, TokenAt, name-at, sign-at, after-blank, past-blank, drop-past}
use Rattle.mt_reading_laws.proofs.Signs as signs
use Rattle.mt_reading_laws.proofs.Seen.{sign_with, lead_with, needed-is, lead-is, sees_sign-is, sees_argument-is, sign-read, binder-read}
use Rattle.mt_reading_laws.proofs.Atoms.{SpineRead, WholeRead, app-read, app-stands, begins-arrow}

colon-sign : sign_with kind.Sign (58 ∷ []) ≡ 58
unfolding chars
colon-sign = refl

dot-sign : sign_with kind.Sign (46 ∷ []) ≡ 46
unfolding chars
dot-sign = refl

lambda-lead : lead_with kind.Sign (206 ∷ 187 ∷ []) (sign_with kind.Sign (206 ∷ 187 ∷ [])) ≡ lead.Lambda
unfolding chars
lambda-lead = refl

forall-lead : lead_with kind.Sign (226 ∷ 136 ∷ 128 ∷ []) (sign_with kind.Sign (226 ∷ 136 ∷ 128 ∷ [])) ≡ lead.Forall
unfolding chars
forall-lead = refl

arrow-sign : sign_with kind.Sign (226 ∷ 134 ∷ 146 ∷ []) ≡ 0x2192
unfolding chars
arrow-sign = refl

ends-binder : (rest : List ℕ) → is_continue (head_of (58 ∷ rest)) ≡ false
unfolding unicode_ident
ends-binder rest = ap is_continue (head-byte 58 rest (lit< tt))

module _ {E : Environment} {Γ : List Bytes} {text rest : List ℕ} (room at : ℕ) (x TA Tb : List ℕ) (y : Bytes) (A b : Tree) (word : IsWord x) (free : is_reserved x ≡ false)
    (left : (at : ℕ) → drop at text ≡ TA ++ 46 ∷ (Tb ++ rest) → WholeRead E Γ A room text at (46 ∷ (Tb ++ rest)))
    (right : (at : ℕ) → drop at text ≡ Tb ++ rest → WholeRead E (x ∷ Γ) b room text at rest) where
  inner : ℕ → Reading Written
  inner = term (suc room) text

  -- `λx:A.b`
  pub lambda-whole : drop at text ≡ 206 ∷ 187 ∷ (x ++ 58 ∷ (TA ++ 46 ∷ (Tb ++ rest))) → WholeRead E Γ (Lam y A b) (suc room) text at rest
  lambda-whole e =
      let l = sign-at text (206 ∷ 187 ∷ []) (x ++ 58 ∷ (TA ++ 46 ∷ (Tb ++ rest))) at 955 signs.lambda refl e in
      let n = name-at text x (58 ∷ (TA ++ 46 ∷ (Tb ++ rest))) l.token.end word free l.after (ends-binder (TA ++ 46 ∷ (Tb ++ rest))) in
      let c = sign-at text (58 ∷ []) (TA ++ 46 ∷ (Tb ++ rest)) n.token.end 58 signs.colon refl n.after in
      let p = left c.token.end c.after in
      let d = sign-at text (46 ∷ []) (Tb ++ rest) p.read.end 46 signs.dot refl p.read.after in
      let q = right d.token.end d.after in
      let start : ℕ = l.token.start in
      let domain_is : domain (term (suc room) text) text n.token.end ≡ Got (Given p.written) p.read.end =
      ap (λ b. cond b (then_read (sign 58 text n.token.end) (λ _ a. then_read (term (suc room) text a) (λ A end. Got (Given A) end))) (Got Absent n.token.end)) (sees_sign-is c 58 ∙ ap (λ s. s == 58) colon-sign)
      ∙ ap (λ r. then_read r (λ _ a. then_read (term (suc room) text a) (λ A end. Got (Given A) end))) (sign-read c 58 (ap (λ s. s == 58) colon-sign))
      ∙ ap (λ r. then_read r (λ A end. Got (Given A) end)) p.read.is in
      record {
        written = Term start (raw.Lam x (Given p.written) q.written);
        read = record {
          end = q.read.end;
          is =
              ap (λ r. then_read r (λ t _. term_by (lead_of text t) (term (suc room) text) text t)) (needed-is l)
              ∙ ap (λ k. term_by k (term (suc room) text) text l.token) (lead-is l ∙ lambda-lead)
              ∙ ap (λ r. then_read r (λ x a. then_read (domain (term (suc room) text) text a) (λ A b. then_read (sign 46 text b) (λ _ c. then_read (term (suc room) text c) (λ body end. Got (Term start (raw.Lam x A body)) end))))) (binder-read n refl)
              ∙ ap (λ r. then_read r (λ A b. then_read (sign 46 text b) (λ _ c. then_read (term (suc room) text c) (λ body end. Got (Term start (raw.Lam x A body)) end)))) domain_is
              ∙ ap (λ r. then_read r (λ _ c. then_read (term (suc room) text c) (λ body end. Got (Term start (raw.Lam x (Given p.written) body)) end))) (sign-read d 46 (ap (λ s. s == 46) dot-sign))
              ∙ ap (λ r. then_read r (λ body end. Got (Term start (raw.Lam x (Given p.written) body)) end)) q.read.is;
          after = q.read.after;
        };
        stands = record {
          term = Lam x p.stands.term q.stands.term;
          found =
              ap (λ r. then_found r (λ t. then_found (resolved E (x ∷ Γ) q.written) (λ u. Found (Lam x t u)))) p.stands.found
              ∙ ap (λ r. then_found r (λ u. Found (Lam x p.stands.term u))) q.stands.found;
          same = and_from (alike A p.stands.term) (alike b q.stands.term) p.stands.same q.stands.same;
        };
      }

  -- `∀x:A.B`
  pub product-whole : drop at text ≡ 226 ∷ 136 ∷ 128 ∷ (x ++ 58 ∷ (TA ++ 46 ∷ (Tb ++ rest))) → WholeRead E Γ (Prod y A b) (suc room) text at rest
  product-whole e =
      let l = sign-at text (226 ∷ 136 ∷ 128 ∷ []) (x ++ 58 ∷ (TA ++ 46 ∷ (Tb ++ rest))) at 8704 signs.forall refl e in
      let n = name-at text x (58 ∷ (TA ++ 46 ∷ (Tb ++ rest))) l.token.end word free l.after (ends-binder (TA ++ 46 ∷ (Tb ++ rest))) in
      let c = sign-at text (58 ∷ []) (TA ++ 46 ∷ (Tb ++ rest)) n.token.end 58 signs.colon refl n.after in
      let p = left c.token.end c.after in
      let d = sign-at text (46 ∷ []) (Tb ++ rest) p.read.end 46 signs.dot refl p.read.after in
      let q = right d.token.end d.after in
      let start : ℕ = l.token.start in
      record {
        written = Term start (raw.Prod x p.written q.written);
        read = record {
          end = q.read.end;
          is =
              ap (λ r. then_read r (λ t _. term_by (lead_of text t) (term (suc room) text) text t)) (needed-is l)
              ∙ ap (λ k. term_by k (term (suc room) text) text l.token) (lead-is l ∙ forall-lead)
              ∙ ap (λ r. then_read r (λ x a. then_read (sign 58 text a) (λ _ b. then_read (term (suc room) text b) (λ A c. then_read (sign 46 text c) (λ _ d. then_read (term (suc room) text d) (λ B end. Got (Term start (raw.Prod x A B)) end)))))) (binder-read n refl)
              ∙ ap (λ r. then_read r (λ _ b. then_read (term (suc room) text b) (λ A c. then_read (sign 46 text c) (λ _ d. then_read (term (suc room) text d) (λ B end. Got (Term start (raw.Prod x A B)) end))))) (sign-read c 58 (ap (λ s. s == 58) colon-sign))
              ∙ ap (λ r. then_read r (λ A c. then_read (sign 46 text c) (λ _ d. then_read (term (suc room) text d) (λ B end. Got (Term start (raw.Prod x A B)) end)))) p.read.is
              ∙ ap (λ r. then_read r (λ _ d. then_read (term (suc room) text d) (λ B end. Got (Term start (raw.Prod x p.written B)) end))) (sign-read d 46 (ap (λ s. s == 46) dot-sign))
              ∙ ap (λ r. then_read r (λ B end. Got (Term start (raw.Prod x p.written B)) end)) q.read.is;
          after = q.read.after;
        };
        stands = record {
          term = Prod x p.stands.term q.stands.term;
          found =
              ap (λ r. then_found r (λ t. then_found (resolved E (x ∷ Γ) q.written) (λ u. Found (Prod x t u)))) p.stands.found
              ∙ ap (λ r. then_found r (λ u. Found (Prod x p.stands.term u))) q.stands.found;
          same = and_from (alike A p.stands.term) (alike b q.stands.term) p.stands.same q.stands.same;
        };
      }

-- a blank before a term
term-blank : (room : ℕ) (text more : List ℕ) (at : ℕ) → drop at text ≡ 32 ∷ more → term room text at ≡ term room text (at + 1)
term-blank zero text more at e = ap (λ o. then_read (needed_from o) (λ t _. full (lead_of text t) t)) (past-blank text more at e)
term-blank (suc room) text more at e = ap (λ o. then_read (needed_from o) (λ t _. term_by (lead_of text t) (term room text) text t)) (past-blank text more at e)

arrow-token : (text more : List ℕ) (at : ℕ) → drop at text ≡ 32 ∷ 226 ∷ 134 ∷ 146 ∷ 32 ∷ more → TokenAt text at kind.Sign (226 ∷ 134 ∷ 146 ∷ []) (32 ∷ more)
arrow-token text more at e =
    after-blank at e (sign-at text (226 ∷ 134 ∷ 146 ∷ []) (32 ∷ more) (at + 1) 8594 signs.arrow refl (drop-past text (32 ∷ []) (226 ∷ 134 ∷ 146 ∷ 32 ∷ more) at e))

-- `A → B`
pub arrow-whole : {E : Environment} {Γ : List Bytes} {text more rest : List ℕ} {at : ℕ} (room : ℕ) (y : Bytes) (A B : Tree) → SpineRead E Γ A (term (suc room) text) text at (32 ∷ 226 ∷ 134 ∷ 146 ∷ 32 ∷ more)
    → ((at : ℕ) → drop at text ≡ more → WholeRead E (codes "_" ∷ Γ) B room text at rest) → WholeRead E Γ (Prod y A B) (suc room) text at rest
arrow-whole {E} {Γ} {text} {more} {rest} {at} room y A B s right =
    let none : sees_argument text s.row.to ≡ false =
    sees_argument-is (arrow-token text more s.row.to s.row.after) ∙ ap (λ c. begins_argument (lead_with kind.Sign (226 ∷ 134 ∷ 146 ∷ []) c)) arrow-sign in
    let a = app-read s none in
    let to : ℕ = a.end in
    let k = arrow-token text more to a.after in
    let w : Written = applied s.first.token.start s.head s.args in
    let l = app-stands s in
    let q = right (k.token.end + 1) (drop-past text (32 ∷ []) more k.token.end k.after) in
    let start : ℕ = s.first.token.start in
    record {
      written = Term start (raw.Prod (codes "_") w q.written);
      read = record {
        end = q.read.end;
        is =
            begins-arrow (suc room) s.first
            ∙ ap (λ r. then_read r (λ A a. cond (sees_sign 0x2192 text a) (then_read (sign 0x2192 text a) (λ _ b. then_read (term (suc room) text b) (λ B end. Got (Term start (raw.Prod (codes "_") A B)) end))) (Got A a))) a.is
            ∙ ap (λ b. cond b (then_read (sign 0x2192 text to) (λ _ b. then_read (term (suc room) text b) (λ B end. Got (Term start (raw.Prod (codes "_") w B)) end))) (Got w to)) (sees_sign-is k 0x2192 ∙ ap (λ c. c == 0x2192) arrow-sign)
            ∙ ap (λ r. then_read r (λ _ b. then_read (term (suc room) text b) (λ B end. Got (Term start (raw.Prod (codes "_") w B)) end))) (sign-read k 0x2192 (ap (λ c. c == 0x2192) arrow-sign))
            ∙ ap (λ r. then_read r (λ B end. Got (Term start (raw.Prod (codes "_") w B)) end)) (term-blank (suc room) text more k.token.end k.after ∙ q.read.is);
        after = q.read.after;
      };
      stands = record {
        term = Prod (codes "_") l.term q.stands.term;
        found =
            ap (λ r. then_found r (λ t. then_found (resolved E (codes "_" ∷ Γ) q.written) (λ u. Found (Prod (codes "_") t u)))) l.found
            ∙ ap (λ r. then_found r (λ u. Found (Prod (codes "_") l.term u))) q.stands.found;
        same = and_from (alike A l.term) (alike B q.stands.term) l.same q.stands.same;
      };
    }
