-- What the entries of a table are.
use Rattle.std.proofs.Common.{◌≡◌, ◌≢◌, ℕ, ◌+◌, ◌*◌, ◌/◌, ◌%◌, ◌<◌, ◌≤◌, max, ltb, ◌&&◌, List, ◌++◌, length, set, get_or-set_same, get_or-set_other, take, drop, subst, get_or, sym, ◌∙◌, inl, inr, arith}
use Rattle.std.proofs.lemmas.Bool.{cases_lt, lt-ltb, le-ltb, cond-true, cond-false, and_from, and_left, and_right}
use Rattle.std.proofs.lemmas.Bool.Decides.{nat_tests}
use Rattle.std.proofs.lemmas.List.{get_or_default, get_or_past}
use Rattle.std.proofs.Math.Seq.{take-append_seam}
use Rattle.mt_term.specs.UniverseOrder.{joined, more_paths, more_heights}
use Rattle.mt_universe.proofs.UniverseOrderLaws.{joined_cases}
use Rattle.mt_universe.specs.Tables.{alone, entry, AreFresh}

pub entry_in : (t : List ℕ) (a b : ℕ) → a < 256 → b < 256 → entry t a b ≡ get_or t (256 * a + b) (alone a b)
unfolding entry
entry_in t a b p q = cond-true (ltb a 256 && ltb b 256) _ _ (and_from (ltb a 256) (ltb b 256) (lt-ltb a 256 p) (lt-ltb b 256 q))

pub entry_past_row : (t : List ℕ) (a b : ℕ) → 256 ≤ a → entry t a b ≡ alone a b
unfolding entry
entry_past_row t a b p = cond-false (ltb a 256 && ltb b 256) _ _ (and_left (ltb a 256) (ltb b 256) (le-ltb a 256 p))

pub entry_past_column : (t : List ℕ) (a b : ℕ) → 256 ≤ b → entry t a b ≡ alone a b
unfolding entry
entry_past_column t a b p = cond-false (ltb a 256 && ltb b 256) _ _ (and_right (ltb a 256) (ltb b 256) (le-ltb b 256 p))

-- a table that has what F says at each place has F's entries
pub entries_all : (t : List ℕ) (F : ℕ → ℕ → ℕ) → length t ≡ 65536 → ((k : ℕ) → k < 65536 → get_or t k 0 ≡ F (k / 256) (k % 256)) → ((a b : ℕ) → 256 ≤ a → F a b ≡ alone a b) → ((a b : ℕ) → 256 ≤ b → F a b ≡ alone a b) → (a b : ℕ) → entry t a b ≡ F a b
entries_all t F size at row column a b =
    elim (cases_lt a 256) [
      | inr p ↦ entry_past_row t a b p ∙ sym (row a b p)
      | inl p ↦ elim (cases_lt b 256) [
        | inr q ↦ entry_past_column t a b q ∙ sym (column a b q)
        | inl q ↦ (let k = 256 * a + b in
            let e : k / 256 ≡ a = omega arith in
            let f : k % 256 ≡ b = omega arith in
            entry_in t a b p q ∙ get_or_default t k (alone a b) 0 (omega arith) ∙ at k (omega arith) ∙ (λ i. F (e i) (f i)))
      ]
    ]

alone_apart : (a b : ℕ) → a < 256 → 256 ≤ b → alone a b ≡ 0
alone_apart a b p q = grind (arith, nat_tests)

alone_apart_back : (a b : ℕ) → 256 ≤ a → b < 256 → alone a b ≡ 0
alone_apart_back a b p q = grind (arith, nat_tests)

-- A write at the place of a row and a column.
module _ (t : List ℕ) (row b v : ℕ) (size : length t ≡ 65536) (row_in : row < 256) (b_in : b < 256) where
  pub entry_written : entry (set t (256 * row + b) v) row b ≡ v
  entry_written = entry_in (set t (256 * row + b) v) row b row_in b_in ∙ get_or-set_same t (256 * row + b) v (alone row b) (omega arith)

  pub entry_beside : (p q : ℕ) → (p ≡ row → q ≢ b) → entry (set t (256 * row + b) v) p q ≡ entry t p q
  entry_beside p q apart =
      elim (cases_lt p 256) [
        | inr past ↦ entry_past_row (set t (256 * row + b) v) p q past ∙ sym (entry_past_row t p q past)
        | inl p_in ↦ elim (cases_lt q 256) [
          | inr past ↦ entry_past_column (set t (256 * row + b) v) p q past ∙ sym (entry_past_column t p q past)
          | inl q_in ↦ (let ne : (256 * p + q) ≢ (256 * row + b) = λ e. let same : p ≡ row = omega arith in apart same (omega arith) in
              entry_in (set t (256 * row + b) v) p q p_in q_in ∙ get_or-set_other t (256 * row + b) (256 * p + q) v (alone p q) ne ∙ sym (entry_in t p q p_in q_in))
        ]
      ]

-- The lengths with one constraint more, where the table has none.
module _ (before : List ℕ) (low high : ℕ) (low_in : low < 256) (high_in : high < 256) where
  pub more_past_row : (a b : ℕ) → 256 ≤ a → more_paths (entry before) low high a b ≡ entry before a b
  more_past_row a b p = grind (arith, joined_cases (entry before a low) (entry before high b), entry_past_row before a low p, alone_apart_back a low p low_in)

pub joined_past_column : (before : List ℕ) (row into high b : ℕ) → high < 256 → 256 ≤ b → max (entry before row b) (joined into (entry before high b)) ≡ entry before row b
joined_past_column before row into high b p q =
    grind (arith, joined_cases into (entry before high b), entry_past_column before high b q, alone_apart high b p q)

-- the heights past the table are 0 and stay so
pub more_heights_past : (hs t : List ℕ) (low high b : ℕ) → length hs ≡ 256 → high < 256 → 256 ≤ b → more_heights (entry t) (λ x. get_or hs x 0) low high b ≡ 0
more_heights_past hs t low high b size p q =
    grind (arith, joined_cases (get_or hs low 0 + 1) (entry t high b), entry_past_column t high b q, alone_apart high b p q, get_or_past hs b 0 (omega arith))

-- a slice of a whole vector, written back
pub written_back : (n : ℕ) (xs ys : List ℕ) → length xs ≡ n → take n (xs ++ drop (length xs) ys) ≡ xs
written_back n xs ys e = subst (λ m. take m (xs ++ drop (length xs) ys) ≡ xs) e (take-append_seam xs (drop (length xs) ys))

pub AreFresh-written_back : (n m : ℕ) (xs ys zs ws : List ℕ) → length xs ≡ n → length zs ≡ m → AreFresh xs zs → AreFresh (take n (xs ++ drop (length xs) ys)) (take m (zs ++ drop (length zs) ws))
AreFresh-written_back n m xs ys zs ws e f h =
    subst (λ ts. AreFresh ts (take m (zs ++ drop (length zs) ws))) (sym (written_back n xs ys e))
    (subst (AreFresh xs) (sym (written_back m zs ws f)) h)
