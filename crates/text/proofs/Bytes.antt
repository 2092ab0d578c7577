-- Laws of tokens, from a place of the line on.
use Rattle.std.proofs.Common.{◌≡◌, ℕ, suc, ◌+◌, ◌≤◌, ◌<◌, Bool, true, false, cond, not, ◌&&◌, List, [], ◌∷◌, eqb, ltb, length, take, drop, refl, sym, ◌∙◌, ap, arith, length-drop}
use Rattle.std.specs.Prelude.{Some, None, unwrap_or}
use Rattle.std.specs.List.{position, position_or_len, list_all, zip}
use Rattle.std.proofs.lemmas.List.Sums.{prefix_len-le-length}
use Rattle.std.proofs.lemmas.Option.{cond_some}
use borrow.Author.Tests.{ltb-true, ltb-false, lt-ltb, le-ltb}
use Rattle.text.specs.Tokens.{token_of, next_of, same_bytes}

-- ---- a token ends at the first blank
ends : (s : List ℕ) → length (token_of s) ≡ position_or_len (λ b. eqb b 32) s
unfolding token_of
ends [] = refl
ends (b ∷ s) = by (eqb b 32) (ends s)
  where
    by : (t : Bool) → length (token_of s) ≡ position_or_len (λ b. eqb b 32) s
        → length (cond t [] (b ∷ token_of s)) ≡ cond (not t) (1 + position_or_len (λ b. eqb b 32) s) 0
    by true h = refl
    by false h = omega arith

pub bounded : (s : List ℕ) → length (token_of s) ≤ length s
bounded s = rw (ends s) (prefix_len-le-length (λ b. not (eqb b 32)) s)

pub spans : (s : List ℕ) → unwrap_or (position (λ b. eqb b 32) s) (length s) ≡ length (token_of s)
spans s = by (ltb (position_or_len (λ b. eqb b 32) s) (length s)) refl
  where
    by : (t : Bool) → ltb (position_or_len (λ b. eqb b 32) s) (length s) ≡ t
        → unwrap_or (cond t (Some (position_or_len (λ b. eqb b 32) s)) None) (length s) ≡ length (token_of s)
    by true e = sym (ends s)
    by false e = omega (arith, ltb-false (position_or_len (λ b. eqb b 32) s) (length s) e, bounded s, ends s)

-- where the token after the one at a place starts
module _ (s : List ℕ) (i : ℕ) where
  pub after : (n : ℕ) → position (λ b. eqb b 32) (drop i s) ≡ Some n → i + n + 1 ≡ next_of s i
  unfolding next_of
  after n e =
      let c = cond_some (ltb (position_or_len (λ b. eqb b 32) (drop i s)) (length (drop i s))) (position_or_len (λ b. eqb b 32) (drop i s)) n e in
      let t : length (token_of (drop i s)) ≡ n = ends (drop i s) ∙ c.1 in
      let h : position_or_len (λ b. eqb b 32) (drop i s) < length (drop i s) = ltb-true _ _ c.0 in
      rw (t, lt-ltb (i + n) (length s) (omega (arith, h, c.1, length-drop i s)))

  pub none_after : position (λ b. eqb b 32) (drop i s) ≡ None → length s + 1 ≡ next_of s i
  unfolding next_of
  none_after = by (ltb (position_or_len (λ b. eqb b 32) (drop i s)) (length (drop i s))) refl
    where
      by : (t : Bool) → ltb (position_or_len (λ b. eqb b 32) (drop i s)) (length (drop i s)) ≡ t
          → cond t (Some (position_or_len (λ b. eqb b 32) (drop i s))) None ≡ None
          → length s + 1 ≡ cond (ltb (i + length (token_of (drop i s))) (length s)) (i + length (token_of (drop i s)) + 1) (length s + 1)
      by true e f = absurd (cc f)
      by false e f =
          rw (le-ltb (i + length (token_of (drop i s))) (length s) (omega (arith, ltb-false _ _ e, ends (drop i s), length-drop i s)))

pub front : (s : List ℕ) → take (length (token_of s)) s ≡ token_of s
unfolding token_of
front [] = refl
front (b ∷ s) = by (eqb b 32) (front s)
  where
    by : (t : Bool) → take (length (token_of s)) s ≡ token_of s → take (length (cond t [] (b ∷ token_of s))) (b ∷ s) ≡ cond t [] (b ∷ token_of s)
    by true e = refl
    by false e = ap (λ (r : List ℕ). b ∷ r) e

-- ---- two rows of bytes
pub longer : (x y : List ℕ) → (length x ≡ length y → ⊥) → same_bytes x y ≡ false
unfolding same_bytes
longer [] [] h = absurd (h refl)
longer [] (b ∷ y) h = refl
longer (a ∷ x) [] h = refl
longer (a ∷ x) (b ∷ y) h = by (eqb a b) (longer x y (λ e. h (ap suc e)))
  where
    by : (t : Bool) → same_bytes x y ≡ false → (t && same_bytes x y) ≡ false
    by true e = e
    by false e = refl

pub paired : (x y : List ℕ) → length x ≡ length y → list_all (λ p. eqb p.0 p.1) (zip x y) ≡ same_bytes x y
unfolding same_bytes
paired [] [] h = refl
paired [] (b ∷ y) h = absurd (omega arith)
paired (a ∷ x) [] h = absurd (omega arith)
paired (a ∷ x) (b ∷ y) h = let e : length x ≡ length y = omega arith in rw (paired x y e)
