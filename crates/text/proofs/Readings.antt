-- Laws of the items of an expression, read one by one: what is left to read gives what the whole does.
use Prim.Native.Nat.{ℕ, zero, suc, ◌+◌, ◌-◌, ◌≤◌, ◌<◌}
use mathlib.Core.Path.{◌≡◌, refl, sym, ap, ◌∙◌}
use mathlib.Core.Bool.{true, false}
use mathlib.Core.List.{List, [], ◌∷◌}
use native.Mathlib.Numerals.{add-one}
use native.Mathlib.Omega.{arith}
use lib.ListN.{length, drop, set, length-set}
use lib.Seq.{sets}
use Rattle.std.specs.Prelude.{Some, None}
use Rattle.text.specs.Tokens.{token_of, next_of}
use Rattle.text.specs.Items.{word_at, closes_at, words_from, items_from}

-- ---- what the token at a place decides
module _ (line : List ℕ) (at n : ℕ) where
  stop_items : (room : ℕ) → closes_at line at ≡ true → items_from room line at n ≡ Some (record { count = n; next = next_of line at })
  unfolding items_from
  stop_items zero e = rw e
  stop_items (suc room) e = rw e

  stop_words : (room : ℕ) → closes_at line at ≡ true → words_from room line at ≡ []
  unfolding words_from
  stop_words zero e = refl
  stop_words (suc room) e = rw e

  no_items : (room : ℕ) → closes_at line at ≡ false → word_at (token_of (drop at line)) ≡ None → items_from room line at n ≡ None
  unfolding items_from
  no_items zero e f = rw e
  no_items (suc room) e f = rw (e, f)

  no_words : (room : ℕ) → closes_at line at ≡ false → word_at (token_of (drop at line)) ≡ None → words_from room line at ≡ []
  unfolding words_from
  no_words zero e f = refl
  no_words (suc room) e f = rw (e, f)

  more_items : (room w : ℕ) → closes_at line at ≡ false → word_at (token_of (drop at line)) ≡ Some w → items_from (suc room) line at n ≡ items_from room line (next_of line at) (n + 1)
  unfolding items_from
  more_items room w e f = rw (e, f)

  more_words : (room w : ℕ) → closes_at line at ≡ false → word_at (token_of (drop at line)) ≡ Some w → words_from (suc room) line at ≡ w ∷ words_from room line (next_of line at)
  unfolding words_from
  more_words room w e f = rw (e, f)

-- ---- a place on the way: `count` words were read, and the next token starts at `here`
pub record Way (line : List ℕ) (at : ℕ) (before words : List ℕ) (here count : ℕ) : Type 0 where
  pub as_long : length words ≡ length before
  pub items : items_from (length before - count) line here count ≡ items_from (length before) line at 0
  pub stored : sets words count (words_from (length before - count) line here) ≡ sets before 0 (words_from (length before) line at)

module _ (line : List ℕ) (at : ℕ) (before : List ℕ) where
  pub start : Way line at before before at 0
  start =
      let e : length before - 0 ≡ length before = omega arith in
      record {
        as_long = refl;
        items = ap (λ (room : ℕ). items_from room line at 0) e;
        stored = ap (λ (room : ℕ). sets before 0 (words_from room line at)) e;
      }

  module _ {words : List ℕ} {here count : ℕ} (so_far : Way line at before words here count) where
    pub closed_items : closes_at line here ≡ true → Some (record { count = count; next = next_of line here }) ≡ items_from (length before) line at 0
    closed_items e = sym (stop_items line here count (length before - count) e) ∙ so_far.items

    pub closed_words : closes_at line here ≡ true → words ≡ sets before 0 (words_from (length before) line at)
    closed_words e = ap (sets words count) (sym (stop_words line here count (length before - count) e)) ∙ so_far.stored

    pub broken_items : closes_at line here ≡ false → word_at (token_of (drop here line)) ≡ None → None ≡ items_from (length before) line at 0
    broken_items e f = sym (no_items line here count (length before - count) e f) ∙ so_far.items

    pub broken_words : closes_at line here ≡ false → word_at (token_of (drop here line)) ≡ None → words ≡ sets before 0 (words_from (length before) line at)
    broken_words e f = ap (sets words count) (sym (no_words line here count (length before - count) e f)) ∙ so_far.stored

    pub full_items : length before ≤ count → closes_at line here ≡ false → None ≡ items_from (length before) line at 0
    unfolding items_from
    full_items h e =
        let z : length before - count ≡ 0 = omega arith in
        let i = rw z at so_far.items in
        rw e at i

    pub full_words : length before ≤ count → words ≡ sets before 0 (words_from (length before) line at)
    unfolding words_from
    full_words h =
        let z : length before - count ≡ 0 = omega arith in
        rw z at so_far.stored

    pub onward : (w : ℕ) → count < length before → closes_at line here ≡ false → word_at (token_of (drop here line)) ≡ Some w
        → Way line at before (set words count w) (next_of line here) (count + 1)
    onward w h e f =
        let z : length before - count ≡ suc (length before - (count + 1)) = omega arith in
        let i = rw z at so_far.items in
        let s = rw z at so_far.stored in
        record {
          as_long = length-set words count w ∙ so_far.as_long;
          items = sym (more_items line here count (length before - (count + 1)) w e f) ∙ i;
          stored =
              ap (λ (k : ℕ). sets (set words count w) k (words_from (length before - (count + 1)) line (next_of line here))) (add-one count)
              ∙ ap (sets words count) (sym (more_words line here count (length before - (count + 1)) w e f)) ∙ s;
        }
