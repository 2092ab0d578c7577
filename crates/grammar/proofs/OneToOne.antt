-- Items and their words are one to one, and so are values and their words.
use Prim.Native.Nat.{ℕ, zero, suc, ◌*◌, ◌+◌, ◌/◌, ◌%◌, ◌<◌}
use mathlib.Core.Path.{◌≡◌, refl, sym, ap, ◌∙◌, subst}
use mathlib.Core.Logic.{◌↔◌}
use mathlib.Core.Bool.{Bool, true, false, cond}
use native.Mathlib.Decide.{dec_lt}
use native.Mathlib.Omega.{arith}
use borrow.Author.Tests.{eqb-true, ltb-true}
use lib.Dec.{eqb, ltb, lit≤}
use mir.Syntax.{w32}
use mir.Val.{SFits}
use Rattle.laws.proofs.BelowLaws.{and_first, and_rest}
use Rattle.grammar.specs.Bits.{bits_of, from_bits}
use Rattle.grammar.specs.Items.{Read, item, none, constant, operand_of, word_of, item_of}
use Rattle.grammar.specs.Slots.{val_of, kind_in, payload_in, is_value, FitVal}
use Rattle.grammar.specs.declared.values.Val.{Val}
use Rattle.grammar.specs.declared.values.Val.TheVariants.{Boolean}
use Rattle.grammar.specs.declared.items.Item.{Item}
use Rattle.grammar.proofs.BitLaws.{from_low, from_high}
use Rattle.grammar.proofs.ItemLaws.{low_any, high}
use Rattle.grammar.proofs.SlotLaws.{val_back}
use Rattle.grammar.proofs.Theorems.{Proper, read_back}

-- ---- items
-- what a word says is proper, and has that word
abbrev Says : ℕ → Read → Type 0
Says w (item i) = Proper i × (word_of i ≡ w)
Says w none = Unit {0}

asked : (P : Read → Type 0) (t : Bool) {a b : Read} → (t ≡ true → P a) → P b → P (cond t a b)
asked P true p q = p refl
asked P false p q = q

truth_says : (p : ℕ) → p < 2 → Says (p * 256 + 14) (constant (Boolean (eqb p 1)))
truth_says zero h = (tt, refl)
truth_says (suc zero) h = (tt, refl)
truth_says (suc (suc p)) h = absurd (omega arith)

-- 32 bits are those of an integer that has 32 bits
number_says : (b : ℕ) → b < 4294967296 → SFits w32 (from_bits b) × (bits_of (from_bits b) ≡ b)
number_says b h = by (dec_lt b 2147483648)
  where
    by : Dec (b < 2147483648) → SFits w32 (from_bits b) × (bits_of (from_bits b) ≡ b)
    by (yes l) = rw (from_low b l) (record { sfits = l }, refl)
    by (no l) = rw (from_high b (omega arith)) (record { sfits = omega arith }, omega arith)

operand_says : (w op p : ℕ) → w ≡ p * 256 + op → Says w (operand_of op p)
operand_says w op p e =
    asked (Says w) (eqb op 14)
    (λ h. asked (Says w) (ltb p 2)
    (λ l. subst (λ (x : ℕ). Says x (constant (Boolean (eqb p 1)))) (omega (arith, eqb-true op 14 h)) (truth_says p (ltb-true p 2 l))) tt)
    (asked (Says w) (eqb op 15)
    (λ h. asked (Says w) (ltb p 4294967296)
    (λ l. let n = number_says p (ltb-true p 4294967296 l) in (n.0, omega (arith, eqb-true op 15 h, n.1))) tt)
    (asked (Says w) (eqb op 16) (λ h. (tt, omega (arith, eqb-true op 16 h))) tt))

word_says : (w : ℕ) → Says w (item_of w)
word_says w = by (dec_lt w 14)
  where
    by : Dec (w < 14) → Says w (item_of w)
    by (yes h) =
        low_any 14 (lit≤ tt) Says (
          tt,
          (
            (tt, refl),
            (
              (tt, refl),
              (
                (tt, refl),
                (
                  (tt, refl),
                  (
                    (tt, refl),
                    (
                      (tt, refl),
                      (
                        (tt, refl),
                        (
                          (tt, refl),
                          ((tt, refl), ((tt, refl), ((tt, refl), ((tt, refl), ((tt, refl), tt))))),
                        ),
                      ),
                    ),
                  ),
                ),
              ),
            ),
          ),
        ) w h
    by (no h) = subst (Says w) (sym (high w (omega arith))) (operand_says w (w % 256) (w / 256) (omega arith))

-- A word that says an item is the word of that item, and the item's integer has its 32 bits; `read_back` of Theorems is the other way.
pub word_back : (w : ℕ) (i : Item) → item_of w ≡ item i → Proper i × (word_of i ≡ w)
word_back w i e = subst (Says w) e (word_says w)

-- Two items are equal exactly when their words are.
pub same_items : (i j : Item) → Proper i → Proper j → (word_of i ≡ word_of j) ↔ (i ≡ j)
same_items i j p q = (back, ap word_of)
  where
    said : Item → Read → Item
    said d (item k) = k
    said d none = d

    back : word_of i ≡ word_of j → i ≡ j
    back e = ap (said i) (sym (read_back i p) ∙ ap item_of e ∙ read_back j q)

-- Two words of which one says an item are equal exactly when they say the same.
pub same_words : (v w : ℕ) (i : Item) → item_of v ≡ item i → (item_of w ≡ item_of v) ↔ (w ≡ v)
same_words v w i e = ((λ d. sym (word_back w i (d ∙ e)).1 ∙ (word_back v i e).1), ap item_of)

-- ---- values
-- Two values that a program holds are equal exactly when their kinds' words and their payloads are.
pub same_values : (v w : Val) → FitVal v → FitVal w → ((kind_in v ≡ kind_in w) × (payload_in v ≡ payload_in w)) ↔ (v ≡ w)
same_values v w f g = (
  (λ e. sym (val_back v f) ∙ ap (λ (k : ℕ). val_of k (payload_in v)) e.0 ∙ ap (val_of (kind_in w)) e.1 ∙ val_back w g),
  (λ e. (ap kind_in e, ap payload_in e)),
)

-- A kind and a payload that stand for a value are that value's words.
pub value_words_lem : (kind payload : ℕ) → is_value kind payload ≡ true
    → (kind_in (val_of kind payload) ≡ kind) × (payload_in (val_of kind payload) ≡ payload)
unfolding is_value
value_words_lem kind payload h =
    let v = val_of kind payload in (
      eqb-true (kind_in v) kind (and_first (eqb (kind_in v) kind) (eqb (payload_in v) payload) h),
      eqb-true (payload_in v) payload (and_rest (eqb (kind_in v) kind) (eqb (payload_in v) payload) h),
    )

-- Two pairs of words that stand for values are equal exactly when they stand for the same.
pub same_pairs : (k p l q : ℕ) → is_value k p ≡ true → is_value l q ≡ true → (val_of k p ≡ val_of l q) ↔ ((k ≡ l) × (p ≡ q))
same_pairs k p l q g h = (
  (λ e. (
    sym (value_words_lem k p g).0 ∙ ap kind_in e ∙ (value_words_lem l q h).0,
    sym (value_words_lem k p g).1 ∙ ap payload_in e ∙ (value_words_lem l q h).1,
  )),
  (λ e. ap (λ (n : ℕ). val_of n p) e.0 ∙ ap (val_of l) e.1),
)
