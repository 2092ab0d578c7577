-- Laws of the item that a word says.
use Prim.Native.Nat.{ℕ, ◌≤◌, ◌<◌, ◌/◌, ◌%◌}
use mathlib.Core.Path.{◌≡◌, refl, sym, ap, ◌∙◌, subst}
use mathlib.Core.Bool.{Bool, true, false, cond}
use native.Mathlib.Decide.{dec_lt}
use native.Mathlib.Omega.{arith}
use borrow.Author.Tests.{ne_eqb, lt-ltb, le-ltb}
use lib.Dec.{ltb, eqb, lit<, lit≤}
use lib.ListN.{get_or}
use Rattle.laws.proofs.Each.{Each, upto}
use Rattle.grammar.specs.Items.{Read, item, none, operations, constant, operand_of, item_of, takes_of}
use Rattle.grammar.specs.Draws.{draws_in}
use Rattle.grammar.specs.Inner.{row_of, slot_of}
use Rattle.grammar.specs.declared.values.Val.{Val}
use Rattle.grammar.specs.declared.items.Item.TheVariants as Item

pub low : (w : ℕ) → w < 14 → item_of w ≡ get_or operations w none
unfolding item_of
low w h = ap (λ (t : Bool). cond t (get_or operations w none) (operand_of (w % 256) (w / 256))) (lt-ltb w 14 h)

pub high : (w : ℕ) → 14 ≤ w → item_of w ≡ operand_of (w % 256) (w / 256)
unfolding item_of
high w h = ap (λ (t : Bool). cond t (get_or operations w none) (operand_of (w % 256) (w / 256))) (le-ltb w 14 h)

-- a fact of the words below n, of which all are below 14
pub low_any : (n : ℕ) → n ≤ 14 → (P : ℕ → Read → Type 0) → Each (λ (w : ℕ). P w (get_or operations w none)) n → (w : ℕ) → w < n
    → P w (item_of w)
low_any n l P ops w h = subst (P w) (sym (low w (omega arith))) (upto (λ (k : ℕ). P k (get_or operations k none)) n ops w h)

either : (P : Read → Type 0) (t : Bool) {a b : Read} → P a → P b → P (cond t a b)
either P true p q = p
either P false p q = q

-- an operand's word says a constant, the variable of its payload, or nothing
pub operand_any : (P : Read → Type 0) → ((v : Val) → P (constant v)) → (op p : ℕ) → P (item (Item.Variable p)) → P none → P (operand_of op p)
operand_any P c op p v z =
    either P (eqb op 14) (either P (ltb p 2) (c _) z)
    (either P (eqb op 15) (either P (ltb p 4294967296) (c _) z)
    (either P (eqb op 16) v z))

-- what holds of the operations and of the operands holds of every word's item
pub word_any : (P : ℕ → Read → Type 0) → Each (λ (w : ℕ). P w (get_or operations w none)) 14 → ((w : ℕ) (v : Val) → P w (constant v))
    → ((w n : ℕ) → P w (item (Item.Variable n))) → ((w : ℕ) → P w none) → (w : ℕ) → P w (item_of w)
word_any P ops c v z w = by (dec_lt w 14)
  where
    by : Dec (w < 14) → P w (item_of w)
    by (yes h) = low_any 14 (lit≤ tt) P ops w h
    by (no h) = subst (P w) (sym (high w (omega arith))) (operand_any (P w) (c w) (w % 256) (w / 256) (v w (w / 256)) (z w))

-- every word but one is no draw
pub no_draw : (w : ℕ) → (w ≡ 13 → ⊥) → draws_in (item_of w) ≡ 0
no_draw =
    word_any (λ (w : ℕ) (r : Read). (w ≡ 13 → ⊥) → draws_in r ≡ 0) (
      (λ n. refl),
      (
        (λ n. refl),
        (
          (λ n. refl),
          (
            (λ n. refl),
            (
              (λ n. refl),
              (
                (λ n. refl),
                (
                  (λ n. refl),
                  ((λ n. refl), ((λ n. refl), ((λ n. refl), ((λ n. refl), ((λ n. refl), ((λ n. refl), ((λ n. absurd (n refl)), tt))))))),
                ),
              ),
            ),
          ),
        ),
      ),
    )
    (λ w v n. refl) (λ w k n. refl) (λ w n. refl)

pub takes_low : (w : ℕ) → w < 14 → row_of 44738980 w ≡ takes_of (item_of w)
takes_low =
    low_any 14 (lit≤ tt) (λ (w : ℕ) (r : Read). row_of 44738980 w ≡ takes_of r)
    (refl, (refl, (refl, (refl, (refl, (refl, (refl, (refl, (refl, (refl, (refl, (refl, (refl, (refl, tt))))))))))))))

pub takes_high : (w : ℕ) → 14 ≤ w → takes_of (item_of w) ≡ 0
takes_high w h = ap takes_of (high w h) ∙ operand_any (λ (r : Read). takes_of r ≡ 0) (λ v. refl) (w % 256) (w / 256) refl refl

-- a low byte of none of the three says nothing
pub operand_none : (op p : ℕ) → (((Unit {0} × (op ≡ 14 → ⊥)) × (op ≡ 15 → ⊥)) × (op ≡ 16 → ⊥)) → operand_of op p ≡ none
operand_none op p n = rw (ne_eqb op 14 n.0.0.1, ne_eqb op 15 n.0.1, ne_eqb op 16 n.1)

-- what is made of a constant or nothing
pub through : {A : Type 0} (f : Read → A) (t : Bool) (v : Val) → cond t (f (constant v)) (f none) ≡ f (cond t (constant v) none)
through f true v = refl
through f false v = refl

-- no item draws more than once
pub draws_most : (r : Read) → draws_in r ≤ 1
draws_most (item (Item.Constant v)) = lit≤ tt
draws_most (item (Item.Variable n)) = lit≤ tt
draws_most (item (Item.Unary u)) = lit≤ tt
draws_most (item (Item.Binary b)) = lit≤ tt
draws_most (item Item.Draw) = lit≤ tt
draws_most none = lit≤ tt

-- a word from 13 on takes none
pub takes_operand : (w : ℕ) → 13 ≤ w → takes_of (item_of w) ≡ 0
unfolding item_of
takes_operand w h = by (dec_lt 13 w)
  where
    by : Dec (13 < w) → takes_of (item_of w) ≡ 0
    by (yes l) = takes_high w l
    by (no l) =
        let e : w ≡ 13 = omega arith in
        rw e

-- the slot of a word is one of the 16
pub slot_small : (w : ℕ) → slot_of w < 16
slot_small w = by (dec_lt (w / 256) 16)
  where
    by : Dec (w / 256 < 16) → slot_of w < 16
    by (yes h) = rw (lt-ltb (w / 256) 16 h) h
    by (no h) = rw (le-ltb (w / 256) 16 (omega arith)) (lit< tt)
