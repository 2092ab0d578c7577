-- Which words are operations on which values: for the arms of a `match` that take the rest.
use Prim.Native.Nat.{ℕ, ◌≤◌, ◌<◌, ◌/◌, ◌%◌}
use mathlib.Core.Path.{◌≡◌, refl, sym, ap, ◌∙◌, subst}
use mathlib.Core.Bool.{Bool, true, false, cond}
use native.Mathlib.Decide.{dec_lt}
use native.Mathlib.Omega.{arith}
use lib.Dec.{ltb, lit≤}
use lib.ListN.{get_or}
use mathlib.Core.List.{List, []}
use lib.IntN.{ℤ}
use Rattle.grammar.specs.Items.{Read, item, none, operand_of, item_of}
use Rattle.grammar.specs.Run.{made}
use Rattle.grammar.specs.Evaluation.{blank, value_step}
use Rattle.grammar.specs.Inner.{slot_of, values_on, binary_on, operand_on}
use Rattle.grammar.specs.declared.values.Val.{Val}
use Rattle.grammar.specs.declared.values.Val.TheVariants.{Boolean, Integer}
use Rattle.grammar.specs.declared.values.Slot.{Slot}
use Rattle.grammar.specs.declared.items.Binary.TheVariants.{And, Or, Add, Subtract, Multiply, Divide, Remainder, Equal, Less}
use Rattle.grammar.specs.declared.items.Binary.TheVariants.{LessOrEqual}
use Rattle.grammar.specs.declared.items.Item.TheVariants as Item
use Rattle.std.specs.Prelude.{Option, Some, None}
use Rattle.grammar.proofs.ItemLaws.{high, operand_any, word_any, low_any}

-- none of 5 to 12: no operation on integers
pub no_integers : (a b : ℤ) (w : ℕ)
    → ((((((((Unit {0} × (w ≡ 5 → ⊥)) × (w ≡ 6 → ⊥)) × (w ≡ 7 → ⊥)) × (w ≡ 8 → ⊥)) × (w ≡ 9 → ⊥)) × (w ≡ 10 → ⊥)) × (w ≡ 11 → ⊥))
    × (w ≡ 12 → ⊥))
    → None ≡ values_on (item_of w) (Integer a) (Integer b)
unfolding values_on
no_integers a b =
    word_any
    (λ (w : ℕ) (r : Read). ((((((((Unit {0} × (w ≡ 5 → ⊥)) × (w ≡ 6 → ⊥)) × (w ≡ 7 → ⊥)) × (w ≡ 8 → ⊥)) × (w ≡ 9 → ⊥)) × (w ≡ 10 → ⊥)) × (w
    ≡ 11 → ⊥)) × (w ≡ 12 → ⊥)) → None ≡ values_on r (Integer a) (Integer b)) (
      (λ n. refl),
      (
        (λ n. refl),
        (
          (λ n. refl),
          (
            (λ n. refl),
            (
              (λ n. refl),
              (
                (λ n. absurd (n.0.0.0.0.0.0.0.1 refl)),
                (
                  (λ n. absurd (n.0.0.0.0.0.0.1 refl)),
                  (
                    (λ n. absurd (n.0.0.0.0.0.1 refl)),
                    (
                      (λ n. absurd (n.0.0.0.0.1 refl)),
                      (
                        (λ n. absurd (n.0.0.0.1 refl)),
                        ((λ n. absurd (n.0.0.1 refl)), ((λ n. absurd (n.0.1 refl)), ((λ n. absurd (n.1 refl)), ((λ n. refl), tt)))),
                      ),
                    ),
                  ),
                ),
              ),
            ),
          ),
        ),
      ),
    )
    (λ w v n. refl) (λ w k n. refl) (λ w n. refl)

-- none of 2, 3 and 10: no operation on booleans
pub no_booleans : (a b : Bool) (w : ℕ) → (((Unit {0} × (w ≡ 2 → ⊥)) × (w ≡ 3 → ⊥)) × (w ≡ 10 → ⊥))
    → None ≡ values_on (item_of w) (Boolean a) (Boolean b)
unfolding values_on
no_booleans a b =
    word_any
    (λ (w : ℕ) (r : Read). (((Unit {0} × (w ≡ 2 → ⊥)) × (w ≡ 3 → ⊥)) × (w ≡ 10 → ⊥)) → None ≡ values_on r (Boolean a) (Boolean b)) (
      (λ n. refl),
      (
        (λ n. refl),
        (
          (λ n. absurd (n.0.0.1 refl)),
          (
            (λ n. absurd (n.0.1 refl)),
            (
              (λ n. refl),
              (
                (λ n. refl),
                (
                  (λ n. refl),
                  ((λ n. refl), ((λ n. refl), ((λ n. refl), ((λ n. absurd (n.1 refl)), ((λ n. refl), ((λ n. refl), ((λ n. refl), tt))))))),
                ),
              ),
            ),
          ),
        ),
      ),
    )
    (λ w v n. refl) (λ w k n. refl) (λ w n. refl)

-- no operation takes two kinds
pub integer_boolean : (r : Read) (a : ℤ) (b : Bool) → None ≡ values_on r (Integer a) (Boolean b)
unfolding values_on
integer_boolean (item (Item.Binary And)) a b = refl
integer_boolean (item (Item.Binary Or)) a b = refl
integer_boolean (item (Item.Binary Add)) a b = refl
integer_boolean (item (Item.Binary Subtract)) a b = refl
integer_boolean (item (Item.Binary Multiply)) a b = refl
integer_boolean (item (Item.Binary Divide)) a b = refl
integer_boolean (item (Item.Binary Remainder)) a b = refl
integer_boolean (item (Item.Binary Equal)) a b = refl
integer_boolean (item (Item.Binary Less)) a b = refl
integer_boolean (item (Item.Binary LessOrEqual)) a b = refl
integer_boolean (item (Item.Unary u)) a b = refl
integer_boolean (item (Item.Constant v)) a b = refl
integer_boolean (item (Item.Variable n)) a b = refl
integer_boolean (item Item.Draw) a b = refl
integer_boolean none a b = refl

pub boolean_integer : (r : Read) (a : Bool) (b : ℤ) → None ≡ values_on r (Boolean a) (Integer b)
unfolding values_on
boolean_integer (item (Item.Binary And)) a b = refl
boolean_integer (item (Item.Binary Or)) a b = refl
boolean_integer (item (Item.Binary Add)) a b = refl
boolean_integer (item (Item.Binary Subtract)) a b = refl
boolean_integer (item (Item.Binary Multiply)) a b = refl
boolean_integer (item (Item.Binary Divide)) a b = refl
boolean_integer (item (Item.Binary Remainder)) a b = refl
boolean_integer (item (Item.Binary Equal)) a b = refl
boolean_integer (item (Item.Binary Less)) a b = refl
boolean_integer (item (Item.Binary LessOrEqual)) a b = refl
boolean_integer (item (Item.Unary u)) a b = refl
boolean_integer (item (Item.Constant v)) a b = refl
boolean_integer (item (Item.Variable n)) a b = refl
boolean_integer (item Item.Draw) a b = refl
boolean_integer none a b = refl

-- nor an operand without a value
pub none_left : (r : Read) (b : Option Val) → None ≡ binary_on r None b
unfolding binary_on
none_left (item (Item.Binary o)) b = refl
none_left (item (Item.Unary u)) b = refl
none_left (item (Item.Constant v)) b = refl
none_left (item (Item.Variable n)) b = refl
none_left (item Item.Draw) b = refl
none_left none b = refl

pub none_right : (r : Read) (a : Val) → None ≡ binary_on r (Some a) None
unfolding binary_on
none_right (item (Item.Binary o)) a = refl
none_right (item (Item.Unary u)) a = refl
none_right (item (Item.Constant v)) a = refl
none_right (item (Item.Variable n)) a = refl
none_right (item Item.Draw) a = refl
none_right none a = refl

pub both_known : (r : Read) (a b : Val) → values_on r a b ≡ binary_on r (Some a) (Some b)
unfolding values_on binary_on
both_known (item (Item.Binary o)) a b = refl
both_known (item (Item.Unary u)) a b = refl
both_known (item (Item.Constant v)) a b = refl
both_known (item (Item.Variable n)) a b = refl
both_known (item Item.Draw) a b = refl
both_known none a b = refl

-- a word below 13 and neither 1 nor 4 is a binary operation or nothing
pub binary_word_lem : (a b : Option Val) (w : ℕ) → w < 13 → ((Unit {0} × (w ≡ 1 → ⊥)) × (w ≡ 4 → ⊥))
    → binary_on (item_of w) a b ≡ made (value_step [] 0 (item_of w)) a b
unfolding binary_on
binary_word_lem a b =
    low_any 13 (lit≤ tt)
    (λ (w : ℕ) (r : Read). ((Unit {0} × (w ≡ 1 → ⊥)) × (w ≡ 4 → ⊥)) → binary_on r a b ≡ made (value_step [] 0 r) a b) (
      (λ n. refl),
      (
        (λ n. absurd (n.0.1 refl)),
        (
          (λ n. refl),
          (
            (λ n. refl),
            (
              (λ n. absurd (n.1 refl)),
              ((λ n. refl), ((λ n. refl), ((λ n. refl), ((λ n. refl), ((λ n. refl), ((λ n. refl), ((λ n. refl), ((λ n. refl), tt)))))))),
            ),
          ),
        ),
      ),
    )

-- an operation looks neither at the variables nor at the word
pub no_variables : (vars : List Slot) (left : ℕ) (a b : Option Val) (w : ℕ) → w < 13
    → made (value_step [] 0 (item_of w)) a b ≡ made (value_step vars left (item_of w)) a b
no_variables vars left a b =
    low_any 13 (lit≤ tt) (λ (w : ℕ) (r : Read). made (value_step [] 0 r) a b ≡ made (value_step vars left r) a b)
    (refl, (refl, (refl, (refl, (refl, (refl, (refl, (refl, (refl, (refl, (refl, (refl, (refl, tt)))))))))))))

-- what a constant's or a variable's word adds does not look at the word that is drawn from
pub no_word : (x : Val) (left w : ℕ) → 14 ≤ w
    → operand_on x (w / 256) 0 (operand_of (w % 256) (w / 256)) ≡ operand_on x (w / 256) left (item_of w)
unfolding operand_on
no_word x left w h =
    operand_any (λ (r : Read). operand_on x (w / 256) 0 r ≡ operand_on x (w / 256) left r) (λ v. refl) (w % 256) (w / 256) refl refl
    ∙ ap (operand_on x (w / 256) left) (sym (high w h))

-- what a word from 13 on adds, where x is what its variable holds
looked_up : (vars : List Slot) (k : ℕ) (t : Bool)
    → cond t (Some (get_or vars (cond t k 0) blank).value) None ≡ cond t (Some (get_or vars k blank).value) None
looked_up vars k true = refl
looked_up vars k false = refl

pub operand_word : (vars : List Slot) (left : ℕ) (a b : Option Val) (w : ℕ) → 13 ≤ w
    → operand_on (get_or vars (slot_of w) blank).value (w / 256) left (item_of w) ≡ made (value_step vars left (item_of w)) a b
unfolding operand_on item_of
operand_word vars left a b w h = by (dec_lt 13 w)
  where
    by : Dec (13 < w) → operand_on (get_or vars (slot_of w) blank).value (w / 256) left (item_of w) ≡ made (value_step vars left (item_of w)) a b
    by (yes l) =
        subst (λ (r : Read). operand_on (get_or vars (slot_of w) blank).value (w / 256) left r ≡ made (value_step vars left r) a b)
        (sym (high w l))
        (operand_any (λ (r : Read). operand_on (get_or vars (slot_of w) blank).value (w / 256) left r ≡ made (value_step vars left r) a b)
        (λ v. refl) (w % 256) (w / 256) (looked_up vars (w / 256) (ltb (w / 256) 16)) refl)
    by (no l) =
        let e : w ≡ 13 = omega arith in
        rw e
