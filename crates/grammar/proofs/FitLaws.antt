-- Values that a program holds: those that stand in words are such, and so is what an expression gives on them.
use Prim.Native.Nat.{ℕ, zero, suc, ◌/◌, ◌%◌, ◌^◌, ◌<◌}
use mathlib.Core.Path.{◌≡◌, refl, sym, subst}
use mathlib.Core.Bool.{Bool, true, false, cond}
use mathlib.Core.List.{List, [], ◌∷◌}
use native.Mathlib.Decide.{dec_lt}
use native.Mathlib.Omega.{arith}
use lib.Dec.{eqb, leb, ltb, lit≤}
use lib.IntN.{ℤ, pos, ◌+ℤ◌, ◌-ℤ◌, ◌*ℤ◌}
use lib.ListN.{get_or}
use lib.Signed.{lt_z, quot_z, rem_z}
use mir.Syntax.{w32}
use mir.Val.{SFits}
use borrow.Author.Tests.{ltb-true}
use Rattle.laws.proofs.Ladder.{rung}
use Rattle.grammar.specs.Bits.{from_bits}
use Rattle.grammar.specs.Slots.{val_of, slots_of, FitVal}
use Rattle.grammar.specs.Items.{Read, item, none, constant, truth_item, number_item, operand_of, item_of, deepest}
use Rattle.grammar.specs.Draws.{draws_in}
use Rattle.grammar.specs.Run.{Step, push, change, join, run_of}
use Rattle.grammar.specs.Arith.{least, most, is_zero, fitted}
use Rattle.grammar.specs.Evaluation.{blank, bools, ints, strict2, unary_of, binary_of}
use Rattle.grammar.specs.Evaluation.{value_step, value_steps, result_of, value_of, evaluation_of}
use Rattle.grammar.specs.declared.values.Val.TheVariants.{Boolean, Integer}
use Rattle.grammar.specs.declared.values.Slot.{Slot}
use Rattle.grammar.specs.declared.items.Unary.{Unary}
use Rattle.grammar.specs.declared.items.Unary.TheVariants.{Not, Negate}
use Rattle.grammar.specs.declared.items.Binary.{Binary}
use Rattle.grammar.specs.declared.items.Binary.TheVariants.{And, Or, Add, Subtract, Multiply, Divide, Remainder}
use Rattle.grammar.specs.declared.items.Binary.TheVariants.{Equal, Less, LessOrEqual}
use Rattle.grammar.specs.declared.items.Item.TheVariants as Item
use Rattle.std.specs.Prelude.{Option, Some, None}
use Rattle.grammar.specs.declared.values.Val.{Val}
use Rattle.grammar.proofs.BitLaws.{from_low, from_high}
use Rattle.grammar.proofs.Signed.{between}
use Rattle.grammar.proofs.ItemLaws.{low_any, high}

-- ---- values in words
bits_fit : (b : ℕ) → b < 4294967296 → SFits w32 (from_bits b)
bits_fit b h = by (dec_lt b 2147483648)
  where
    by : Dec (b < 2147483648) → SFits w32 (from_bits b)
    by (yes l) = rw (from_low b l) (record { sfits = l })
    by (no l) = rw (from_high b (omega arith)) (record { sfits = omega arith })

pub words_fit : (kind payload : ℕ) → FitVal (val_of kind payload)
unfolding val_of FitVal
words_fit kind payload = by (eqb kind 0)
  where
    by : (t : Bool) → FitVal (cond t (Boolean (eqb payload 1)) (Integer (from_bits (payload % 4294967296))))
    by true = tt
    by false = bits_fit (payload % 4294967296) (omega arith)

pub slots_fit : (ws : List ℕ) (n : ℕ) → FitVal (get_or (slots_of ws) n blank).value
unfolding slots_of FitVal
slots_fit [] n = tt
slots_fit (k ∷ []) n = tt
slots_fit (k ∷ p ∷ ws) zero = words_fit k p
slots_fit (k ∷ p ∷ ws) (suc n) = slots_fit ws n

-- ---- no value, or one that a program holds
abbrev pub FitEvaluated : Option Val → Type 0
FitEvaluated None = Unit {0}
FitEvaluated (Some v) = FitVal v

abbrev Keeps : Step (Option Val) → Type 0
Keeps (push v) = FitEvaluated v
Keeps (change f) = (v : Option Val) → FitEvaluated v → FitEvaluated (f v)
Keeps (join f) = (v w : Option Val) → FitEvaluated v → FitEvaluated w → FitEvaluated (f v w)

abbrev AllKeep : List (Step (Option Val)) → Type 0
AllKeep [] = Unit {0}
AllKeep (s ∷ steps) = Keeps s × AllKeep steps

abbrev AllFit : List (Option Val) → Type 0
AllFit [] = Unit {0}
AllFit (v ∷ waiting) = FitEvaluated v × AllFit waiting

run_fits_lem : (steps : List (Step (Option Val))) (waiting : List (Option Val)) → AllKeep steps → AllFit waiting
    → FitEvaluated (result_of (run_of steps waiting))
unfolding run_of
run_fits_lem [] [] k a = tt
run_fits_lem [] (v ∷ []) k a = a.0
run_fits_lem [] (v ∷ w ∷ waiting) k a = tt
run_fits_lem (push v ∷ steps) waiting k a = run_fits_lem steps (v ∷ waiting) k.1 (k.0, a)
run_fits_lem (change f ∷ steps) [] k a = tt
run_fits_lem (change f ∷ steps) (v ∷ waiting) k a = run_fits_lem steps (f v ∷ waiting) k.1 (k.0 v a.0, a.1)
run_fits_lem (join f ∷ steps) [] k a = tt
run_fits_lem (join f ∷ steps) (w ∷ []) k a = tt
run_fits_lem (join f ∷ steps) (w ∷ v ∷ waiting) k a = run_fits_lem steps (f v w ∷ waiting) k.1 (k.0 v w a.1.0 a.0, a.1.1)

-- ---- each operation
fitted_fits : (z : ℤ) → FitEvaluated (fitted z)
unfolding FitVal
fitted_fits z = by (lt_z z least) (lt_z most z) refl refl
  where
    by : (a b : Bool) → lt_z z least ≡ a → lt_z most z ≡ b → FitEvaluated (cond a None (cond b None (Some (Integer z))))
    by true b e f = tt
    by false true e f = tt
    by false false e f = between z e f

divided_fits : (t : Bool) (z : ℤ) → FitEvaluated (cond t None (fitted z))
divided_fits true z = tt
divided_fits false z = fitted_fits z

ints_fit : (f : ℤ → ℤ → Option Val) → ((x y : ℤ) → FitEvaluated (f x y)) → (v w : Option Val) → FitEvaluated (strict2 (ints f) v w)
ints_fit f ok (Some (Integer x)) (Some (Integer y)) = ok x y
ints_fit f ok (Some (Integer x)) (Some (Boolean y)) = tt
ints_fit f ok (Some (Boolean x)) (Some w) = tt
ints_fit f ok (Some v) None = tt
ints_fit f ok None w = tt

bools_fit : (f : Bool → Bool → Bool) (v w : Option Val) → FitEvaluated (strict2 (bools f) v w)
unfolding FitVal
bools_fit f (Some (Boolean x)) (Some (Boolean y)) = tt
bools_fit f (Some (Boolean x)) (Some (Integer y)) = tt
bools_fit f (Some (Integer x)) (Some w) = tt
bools_fit f (Some v) None = tt
bools_fit f None w = tt

binary_fits : (o : Binary) (v w : Option Val) → FitEvaluated (binary_of o v w)
unfolding FitVal
binary_fits And v w = bools_fit _ v w
binary_fits Or v w = bools_fit _ v w
binary_fits Add v w = ints_fit _ (λ x y. fitted_fits (x +ℤ y)) v w
binary_fits Subtract v w = ints_fit _ (λ x y. fitted_fits (x -ℤ y)) v w
binary_fits Multiply v w = ints_fit _ (λ x y. fitted_fits (x *ℤ y)) v w
binary_fits Divide v w = ints_fit _ (λ x y. divided_fits (is_zero y) (quot_z x y)) v w
binary_fits Remainder v w = ints_fit _ (λ x y. divided_fits (is_zero y) (rem_z x y)) v w
binary_fits Equal (Some (Boolean x)) (Some (Boolean y)) = tt
binary_fits Equal (Some (Boolean x)) (Some (Integer y)) = tt
binary_fits Equal (Some (Integer x)) (Some (Integer y)) = tt
binary_fits Equal (Some (Integer x)) (Some (Boolean y)) = tt
binary_fits Equal (Some v) None = tt
binary_fits Equal None w = tt
binary_fits Less v w = ints_fit _ (λ x y. tt) v w
binary_fits LessOrEqual v w = ints_fit _ (λ x y. tt) v w

unary_fits : (u : Unary) (v : Option Val) → FitEvaluated (unary_of u v)
unfolding FitVal
unary_fits Not (Some (Boolean x)) = tt
unary_fits Not (Some (Integer x)) = tt
unary_fits Not None = tt
unary_fits Negate (Some (Integer x)) = fitted_fits (pos 0 -ℤ x)
unary_fits Negate (Some (Boolean x)) = tt
unary_fits Negate None = tt

-- ---- each item: a constant is one that a program holds
abbrev FitRead : Read → Type 0
FitRead (item (Item.Constant v)) = FitVal v
FitRead (item (Item.Variable n)) = Unit {0}
FitRead (item (Item.Unary u)) = Unit {0}
FitRead (item (Item.Binary b)) = Unit {0}
FitRead (item Item.Draw) = Unit {0}
FitRead none = Unit {0}

truth_fits : (p : ℕ) → FitRead (truth_item p)
unfolding FitVal
truth_fits p = by (ltb p 2)
  where
    by : (t : Bool) → FitRead (cond t (constant (Boolean (eqb p 1))) none)
    by true = tt
    by false = tt

number_fits : (p : ℕ) → FitRead (number_item p)
unfolding FitVal
number_fits p = by (ltb p 4294967296) refl
  where
    by : (t : Bool) → ltb p 4294967296 ≡ t → FitRead (cond t (constant (Integer (from_bits p))) none)
    by true e = bits_fit p (ltb-true p 4294967296 e)
    by false e = tt

operand_fits : (op p : ℕ) → FitRead (operand_of op p)
operand_fits op p = by (eqb op 14) (eqb op 15) (eqb op 16)
  where
    by : (a b c : Bool) → FitRead (cond a (truth_item p) (cond b (number_item p) (cond c (item (Item.Variable p)) none)))
    by true b c = truth_fits p
    by false true c = number_fits p
    by false false true = tt
    by false false false = tt

item_fits : (w : ℕ) → FitRead (item_of w)
item_fits w = by (dec_lt w 14)
  where
    by : Dec (w < 14) → FitRead (item_of w)
    by (yes h) =
        low_any 14 (lit≤ tt) (λ n r. FitRead r)
        (tt, (tt, (tt, (tt, (tt, (tt, (tt, (tt, (tt, (tt, (tt, (tt, (tt, (tt, tt))))))))))))))
        w h
    by (no h) = subst FitRead (sym (high w (omega arith))) (operand_fits (w % 256) (w / 256))

-- ---- all items, on values that a program holds
module _ (vars : List Slot) (fit : (n : ℕ) → FitVal (get_or vars n blank).value) where
  read_keeps : (left : ℕ) (r : Read) → FitRead r → Keeps (value_step vars left r)
  unfolding FitVal
  read_keeps left (item (Item.Constant v)) h = h
  read_keeps left (item (Item.Variable n)) h = by (ltb n 16)
    where
      by : (t : Bool) → FitEvaluated (cond t (Some (get_or vars n blank).value) None)
      by true = fit n
      by false = tt
  read_keeps left (item (Item.Unary u)) h = λ v k. unary_fits u v
  read_keeps left (item (Item.Binary b)) h = λ v w k l. binary_fits b v w
  read_keeps left (item Item.Draw) h = tt
  read_keeps left none h = tt

  steps_keep : (ws : List ℕ) (left : ℕ) → AllKeep (value_steps vars left ws)
  unfolding value_steps
  steps_keep [] left = tt
  steps_keep (w ∷ ws) left = (read_keeps left (item_of w) (item_fits w), steps_keep ws (left / 2 ^ draws_in (item_of w)))

  value_fits_lem : (word : ℕ) (ws : List ℕ) → FitEvaluated (value_of vars word ws)
  unfolding value_of
  value_fits_lem word ws =
      rung FitEvaluated (leb (deepest ws 0) 16) None (result_of (run_of (value_steps vars word ws) [])) tt
      (λ e. run_fits_lem (value_steps vars word ws) [] (steps_keep ws word) tt)

  -- what an expression gives is such as a program holds
  pub evaluation_fits : (word : ℕ) (ws : List ℕ) → FitEvaluated (evaluation_of vars word ws).value
  unfolding evaluation_of
  evaluation_fits word ws = value_fits_lem word ws
