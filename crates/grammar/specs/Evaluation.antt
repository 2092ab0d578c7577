-- The value of an expression, or none, and what is left of the word (docs/RULES.md, Expressions).
use Rattle.std.specs.Prelude.{ℕ, ◌/◌, ◌%◌, ◌^◌, Bool, false, not, cond, ◌&&◌, ◌||◌, List, [], ◌∷◌, eqb, leb, ltb, ℤ, pos, get_or}
use Rattle.std.specs.Int.Signed.{lt_z, le_z}
use Rattle.laws.specs.Ladder.{unless}
use Rattle.grammar.specs.Values.{same_val}
use Rattle.grammar.specs.Items.{Read, item, none, item_of, deepest}
use Rattle.grammar.specs.Draws.{draws_in, draws_of}
use Rattle.grammar.specs.Run.{Step, push, change, join, Ran, gives, stuck, run_of}
use Rattle.grammar.specs.Arith.{sum_of, difference_of, product_of, quotient_of, remainder_of}
use Rattle.grammar.specs.declared.values.Val.{Val}
use Rattle.grammar.specs.declared.values.Val.TheVariants.{Boolean, Integer}
use Rattle.grammar.specs.declared.values.Slot.{Slot}
use Rattle.grammar.specs.declared.items.Unary.{Unary}
use Rattle.grammar.specs.declared.items.Unary.TheVariants.{Not, Negate}
use Rattle.grammar.specs.declared.items.Binary.{Binary}
use Rattle.grammar.specs.declared.items.Binary.TheVariants.{And, Or, Add, Subtract, Multiply, Divide, Remainder, Equal, Less}
use Rattle.grammar.specs.declared.items.Binary.TheVariants.{LessOrEqual}
use Rattle.grammar.specs.declared.items.Item.TheVariants as Item
use Rattle.std.specs.Prelude.{Option, Some, None}
use Rattle.grammar.specs.declared.evaluation.Evaluation.{Evaluation}

abbrev pub boolean : Bool → Option Val
boolean b = Some (Boolean b)

-- an operation on two booleans, on two integers
abbrev pub bools : (Bool → Bool → Bool) → Val → Val → Option Val
bools f (Boolean a) (Boolean b) = boolean (f a b)
bools f (Boolean a) (Integer b) = None
bools f (Integer a) b = None

abbrev pub ints : (ℤ → ℤ → Option Val) → Val → Val → Option Val
ints f (Integer a) (Integer b) = f a b
ints f (Integer a) (Boolean b) = None
ints f (Boolean a) b = None

-- The = takes two of one kind.
abbrev pub same_of : Val → Val → Option Val
same_of (Boolean a) (Boolean b) = boolean (same_val (Boolean a) (Boolean b))
same_of (Integer a) (Integer b) = boolean (same_val (Integer a) (Integer b))
same_of (Boolean a) (Integer b) = None
same_of (Integer a) (Boolean b) = None

abbrev pub not_of : Val → Option Val
not_of (Boolean a) = boolean (not a)
not_of (Integer a) = None

abbrev pub negate_of : Val → Option Val
negate_of (Integer a) = difference_of (pos 0) a
negate_of (Boolean a) = None

-- Where an operand has no value, the operation has none.
abbrev pub strict1 : (Val → Option Val) → Option Val → Option Val
strict1 f (Some a) = f a
strict1 f None = None

abbrev pub strict2 : (Val → Val → Option Val) → Option Val → Option Val → Option Val
strict2 f (Some a) (Some b) = f a b
strict2 f (Some a) None = None
strict2 f None b = None

abbrev pub unary_of : Unary → Option Val → Option Val
unary_of Not = strict1 not_of
unary_of Negate = strict1 negate_of

abbrev pub values_of : Binary → Val → Val → Option Val
values_of And = bools ◌&&◌
values_of Or = bools ◌||◌
values_of Add = ints sum_of
values_of Subtract = ints difference_of
values_of Multiply = ints product_of
values_of Divide = ints quotient_of
values_of Remainder = ints remainder_of
values_of Equal = same_of
values_of Less = ints (λ a b. boolean (lt_z a b))
values_of LessOrEqual = ints (λ a b. boolean (le_z a b))

abbrev pub binary_of : Binary → Option Val → Option Val → Option Val
binary_of o = strict2 (values_of o)

abbrev pub blank : Slot
blank = record { value = Boolean false }

abbrev pub variable_of : List Slot → ℕ → Option Val
variable_of vars n = cond (ltb n 16) (Some (get_or vars n blank).value) None

-- A draw is a boolean, true for 1: the lowest bit of what is left of the word.
abbrev pub draw_of : ℕ → Option Val
draw_of left = boolean (eqb (left % 2) 1)

abbrev pub value_step : List Slot → ℕ → Read → Step (Option Val)
value_step vars left (item (Item.Constant v)) = push (Some v)
value_step vars left (item (Item.Variable n)) = push (variable_of vars n)
value_step vars left (item (Item.Unary u)) = change (unary_of u)
value_step vars left (item (Item.Binary b)) = join (binary_of b)
value_step vars left (item Item.Draw) = push (draw_of left)
value_step vars left none = push None

-- Every item is evaluated; what a draw takes is gone for the items after it.
unfoldable pub value_steps : List Slot → ℕ → List ℕ → List (Step (Option Val))
value_steps vars left [] = []
value_steps vars left (w ∷ ws) = value_step vars left (item_of w) ∷ value_steps vars (left / 2 ^ draws_in (item_of w)) ws

abbrev pub result_of : Ran (Option Val) → Option Val
result_of (gives v) = v
result_of stuck = None

unfoldable pub value_of : List Slot → ℕ → List ℕ → Option Val
value_of vars word ws = unless (leb (deepest ws 0) 16) None (result_of (run_of (value_steps vars word ws) []))

-- the value, and the word without the bits that the draws took
unfoldable pub evaluation_of : List Slot → ℕ → List ℕ → Evaluation
evaluation_of vars word ws = record { value = value_of vars word ws; rest = word / 2 ^ draws_of ws }
