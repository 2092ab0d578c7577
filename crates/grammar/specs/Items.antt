-- Items: constant, variable, not, and, or, negate, + - * / %, =, <, <=, draw (docs/RULES.md, Expressions).
use Rattle.std.specs.Prelude.{ℕ, ◌+◌, ◌-◌, ◌*◌, ◌/◌, ◌%◌, max, true, false, cond, List, [], ◌∷◌, eqb, ltb, get_or}
use Rattle.grammar.specs.Bits.{bits_of, from_bits}
use Rattle.grammar.specs.declared.values.Val.{Val}
use Rattle.grammar.specs.declared.values.Val.TheVariants.{Boolean, Integer}
use Rattle.grammar.specs.declared.items.Unary.{Unary}
use Rattle.grammar.specs.declared.items.Unary.TheVariants.{Not, Negate}
use Rattle.grammar.specs.declared.items.Binary.{Binary}
use Rattle.grammar.specs.declared.items.Binary.TheVariants.{And, Or, Add, Subtract, Multiply, Divide, Remainder, Equal, Less}
use Rattle.grammar.specs.declared.items.Binary.TheVariants.{LessOrEqual}
use Rattle.grammar.specs.declared.items.Item.{Item}

-- The word of an item has its operation in the low byte and its payload above.
abbrev pub unary_word : Unary → ℕ
unary_word Not = 1
unary_word Negate = 4

abbrev pub binary_word : Binary → ℕ
binary_word And = 2
binary_word Or = 3
binary_word Add = 5
binary_word Subtract = 6
binary_word Multiply = 7
binary_word Divide = 8
binary_word Remainder = 9
binary_word Equal = 10
binary_word Less = 11
binary_word LessOrEqual = 12

abbrev pub constant_word : Val → ℕ
constant_word (Boolean false) = 14
constant_word (Boolean true) = 256 + 14
constant_word (Integer n) = bits_of n * 256 + 15

abbrev pub word_of : Item → ℕ
word_of (Item.Constant v) = constant_word v
word_of (Item.Variable n) = n * 256 + 16
word_of (Item.Unary u) = unary_word u
word_of (Item.Binary b) = binary_word b
word_of Item.Draw = 13

-- A word says an item, or none.
pub data Read : Type 0 where
  item : Item → Read
  none : Read

-- The words 0 to 13: none, and the operations that have no payload.
abbrev pub operations : List Read
operations =
    none ∷ item (Item.Unary Not) ∷ item (Item.Binary And) ∷ item (Item.Binary Or) ∷ item (Item.Unary Negate)
    ∷ item (Item.Binary Add) ∷ item (Item.Binary Subtract) ∷ item (Item.Binary Multiply) ∷ item (Item.Binary Divide)
    ∷ item (Item.Binary Remainder)
    ∷ item (Item.Binary Equal) ∷ item (Item.Binary Less) ∷ item (Item.Binary LessOrEqual) ∷ item Item.Draw ∷ []

abbrev pub constant : Val → Read
constant v = item (Item.Constant v)

-- The words from 14 on: a constant or a variable with its payload, or none.
abbrev pub truth_item : ℕ → Read
truth_item p = cond (ltb p 2) (constant (Boolean (eqb p 1))) none

abbrev pub number_item : ℕ → Read
number_item p = cond (ltb p 4294967296) (constant (Integer (from_bits p))) none

abbrev pub operand_of : ℕ → ℕ → Read
operand_of op p =
    cond (eqb op 14) (truth_item p)
    (cond (eqb op 15) (number_item p)
    (cond (eqb op 16) (item (Item.Variable p)) none))

unfoldable pub item_of : ℕ → Read
item_of w = cond (ltb w 14) (get_or operations w none) (operand_of (w % 256) (w / 256))

-- How many operands an item takes.
abbrev pub takes_of : Read → ℕ
takes_of (item (Item.Constant v)) = 0
takes_of (item (Item.Variable n)) = 0
takes_of (item (Item.Unary u)) = 1
takes_of (item (Item.Binary b)) = 2
takes_of (item Item.Draw) = 0
takes_of none = 0

-- How many operands wait at the most while these words run, where n wait before them.
unfoldable pub deepest : List ℕ → ℕ → ℕ
deepest [] n = n
deepest (w ∷ ws) n = max n (deepest ws (n - takes_of (item_of w) + 1))
