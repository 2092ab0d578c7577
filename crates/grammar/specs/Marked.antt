-- Marked examples of expressions, and others: each operation, each edge.
use Rattle.std.specs.Prelude.{Bool, true, false, List, [], ◌∷◌, ◌++◌, map, ℤ, pos, negsuc, replicate}
use Rattle.laws.specs.Examples.{Examples, end, gives}
use Rattle.grammar.specs.Items.{word_of}
use Rattle.grammar.specs.Typing.{type_of}
use Rattle.grammar.specs.Evaluation.{blank, evaluation_of, value_of}
use Rattle.grammar.specs.declared.values.«Type».TheVariants as Kind
use Rattle.grammar.specs.declared.values.Val.TheVariants.{Boolean, Integer}
use Rattle.grammar.specs.declared.values.Slot.{Slot}
use Rattle.grammar.specs.declared.items.Unary.TheVariants.{Not, Negate}
use Rattle.grammar.specs.declared.items.Binary.TheVariants.{And, Or, Add, Subtract, Multiply, Divide, Remainder, Equal, Less}
use Rattle.grammar.specs.declared.items.Binary.TheVariants.{LessOrEqual}
use Rattle.grammar.specs.declared.items.Item.{Item}
use Rattle.grammar.specs.declared.items.Item.TheVariants.{Constant, Variable, Unary, Binary, Draw}
use Rattle.grammar.specs.declared.typing.Typed.{Typed}
use Rattle.grammar.specs.declared.typing.Typed.TheVariants.{IllTyped, TableFull}
use Rattle.std.specs.Prelude.{Option, Some, None}
use Rattle.grammar.specs.declared.values.Val.{Val}

-- integers, booleans, and the values of expressions whose first variable is 9 and whose word is 2
abbrev int : ℤ → Item
int n = Constant (Integer n)

abbrev bool : Bool → Item
bool b = Constant (Boolean b)

abbrev least : ℤ
least = negsuc 2147483647

abbrev vars : List Slot
vars = record { value = Integer (pos 9) } ∷ replicate 15 blank

abbrev value : List Item → Option Val
value items = value_of vars 2 (map word_of items)

abbrev integer : ℤ → Option Val
integer n = Some (Integer n)

abbrev boolean : Bool → Option Val
boolean b = Some (Boolean b)

-- their kinds, where the first variable is an integer and the second a boolean
abbrev kind : List Item → Typed
kind items = type_of (1 ∷ 0 ∷ []) (map word_of items)

abbrev pub examples : Examples
examples =
    -- W8 -7 / 2 = -3, -7 % 2 = -1
    gives (value (int (negsuc 6) ∷ int (pos 2) ∷ Binary Divide ∷ [])) (integer (negsuc 2))
    (gives (value (int (negsuc 6) ∷ int (pos 2) ∷ Binary Remainder ∷ [])) (integer (negsuc 0))
    -- W9 -2147483648 / -1: no value; -2147483648 % -1 is 0
    (gives (value (int least ∷ int (negsuc 0) ∷ Binary Divide ∷ [])) None
    (gives (value (int least ∷ int (negsuc 0) ∷ Binary Remainder ∷ [])) (integer (pos 0))
    -- a zero divisor, and results outside 32 bits
    (gives (value (int (pos 7) ∷ int (pos 0) ∷ Binary Divide ∷ [])) None
    (gives (value (int (pos 7) ∷ int (pos 0) ∷ Binary Remainder ∷ [])) None
    (gives (value (int (pos 2147483647) ∷ int (pos 1) ∷ Binary Add ∷ [])) None
    (gives (value (int least ∷ int (pos 1) ∷ Binary Subtract ∷ [])) None
    (gives (value (int (pos 65536) ∷ int (pos 32768) ∷ Binary Multiply ∷ [])) None
    (gives (value (int least ∷ Unary Negate ∷ [])) None
    -- at the ends
    (gives (value (int (pos 2147483646) ∷ int (pos 1) ∷ Binary Add ∷ [])) (integer (pos 2147483647))
    (gives (value (int (negsuc 0) ∷ int (pos 2147483647) ∷ Binary Subtract ∷ [])) (integer least)
    (gives (value (int (pos 65536) ∷ int (negsuc 32767) ∷ Binary Multiply ∷ [])) (integer least)
    (gives (value (int (pos 7) ∷ int (negsuc 1) ∷ Binary Remainder ∷ [])) (integer (pos 1))
    (gives (value (int least ∷ int (pos 2147483647) ∷ Binary Less ∷ [])) (boolean true)
    (gives (value (int (pos 3) ∷ int (pos 3) ∷ Binary LessOrEqual ∷ [])) (boolean true)
    (gives (value (int (negsuc 0) ∷ int (pos 0) ∷ Binary Equal ∷ [])) (boolean false)
    -- booleans, a variable, and no value inside an or
    (gives (value (bool true ∷ bool false ∷ Binary And ∷ Unary Not ∷ [])) (boolean true)
    (gives (value (bool true ∷ bool true ∷ Binary Equal ∷ [])) (boolean true)
    (gives (value (Variable 0 ∷ Unary Negate ∷ [])) (integer (negsuc 8))
    (gives (value (bool true ∷ int (pos 1) ∷ int (pos 0) ∷ Binary Divide ∷ int (pos 1) ∷ Binary Equal ∷ Binary Or ∷ [])) None
    -- two draws from the word 2, false and true, and what is left of 2, 5 and 7 after one
    (gives (value (Draw ∷ Draw ∷ Binary Or ∷ [])) (boolean true)
    (gives (value (Draw ∷ Draw ∷ Binary And ∷ [])) (boolean false)
    (gives (evaluation_of vars 5 (map word_of (int (pos 1) ∷ int (pos 0) ∷ Binary Divide ∷ Draw ∷ []))) (record { value = None; rest = 2 })
    -- kinds, and the refusals: too few operands, two results, no items, an unknown variable, 65 items, 17 operands
    (gives (kind (Variable 0 ∷ int (pos 3) ∷ Binary Less ∷ Variable 1 ∷ Binary And ∷ [])) (Typed.Known Kind.Boolean)
    (gives (kind (Variable 0 ∷ int (pos 3) ∷ Binary Add ∷ [])) (Typed.Known Kind.Integer)
    (gives (kind (Variable 0 ∷ bool true ∷ Binary Equal ∷ [])) IllTyped
    (gives (kind (Variable 0 ∷ Binary Add ∷ [])) IllTyped
    (gives (kind (Variable 0 ∷ Variable 0 ∷ [])) IllTyped
    (gives (kind []) IllTyped
    (gives (kind (Variable 2 ∷ [])) IllTyped
    (gives (type_of [] (replicate 65 0)) TableFull
    (gives (kind (replicate 16 Draw ++ replicate 15 (Binary And))) (Typed.Known Kind.Boolean)
    (gives (kind (replicate 17 Draw ++ replicate 16 (Binary And))) (Typed.TooDeep Kind.Boolean)
    (gives (kind (replicate 17 Draw ++ replicate 15 (Binary And))) IllTyped
    end))))))))))))))))))))))))))))))))))
