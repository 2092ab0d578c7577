-- The items of an expression.
use Rattle.std.specs.Prelude.{ℕ, zero, suc, ◌+◌, Bool, true, false, cond, List, [], ◌∷◌, eqb, ltb, length, get_or, drop, ℤ, Option, Some, None}
use Rattle.grammar.specs.declared.values.Val.TheVariants.{Boolean, Integer as Integral}
use Rattle.grammar.specs.declared.items.Unary.TheVariants.{Not, Negate}
use Rattle.grammar.specs.declared.items.Binary.TheVariants.{And, Or, Add, Subtract, Multiply, Divide, Remainder, Equal, Less, LessOrEqual}
use Rattle.grammar.specs.declared.items.Item.TheVariants.{Constant, Variable, Unary, Binary, Draw}
use Rattle.grammar.specs.Items.{word_of}
use Rattle.text.specs.declared.items.Symbol.{Symbol}
use Rattle.text.specs.declared.items.Symbol.TheVariants.{Item, Nothing, Bad}
use Rattle.text.specs.declared.tokens.Read.{Read}
use Rattle.text.specs.Tokens.{token_of, next_of, same_bytes}
use Rattle.text.specs.Numbers.{small_of, integer_of}

-- a token of one byte; `x` is an item that is none
unfoldable pub letter_of : ℕ → Symbol
letter_of b =
    cond (eqb b 116) (Item (Constant (Boolean true)))
    (cond (eqb b 102) (Item (Constant (Boolean false)))
    (cond (eqb b 33) (Item (Unary Not))
    (cond (eqb b 38) (Item (Binary And))
    (cond (eqb b 124) (Item (Binary Or))
    (cond (eqb b 126) (Item (Unary Negate))
    (cond (eqb b 43) (Item (Binary Add))
    (cond (eqb b 45) (Item (Binary Subtract))
    (cond (eqb b 42) (Item (Binary Multiply))
    (cond (eqb b 47) (Item (Binary Divide))
    (cond (eqb b 37) (Item (Binary Remainder))
    (cond (eqb b 61) (Item (Binary Equal))
    (cond (eqb b 60) (Item (Binary Less))
    (cond (eqb b 63) (Item Draw)
    (cond (eqb b 120) Nothing Bad))))))))))))))

abbrev pub constant_of : Option ℤ → Symbol
constant_of (Some i) = Item (Constant (Integral i))
constant_of None = Bad

abbrev pub variable_of : Option ℕ → Symbol
variable_of (Some v) = Item (Variable v)
variable_of None = Bad

-- a longer token: `#` an integer, `v` a variable, or `<=`
unfoldable pub long_of : ℕ → List ℕ → Symbol
long_of b rest =
    cond (eqb b 35) (constant_of (integer_of rest))
    (cond (eqb b 118) (variable_of (small_of rest))
    (cond (eqb b 60) (cond (same_bytes rest (61 ∷ [])) (Item (Binary LessOrEqual)) Bad) Bad))

unfoldable pub symbol_of : List ℕ → Symbol
symbol_of token = cond (ltb (length token) 2) (letter_of (get_or token 0 0)) (long_of (get_or token 0 0) (drop 1 token))

-- the word of a symbol; the word 0 is no item's
unfoldable pub symbol_word : Symbol → Option ℕ
symbol_word (Item i) = Some (word_of i)
symbol_word Nothing = Some 0
symbol_word Bad = None

abbrev pub word_at : List ℕ → Option ℕ
word_at token = symbol_word (symbol_of token)

-- a brace closes at a place
abbrev pub closes_at : List ℕ → ℕ → Bool
closes_at line at = same_bytes (token_of (drop at line)) (125 ∷ [])

-- what follows a word; nothing does where there is none
abbrev pub word_then : Option ℕ → List ℕ → List ℕ
word_then (Some w) rest = w ∷ rest
word_then None rest = []

abbrev pub item_then : Option ℕ → Option Read → Option Read
item_then (Some w) rest = rest
item_then None rest = None

-- the words from a place on: up to the brace that closes, a token that is no item, or the last for which there is room
unfoldable pub words_from : ℕ → List ℕ → ℕ → List ℕ
words_from zero line at = []
words_from (suc room) line at =
    cond (closes_at line at) [] (word_then (word_at (token_of (drop at line))) (words_from room line (next_of line at)))

-- how many words there are up to the brace that closes, with the n before them, and where the token after it starts
unfoldable pub items_from : ℕ → List ℕ → ℕ → ℕ → Option Read
items_from zero line at n = cond (closes_at line at) (Some (record { count = n; next = next_of line at })) None
items_from (suc room) line at n =
    cond (closes_at line at) (Some (record { count = n; next = next_of line at }))
    (item_then (word_at (token_of (drop at line))) (items_from room line (next_of line at) (n + 1)))

-- a brace opens an expression, and its items follow
abbrev pub opens_at : List ℕ → ℕ → Bool
opens_at line at = same_bytes (token_of (drop at line)) (123 ∷ [])

abbrev pub expression_words : ℕ → List ℕ → ℕ → List ℕ
expression_words room line at = cond (opens_at line at) (words_from room line (next_of line at)) []

abbrev pub expression_at : ℕ → List ℕ → ℕ → Option Read
expression_at room line at = cond (opens_at line at) (items_from room line (next_of line at) 0) None
