-- The kind of an expression, or the refusal: 6 where it is ill-typed, names an unknown variable, has no items or not
-- exactly one result; 28 beyond 64 items, and, last, where more than 16 operands wait (docs/RULES.md, Expressions).
use Rattle.std.specs.Prelude.{ℕ, zero, suc, Bool, true, false, cond, List, [], ◌∷◌, eqb, leb, get_or, length}
use Rattle.laws.specs.Ladder.{unless}
use Rattle.grammar.specs.Values.{kind_of, kind_word}
use Rattle.grammar.specs.Items.{Read, item, none, item_of, deepest}
use Rattle.grammar.specs.Draws.{draws_of}
use Rattle.grammar.specs.Run.{Step, push, change, join, Ran, gives, stuck, run_of}
use Rattle.grammar.specs.declared.values.«Type».{«Type» as Kind}
use Rattle.grammar.specs.declared.values.«Type».TheVariants.{Boolean, Integer}
use Rattle.grammar.specs.declared.items.Unary.{Unary}
use Rattle.grammar.specs.declared.items.Unary.TheVariants.{Not, Negate}
use Rattle.grammar.specs.declared.items.Binary.{Binary}
use Rattle.grammar.specs.declared.items.Binary.TheVariants.{And, Or, Add, Subtract, Multiply, Divide, Remainder, Equal, Less}
use Rattle.grammar.specs.declared.items.Binary.TheVariants.{LessOrEqual}
use Rattle.grammar.specs.declared.items.Item.TheVariants as Item
use Rattle.grammar.specs.declared.typing.Typed.{Typed}
use Rattle.grammar.specs.declared.typing.Typed.TheVariants.{Known, IllTyped, TableFull, TooDeep}
use Rattle.grammar.specs.declared.typing.Judged.{Judged}

-- The number of each answer.
abbrev pub number_of : Typed → ℕ
number_of (Known k) = 0
number_of IllTyped = 6
number_of TableFull = 28
number_of (TooDeep k) = 28

-- What an answer says: it has more than 64 items; more than 16 operands wait.
abbrev pub too_long : Typed → Bool
too_long (Known k) = false
too_long IllTyped = false
too_long TableFull = true
too_long (TooDeep k) = false

abbrev pub too_deep : Typed → Bool
too_deep (Known k) = false
too_deep IllTyped = false
too_deep TableFull = false
too_deep (TooDeep k) = true

-- It has a kind, however many operands wait, and one of this word.
abbrev pub kinded : Typed → Bool
kinded (Known k) = true
kinded IllTyped = false
kinded TableFull = false
kinded (TooDeep k) = true

abbrev pub kinded_as : ℕ → Typed → Bool
kinded_as w (Known k) = eqb (kind_word k) w
kinded_as w IllTyped = false
kinded_as w TableFull = false
kinded_as w (TooDeep k) = eqb (kind_word k) w

-- It is well typed, and of the kind of this word.
abbrev pub is_typed : Typed → Bool
is_typed (Known k) = true
is_typed IllTyped = false
is_typed TableFull = false
is_typed (TooDeep k) = false

abbrev pub typed_as : ℕ → Typed → Bool
typed_as w (Known k) = eqb (kind_word k) w
typed_as w IllTyped = false
typed_as w TableFull = false
typed_as w (TooDeep k) = false

-- The kind of an operand, or that it is ill-typed.
pub data Kinded : Type 0 where
  of : Kind → Kinded
  ill : Kinded

abbrev pub same_kind : Kind → Kind → Bool
same_kind Boolean Boolean = true
same_kind Integer Integer = true
same_kind Boolean Integer = false
same_kind Integer Boolean = false

-- operands of kind k make a result of kind r
abbrev pub takes1 : Kind → Kind → Kinded → Kinded
takes1 k r (of a) = cond (same_kind a k) (of r) ill
takes1 k r ill = ill

abbrev pub takes2 : Kind → Kind → Kinded → Kinded → Kinded
takes2 k r (of a) (of b) = cond (same_kind a k) (cond (same_kind b k) (of r) ill) ill
takes2 k r (of a) ill = ill
takes2 k r ill b = ill

-- the = takes two of one kind
abbrev pub alike : Kinded → Kinded → Kinded
alike (of a) (of b) = cond (same_kind a b) (of Boolean) ill
alike (of a) ill = ill
alike ill b = ill

abbrev pub unary_kind : Unary → Kinded → Kinded
unary_kind Not = takes1 Boolean Boolean
unary_kind Negate = takes1 Integer Integer

abbrev pub binary_kind : Binary → Kinded → Kinded → Kinded
binary_kind And = takes2 Boolean Boolean
binary_kind Or = takes2 Boolean Boolean
binary_kind Add = takes2 Integer Integer
binary_kind Subtract = takes2 Integer Integer
binary_kind Multiply = takes2 Integer Integer
binary_kind Divide = takes2 Integer Integer
binary_kind Remainder = takes2 Integer Integer
binary_kind Equal = alike
binary_kind Less = takes2 Integer Boolean
binary_kind LessOrEqual = takes2 Integer Boolean

-- the kind that a word of a table stands for: none from 2 on
abbrev pub kinded_at : ℕ → Kinded
kinded_at zero = of Boolean
kinded_at (suc zero) = of Integer
kinded_at (suc (suc n)) = ill

-- variable n, where the variables' kinds are these words
abbrev pub variable_kind : List ℕ → ℕ → Kinded
variable_kind kinds n = kinded_at (get_or kinds n 2)

abbrev pub kind_step : List ℕ → Read → Step Kinded
kind_step kinds (item (Item.Constant v)) = push (of (kind_of v))
kind_step kinds (item (Item.Variable n)) = push (variable_kind kinds n)
kind_step kinds (item (Item.Unary u)) = change (unary_kind u)
kind_step kinds (item (Item.Binary b)) = join (binary_kind b)
kind_step kinds (item Item.Draw) = push (of Boolean)
kind_step kinds none = push ill

unfoldable pub kind_steps : List ℕ → List ℕ → List (Step Kinded)
kind_steps kinds [] = []
kind_steps kinds (w ∷ ws) = kind_step kinds (item_of w) ∷ kind_steps kinds ws

-- a run that gives a kind, and whether more than 16 operands waited
abbrev pub judged : Ran Kinded → ℕ → Typed
judged (gives (of k)) deep = unless (leb deep 16) (TooDeep k) (Known k)
judged (gives ill) deep = IllTyped
judged stuck deep = IllTyped

unfoldable pub type_of : List ℕ → List ℕ → Typed
type_of kinds ws = unless (leb (length ws) 64) TableFull (judged (run_of (kind_steps kinds ws) []) (deepest ws 0))

-- the draws that are told beside an answer: all of them where there is a kind, and none where there is none
abbrev pub told_of : Typed → ℕ → ℕ
told_of (Known k) n = n
told_of (TooDeep k) n = n
told_of IllTyped n = 0
told_of TableFull n = 0

abbrev pub judged_of : List ℕ → List ℕ → Judged
judged_of kinds ws = record { typed = type_of kinds ws; draws = told_of (type_of kinds ws) (draws_of ws) }
