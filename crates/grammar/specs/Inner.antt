-- What the inner functions say of words and of the numbers that they hold. No public call speaks of it.
use Rattle.std.specs.Prelude.{ℕ, zero, suc, ◌+◌, ◌-◌, ◌*◌, ◌/◌, ◌%◌, ◌^◌, ◌≤◌, ◌<◌, Bool, true, false, cond, not, ◌≡◌, List, [], ◌∷◌, eqb, ltb, ℤ, get_or}
use Rattle.std.proofs.Math.IntN.{sub_ℕ}
use Rattle.grammar.specs.Values.{kind_of, kind_word}
use Rattle.grammar.specs.Items.{Read, item, none}
use Rattle.grammar.specs.Draws.{draws_of}
use Rattle.grammar.specs.Run.{Step, push, change, join, run_of, size_of}
use Rattle.grammar.specs.Typing.{Kinded, of, ill, kinded_at, variable_kind, kind_steps, judged, type_of}
use Rattle.grammar.specs.Evaluation.{draw_of, values_of, binary_of}
use Rattle.grammar.specs.declared.values.Val.{Val}
use Rattle.grammar.specs.declared.values.Val.TheVariants.{Boolean, Integer}
use Rattle.grammar.specs.declared.items.Item.TheVariants as Item
use Rattle.grammar.specs.declared.values.«Type».{«Type» as Kind}
use Rattle.grammar.specs.declared.typing.Typed.{Typed}
use Rattle.grammar.specs.declared.waiting.Waiting.{Waiting}
use Rattle.std.specs.Prelude.{Option, Some, None}
use Rattle.grammar.specs.declared.evaluation.Evaluation.{Evaluation}

-- row w of a table of two bits a row
abbrev pub row_of : ℕ → ℕ → ℕ
row_of table w = table / 2 ^ (2 * w) % 4

-- whether a word is an operation
abbrev pub operates_of : ℕ → Bool
operates_of w = cond (eqb w 0) false (ltb w 13)

-- the slot of the variable that a word names, or the first
abbrev pub slot_of : ℕ → ℕ
slot_of w = cond (ltb (w / 256) 16) (w / 256) 0

-- the kind of an operand as a number, 2 for none
abbrev pub kinded_word : Kinded → ℕ
kinded_word (of k) = kind_word k
kinded_word ill = 2

-- the kind of an operand; ill-typed what is none
unfoldable pub operand_kind : List ℕ → Read → Kinded
operand_kind kinds (item (Item.Constant v)) = of (kind_of v)
operand_kind kinds (item (Item.Variable n)) = variable_kind kinds n
operand_kind kinds (item (Item.Unary u)) = ill
operand_kind kinds (item (Item.Binary b)) = ill
operand_kind kinds (item Item.Draw) = ill
operand_kind kinds none = ill

-- n operands that wait, the last first, as bits: the lowest is the last one's kind
unfoldable pub plane_of : ℕ → ℕ → List Kinded
plane_of zero bits = []
plane_of (suc n) bits = kinded_at (bits % 2) ∷ plane_of n (bits / 2)

-- what a step leaves of them: some, from which the run goes on; or none, and the run is ill-typed whatever comes after
pub record Left (i : Step Kinded) (n bits : ℕ) (r : Waiting) : Type 0 where
  pub small : r.integers < 2 ^ r.depth
  pub fewer : r.depth ≤ n
  pub exact : 1 ≤ r.depth → r.depth ≡ n - size_of i + 1
  pub goes : 1 ≤ r.depth → (steps : List (Step Kinded))
      → run_of steps (plane_of r.depth r.integers) ≡ run_of (i ∷ steps) (plane_of n bits)
  pub fails : r.depth ≡ 0 → (deep : ℕ) (kinds ws : List ℕ) → judged (run_of (i ∷ kind_steps kinds ws) (plane_of n bits)) deep ≡ Typed.IllTyped

-- an answer and its draws as one number, and the answer in it
abbrev pub code_of : Typed → ℕ → ℕ
code_of (Typed.Known k) n = 8 * n + kind_word k
code_of (Typed.TooDeep k) n = 8 * n + 2 + kind_word k
code_of Typed.IllTyped n = 4
code_of Typed.TableFull n = 5

abbrev pub answers : List Typed
answers =
    Typed.Known Kind.Boolean ∷ Typed.Known Kind.Integer ∷ Typed.TooDeep Kind.Boolean ∷ Typed.TooDeep Kind.Integer ∷ Typed.IllTyped ∷ []

abbrev pub typed_in : ℕ → Typed
typed_in code = get_or answers (code % 8) Typed.TableFull

-- operands that wait as one number: a digit to base 4 for each, the last the lowest, 1 for a boolean and 2 for an integer
unfoldable pub digits_of : List Kind → ℕ
digits_of [] = 0
digits_of (k ∷ waiting) = 4 * digits_of waiting + kind_word k + 1

-- one operand more; 0 where it is ill-typed
abbrev pub digits_with : Kinded → ℕ → ℕ
digits_with (of k) digits = 4 * digits + kind_word k + 1
digits_with ill digits = 0

-- what a step leaves of them; 0 where they do not fit it
unfoldable pub left_of : Step Kinded → List Kind → ℕ
left_of (push k) waiting = digits_with k (digits_of waiting)
left_of (change f) [] = 0
left_of (change f) (a ∷ waiting) = digits_with (f (of a)) (digits_of waiting)
left_of (join f) [] = 0
left_of (join f) (b ∷ []) = 0
left_of (join f) (b ∷ a ∷ waiting) = digits_with (f (of a) (of b)) (digits_of waiting)

-- a kind and the draws as one number; 3 where it is not well typed
abbrev pub known_of : Typed → ℕ → ℕ
known_of (Typed.Known k) n = 4 * n + kind_word k + 1
known_of (Typed.TooDeep k) n = 3
known_of Typed.IllTyped n = 3
known_of Typed.TableFull n = 3

-- the same of an expression over variables of these kinds; 0 where there are no items
unfoldable pub known_in : List ℕ → List ℕ → ℕ
known_in kinds [] = 0
known_in kinds (w ∷ ws) = known_of (type_of kinds (w ∷ ws)) (draws_of (w ∷ ws))

-- what that number says: a kind, any kind, how many draws; and whether it will do for a guard
abbrev pub is_of : ℕ → ℕ → Bool
is_of known k = eqb (known % 4) (k + 1)

abbrev pub is_known : ℕ → Bool
is_known known = cond (eqb known 0) false (not (eqb (known % 4) 3))

abbrev pub draws_told : ℕ → ℕ
draws_told known = known / 4

abbrev pub guards_of : ℕ → Bool
guards_of known = ltb known 2

-- an integer that waits as z + 2147483648
abbrev pub whole_of : ℕ → ℤ
whole_of x = sub_ℕ x 2147483648

-- an operand that waits
unfoldable pub held_of : ℕ → Option Val
held_of x =
    cond (ltb x 4294967296) (Some (Integer (whole_of x)))
    (cond (eqb x 4294967296) (Some (Boolean false))
    (cond (eqb x 4294967297) (Some (Boolean true)) None))

-- a binary operation on values and on operands; no value what is none
unfoldable pub values_on : Read → Val → Val → Option Val
values_on (item (Item.Binary o)) a b = values_of o a b
values_on (item (Item.Unary u)) a b = None
values_on (item (Item.Constant v)) a b = None
values_on (item (Item.Variable n)) a b = None
values_on (item Item.Draw) a b = None
values_on none a b = None

unfoldable pub binary_on : Read → Option Val → Option Val → Option Val
binary_on (item (Item.Binary o)) a b = binary_of o a b
binary_on (item (Item.Unary u)) a b = None
binary_on (item (Item.Constant v)) a b = None
binary_on (item (Item.Variable n)) a b = None
binary_on (item Item.Draw) a b = None
binary_on none a b = None

-- an operand, where x is what variable k holds; no value what is none
unfoldable pub operand_on : Val → ℕ → ℕ → Read → Option Val
operand_on x k left (item (Item.Constant v)) = Some v
operand_on x k left (item (Item.Variable n)) = cond (ltb k 16) (Some x) None
operand_on x k left (item (Item.Unary u)) = None
operand_on x k left (item (Item.Binary b)) = None
operand_on x k left (item Item.Draw) = draw_of left
operand_on x k left none = None

-- no value, and the word without the bits that the draws took
abbrev pub no_value_of : ℕ → List ℕ → Evaluation
no_value_of word ws = record { value = None; rest = word / 2 ^ draws_of ws }
