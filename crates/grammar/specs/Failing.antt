-- Where an expression fails: some operation divides by 0, or has a result outside 32 bits (docs/RULES.md, Expressions).
use Rattle.std.specs.Prelude.{ℕ, ◌<◌, ◌≡◌, ◌⊎◌, true, List, [], ◌∷◌, map, ℤ, pos, ◌+ℤ◌, ◌-ℤ◌, ◌*ℤ◌, length, get_or, take}
use Rattle.std.specs.Int.Signed.{lt_z, quot_z, rem_z}
use Rattle.grammar.specs.Items.{Read, item, none, item_of}
use Rattle.grammar.specs.Run.{Step, push, change, join}
use Rattle.grammar.specs.Arith.{least, most}
use Rattle.grammar.specs.Evaluation.{value_steps}
use Rattle.grammar.specs.declared.values.Val.{Val}
use Rattle.grammar.specs.declared.values.Val.TheVariants.{Boolean, Integer}
use Rattle.grammar.specs.declared.values.Slot.{Slot}
use Rattle.grammar.specs.declared.items.Unary.TheVariants.{Not, Negate}
use Rattle.grammar.specs.declared.items.Binary.{Binary}
use Rattle.grammar.specs.declared.items.Binary.TheVariants.{And, Or, Add, Subtract, Multiply, Divide, Remainder, Equal, Less}
use Rattle.grammar.specs.declared.items.Binary.TheVariants.{LessOrEqual}
use Rattle.grammar.specs.declared.items.Item.TheVariants as Item
use Rattle.std.specs.Prelude.{Some}

-- an integer outside 32 bits
abbrev pub Outside : ℤ → Type 0
Outside z = (lt_z z least ≡ true) ⊎ (lt_z most z ≡ true)

-- Of two integers a sum, a difference and a product fail where they are outside 32 bits, a quotient and a remainder also where
-- the divisor is 0. Nothing else fails.
abbrev pub IntegersFail : Binary → ℤ → ℤ → Type 0
IntegersFail And a b = ⊥
IntegersFail Or a b = ⊥
IntegersFail Add a b = Outside (a +ℤ b)
IntegersFail Subtract a b = Outside (a -ℤ b)
IntegersFail Multiply a b = Outside (a *ℤ b)
IntegersFail Divide a b = (b ≡ pos 0) ⊎ Outside (quot_z a b)
IntegersFail Remainder a b = (b ≡ pos 0) ⊎ Outside (rem_z a b)
IntegersFail Equal a b = ⊥
IntegersFail Less a b = ⊥
IntegersFail LessOrEqual a b = ⊥

abbrev pub PairFails : (ℤ → ℤ → Type 0) → Val → Val → Type 0
PairFails F (Integer a) (Integer b) = F a b
PairFails F (Integer a) (Boolean b) = ⊥
PairFails F (Boolean a) b = ⊥

-- A negation fails where it is outside 32 bits.
abbrev pub NegationFails : Val → Type 0
NegationFails (Integer a) = Outside (pos 0 -ℤ a)
NegationFails (Boolean a) = ⊥

-- an item fails on the values that wait, the last first
abbrev pub ItemFails : Read → List Val → Type 0
ItemFails (item (Item.Constant v)) waiting = ⊥
ItemFails (item (Item.Variable n)) waiting = ⊥
ItemFails (item Item.Draw) waiting = ⊥
ItemFails none waiting = ⊥
ItemFails (item (Item.Unary Not)) waiting = ⊥
ItemFails (item (Item.Unary Negate)) [] = ⊥
ItemFails (item (Item.Unary Negate)) (a ∷ waiting) = NegationFails a
ItemFails (item (Item.Binary o)) [] = ⊥
ItemFails (item (Item.Binary o)) (b ∷ []) = ⊥
ItemFails (item (Item.Binary o)) (b ∷ a ∷ waiting) = PairFails (IntegersFail o) a b

-- what waits after a step, the last first; a step for which too few wait leaves them
abbrev pub stepped : {A : Type 0} → Step A → List A → List A
stepped (push a) waiting = a ∷ waiting
stepped (change f) [] = []
stepped (change f) (a ∷ waiting) = f a ∷ waiting
stepped (join f) [] = []
stepped (join f) (b ∷ []) = b ∷ []
stepped (join f) (b ∷ a ∷ waiting) = f a b ∷ waiting

unfoldable pub waits_after : {A : Type 0} → List (Step A) → List A → List A
waits_after [] waiting = waiting
waits_after (step ∷ steps) waiting = waits_after steps (stepped step waiting)

-- An expression fails: the items before some place leave values, and the item at that place fails on them.
pub record Fails (vars : List Slot) (word : ℕ) (ws : List ℕ) : Type 0 where
  pub place : ℕ
  pub inside : place < length ws
  pub values : List Val
  pub before : waits_after (value_steps vars word (take place ws)) [] ≡ map Some values
  pub here : ItemFails (item_of (get_or ws place 0)) values
