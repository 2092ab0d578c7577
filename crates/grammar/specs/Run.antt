-- Postfix items at work, over any kind of operand: values, or kinds of value.
use Rattle.std.specs.Prelude.{ℕ, List, [], ◌∷◌}

-- a step adds an operand, or takes the last one or the last two, the earlier first, and adds what it makes of them
pub data Step (A : Type 0) : Type 0 where
  push : A → Step A
  change : (A → A) → Step A
  join : (A → A → A) → Step A

-- a run gives its one operand; or it sticks: too few wait for a step, or not exactly one is left
pub data Ran (A : Type 0) : Type 0 where
  gives : A → Ran A
  stuck : Ran A

-- the steps from here on, with these operands waiting, the last first
unfoldable pub run_of : {A : Type 0} → List (Step A) → List A → Ran A
run_of [] [] = stuck
run_of [] (a ∷ []) = gives a
run_of [] (a ∷ b ∷ waiting) = stuck
run_of (push a ∷ steps) waiting = run_of steps (a ∷ waiting)
run_of (change f ∷ steps) [] = stuck
run_of (change f ∷ steps) (a ∷ waiting) = run_of steps (f a ∷ waiting)
run_of (join f ∷ steps) [] = stuck
run_of (join f ∷ steps) (b ∷ []) = stuck
run_of (join f ∷ steps) (b ∷ a ∷ waiting) = run_of steps (f a b ∷ waiting)

-- how many operands a step takes
abbrev pub size_of : {A : Type 0} → Step A → ℕ
size_of (push a) = 0
size_of (change f) = 1
size_of (join f) = 2

-- what a step makes of two operands, of which it may take fewer
abbrev pub made : {A : Type 0} → Step A → A → A → A
made (push v) a b = v
made (change f) a b = f a
made (join f) a b = f a b
