-- Expressions as trees, and their postfix form (docs/RULES.md, Expressions).
use Rattle.std.specs.Prelude.{ℕ, ◌+◌, ◌/◌, max, List, [], ◌∷◌, ◌++◌, map}
use Rattle.grammar.specs.Items.{word_of}
use Rattle.grammar.specs.Slots.{FitVal}
use Rattle.grammar.specs.Evaluation.{unary_of, binary_of, variable_of, draw_of}
use Rattle.grammar.specs.declared.values.Val.{Val}
use Rattle.grammar.specs.declared.values.Slot.{Slot}
use Rattle.grammar.specs.declared.items.Unary.{Unary}
use Rattle.grammar.specs.declared.items.Binary.{Binary}
use Rattle.grammar.specs.declared.items.Item.{Item}
use Rattle.std.specs.Prelude.{Some}
use Rattle.grammar.specs.declared.evaluation.Evaluation.{Evaluation}

pub data Tree : Type 0 where
  constant : Val → Tree
  variable : ℕ → Tree
  draw : Tree
  unary : Unary → Tree → Tree
  binary : Binary → Tree → Tree → Tree

-- The operands first, the left one before the right one, and then the operation.
unfoldable pub postfix : Tree → List Item
postfix (constant v) = Item.Constant v ∷ []
postfix (variable n) = Item.Variable n ∷ []
postfix draw = Item.Draw ∷ []
postfix (unary u a) = postfix a ++ (Item.Unary u ∷ [])
postfix (binary o a b) = postfix a ++ (postfix b ++ (Item.Binary o ∷ []))

abbrev pub words_of : Tree → List ℕ
words_of t = map word_of (postfix t)

-- The value of a tree and what is left of the word: both operands are evaluated, the left one first, and the right one
-- draws from what the left one leaves.
unfoldable pub tree_of : List Slot → ℕ → Tree → Evaluation
tree_of vars word (constant v) = record { value = Some v; rest = word }
tree_of vars word (variable n) = record { value = variable_of vars n; rest = word }
tree_of vars word draw = record { value = draw_of word; rest = word / 2 }
tree_of vars word (unary u a) = record { value = unary_of u (tree_of vars word a).value; rest = (tree_of vars word a).rest }
tree_of vars word (binary o a b) =
    record {
      value = binary_of o (tree_of vars word a).value (tree_of vars (tree_of vars word a).rest b).value;
      rest = (tree_of vars (tree_of vars word a).rest b).rest;
    }

-- How many operands wait at the most: while the right operand is evaluated, the left one waits.
unfoldable pub depth_of : Tree → ℕ
depth_of (constant v) = 1
depth_of (variable n) = 1
depth_of draw = 1
depth_of (unary u a) = depth_of a
depth_of (binary o a b) = max (depth_of a) (1 + depth_of b)

-- Every integer constant has 32 bits.
unfoldable pub FitTree : Tree → Type 0
FitTree (constant v) = FitVal v
FitTree (variable n) = Unit
FitTree draw = Unit
FitTree (unary u a) = FitTree a
FitTree (binary o a b) = FitTree a × FitTree b
