-- The steps that the words from a place on say, for loops over the words, and how many operands they make wait.
use Prim.Native.Nat.{ℕ, ◌+◌, ◌-◌, ◌/◌, ◌^◌, ◌<◌, ◌≤◌, max}
use native.Mathlib.Omega.{arith}
use mathlib.Core.Path.{◌≡◌, refl, ap, ◌∙◌}
use mathlib.Core.List.{List, [], ◌∷◌}
use native.Mathlib.Nat.{le_refl, le-max_left}
use lib.ListN.{length, get_or, drop}
use Rattle.laws.proofs.Lists.{next, done}
use Rattle.grammar.specs.Items.{Read, item, none, item_of, takes_of, deepest}
use Rattle.grammar.specs.Draws.{draws_in}
use Rattle.grammar.specs.Run.{size_of}
use Rattle.grammar.specs.Typing.{kind_step, kind_steps}
use Rattle.grammar.specs.Evaluation.{value_step, value_steps}
use Rattle.grammar.specs.declared.items.Item.TheVariants as Item
use Rattle.grammar.specs.declared.values.Slot.{Slot}
use Rattle.grammar.proofs.ItemLaws.{takes_operand}

-- a step takes what its item takes
pub kind_size : (kinds : List ℕ) (r : Read) → takes_of r ≡ size_of (kind_step kinds r)
kind_size kinds (item (Item.Constant v)) = refl
kind_size kinds (item (Item.Variable n)) = refl
kind_size kinds (item (Item.Unary u)) = refl
kind_size kinds (item (Item.Binary b)) = refl
kind_size kinds (item Item.Draw) = refl
kind_size kinds none = refl

pub value_size : (vars : List Slot) (left : ℕ) (r : Read) → takes_of r ≡ size_of (value_step vars left r)
value_size vars left (item (Item.Constant v)) = refl
value_size vars left (item (Item.Variable n)) = refl
value_size vars left (item (Item.Unary u)) = refl
value_size vars left (item (Item.Binary b)) = refl
value_size vars left (item Item.Draw) = refl
value_size vars left none = refl

-- never fewer than waited before
pub deepest_least : (ws : List ℕ) (n : ℕ) → n ≤ deepest ws n
unfolding deepest
deepest_least [] n = le_refl n
deepest_least (w ∷ ws) n = le-max_left n (deepest ws (n - takes_of (item_of w) + 1))

module _ (ws : List ℕ) (at : ℕ) where
  pub kind_next : (kinds : List ℕ) → at < length ws
      → kind_steps kinds (drop at ws) ≡ kind_step kinds (item_of (get_or ws at 0)) ∷ kind_steps kinds (drop (at + 1) ws)
  unfolding kind_steps
  kind_next kinds h = ap (kind_steps kinds) (next 0 ws at h)

  pub kind_done : (kinds : List ℕ) → length ws ≤ at → kind_steps kinds (drop at ws) ≡ []
  unfolding kind_steps
  kind_done kinds h = ap (kind_steps kinds) (done ws at h)

  pub value_next : (vars : List Slot) (left : ℕ) → at < length ws
      → value_steps vars left (drop at ws)
      ≡ value_step vars left (item_of (get_or ws at 0)) ∷ value_steps vars (left / 2 ^ draws_in (item_of (get_or ws at 0))) (drop (at + 1) ws)
  unfolding value_steps
  value_next vars left h = ap (value_steps vars left) (next 0 ws at h)

  pub value_done : (vars : List Slot) (left : ℕ) → length ws ≤ at → value_steps vars left (drop at ws) ≡ []
  unfolding value_steps
  value_done vars left h = ap (value_steps vars left) (done ws at h)

  pub deepest_next : (n : ℕ) → at < length ws
      → deepest (drop at ws) n ≡ max n (deepest (drop (at + 1) ws) (n - takes_of (item_of (get_or ws at 0)) + 1))
  unfolding deepest
  deepest_next n h = ap (λ (l : List ℕ). deepest l n) (next 0 ws at h)

  pub deepest_done : (n : ℕ) → length ws ≤ at → deepest (drop at ws) n ≡ n
  unfolding deepest
  deepest_done n h = ap (λ (l : List ℕ). deepest l n) (done ws at h)

  pub deepest_push : (n : ℕ) → at < length ws → 13 ≤ get_or ws at 0 → deepest (drop at ws) n ≡ max n (deepest (drop (at + 1) ws) (n + 1))
  deepest_push n h l =
      deepest_next n h
      ∙ ap (λ (k : ℕ). max n (deepest (drop (at + 1) ws) k)) (ap (λ (k : ℕ). n - k + 1) (takes_operand (get_or ws at 0) l) ∙ omega arith)
