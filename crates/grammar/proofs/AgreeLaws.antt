-- An expression has one value over any two lists of variables that agree on those that have a kind.
use Prim.Native.Nat.{ℕ, ◌/◌, ◌^◌, ◌<◌}
use mathlib.Core.Path.{◌≡◌, refl, ap}
use mathlib.Core.Bool.{cond}
use mathlib.Core.List.{List, [], ◌∷◌}
use mathlib.Core.Logic.{◌⊎◌, inl, inr, ⊎_elim}
use native.Mathlib.Decide.{dec_lt}
use native.Mathlib.Omega.{arith}
use lib.Dec.{ltb}
use lib.ListN.{length, get_or, get_or-eq_default}
use Rattle.grammar.specs.Items.{Read, item, none, item_of, deepest}
use Rattle.grammar.specs.Draws.{draws_in}
use Rattle.grammar.specs.Run.{push}
use Rattle.grammar.specs.Typing.{ill, kinded_at, kind_step, kind_steps, type_of}
use Rattle.grammar.specs.Evaluation.{blank, value_step, value_steps, value_of, evaluation_of}
use Rattle.grammar.specs.declared.values.«Type».{«Type» as Kind}
use Rattle.grammar.specs.declared.values.Slot.{Slot}
use Rattle.grammar.specs.declared.items.Item.TheVariants as Item
use Rattle.grammar.specs.declared.typing.Typed.TheVariants as Typed
use Rattle.std.specs.Prelude.{Some, None}
use Rattle.grammar.proofs.IllLaws.{Ill, ill_before, ill_pushed, never_ill}

module _ (kinds : List ℕ) (vars others : List Slot) (same : (v : ℕ) → v < length kinds → get_or vars v blank ≡ get_or others v blank) where
  -- an item has one step over both, or pushes an ill-typed operand
  abbrev SameStep : Read → Type 0
  SameStep r = ((left : ℕ) → value_step vars left r ≡ value_step others left r) ⊎ (kind_step kinds r ≡ push ill)

  same_variable : (n : ℕ) → Dec (n < length kinds) → SameStep (item (Item.Variable n))
  same_variable n (yes h) = inl (λ left. ap (λ (s : Slot). push (cond (ltb n 16) (Some s.value) None)) (same n h))
  same_variable n (no h) = inr (ap (λ (k : ℕ). push (kinded_at k)) (get_or-eq_default kinds 2 (omega arith)))

  same_step : (r : Read) → SameStep r
  same_step (item (Item.Constant v)) = inl (λ left. refl)
  same_step (item (Item.Variable n)) = same_variable n (dec_lt n (length kinds))
  same_step (item (Item.Unary u)) = inl (λ left. refl)
  same_step (item (Item.Binary b)) = inl (λ left. refl)
  same_step (item Item.Draw) = inl (λ left. refl)
  same_step none = inl (λ left. refl)

  -- so the items have the same steps, or are ill-typed
  module _ (deep : ℕ) where
    abbrev Same : List ℕ → Type 0
    Same ws = ((left : ℕ) → value_steps vars left ws ≡ value_steps others left ws) ⊎ Ill deep (kind_steps kinds ws)

    one_more : (w : ℕ) (ws : List ℕ) → SameStep (item_of w) → Same ws → Same (w ∷ ws)
    unfolding value_steps kind_steps
    one_more w ws (inl e) (inl s) = inl (λ left. rw (e left, s (left / 2 ^ draws_in (item_of w))))
    one_more w ws (inr e) (inl s) = inr (ill_pushed deep kinds w ws e)
    one_more w ws e (inr h) = inr (ill_before deep (kind_step kinds (item_of w)) (kind_steps kinds ws) h)

    all_same_lem : (ws : List ℕ) → Same ws
    unfolding value_steps
    all_same_lem [] = inl (λ left. refl)
    all_same_lem (w ∷ ws) = one_more w ws (same_step (item_of w)) (all_same_lem ws)

  pub evaluation_agree : (ws : List ℕ) (k : Kind) (word : ℕ) → type_of kinds ws ≡ Typed.Known k
      → evaluation_of vars word ws ≡ evaluation_of others word ws
  unfolding evaluation_of value_of
  evaluation_agree ws k word e = ⊎_elim (λ s. rw (s word)) (λ h. absurd (never_ill kinds ws k e h)) (all_same_lem (deepest ws 0) ws)
