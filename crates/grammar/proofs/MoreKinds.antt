-- An expression that is typed over some variables is typed the same over those variables and more.
use Prim.Native.Nat.{ℕ, zero, suc}
use mathlib.Core.Path.{◌≡◌, refl, ap}
use mathlib.Core.List.{List, [], ◌∷◌, ◌++◌}
use mathlib.Core.Logic.{◌⊎◌, inl, inr, ⊎_elim}
use Rattle.grammar.specs.Items.{Read, item, none, item_of, deepest}
use Rattle.grammar.specs.Run.{push}
use Rattle.grammar.specs.Typing.{ill, variable_kind, kind_step, kind_steps, type_of}
use Rattle.grammar.specs.declared.values.«Type».{«Type» as Kind}
use Rattle.grammar.specs.declared.items.Item.TheVariants as Item
use Rattle.grammar.specs.declared.typing.Typed.TheVariants.{Known}
use Rattle.grammar.proofs.IllLaws.{Ill, ill_before, ill_pushed, never_ill}

-- a variable keeps its kind, or had none
kept_variable : (kinds more : List ℕ) (n : ℕ) → (variable_kind (kinds ++ more) n ≡ variable_kind kinds n) ⊎ (variable_kind kinds n ≡ ill)
kept_variable [] more n = inr refl
kept_variable (x ∷ kinds) more zero = inl refl
kept_variable (x ∷ kinds) more (suc n) = kept_variable kinds more n

module _ (kinds more : List ℕ) where
  -- so an item keeps its step, or pushed an ill-typed operand
  abbrev KeptStep : Read → Type 0
  KeptStep r = (kind_step (kinds ++ more) r ≡ kind_step kinds r) ⊎ (kind_step kinds r ≡ push ill)

  kept_step : (r : Read) → KeptStep r
  kept_step (item (Item.Constant v)) = inl refl
  kept_step (item (Item.Variable n)) = ⊎_elim (λ e. inl (ap push e)) (λ e. inr (ap push e)) (kept_variable kinds more n)
  kept_step (item (Item.Unary u)) = inl refl
  kept_step (item (Item.Binary b)) = inl refl
  kept_step (item Item.Draw) = inl refl
  kept_step none = inl refl

  -- so the items keep their steps, or were ill-typed
  module _ (deep : ℕ) where
    abbrev Kept : List ℕ → Type 0
    Kept ws = (kind_steps (kinds ++ more) ws ≡ kind_steps kinds ws) ⊎ Ill deep (kind_steps kinds ws)

    one_more : (w : ℕ) (ws : List ℕ) → KeptStep (item_of w) → Kept ws → Kept (w ∷ ws)
    unfolding kind_steps
    one_more w ws (inl e) (inl s) = inl (rw (e, s))
    one_more w ws (inr e) (inl s) = inr (ill_pushed deep kinds w ws e)
    one_more w ws e (inr h) = inr (ill_before deep (kind_step kinds (item_of w)) (kind_steps kinds ws) h)

    kept : (ws : List ℕ) → Kept ws
    unfolding kind_steps
    kept [] = inl refl
    kept (w ∷ ws) = one_more w ws (kept_step (item_of w)) (kept ws)

pub type_more : (kinds more ws : List ℕ) (k : Kind) → type_of kinds ws ≡ Known k → type_of (kinds ++ more) ws ≡ Known k
unfolding type_of
type_more kinds more ws k e =
    ⊎_elim
    (λ (s : kind_steps (kinds ++ more) ws ≡ kind_steps kinds ws). rw s e)
    (λ h. absurd (never_ill kinds ws k e h))
    (kept kinds more (deepest ws 0) ws)
