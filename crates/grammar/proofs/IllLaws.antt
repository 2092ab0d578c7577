-- An expression with an ill-typed operand is ill-typed, whatever comes after it.
use Prim.Native.Nat.{ℕ, ◌<◌}
use mathlib.Core.Path.{◌≡◌, refl, sym, ap, ◌∙◌}
use mathlib.Core.Bool.{Bool, true, false}
use mathlib.Core.List.{List, [], ◌∷◌}
use native.Mathlib.Omega.{arith}
use lib.Dec.{leb, lit<}
use lib.ListN.{length}
use Rattle.laws.specs.Ladder.{unless}
use Rattle.grammar.specs.Items.{Read, item, none, item_of, deepest}
use Rattle.grammar.specs.Run.{Step, push, change, join, run_of}
use Rattle.grammar.specs.Typing.{Kinded, of, ill, unary_kind, binary_kind, kinded_at, kind_step, kind_steps, judged, type_of}
use Rattle.grammar.specs.Inner.{kinded_word}
use Rattle.grammar.specs.declared.values.«Type».{«Type» as Kind}
use Rattle.grammar.specs.declared.values.«Type».TheVariants.{Boolean, Integer}
use Rattle.grammar.specs.declared.items.Unary.{Unary}
use Rattle.grammar.specs.declared.items.Unary.TheVariants.{Not, Negate}
use Rattle.grammar.specs.declared.items.Binary.{Binary}
use Rattle.grammar.specs.declared.items.Binary.TheVariants.{And, Or, Add, Subtract, Multiply, Divide, Remainder, Equal, Less}
use Rattle.grammar.specs.declared.items.Binary.TheVariants.{LessOrEqual}
use Rattle.grammar.specs.declared.items.Item.TheVariants as Item
use Rattle.grammar.specs.declared.typing.Typed.TheVariants.{Known, IllTyped, TableFull}

-- a step makes an ill-typed operand of an ill-typed one
abbrev Strict : Step Kinded → Type 0
Strict (push k) = Unit {0}
Strict (change f) = f ill ≡ ill
Strict (join f) = ((b : Kinded) → f ill b ≡ ill) × ((a : Kind) → f (of a) ill ≡ ill)

unary_strict : (u : Unary) → unary_kind u ill ≡ ill
unary_strict Not = refl
unary_strict Negate = refl

binary_strict : (o : Binary) → ((b : Kinded) → binary_kind o ill b ≡ ill) × ((a : Kind) → binary_kind o (of a) ill ≡ ill)
binary_strict And = ((λ b. refl), (λ a. refl))
binary_strict Or = ((λ b. refl), (λ a. refl))
binary_strict Add = ((λ b. refl), (λ a. refl))
binary_strict Subtract = ((λ b. refl), (λ a. refl))
binary_strict Multiply = ((λ b. refl), (λ a. refl))
binary_strict Divide = ((λ b. refl), (λ a. refl))
binary_strict Remainder = ((λ b. refl), (λ a. refl))
binary_strict Equal = ((λ b. refl), (λ a. refl))
binary_strict Less = ((λ b. refl), (λ a. refl))
binary_strict LessOrEqual = ((λ b. refl), (λ a. refl))

strict : (kinds : List ℕ) (r : Read) → Strict (kind_step kinds r)
strict kinds (item (Item.Constant v)) = tt
strict kinds (item (Item.Variable n)) = tt
strict kinds (item (Item.Unary u)) = unary_strict u
strict kinds (item (Item.Binary b)) = binary_strict b
strict kinds (item Item.Draw) = tt
strict kinds none = tt

-- some operand is ill-typed
abbrev HasIll : List Kinded → Type 0
HasIll [] = ⊥
HasIll (of k ∷ waiting) = HasIll waiting
HasIll (ill ∷ waiting) = Unit {0}

still : (k : Kinded) (waiting : List Kinded) → HasIll waiting → HasIll (k ∷ waiting)
still (of k) waiting h = h
still ill waiting h = tt

module _ (deep : ℕ) (steps : List (Step Kinded))
    (rest : (waiting : List Kinded) → HasIll waiting → judged (run_of steps waiting) deep ≡ IllTyped) where
  one : (i : Step Kinded) → Strict i → (waiting : List Kinded) → HasIll waiting → judged (run_of (i ∷ steps) waiting) deep ≡ IllTyped
  unfolding run_of
  one (push k) s waiting h = rest (k ∷ waiting) (still k waiting h)
  one (change f) s [] h = absurd h
  one (change f) s (of a ∷ waiting) h = rest (f (of a) ∷ waiting) (still (f (of a)) waiting h)
  one (change f) s (ill ∷ waiting) h = rw s (rest (ill ∷ waiting) tt)
  one (join f) s [] h = absurd h
  one (join f) s (of b ∷ []) h = refl
  one (join f) s (ill ∷ []) h = refl
  one (join f) s (of b ∷ of a ∷ waiting) h = rest (f (of a) (of b) ∷ waiting) (still (f (of a) (of b)) waiting h)
  one (join f) s (of b ∷ ill ∷ waiting) h = rw (s.0 (of b)) (rest (ill ∷ waiting) tt)
  one (join f) s (ill ∷ of a ∷ waiting) h = rw (s.1 a) (rest (ill ∷ waiting) tt)
  one (join f) s (ill ∷ ill ∷ waiting) h = rw (s.0 ill) (rest (ill ∷ waiting) tt)

stays : (deep : ℕ) (kinds ws : List ℕ) (waiting : List Kinded) → HasIll waiting
    → judged (run_of (kind_steps kinds ws) waiting) deep ≡ IllTyped
unfolding run_of kind_steps
stays deep kinds [] [] h = absurd h
stays deep kinds [] (of k ∷ []) h = absurd h
stays deep kinds [] (ill ∷ []) h = refl
stays deep kinds [] (a ∷ b ∷ waiting) h = refl
stays deep kinds (w ∷ ws) waiting h =
    one deep (kind_steps kinds ws) (stays deep kinds ws) (kind_step kinds (item_of w)) (strict kinds (item_of w)) waiting h

-- as the code has it: the number of the last operand is no kind
pub kinded_back : (k : Kinded) → kinded_at (kinded_word k) ≡ k
kinded_back (of Boolean) = refl
kinded_back (of Integer) = refl
kinded_back ill = refl

pub ill_typed : (deep : ℕ) (kinds ws : List ℕ) (k : Kinded) (waiting : List Kinded) → 1 < kinded_word k
    → judged (run_of (kind_steps kinds ws) (k ∷ waiting)) deep ≡ IllTyped
ill_typed deep kinds ws (of Boolean) waiting h = absurd (omega arith)
ill_typed deep kinds ws (of Integer) waiting h = absurd (omega arith)
ill_typed deep kinds ws ill waiting h = stays deep kinds ws (ill ∷ waiting) tt

-- ---- whatever waits, these steps end ill-typed
module _ (deep : ℕ) where
  abbrev pub Ill : List (Step Kinded) → Type 0
  Ill steps = (waiting : List Kinded) → judged (run_of steps waiting) deep ≡ IllTyped

  -- so do they after any step, and any steps after an ill-typed operand
  pub ill_before : (i : Step Kinded) (steps : List (Step Kinded)) → Ill steps → Ill (i ∷ steps)
  unfolding run_of
  ill_before (push k) steps h waiting = h (k ∷ waiting)
  ill_before (change f) steps h [] = refl
  ill_before (change f) steps h (a ∷ waiting) = h (f a ∷ waiting)
  ill_before (join f) steps h [] = refl
  ill_before (join f) steps h (b ∷ []) = refl
  ill_before (join f) steps h (b ∷ a ∷ waiting) = h (f a b ∷ waiting)

  pub ill_pushed : (kinds : List ℕ) (w : ℕ) (ws : List ℕ) → kind_step kinds (item_of w) ≡ push ill → Ill (kind_steps kinds (w ∷ ws))
  unfolding run_of kind_steps
  ill_pushed kinds w ws e waiting = rw e (ill_typed deep kinds ws ill waiting (lit< tt))

no_kind_lem : (t : Bool) (k : Kind) → unless t TableFull IllTyped ≡ Known k → ⊥
unfolding unless
no_kind_lem true k e = let z : ◌≡◌ {A = ℕ} 0 1 = cc in absurd (omega arith)
no_kind_lem false k e = let z : ◌≡◌ {A = ℕ} 0 1 = cc in absurd (omega arith)

-- the steps of a typed expression do not
pub never_ill : (kinds ws : List ℕ) (k : Kind) → type_of kinds ws ≡ Known k → Ill (deepest ws 0) (kind_steps kinds ws) → ⊥
unfolding type_of
never_ill kinds ws k e h = no_kind_lem (leb (length ws) 64) k (ap (unless (leb (length ws) 64) TableFull) (sym (h [])) ∙ e)
