-- The postfix form of a tree has the tree's value.
use Prim.Native.Nat.{ℕ, ◌+◌, ◌-◌, ◌/◌, ◌^◌, ◌≤◌, max}
use mathlib.Core.Path.{◌≡◌, refl, sym, ap, ◌∙◌}
use mathlib.Core.List.{List, [], ◌∷◌, ◌++◌, map, map-append, append_assoc, append-nil}
use native.Mathlib.Nat.{div-div-eq-div-mul, div-one}
use native.Mathlib.Omega.{arith}
use borrow.Author.Tests.{le-leb}
use lib.Dec.{lit≤}
use lib.Pow.{pow-add}
use Rattle.grammar.specs.Items.{item, item_of, word_of, takes_of, deepest}
use Rattle.grammar.specs.Draws.{draws_in, draws_of}
use Rattle.grammar.specs.Run.{gives, run_of}
use Rattle.grammar.specs.Slots.{FitVal}
use Rattle.grammar.specs.Typing.{type_of}
use Rattle.grammar.specs.Evaluation.{value_step, value_steps, evaluation_of}
use Rattle.grammar.specs.Trees.{Tree, constant, variable, draw, unary, binary, postfix, words_of, tree_of, depth_of, FitTree}
use Rattle.grammar.specs.declared.values.«Type».{«Type» as Kind}
use Rattle.grammar.specs.declared.values.Val.{Val}
use Rattle.grammar.specs.declared.values.Val.TheVariants.{Boolean, Integer}
use Rattle.grammar.specs.declared.values.Slot.{Slot}
use Rattle.grammar.specs.declared.items.Item.{Item}
use Rattle.grammar.specs.declared.typing.Typed.TheVariants.{Known}
use Rattle.std.specs.Prelude.{Option}
use Rattle.grammar.proofs.StepLaws.{deepest_least}
use Rattle.grammar.proofs.EvaluationLaws.{value_given, evaluated}
use Rattle.grammar.proofs.Theorems.{read_back, typed_operands}

-- the words of a tree before others: its operands' words, and the word of its operation
pub unary_words : (a : Tree) (i : Item) (ws : List ℕ) → map word_of (postfix a ++ (i ∷ [])) ++ ws ≡ words_of a ++ (word_of i ∷ ws)
unary_words a i ws =
    ap (λ (l : List ℕ). l ++ ws) (map-append word_of (postfix a) (i ∷ [])) ∙ append_assoc (words_of a) (word_of i ∷ []) ws

pub binary_words : (a b : Tree) (i : Item) (ws : List ℕ)
    → map word_of (postfix a ++ (postfix b ++ (i ∷ []))) ++ ws ≡ words_of a ++ (words_of b ++ (word_of i ∷ ws))
binary_words a b i ws =
    ap (λ (l : List ℕ). l ++ ws) (map-append word_of (postfix a) (postfix b ++ (i ∷ [])))
    ∙ append_assoc (words_of a) (map word_of (postfix b ++ (i ∷ []))) ws
    ∙ ap (λ (l : List ℕ). words_of a ++ l) (unary_words b i ws)

-- a constant that fits is one that its word says
constant_back : (v : Val) → FitVal v → item_of (word_of (Item.Constant v)) ≡ item (Item.Constant v)
unfolding FitVal
constant_back (Boolean b) f = read_back (Item.Constant (Boolean b)) tt
constant_back (Integer n) f = read_back (Item.Constant (Integer n)) f

-- ---- the run of a tree's words leaves its value on top, and its rest of the word
module _ (vars : List Slot) where
  head : (w : ℕ) (i : Item) → item_of w ≡ item i → (word : ℕ) (ws : List ℕ) (waiting : List (Option Val))
      → run_of (value_steps vars word (w ∷ ws)) waiting
      ≡ run_of (value_step vars word (item i) ∷ value_steps vars (word / 2 ^ draws_in (item i)) ws) waiting
  unfolding value_steps
  head w i e word ws waiting = rw e

  -- an item that draws nothing leaves the word
  pure : (w : ℕ) (i : Item) → item_of w ≡ item i → draws_in (item i) ≡ 0 → (word : ℕ) (ws : List ℕ) (waiting : List (Option Val))
      → run_of (value_steps vars word (w ∷ ws)) waiting ≡ run_of (value_step vars word (item i) ∷ value_steps vars word ws) waiting
  pure w i e d word ws waiting =
      head w i e word ws waiting
      ∙ ap (λ (n : ℕ). run_of (value_step vars word (item i) ∷ value_steps vars n ws) waiting) (ap (λ (n : ℕ). word / 2 ^ n) d ∙ div-one word)

  runs : (t : Tree) → FitTree t → (word : ℕ) (ws : List ℕ) (waiting : List (Option Val))
      → run_of (value_steps vars word (words_of t ++ ws)) waiting
      ≡ run_of (value_steps vars (tree_of vars word t).rest ws) ((tree_of vars word t).value ∷ waiting)
  unfolding run_of postfix tree_of FitTree
  runs (constant v) f word ws waiting = pure (word_of (Item.Constant v)) (Item.Constant v) (constant_back v f) refl word ws waiting
  runs (variable n) f word ws waiting =
      pure (word_of (Item.Variable n)) (Item.Variable n) (read_back (Item.Variable n) tt) refl word ws waiting
  runs draw f word ws waiting = head (word_of Item.Draw) Item.Draw (read_back Item.Draw tt) word ws waiting
  runs (unary u a) f word ws waiting =
      ap (λ (l : List ℕ). run_of (value_steps vars word l) waiting) (unary_words a (Item.Unary u) ws)
      ∙ runs a f word (word_of (Item.Unary u) ∷ ws) waiting
      ∙ pure (word_of (Item.Unary u)) (Item.Unary u) (read_back (Item.Unary u) tt) refl (tree_of vars word a).rest ws
      ((tree_of vars word a).value ∷ waiting)
  runs (binary o a b) f word ws waiting =
      let left = tree_of vars word a in
      let right = tree_of vars left.rest b in
      ap (λ (l : List ℕ). run_of (value_steps vars word l) waiting) (binary_words a b (Item.Binary o) ws)
      ∙ runs a f.0 word (words_of b ++ (word_of (Item.Binary o) ∷ ws)) waiting
      ∙ runs b f.1 left.rest (word_of (Item.Binary o) ∷ ws) (left.value ∷ waiting)
      ∙ pure (word_of (Item.Binary o)) (Item.Binary o) (read_back (Item.Binary o) tt) refl right.rest ws
      (right.value ∷ left.value ∷ waiting)

  pub tree_runs : (t : Tree) → FitTree t → (word : ℕ) → run_of (value_steps vars word (words_of t)) [] ≡ gives (tree_of vars word t).value
  unfolding run_of value_steps
  tree_runs t f word =
      ap (λ (l : List ℕ). run_of (value_steps vars word l) []) (sym (append-nil (words_of t))) ∙ runs t f word [] []

-- ---- the draws
two_parts : (word m n : ℕ) → word / 2 ^ (m + n) ≡ word / 2 ^ m / 2 ^ n
two_parts word m n =
    ap (λ (p : ℕ). word / p) (pow-add 2 m n) ∙ sym (div-div-eq-div-mul word (2 ^ m) (2 ^ n))

head_rest : (w : ℕ) (i : Item) → item_of w ≡ item i → (word : ℕ) (ws : List ℕ)
    → word / 2 ^ draws_of (w ∷ ws) ≡ word / 2 ^ draws_in (item i) / 2 ^ draws_of ws
unfolding draws_of
head_rest w i e word ws = rw e (two_parts word (draws_in (item i)) (draws_of ws))

pure_rest : (w : ℕ) (i : Item) → item_of w ≡ item i → draws_in (item i) ≡ 0 → (word : ℕ) (ws : List ℕ)
    → word / 2 ^ draws_of (w ∷ ws) ≡ word / 2 ^ draws_of ws
pure_rest w i e d word ws =
    head_rest w i e word ws ∙ ap (λ (n : ℕ). n / 2 ^ draws_of ws) (ap (λ (n : ℕ). word / 2 ^ n) d ∙ div-one word)

rests : (vars : List Slot) (t : Tree) → FitTree t → (word : ℕ) (ws : List ℕ)
    → word / 2 ^ draws_of (words_of t ++ ws) ≡ (tree_of vars word t).rest / 2 ^ draws_of ws
unfolding postfix tree_of FitTree
rests vars (constant v) f word ws = pure_rest (word_of (Item.Constant v)) (Item.Constant v) (constant_back v f) refl word ws
rests vars (variable n) f word ws = pure_rest (word_of (Item.Variable n)) (Item.Variable n) (read_back (Item.Variable n) tt) refl word ws
rests vars draw f word ws = head_rest (word_of Item.Draw) Item.Draw (read_back Item.Draw tt) word ws
rests vars (unary u a) f word ws =
    ap (λ (l : List ℕ). word / 2 ^ draws_of l) (unary_words a (Item.Unary u) ws) ∙ rests vars a f word (word_of (Item.Unary u) ∷ ws)
    ∙ pure_rest (word_of (Item.Unary u)) (Item.Unary u) (read_back (Item.Unary u) tt) refl (tree_of vars word a).rest ws
rests vars (binary o a b) f word ws =
    let left = tree_of vars word a in
    ap (λ (l : List ℕ). word / 2 ^ draws_of l) (binary_words a b (Item.Binary o) ws)
    ∙ rests vars a f.0 word (words_of b ++ (word_of (Item.Binary o) ∷ ws))
    ∙ rests vars b f.1 left.rest (word_of (Item.Binary o) ∷ ws)
    ∙ pure_rest (word_of (Item.Binary o)) (Item.Binary o) (read_back (Item.Binary o) tt) refl (tree_of vars left.rest b).rest ws

tree_rest : (vars : List Slot) (t : Tree) → FitTree t → (word : ℕ) → word / 2 ^ draws_of (words_of t) ≡ (tree_of vars word t).rest
unfolding draws_of
tree_rest vars t f word =
    ap (λ (l : List ℕ). word / 2 ^ draws_of l) (sym (append-nil (words_of t))) ∙ rests vars t f word [] ∙ div-one (tree_of vars word t).rest

-- ---- the operands that wait
some_depth : (t : Tree) → 1 ≤ depth_of t
unfolding depth_of
some_depth (constant v) = lit≤ tt
some_depth (variable n) = lit≤ tt
some_depth draw = lit≤ tt
some_depth (unary u a) = some_depth a
some_depth (binary o a b) = omega (arith, some_depth a)

head_deep : (w : ℕ) (i : Item) → item_of w ≡ item i → (n : ℕ) (ws : List ℕ)
    → deepest (w ∷ ws) n ≡ max n (deepest ws (n - takes_of (item i) + 1))
unfolding deepest
head_deep w i e n ws = rw e

leaf_deep : (w : ℕ) (i : Item) → item_of w ≡ item i → takes_of (item i) ≡ 0 → (n : ℕ) (ws : List ℕ)
    → deepest (w ∷ ws) n ≡ max (n + 1) (deepest ws (n + 1))
leaf_deep w i e z n ws =
    let same : n - 0 + 1 ≡ n + 1 = omega arith in
    head_deep w i e n ws ∙ ap (λ (k : ℕ). max n (deepest ws (n - k + 1))) z ∙ ap (λ (k : ℕ). max n (deepest ws k)) same
    ∙ omega (arith, deepest_least ws (n + 1))

depths : (t : Tree) → FitTree t → (n : ℕ) (ws : List ℕ) → deepest (words_of t ++ ws) n ≡ max (n + depth_of t) (deepest ws (n + 1))
unfolding postfix depth_of FitTree
depths (constant v) f n ws = leaf_deep (word_of (Item.Constant v)) (Item.Constant v) (constant_back v f) refl n ws
depths (variable k) f n ws = leaf_deep (word_of (Item.Variable k)) (Item.Variable k) (read_back (Item.Variable k) tt) refl n ws
depths draw f n ws = leaf_deep (word_of Item.Draw) Item.Draw (read_back Item.Draw tt) refl n ws
depths (unary u a) f n ws =
    let w = word_of (Item.Unary u) in
    let e : n + 1 - 1 + 1 ≡ n + 1 = omega arith in
    let d : deepest (w ∷ ws) (n + 1) ≡ max (n + 1) (deepest ws (n + 1)) =
    head_deep w (Item.Unary u) (read_back (Item.Unary u) tt) (n + 1) ws ∙ ap (λ (k : ℕ). max (n + 1) (deepest ws k)) e in
    ap (λ (l : List ℕ). deepest l n) (unary_words a (Item.Unary u) ws) ∙ depths a f n (w ∷ ws)
    ∙ omega (arith, d, deepest_least ws (n + 1))
depths (binary o a b) f n ws =
    let w = word_of (Item.Binary o) in
    let e : n + 1 + 1 - 2 + 1 ≡ n + 1 = omega arith in
    let d : deepest (w ∷ ws) (n + 1 + 1) ≡ max (n + 1 + 1) (deepest ws (n + 1)) =
    head_deep w (Item.Binary o) (read_back (Item.Binary o) tt) (n + 1 + 1) ws
    ∙ ap (λ (k : ℕ). max (n + 1 + 1) (deepest ws k)) e in
    ap (λ (l : List ℕ). deepest l n) (binary_words a b (Item.Binary o) ws) ∙ depths a f.0 n (words_of b ++ (w ∷ ws))
    ∙ omega (arith, d, depths b f.1 (n + 1) (w ∷ ws), some_depth b, deepest_least ws (n + 1))

-- The postfix form of a tree has as many operands waiting at the most as the tree says,
pub tree_depth : (t : Tree) → FitTree t → deepest (words_of t) 0 ≡ depth_of t
unfolding deepest
tree_depth t f =
    ap (λ (l : List ℕ). deepest l 0) (sym (append-nil (words_of t))) ∙ depths t f 0 [] ∙ omega (arith, some_depth t)

module _ (vars : List Slot) (word : ℕ) (t : Tree) (f : FitTree t) where
  -- and where these are at most 16, it has the tree's value and leaves the same rest of the word.
  pub tree_value : depth_of t ≤ 16 → evaluation_of vars word (words_of t) ≡ tree_of vars word t
  tree_value l =
      sym (evaluated vars word (words_of t)
      (value_given vars word (words_of t) (le-leb (deepest (words_of t) 0) 16 (omega (arith, tree_depth t f))) (tree_runs vars t f word))
      (sym (tree_rest vars t f word)))

  -- So it has wherever it is typed.
  pub typed_tree : (kinds : List ℕ) (k : Kind) → type_of kinds (words_of t) ≡ Known k
      → evaluation_of vars word (words_of t) ≡ tree_of vars word t
  typed_tree kinds k typed = tree_value (omega (arith, tree_depth t f, typed_operands kinds (words_of t) k typed))
