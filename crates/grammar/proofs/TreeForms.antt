-- Every typed expression is the postfix form of exactly one tree.
use Prim.Native.Nat.{ℕ, suc}
use mathlib.Core.Path.{◌≡◌, refl, sym, ap, ◌∙◌}
use mathlib.Core.List.{List, [], ◌∷◌, ◌++◌, append_assoc, append-nil}
use mathlib.Core.Logic.{◌↔◌}
use native.Mathlib.Omega.{arith}
use lib.ListN.{length}
use Rattle.grammar.specs.Items.{Read, item, none, item_of, word_of}
use Rattle.grammar.specs.Run.{Step, push, change, join, Ran, gives, stuck, run_of}
use Rattle.grammar.specs.Slots.{FitVal}
use Rattle.grammar.specs.Typing.{Kinded, of, kind_step, kind_steps, type_of}
use Rattle.grammar.specs.Trees.{Tree, constant, variable, draw, unary, binary, postfix, words_of, FitTree}
use Rattle.grammar.specs.declared.values.«Type».{«Type» as Kind}
use Rattle.grammar.specs.declared.values.Val.{Val}
use Rattle.grammar.specs.declared.values.Val.TheVariants.{Boolean, Integer}
use Rattle.grammar.specs.declared.items.Item.{Item}
use Rattle.grammar.specs.declared.typing.Typed.TheVariants.{Known}
use Rattle.grammar.proofs.Theorems.{Proper, read_back}
use Rattle.grammar.proofs.OneToOne.{word_back}
use Rattle.grammar.proofs.TreeTheorems.{unary_words, binary_words}
use Rattle.grammar.proofs.FailTheorems.{no_ill, typed_run, not_stuck}

-- trees that wait, the last first, and their words
abbrev words_waiting : List Tree → List ℕ
words_waiting [] = []
words_waiting (t ∷ ts) = words_waiting ts ++ words_of t

abbrev AllFit : List Tree → Type 0
AllFit [] = Unit {0}
AllFit (t ∷ ts) = FitTree t × AllFit ts

-- a tree of these words
abbrev Made : List ℕ → Type 0
Made ws = (t : Tree) × (FitTree t × (words_of t ≡ ws))

constant_fits : (v : Val) → Proper (Item.Constant v) → FitTree (constant v)
unfolding FitTree FitVal
constant_fits (Boolean b) p = tt
constant_fits (Integer n) p = p

module _ (kinds : List ℕ) (k : Kind) where
  abbrev Rest : List ℕ → Type 0
  Rest ws =
      (ts : List Tree) (ks : List Kinded) → length ts ≡ length ks → AllFit ts → run_of (kind_steps kinds ws) ks ≡ gives (of k)
      → Made (words_waiting ts ++ ws)

  module _ (w : ℕ) (ws : List ℕ) (rest : Rest ws) where
    -- one tree more, whose words are those that waited and this one
    made : (ts : List Tree) (t : Tree) (l : List ℕ) → words_of t ++ ws ≡ l → Made ((words_waiting ts ++ words_of t) ++ ws)
        → Made (words_waiting ts ++ l)
    made ts t l e m =
        (m.0, (m.1.0, m.1.1 ∙ append_assoc (words_waiting ts) (words_of t) ws ∙ ap (λ (x : List ℕ). words_waiting ts ++ x) e))

    word_is : (i : Item) → item_of w ≡ item i → word_of i ∷ ws ≡ w ∷ ws
    word_is i e = ap (λ (n : ℕ). n ∷ ws) (word_back w i e).1

    turn : (r : Read) → item_of w ≡ r → (ts : List Tree) (ks : List Kinded) → length ts ≡ length ks → AllFit ts
        → run_of (kind_step kinds r ∷ kind_steps kinds ws) ks ≡ gives (of k) → Made (words_waiting ts ++ (w ∷ ws))
    unfolding run_of postfix FitTree
    turn (item (Item.Constant v)) e ts ks n f g =
        made ts (constant v) (w ∷ ws) (word_is (Item.Constant v) e)
        (rest (constant v ∷ ts) (_ ∷ ks) (ap suc n) (constant_fits v (word_back w (Item.Constant v) e).0, f) g)
    turn (item (Item.Variable x)) e ts ks n f g =
        made ts (variable x) (w ∷ ws) (word_is (Item.Variable x) e) (rest (variable x ∷ ts) (_ ∷ ks) (ap suc n) (tt, f) g)
    turn (item Item.Draw) e ts ks n f g = made ts draw (w ∷ ws) (word_is Item.Draw e) (rest (draw ∷ ts) (_ ∷ ks) (ap suc n) (tt, f) g)
    turn none e ts ks n f g = absurd (no_ill kinds ws k ks g)
    turn (item (Item.Unary u)) e ts [] n f g = absurd (not_stuck (of k) g)
    turn (item (Item.Unary u)) e [] (x ∷ ks) n f g = absurd (omega arith)
    turn (item (Item.Unary u)) e (a ∷ ts) (x ∷ ks) n f g =
        let m = made ts (unary u a) (words_of a ++ (w ∷ ws))
        (unary_words a (Item.Unary u) ws ∙ ap (λ (l : List ℕ). words_of a ++ l) (word_is (Item.Unary u) e))
        (rest (unary u a ∷ ts) (_ ∷ ks) n f g) in
        (m.0, (m.1.0, m.1.1 ∙ sym (append_assoc (words_waiting ts) (words_of a) (w ∷ ws))))
    turn (item (Item.Binary o)) e ts [] n f g = absurd (not_stuck (of k) g)
    turn (item (Item.Binary o)) e ts (y ∷ []) n f g = absurd (not_stuck (of k) g)
    turn (item (Item.Binary o)) e [] (y ∷ x ∷ ks) n f g = absurd (omega arith)
    turn (item (Item.Binary o)) e (b ∷ []) (y ∷ x ∷ ks) n f g = absurd (omega arith)
    turn (item (Item.Binary o)) e (b ∷ a ∷ ts) (y ∷ x ∷ ks) n f g =
        let s = words_waiting ts in
        let m = made ts (binary o a b) (words_of a ++ (words_of b ++ (w ∷ ws)))
        (binary_words a b (Item.Binary o) ws ∙ ap (λ (l : List ℕ). words_of a ++ (words_of b ++ l)) (word_is (Item.Binary o) e))
        (rest (binary o a b ∷ ts) (_ ∷ ks) (omega arith) ((f.1.0, f.0), f.1.1) g) in (
          m.0,
          (
            m.1.0,
            m.1.1 ∙ sym (append_assoc s (words_of a) (words_of b ++ (w ∷ ws))) ∙ sym (append_assoc (s ++ words_of a) (words_of b) (w ∷ ws)),
          ),
        )

  whole : (ws : List ℕ) → Rest ws
  unfolding run_of kind_steps
  whole [] ts [] n f g = absurd (not_stuck (of k) g)
  whole [] [] (x ∷ ks) n f g = absurd (omega arith)
  whole [] (t ∷ []) (x ∷ []) n f g = (t, (f.0, sym (append-nil (words_of t))))
  whole [] (t ∷ u ∷ ts) (x ∷ []) n f g = absurd (omega arith)
  whole [] (t ∷ ts) (x ∷ y ∷ ks) n f g = absurd (not_stuck (of k) g)
  whole (w ∷ ws) ts ks n f g = turn w ws (whole ws) (item_of w) refl ts ks n f g

-- Every typed expression is the postfix form of a tree whose constants have 32 bits.
pub typed_form : (kinds ws : List ℕ) (k : Kind) → type_of kinds ws ≡ Known k → (t : Tree) × (FitTree t × (words_of t ≡ ws))
typed_form kinds ws k typed = whole kinds k ws [] [] refl tt (typed_run kinds ws k typed)

-- ---- a tree comes back from its words: the run that makes trees
abbrev tree_step : Read → Step Tree
tree_step (item (Item.Constant v)) = push (constant v)
tree_step (item (Item.Variable n)) = push (variable n)
tree_step (item (Item.Unary u)) = change (unary u)
tree_step (item (Item.Binary o)) = join (binary o)
tree_step (item Item.Draw) = push draw
tree_step none = push draw

abbrev tree_steps : List ℕ → List (Step Tree)
tree_steps [] = []
tree_steps (w ∷ ws) = tree_step (item_of w) ∷ tree_steps ws

next : (i : Item) → Proper i → (ws : List ℕ) (waiting : List Tree)
    → run_of (tree_steps (word_of i ∷ ws)) waiting ≡ run_of (tree_step (item i) ∷ tree_steps ws) waiting
next i p ws waiting = ap (λ (r : Read). run_of (tree_step r ∷ tree_steps ws) waiting) (read_back i p)

proper_constant : (v : Val) → FitTree (constant v) → Proper (Item.Constant v)
unfolding FitTree FitVal
proper_constant (Boolean b) f = tt
proper_constant (Integer n) f = f

reads : (t : Tree) → FitTree t → (ws : List ℕ) (waiting : List Tree)
    → run_of (tree_steps (words_of t ++ ws)) waiting ≡ run_of (tree_steps ws) (t ∷ waiting)
unfolding run_of postfix FitTree
reads (constant v) f ws waiting = next (Item.Constant v) (proper_constant v f) ws waiting
reads (variable n) f ws waiting = next (Item.Variable n) tt ws waiting
reads draw f ws waiting = next Item.Draw tt ws waiting
reads (unary u a) f ws waiting =
    ap (λ (l : List ℕ). run_of (tree_steps l) waiting) (unary_words a (Item.Unary u) ws)
    ∙ reads a f (word_of (Item.Unary u) ∷ ws) waiting
    ∙ next (Item.Unary u) tt ws (a ∷ waiting)
reads (binary o a b) f ws waiting =
    ap (λ (l : List ℕ). run_of (tree_steps l) waiting) (binary_words a b (Item.Binary o) ws)
    ∙ reads a f.0 (words_of b ++ (word_of (Item.Binary o) ∷ ws)) waiting
    ∙ reads b f.1 (word_of (Item.Binary o) ∷ ws) (a ∷ waiting)
    ∙ next (Item.Binary o) tt ws (b ∷ a ∷ waiting)

reads_all : (t : Tree) → FitTree t → run_of (tree_steps (words_of t)) [] ≡ gives t
unfolding run_of
reads_all t f = ap (λ (l : List ℕ). run_of (tree_steps l) []) (sym (append-nil (words_of t))) ∙ reads t f [] []

-- Two such trees are equal exactly when their postfix forms are.
pub same_trees : (t u : Tree) → FitTree t → FitTree u → (words_of t ≡ words_of u) ↔ (t ≡ u)
same_trees t u f g =
    ((λ e. ap given (sym (reads_all t f) ∙ ap (λ (l : List ℕ). run_of (tree_steps l) []) e ∙ reads_all u g)), ap words_of)
  where
    given : Ran Tree → Tree
    given (gives x) = x
    given stuck = t
