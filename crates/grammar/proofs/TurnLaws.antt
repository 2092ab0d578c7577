-- One turn of an evaluation.
use Prim.Native.Nat.{ℕ, ◌+◌, ◌-◌, ◌/◌, ◌%◌, ◌^◌, ◌≤◌, ◌<◌, max}
use mathlib.Core.Path.{◌≡◌, sym, ap, ◌∙◌, subst}
use mathlib.Core.Bool.{true, false, cond}
use mathlib.Core.List.{List, [], ◌∷◌}
use native.Mathlib.Decide.{ℕ_discrete}
use native.Mathlib.Nat.{div-one}
use native.Mathlib.Omega.{arith}
use borrow.Author.Tests.{ltb-true, ltb-false, ne_eqb, lt-leb, le-leb}
use lib.Dec.{leb, ltb, lit≤}
use lib.ListN.{length, get_or, set, drop, length-set}
use Rattle.laws.proofs.Tests.{leb_same}
use Rattle.grammar.specs.Items.{Read, operand_of, item_of, takes_of, deepest}
use Rattle.grammar.specs.Draws.{draws_in, draws_of}
use Rattle.grammar.specs.Run.{Step, run_of, made}
use Rattle.grammar.specs.Evaluation.{blank, draw_of, value_step, value_steps, value_of}
use Rattle.grammar.specs.Inner.{operates_of, slot_of, held_of, operand_on}
use Rattle.grammar.specs.declared.values.Slot.{Slot}
use Rattle.std.specs.Prelude.{Option, Some, None}
use Rattle.grammar.specs.declared.values.Val.{Val}
use Rattle.grammar.proofs.ItemLaws.{low_any, high, no_draw, takes_operand}
use Rattle.grammar.proofs.OperationLaws.{no_word, operand_word}
use Rattle.grammar.proofs.Stack.{stack_of, short, went, ends, ended}
use Rattle.grammar.proofs.StepLaws.{value_size, value_next, value_done, deepest_least, deepest_next, deepest_done}
use Rattle.grammar.proofs.DrawLaws.{left_next}
use Rattle.grammar.proofs.EvaluationLaws.{value_stuck, value_deep, value_given}

-- the code's test of a word: an operation takes one or two operands, and any other word none
module _ (w : ℕ) where
  pub small : operates_of w ≡ true → w < 13
  small e = by (ℕ_discrete w 0)
    where
      by : Dec (w ≡ 0) → w < 13
      by (yes z) = omega arith
      by (no n) = ltb-true w 13 (rw (ne_eqb w 0 n) at e)

  pub some : operates_of w ≡ true → 1 ≤ takes_of (item_of w)
  some e =
      low_any 13 (lit≤ tt) (λ (w : ℕ) (r : Read). operates_of w ≡ true → 1 ≤ takes_of r) (
        (λ e. let z : ◌≡◌ {A = ℕ} 0 1 = cc in absurd (omega arith)),
        (
          (λ e. lit≤ tt),
          (
            (λ e. lit≤ tt),
            (
              (λ e. lit≤ tt),
              (
                (λ e. lit≤ tt),
                (
                  (λ e. lit≤ tt),
                  ((λ e. lit≤ tt), ((λ e. lit≤ tt), ((λ e. lit≤ tt), ((λ e. lit≤ tt), ((λ e. lit≤ tt), ((λ e. lit≤ tt), ((λ e. lit≤ tt), tt))))))),
                ),
              ),
            ),
          ),
        ),
      )
      w (small e) e

  large : operates_of w ≡ false → (w ≡ 0 → ⊥) → 13 ≤ w
  large e n = ltb-false w 13 (rw (ne_eqb w 0 n) at e)

  pub none_taken : operates_of w ≡ false → takes_of (item_of w) ≡ 0
  unfolding item_of
  none_taken e = by (ℕ_discrete w 0)
    where
      by : Dec (w ≡ 0) → takes_of (item_of w) ≡ 0
      by (yes z) = rw z
      by (no n) = takes_operand w (large e n)

-- what a word that is no operation adds
module _ (vars : List Slot) (left : ℕ) (a b : Option Val) (w : ℕ) where
  pub drawn : w ≡ 13 → draw_of left ≡ made (value_step vars left (item_of w)) a b
  unfolding item_of
  drawn e = rw e

  pub looked_up : w % 256 ≡ 16
      → cond (ltb (w / 256) 16) (Some (get_or vars (slot_of w) blank).value) None ≡ made (value_step vars left (item_of w)) a b
  unfolding operand_on
  looked_up e =
      subst (λ (r : Read). cond (ltb (w / 256) 16) (Some (get_or vars (slot_of w) blank).value) None
      ≡ operand_on (get_or vars (slot_of w) blank).value
      (w / 256) left r) (sym (high w (omega arith))) (rw e) ∙ operand_word vars left a b w (omega arith)

  pub constant : operates_of w ≡ false → (w ≡ 13 → ⊥)
      → operand_on (get_or vars (slot_of w) blank).value (w / 256) 0 (operand_of (w % 256) (w / 256))
      ≡ made (value_step vars left (item_of w)) a b
  unfolding operand_on item_of
  constant e n = by (ℕ_discrete w 0)
    where
      by : Dec (w ≡ 0)
          → operand_on (get_or vars (slot_of w) blank).value (w / 256) 0 (operand_of (w % 256) (w / 256))
          ≡ made (value_step vars left (item_of w)) a b
      by (yes z) = rw z
      by (no z) =
          let h : 14 ≤ w = omega (arith, large w e z) in
          no_word _ left w h ∙ operand_word vars left a b w (omega arith)

-- a draw takes the lowest bit of the word, and what is none leaves it
pub halved : (left w : ℕ) → w ≡ 13 → left / 2 ≡ left / 2 ^ draws_in (item_of w)
unfolding item_of
halved left w e = rw e

pub undrawn : (left w : ℕ) → (w ≡ 13 → ⊥) → left ≡ left / 2 ^ draws_in (item_of w)
undrawn left w n = sym (ap (λ (k : ℕ). left / 2 ^ k) (no_draw w n) ∙ div-one left)

-- the run from here on is the whole run
pub record Going (items : List ℕ) (vars : List Slot) (word : ℕ) (stack : List ℕ) (left depth at : ℕ) : Type 0 where
  pub within : at ≤ length items
  pub shallow : depth ≤ 16
  pub slots : length stack ≡ 17
  pub same_run : run_of (value_steps vars left (drop at items)) (stack_of held_of 0 stack depth) ≡ run_of (value_steps vars word items) []
  pub same_depth : leb (deepest (drop at items) depth) 16 ≡ leb (deepest items 0) 16
  pub same_left : left / 2 ^ draws_of (drop at items) ≡ word / 2 ^ draws_of items

module _ {items : List ℕ} {vars : List Slot} {word : ℕ} {stack : List ℕ} {left depth at : ℕ}
    (g : Going items vars word stack left depth at) where
  finished : length items ≤ at → run_of [] (stack_of held_of 0 stack depth) ≡ run_of (value_steps vars word items) []
  finished h =
      ap (λ (is : List (Step (Option Val))). run_of is (stack_of held_of 0 stack depth)) (sym (value_done items at vars left h)) ∙ g.same_run

  pub stuck_here : length items ≤ at → (depth ≡ 1 → ⊥) → None ≡ value_of vars word items
  stuck_here h n = value_stuck vars word items (sym (finished h) ∙ ends held_of 0 stack depth n)

  pub gives_value : length items ≤ at → depth ≡ 1 → held_of (get_or stack 0 0) ≡ value_of vars word items
  gives_value h e =
      value_given vars word items
      (sym g.same_depth
      ∙ le-leb (deepest (drop at items) depth) 16 (omega (arith, g.shallow, deepest_done items at depth h))) (sym (finished h)
      ∙ ended held_of 0 stack depth e)

  module _ (h : at < length items) where
    step : run_of (value_step vars left (item_of (get_or items at 0)) ∷ value_steps vars (left / 2 ^ draws_in (item_of (get_or items at 0)))
        (drop (at + 1) items)) (stack_of held_of 0 stack depth) ≡ run_of (value_steps vars word items) []
    step =
        ap (λ (is : List (Step (Option Val))). run_of is (stack_of held_of 0 stack depth)) (sym (value_next items at vars left h)) ∙ g.same_run

    pub too_few : depth < takes_of (item_of (get_or items at 0)) → None ≡ value_of vars word items
    too_few l =
        value_stuck vars word items
        (sym step
        ∙ short held_of 0 (value_step vars left (item_of (get_or items at 0))) _ stack depth
        (omega (arith, value_size vars left (item_of (get_or items at 0)))))

    pub too_deep_lem : takes_of (item_of (get_or items at 0)) ≡ 0 → 16 ≤ depth → None ≡ value_of vars word items
    too_deep_lem e l =
        let deep : 16 < deepest (drop at items) depth =
        omega (arith, rw e at (deepest_next items at depth h), deepest_least (drop (at + 1) items) (depth - 0 + 1)) in
        value_deep vars word items (sym g.same_depth ∙ lt-leb (deepest (drop at items) depth) 16 deep)

    pub goes_on : (base takes v rest : ℕ) → depth ≡ base + takes → takes ≡ takes_of (item_of (get_or items at 0)) → base < 16
        → rest ≡ left / 2 ^ draws_in (item_of (get_or items at 0))
        → held_of v ≡ made (value_step vars left (item_of (get_or items at 0))) (held_of (get_or stack base 0)) (held_of (get_or stack (base + 1) 0))
        → Going items vars word (set stack base v) rest (base + 1) (at + 1)
    goes_on base takes v rest d t l r k =
        let w = get_or items at 0 in
        let after = drop (at + 1) items in
        let i = value_step vars left (item_of w) in
        let is = value_steps vars (left / 2 ^ draws_in (item_of w)) after in
        let q : depth - takes ≡ base = omega arith in
        let more : deepest (drop at items) depth ≡ max depth (deepest after (base + 1)) =
        deepest_next items at depth h ∙ ap (λ (n : ℕ). max depth (deepest after n)) (omega arith) in
        record {
          within = omega arith;
          shallow = omega arith;
          slots = simp length-set g.slots;
          same_run = ap (λ (n : ℕ). run_of (value_steps vars n after) (stack_of held_of 0 (set stack base v) (base + 1))) r
              ∙ subst (λ (b : ℕ). held_of v ≡ made i (held_of (get_or stack b 0)) (held_of (get_or stack (b + 1) 0)) → run_of is
              (stack_of held_of 0 (set stack b v) (b + 1)) ≡ run_of (i ∷ is) (stack_of held_of 0 stack depth)) q
              (went held_of 0 i is stack depth takes (t ∙ value_size vars left (item_of w)) (omega arith) (omega (arith, g.slots)) v) k
              ∙ step;
          same_depth =
              leb_same (deepest after (base + 1)) 16 (deepest (drop at items) depth) 16 (λ m. omega (arith, more, g.shallow))
              (λ m. omega (arith, more)) ∙ g.same_depth;
          same_left = ap (λ (n : ℕ). n / 2 ^ draws_of after) r ∙ left_next items at left h ∙ g.same_left;
        }
