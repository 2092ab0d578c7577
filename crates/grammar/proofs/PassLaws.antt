-- One turn of the pass that types an expression.
use Prim.Native.Nat.{ℕ, ◌+◌, ◌-◌, ◌*◌, ◌/◌, ◌%◌, ◌^◌, ◌≤◌, ◌<◌, max}
use mathlib.Core.Path.{◌≡◌, refl, sym, ap, ◌∙◌, subst}
use mathlib.Core.List.{List, [], ◌∷◌}
use native.Mathlib.Omega.{arith}
use lib.ListN.{length, get_or, drop}
use lib.Pow.{pow_mono}
use Rattle.grammar.specs.Items.{item_of, operand_of, takes_of, deepest}
use Rattle.grammar.specs.Draws.{draws_in, draws_of}
use Rattle.grammar.specs.Run.{Step, Ran, gives, run_of, made}
use Rattle.grammar.specs.Typing.{Kinded, ill, kinded_at, kind_step, kind_steps, judged}
use Rattle.grammar.specs.Inner.{kinded_word, operand_kind, plane_of, Left, code_of}
use Rattle.grammar.specs.declared.typing.Typed.{Typed}
use Rattle.grammar.specs.declared.typing.Typed.TheVariants.{IllTyped}
use Rattle.grammar.specs.declared.waiting.Waiting.{Waiting}
use Rattle.grammar.proofs.ItemLaws.{no_draw, takes_operand}
use Rattle.grammar.proofs.KindLaws.{operand_word}
use Rattle.grammar.proofs.IllLaws.{kinded_back, ill_typed}
use Rattle.grammar.proofs.DrawLaws.{draws_next, draws_done}
use Rattle.grammar.proofs.StepLaws.{kind_size, kind_next, kind_done, deepest_next, deepest_least, deepest_push, deepest_done}
use Rattle.grammar.proofs.PlaneLaws.{no_variables, added, taken, doubled, ends, ended}

-- the run from here on is the whole run, and so are the draws and the operands that wait
pub record Pass (items kinds : List ℕ) (depth integers most draws at : ℕ) : Type 0 where
  pub within : at ≤ length items
  pub shallow : depth ≤ at
  pub reached : depth ≤ most
  pub small : integers < 2 ^ depth
  pub same_draws : draws + 8 * draws_of (drop at items) ≡ 8 * draws_of items
  pub same_run : run_of (kind_steps kinds (drop at items)) (plane_of depth integers) ≡ run_of (kind_steps kinds items) []
  pub same_depth : max most (deepest (drop at items) depth) ≡ deepest items 0

pub start : (items kinds : List ℕ) → Pass items kinds 0 0 0 0 0
unfolding plane_of
start items kinds =
    record {
      within = omega arith;
      shallow = omega arith;
      reached = omega arith;
      small = omega arith;
      same_draws = omega arith;
      same_run = refl;
      same_depth = omega (arith, deepest_least items 0);
    }

-- the answer of a run
abbrev answer : List ℕ → List ℕ → Ran Kinded → ℕ
answer items kinds r = code_of (judged r (deepest items 0)) (draws_of items)

abbrev pub Answer : List ℕ → List ℕ → ℕ
Answer items kinds = answer items kinds (run_of (kind_steps kinds items) [])

ill_answer : (items : List ℕ) (t : Typed) → t ≡ IllTyped → 4 ≡ code_of t (draws_of items)
ill_answer items t e = ap (λ (u : Typed). code_of u (draws_of items)) (sym e)

module _ {items kinds : List ℕ} {depth integers most draws at : ℕ} (p : Pass items kinds depth integers most draws at) where
  finished : length items ≤ at → run_of [] (plane_of depth integers) ≡ run_of (kind_steps kinds items) []
  finished h = ap (λ (is : List (Step Kinded)). run_of is (plane_of depth integers)) (sym (kind_done items at kinds h)) ∙ p.same_run

  -- not exactly one operand is left
  pub stuck_here : length items ≤ at → (depth ≡ 1 → ⊥) → 4 ≡ Answer items kinds
  stuck_here h n = ap (answer items kinds) (sym (ends depth integers n) ∙ finished h)

  pub gives_kind : length items ≤ at → depth ≡ 1 → code_of (judged (gives (kinded_at integers)) most) (draws_of items) ≡ Answer items kinds
  gives_kind h e =
      let d : most ≡ deepest items 0 = omega (arith, p.reached, p.same_depth, deepest_done items at depth h) in
      ap (λ (n : ℕ). code_of (judged (gives (kinded_at integers)) n) (draws_of items)) d
      ∙ ap (answer items kinds) (sym (ended depth integers e p.small) ∙ finished h)

  pub last : depth ≡ 1 → integers ≤ 1
  last e = let l : integers < 2 ^ 1 = subst (λ (n : ℕ). integers < 2 ^ n) e p.small in omega arith

  -- one more operand has its bit
  pub room : at < 64 → integers < 9223372036854775808
  room h = let m : 2 ^ depth ≤ 2 ^ 63 = pow_mono {j = 63} (omega (arith, p.shallow)) in omega (arith, p.small)

  pub all_drawn : length items ≤ at → draws ≡ 8 * draws_of items
  all_drawn h = omega (arith, p.same_draws, draws_done items at h)

  module _ (h : at < length items) where
    abbrev w : ℕ
    w = get_or items at 0

    abbrev after : List (Step Kinded)
    after = kind_steps kinds (drop (at + 1) items)

    step : run_of (kind_step kinds (item_of (get_or items at 0)) ∷ kind_steps kinds (drop (at + 1) items)) (plane_of depth integers)
        ≡ run_of (kind_steps kinds items) []
    step = ap (λ (is : List (Step Kinded)). run_of is (plane_of depth integers)) (sym (kind_next items at kinds h)) ∙ p.same_run

    -- an operation
    pub operation : get_or items at 0 < 13 → (r : Waiting) → Left (kind_step [] (item_of (get_or items at 0))) depth integers r → 1 ≤ r.depth
        → Pass items kinds r.depth r.integers most draws (at + 1)
    operation l r x one =
        let e : r.depth ≡ depth - takes_of (item_of w) + 1 = x.exact one ∙ ap (λ (n : ℕ). depth - n + 1) (sym (kind_size [] (item_of w))) in
        record {
          within = omega arith;
          shallow = omega (arith, p.shallow, x.fewer);
          reached = omega (arith, p.reached, x.fewer);
          small = x.small;
          same_draws = omega (arith, p.same_draws, draws_next items at h, no_draw w (λ z. omega arith));
          same_run =
              x.goes one after ∙ ap (λ (i : Step Kinded). run_of (i ∷ after) (plane_of depth integers)) (no_variables kinds w l) ∙ step;
          same_depth =
              ap (λ (n : ℕ). max most (deepest (drop (at + 1) items) n)) e
              ∙ omega (arith, p.reached, p.same_depth, deepest_next items at depth h);
        }

    pub no_operation : get_or items at 0 < 13 → (r : Waiting) → Left (kind_step [] (item_of (get_or items at 0))) depth integers r → r.depth ≡ 0
        → 4 ≡ Answer items kinds
    no_operation l r x z =
        ill_answer items (judged (run_of (kind_steps kinds items) []) (deepest items 0))
        (ap (λ (s : Ran Kinded). judged s (deepest items 0))
        (sym step ∙ ap (λ (i : Step Kinded). run_of (i ∷ after) (plane_of depth integers)) (sym (no_variables kinds w l)))
        ∙ x.fails z (deepest items 0) kinds (drop (at + 1) items))

    -- an operand of kind k
    pub operand : 13 ≤ get_or items at 0 → (k bits much more : ℕ) → (x y : Kinded)
        → kinded_at k ≡ made (kind_step kinds (item_of (get_or items at 0))) x y → bits % 2 ≡ k → bits / 2 ≡ integers → bits ≤ 2 * integers + 1
        → much ≡ max most (depth + 1) → more ≡ draws + 8 * draws_in (item_of (get_or items at 0))
        → Pass items kinds (depth + 1) bits much more (at + 1)
    operand l k bits much more x y e b q s m d =
        record {
          within = omega arith;
          shallow = omega (arith, p.shallow);
          reached = omega arith;
          small = doubled depth integers bits p.small s;
          same_draws = omega (arith, p.same_draws, draws_next items at h);
          same_run =
              added (kind_step kinds (item_of w)) after depth integers bits k (sym (kind_size kinds (item_of w)) ∙ takes_operand w l) x y e b q
              ∙ step;
          same_depth =
              omega (arith, p.reached, p.same_depth, deepest_least (drop (at + 1) items) (depth + 1), deepest_push items at depth h l);
        }

    -- a word that is no operation has a kind as an operand, or none; a draw has none there
    module _ (k : ℕ) (e : k ≡ kinded_word (operand_kind kinds (operand_of (get_or items at 0 % 256) (get_or items at 0 / 256)))) where
      no_kind_lem : get_or items at 0 ≡ 13 → k ≡ 2
      unfolding operand_kind
      no_kind_lem z = e ∙ ap (λ (n : ℕ). kinded_word (operand_kind kinds (operand_of (n % 256) (n / 256)))) z

      pub constant : 13 ≤ get_or items at 0 → k < 2 → (much : ℕ) → much ≡ max most (depth + 1)
          → Pass items kinds (depth + 1) (2 * integers + k) much draws (at + 1)
      constant l s much m =
          let n : get_or items at 0 ≡ 13 → ⊥ = λ z. omega (arith, no_kind_lem z) in
          operand l k (2 * integers + k) much draws ill ill (ap kinded_at e ∙ kinded_back _ ∙ operand_word kinds w (omega arith))
          (omega arith) (omega arith) (omega arith) m (omega (arith, no_draw w n))

      pub no_constant : 14 ≤ get_or items at 0 → 2 ≤ k → 4 ≡ Answer items kinds
      no_constant l s =
          ill_answer items (judged (run_of (kind_steps kinds items) []) (deepest items 0))
          (ap (λ (r : Ran Kinded). judged r (deepest items 0)) (sym step ∙ sym pushed)
          ∙ ill_typed (deepest items 0) kinds (drop (at + 1) items) _ (plane_of depth integers)
          (omega (arith, e, ap kinded_word (operand_word kinds w l))))
        where
          pushed : run_of after (made (kind_step kinds (item_of w)) ill ill ∷ plane_of depth integers)
              ≡ run_of (kind_step kinds (item_of w) ∷ after) (plane_of depth integers)
          pushed =
              taken (kind_step kinds (item_of w)) after (plane_of depth integers)
              (sym (kind_size kinds (item_of w)) ∙ takes_operand w (omega arith))

    pub drawn : get_or items at 0 ≡ 13 → (much : ℕ) → much ≡ max most (depth + 1)
        → Pass items kinds (depth + 1) (2 * integers) much (draws + 8) (at + 1)
    unfolding item_of
    drawn e much m =
        operand (omega arith) 0 (2 * integers) much (draws + 8) ill ill (ap (λ (n : ℕ). made (kind_step kinds (item_of n)) ill ill) (sym e))
        (omega arith) (omega arith) (omega arith) m
        (ap (λ (n : ℕ). draws + 8 * draws_in (item_of n)) (sym e))
