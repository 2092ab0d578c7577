-- A graph's own plain step that answers 8: its posts are right, and some process has no candidate that passes.
use Prim.Native.Nat.{ℕ}
use mathlib.Core.Path.{◌≡◌, refl, sym, subst}
use mathlib.Core.Bool.{Bool, true, false, cond}
use mathlib.Core.List.{List}
use native.Mathlib.Omega.{arith}
use borrow.Author.Tests.{eqb-true, ltb-true, le-ltb}
use lib.Dec.{eqb, ltb}
use lib.ListN.{length}
use Rattle.laws.specs.Ladder.{unless}
use Rattle.laws.specs.Below.{all_below}
use Rattle.laws.proofs.BelowLaws.{all_at, and_both, and_no}
use Rattle.graph_tables.specs.Answers.{answer_number}
use Rattle.graph_tables.specs.Sizes.{plain_kind}
use Rattle.graph_tables.specs.Sound.{Sound}
use Rattle.graph_tables.specs.Words.{action_count, action_kind, epsilon}
use Rattle.run_steps.specs.Steps.{post_known, ready_of, is_kind, clocks_after, effected_of}
use Rattle.run_steps.specs.Listing.{clocks_by}
use Rattle.program_graph.specs.Running.{step_of, autonomous_of, acted_of, plain_of, ready_still, refused, accepted}
use Rattle.program_graph.specs.declared.record.ProgramGraphRun.{ProgramGraphRun}
use Rattle.program_graph.specs.Outcomes.{RunOutcome}
use Rattle.explainer.specs.Facts.{Asked}

abbrev number : RunOutcome → ℕ
number s = answer_number s.answer

-- a rung that answers another number is passed
passed_on : (b : Bool) (refusal rest : RunOutcome) → number (unless b refusal rest) ≡ 8 → (number refusal ≡ 8 → ⊥) → (b ≡ true) × (number rest ≡ 8)
unfolding unless
passed_on true refusal rest h n = (refl, h)
passed_on false refusal rest h n = absurd (n h)

-- one behind which 8 does not come is where it stops
stopped_at : (b : Bool) (refusal rest : RunOutcome) → number (unless b refusal rest) ≡ 8 → (number rest ≡ 8 → ⊥) → b ≡ false
unfolding unless
stopped_at true refusal rest h n = absurd (n h)
stopped_at false refusal rest h n = refl

-- the clocks after: with a plain action's resets done, and as they are by EPSILON
by_plain : (t : List ℕ) (a : ℕ) (clocks : List ℕ) → ltb a (action_count t) ≡ true → eqb (action_kind t a) plain_kind ≡ true
    → clocks_after t a clocks ≡ clocks_by t a clocks
by_plain t a clocks l e = rw (and_both l e)

by_epsilon : (t : List ℕ) (clocks : List ℕ) → Sound t → clocks ≡ clocks_by t epsilon clocks
by_epsilon t clocks s =
    let no : is_kind t epsilon plain_kind ≡ false = sym (and_no _ (le-ltb epsilon (action_count t) (omega (arith, s.counts.actions)))) in
    rw no

module _ (t : List ℕ) (sound : Sound t) (run : ProgramGraphRun) (posts : List ℕ) where
  after_guards : (b : Bool) (r : ProgramGraphRun) → number (unless b (refused 26 run) (accepted r)) ≡ 8 → ⊥
  unfolding unless
  after_guards true r h = omega arith
  after_guards false r h = omega arith

  -- by which clocks, and which action
  abbrev Unready : ℕ → Type 0
  Unready a = ready_of t run.vars run.times (clocks_by t a run.times) run.places run.processes a posts ≡ false

  unready_epsilon : number (autonomous_of t run posts) ≡ 8 → Unready epsilon
  unfolding autonomous_of
  unready_epsilon h =
      subst (λ (after : List ℕ). ready_of t run.vars run.times after run.places run.processes epsilon posts ≡ false)
      (by_epsilon t run.times sound)
      (stopped_at (ready_still t run epsilon posts) _ _ h (λ e. omega arith))

  unready_plain : (a word : ℕ) → number (acted_of t run a posts word) ≡ 8 → Unready a
  unfolding acted_of plain_of
  unready_plain a word h =
      let known = passed_on (ltb a (action_count t)) _ _ h (λ e. omega arith) in
      let plain = passed_on (eqb (action_kind t a) plain_kind) _ _ known.1 (λ e. omega arith) in
      subst (λ (after : List ℕ). ready_of t run.vars run.times after run.places run.processes a posts ≡ false)
      (by_plain t a run.times known.0 plain.0)
      (stopped_at (ready_of t run.vars run.times (clocks_after t a run.times) run.places run.processes a posts) _ _ plain.1
      (after_guards (effected_of t a run.vars word).fits _))

  pub eight_asked : (a word : ℕ) → number (step_of t run a posts word) ≡ 8 → Asked t run a posts
  unfolding step_of ready_of post_known
  eight_asked a word h =
      let one = passed_on (eqb (length posts) run.processes) _ _ h (λ e. omega arith) in
      let each = passed_on (all_below (length posts) (post_known t posts)) _ _ one.1 (λ e. omega arith) in
      record {
        one_each = eqb-true _ _ one.0;
        known = λ p l. ltb-true _ _ (all_at (post_known t posts) (length posts) p each.0 l);
        unready = by (eqb a epsilon) refl each.1;
      }
    where
      by : (b : Bool) → eqb a epsilon ≡ b → number (cond b (autonomous_of t run posts) (acted_of t run a posts word)) ≡ 8 → Unready a
      by true e f = subst Unready (sym (eqb-true a epsilon e)) (unready_epsilon f)
      by false e f = unready_plain a word f
