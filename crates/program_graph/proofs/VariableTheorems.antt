-- What the variables are after an accepted plain step.
use Prim.Native.Nat.{ℕ, suc, ◌<◌}
use mathlib.Core.Path.{◌≡◌, refl, sym, ap, ◌∙◌}
use mathlib.Core.Bool.{true}
use mathlib.Core.List.{List}
use native.Mathlib.Omega.{arith}
use lib.ListN.{length, get_or}
use lib.Seq.{get_or-set_same}
use Rattle.laws.proofs.Ladder.{passed}
use Rattle.grammar.specs.Evaluation.{blank, evaluation_of}
use Rattle.grammar.specs.declared.values.Slot.{Slot}
use Rattle.grammar.specs.declared.evaluation.Evaluation.{Evaluation}
use Rattle.std.specs.Prelude.{Option, Some, None}
use Rattle.grammar.specs.declared.values.Val.{Val}
use Rattle.graph_tables.specs.Words.{effect_count, effect_var, effect_items, epsilon}
use Rattle.graph_tables.specs.Sound.{Sound}
use Rattle.run_steps.specs.Steps.{clocks_after, Effected, assigned, unchanged, effects_below, effected_of}
use Rattle.run_steps.proofs.StepLaws.{next_runs, effects_length, effects_since, effects_fit}
use Rattle.program_graph.specs.Facts.{Sized, Accepted, PlainAsked, Valued}
use Rattle.program_graph.specs.Running.{refused, moved_to, plain_of, transition_of}
use Rattle.program_graph.specs.declared.record.ProgramGraphRun.{ProgramGraphRun}
use Rattle.program_graph.specs.Outcomes.{RunOutcome}
use Rattle.program_graph.proofs.RunLaws.{fitting}
use Rattle.program_graph.proofs.RunReady.{all_pass, reached_plain}
use Rattle.program_graph.proofs.RunExactly.{plain_accepted, plain_asked, effects_valued}

-- ---- one effect that has a value
its_own : (s : Effected) (v : ℕ) (e : Option Val) (rest : ℕ) → v < length s.vars → Valued e
    → e ≡ Some (get_or (assigned s v e rest).vars v blank).value
its_own s v (Some x) rest l k = ap (λ (y : Slot). Some y.value) (sym (get_or-set_same s.vars v (record { value = x }) blank l))
its_own s v None rest l k = let z : ◌≡◌ {A = ℕ} 0 1 = cc k.1 in absurd (omega arith)

module _ (t : List ℕ) (run : ProgramGraphRun) (posts : List ℕ) (a word : ℕ) (named : a ≡ epsilon → ⊥)
    (ok : Accepted (transition_of t run a posts word).answer) where
  asked : PlainAsked t run a posts
  asked =
      (plain_asked t run posts a word named).1 (
        (λ e. omega (arith, ok.number), λ e. omega (arith, ok.number), λ e. omega (arith, ok.number)),
        (λ e. omega (arith, ok.number), λ e. omega (arith, ok.number)),
      )

  -- the run after it
  after : (transition_of t run a posts word).run ≡ moved_to run posts (effected_of t a run.vars word).vars (clocks_after t a run.times)
  unfolding plain_of
  after =
      let q = (plain_accepted t run posts a word asked).0 ok in
      ap (λ (s : RunOutcome). s.run)
      (sym (reached_plain t run posts a word asked)
      ∙ sym (passed (refused 8 run) ((all_pass t run posts a (clocks_after t a run.times)).1 q.0)
      (passed (refused 26 run) ((effects_valued t a run.vars word).1 q.1) refl)))

  -- After an accepted plain step each variable that an effect assigns has the value of the last effect on it, as it was in its turn: on
  -- the variables that the effects before it left.
  pub plain_assigns : Sized run → (e : ℕ) → e < effect_count t a
      → ((k : ℕ) → e < k → k < effect_count t a → effect_var t a k ≡ effect_var t a e → ⊥)
      → (evaluation_of (effects_below t a (unchanged run.vars word) e).vars (effects_below t a (unchanged run.vars word) e).word
      (effect_items t a e)).value
      ≡ Some (get_or (transition_of t run a posts word).run.vars (effect_var t a e) blank).value
  unfolding effects_below
  plain_assigns z e l last =
      let start : Effected = unchanged run.vars word in
      let before : Effected = effects_below t a start e in
      let v : ℕ = effect_var t a e in
      let turn : Evaluation = evaluation_of before.vars before.word (effect_items t a e) in
      let valued = ((plain_accepted t run posts a word asked).0 ok).1 in
      let fits : before.fits ≡ true
      = effects_fit t a start (effect_count t a) e (omega arith) ((effects_valued t a run.vars word).1 valued) in
      let s : Sound t = (fitting t run asked.step.fits).0 in
      let f = ((s.action a asked.action).plain asked.plain).effect e l in
      let room : v < length before.vars = omega (arith, f.var, s.counts.variables, effects_length t a start e, z.vars) in
      its_own before v turn.value turn.rest room (valued e l)
      ∙ ap (λ (y : Slot). Some y.value)
      (sym (ap (λ (r : ProgramGraphRun). get_or r.vars v blank) after
      ∙ effects_since t a start (suc e) (effect_count t a) v l last
      ∙ ap (λ (r : Effected). get_or r.vars v blank) (next_runs before v (effect_items t a e) fits)))
