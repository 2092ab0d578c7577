-- On a run that fits its table a public call answers as its inner form does, and slots past the counts come back as they went in.
use Prim.Native.Nat.{ℕ, zero, suc, ◌<◌, ◌≤◌}
use mathlib.Core.Path.{◌≡◌, refl, sym, ◌∙◌}
use mathlib.Core.Bool.{Bool, true, false, cond}
use mathlib.Core.List.{List}
use native.Mathlib.Omega.{arith}
use lib.Dec.{eqb}
use lib.ListN.{get_or}
use lib.Seq.{get_or-set_other}
use borrow.Author.Tests.{eqb-true, ltb-true}
use Rattle.laws.proofs.Ladder.{passed, rung}
use Rattle.laws.proofs.BelowLaws.{and_first, and_rest}
use Rattle.grammar.specs.Evaluation.{blank}
use Rattle.graph_tables.specs.Sizes.{plain_kind, receive_kind}
use Rattle.graph_tables.specs.Words.{action_count, action_kind, reset_count, epsilon}
use Rattle.graph_tables.specs.Sound.{Sound}
use Rattle.graph_tables.specs.declared.handed.Message.{Message}
use Rattle.run_steps.specs.Steps.{placed_below, clocks_after}
use Rattle.run_steps.proofs.StepLaws.{reset_other, unmoved}
use Rattle.run_steps.proofs.AgreeLaws.{effected_past, taken_past}
use Rattle.program_graph.specs.Running.{run_formed, fits_table, refused, autonomous_of, plain_of, acted_of, step_of}
use Rattle.program_graph.specs.Running.{transition_of, waited_of, wait_of}
use Rattle.program_graph.specs.Messaging.{refused_send, said_of, sent_of, send_of, heard_of, received_of, receive_of}
use Rattle.program_graph.specs.declared.record.ProgramGraphRun.{ProgramGraphRun}
use Rattle.program_graph.specs.Outcomes.{RunOutcome, Sent}
use Rattle.program_graph.proofs.LeaveLaws.{variables_same, clocks_same}

-- ---- public and inner
module _ (t : List ℕ) (run : ProgramGraphRun) (h : fits_table t run ≡ true) where
  pub transition_inner : (a : ℕ) (posts : List ℕ) (word : ℕ) → transition_of t run a posts word ≡ step_of t run a posts word
  unfolding transition_of
  transition_inner a posts word = sym (passed (refused 32 run) h refl)

  pub wait_inner : (delta : ℕ) → wait_of t run delta ≡ waited_of t run delta
  unfolding wait_of
  wait_inner delta = sym (passed (refused 32 run) h refl)

  pub send_inner : (a : ℕ) (posts : List ℕ) (word : ℕ) → send_of t run a posts word ≡ sent_of t run a posts word
  unfolding send_of
  send_inner a posts word = sym (passed (refused_send 32 run) h refl)

  pub receive_inner : (a : ℕ) (posts : List ℕ) (m : Message) → receive_of t run a posts m ≡ received_of t run a posts m
  unfolding receive_of
  receive_inner a posts m = sym (passed (refused 32 run) h refl)

-- ---- slots past the counts
-- what one run has there is what another has
pub record Spare (run after : ProgramGraphRun) : Type 0 where
  pub places : (p : ℕ) → run.processes ≤ p → get_or after.places p 0 ≡ get_or run.places p 0
  pub vars : (v : ℕ) → run.variables ≤ v → get_or after.vars v blank ≡ get_or run.vars v blank
  pub times : (c : ℕ) → run.clocks ≤ c → get_or after.times c 0 ≡ get_or run.times c 0

placed_past : (places posts : List ℕ) (n p : ℕ) → n ≤ p → get_or (placed_below places posts n) p 0 ≡ get_or places p 0
unfolding placed_below
placed_past places posts zero p l = refl
placed_past places posts (suc n) p l =
    get_or-set_other (placed_below places posts n) n p (get_or posts n 0) 0 (λ q. omega arith) ∙ placed_past places posts n p (omega arith)

module _ (t : List ℕ) (run : ProgramGraphRun) (sound : Sound t) (formed : run_formed t run ≡ true) where
  same : Spare run run
  same = record { places = λ p l. refl; vars = λ v l. refl; times = λ c l. refl }

  abbrev Steps : RunOutcome → Type 0
  Steps s = Spare run s.run

  placed : (posts : List ℕ) (p : ℕ) → run.processes ≤ p → get_or (placed_below run.places posts run.processes) p 0 ≡ get_or run.places p 0
  placed posts p l = placed_past run.places posts run.processes p l

  reset : (a c : ℕ) → a < action_count t → run.clocks ≤ c → get_or (clocks_after t a run.times) c 0 ≡ get_or run.times c 0
  reset a c known l =
      reset_other t a run.times (reset_count t a) c
      (λ i m q. omega (arith, (sound.action a known).resets.clock i m, clocks_same t run formed))

  autonomous_spare : (posts : List ℕ) → Steps (autonomous_of t run posts)
  unfolding autonomous_of
  autonomous_spare posts = rung Steps _ _ _ same (λ e. record { places = placed posts; vars = λ v l. refl; times = λ c l. refl })

  acted_spare : (a : ℕ) (posts : List ℕ) (word : ℕ) → Steps (acted_of t run a posts word)
  unfolding acted_of plain_of
  acted_spare a posts word =
      rung Steps _ _ _ same (λ e.
      rung Steps _ _ _ same (λ f.
      rung Steps _ _ _ same (λ g.
      rung Steps _ _ _ same (λ h.
      let known = ltb-true a (action_count t) e in
      let plain = eqb-true (action_kind t a) plain_kind f in
      record {
        places = placed posts;
        vars = λ v l. effected_past t sound run.vars a word v known plain (omega (arith, variables_same t run formed));
        times = λ c l. reset a c known l;
      }))))

  pub step_spare : (a : ℕ) (posts : List ℕ) (word : ℕ) → Spare run (step_of t run a posts word).run
  unfolding step_of
  step_spare a posts word = rung Steps _ _ _ same (λ e. rung Steps _ _ _ same (λ f. by (eqb a epsilon)))
    where
      by : (b : Bool) → Steps (cond b (autonomous_of t run posts) (acted_of t run a posts word))
      by true = autonomous_spare posts
      by false = acted_spare a posts word

  pub wait_spare : (delta : ℕ) → Spare run (waited_of t run delta).run
  unfolding waited_of
  wait_spare delta =
      rung (λ (w : RunOutcome). Spare run w.run) _ _ _ same (λ e.
      rung (λ (w : RunOutcome). Spare run w.run) _ _ _ same (λ f.
      record { places = λ p l. refl; vars = λ v l. refl; times = λ c l. unmoved run.times delta run.clocks c l }))

  pub send_spare : (a : ℕ) (posts : List ℕ) (word : ℕ) → Spare run (sent_of t run a posts word).run
  unfolding sent_of said_of
  send_spare a posts word =
      rung (λ (s : Sent). Spare run s.run) _ _ _ same (λ e.
      rung (λ (s : Sent). Spare run s.run) _ _ _ same (λ f.
      rung (λ (s : Sent). Spare run s.run) _ _ _ same (λ g.
      rung (λ (s : Sent). Spare run s.run) _ _ _ same (λ h.
      rung (λ (s : Sent). Spare run s.run) _ _ _ same (λ k.
      record { places = placed posts; vars = λ v l. refl; times = λ c l. refl })))))

  pub receive_spare : (a : ℕ) (posts : List ℕ) (m : Message) → Spare run (received_of t run a posts m).run
  unfolding received_of heard_of
  receive_spare a posts m =
      rung (λ (s : RunOutcome). Spare run s.run) _ _ _ same (λ e.
      rung (λ (s : RunOutcome). Spare run s.run) _ _ _ same (λ f.
      rung (λ (s : RunOutcome). Spare run s.run) _ _ _ same (λ g.
      rung (λ (s : RunOutcome). Spare run s.run) _ _ _ same (λ h.
      rung (λ (s : RunOutcome). Spare run s.run) _ _ _ same (λ k.
      let known = ltb-true a (action_count t) (and_first _ _ h) in
      let receive = eqb-true (action_kind t a) receive_kind (and_rest _ _ h) in
      record {
        places = placed posts;
        vars = λ v l. taken_past t sound run.vars a v m known receive (omega (arith, variables_same t run formed));
        times = λ c l. refl;
      })))))
