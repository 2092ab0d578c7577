-- What holds of a run after any chain of calls, from a fresh run of a well-formed table.
use Prim.Native.Nat.{ℕ, ◌<◌}
use mathlib.Core.Path.{◌≡◌, refl, sym, ap, subst, ◌∙◌}
use mathlib.Core.Bool.{true, false, not, cond}
use native.Mathlib.Omega.{arith}
use mathlib.Core.List.{List, [], ◌∷◌}
use native.Mathlib.Decide.{ℕ_discrete}
use borrow.Author.Tests.{eqb-true, eq-eqb, ne_eqb}
use lib.Dec.{eqb}
use lib.ListN.{get_or, replicate}
use Rattle.laws.specs.Below.{◌and◌}
use Rattle.laws.proofs.Ladder.{passed}
use Rattle.laws.proofs.BelowLaws.{and_rest, and_both}
use Rattle.laws.proofs.Lists.{all_replicate}
use Rattle.laws.proofs.Tests.{never}
use Rattle.time.specs.Time.{in_range}
use Rattle.graph_tables.specs.Sizes.{clock_room}
use Rattle.graph_tables.specs.Words.{clock_count, process_count, place_at, reset_count, invariant_group, clock_of, limit_range, epsilon}
use Rattle.graph_tables.specs.Formed.{well_formed}
use Rattle.graph_tables.specs.Sound.{Sound}
use Rattle.graph_tables.proofs.SoundLaws.{sound}
use Rattle.run_steps.proofs.AnyLaws.{any_some, any_found}
use Rattle.program_graph.specs.Facts.{Sized, Accepted, Not, InvariantsAt, Holding}
use Rattle.program_graph.specs.Running.{refused, fits_table, autonomous_of, plain_of, acted_of, step_of, transition_of}
use Rattle.program_graph.specs.Running.{waited_of, wait_of, fresh_run, new_run_of}
use Rattle.program_graph.specs.Messaging.{refused_send, said_of, sent_of, send_of, heard_of, received_of, receive_of}
use Rattle.program_graph.specs.RunChains.{RunCall, transition, wait, send, receive, answer_to, run_after, run_after_all, is_accepted}
use Rattle.program_graph.specs.RunChains.{reset_is, resets_clock, time_on, since_reset}
use Rattle.program_graph.specs.declared.record.ProgramGraphRun.{ProgramGraphRun}
use Rattle.program_graph.specs.Outcomes.{RunOutcome, Sent}
use Rattle.program_graph.proofs.RunLaws.{chosen, left_over, either_way}
use Rattle.program_graph.proofs.RunKept.{transition_keeps, wait_keeps, send_keeps, receive_keeps, fresh_fits, start_at}
use Rattle.program_graph.proofs.AnswerLaws.{answered, skip}
use Rattle.program_graph.proofs.RunTheorems.{transition_refused, wait_refused, send_refused, receive_refused, step_holds, wait_holds_lem}
use Rattle.program_graph.proofs.RunTheorems.{send_holds, receive_holds, autonomous_still, plain_resets, plain_other_clock}
use Rattle.program_graph.proofs.RunTheorems.{wait_moves, send_still, receive_clocks}

-- ---- one call
module _ (t : List ℕ) (run : ProgramGraphRun) where
  -- Every call keeps a run one of its table's, whatever it answers.
  pub call_keeps : (call : RunCall) → fits_table t run ≡ true → Sized run
      → (fits_table t (run_after t run call) ≡ true) × Sized (run_after t run call)
  call_keeps (transition a posts word) = transition_keeps t run a posts word
  call_keeps (wait delta) = wait_keeps t run delta
  call_keeps (send a posts word) = send_keeps t run a posts word
  call_keeps (receive a posts m) = receive_keeps t run a posts m

  -- A refused call gives back the run.
  pub call_refused : (call : RunCall) → (Accepted (answer_to t run call) → ⊥) → run_after t run call ≡ run
  call_refused (transition a posts word) n = transition_refused t run a posts word n
  call_refused (wait delta) n = wait_refused t run delta n
  call_refused (send a posts word) n = (send_refused t run a posts word n).0
  call_refused (receive a posts m) n = receive_refused t run a posts m n

  -- After an accepted call the invariants of every occupied location hold.
  pub accepted_holds : (call : RunCall) → Accepted (answer_to t run call) → Sized run → Holding t (run_after t run call)
  accepted_holds (transition a posts word) e z = step_holds t run posts word a e z
  accepted_holds (wait delta) e z = wait_holds_lem t run delta e
  accepted_holds (send a posts word) e z = send_holds t run a posts word e z
  accepted_holds (receive a posts m) e z = receive_holds t run a posts m e z

  -- So they do after every call if they did before.
  pub call_holds : (call : RunCall) → Sized run → Holding t run → Holding t (run_after t run call)
  call_holds call z h =
      answered (answer_to t run call) (λ e. accepted_holds call e z)
      (λ n. subst (λ (x : ProgramGraphRun). Holding t x) (sym (call_refused call n)) h)

  -- a step resets the clocks that it says
  step_clock : (a : ℕ) (posts : List ℕ) (word c : ℕ) → Accepted (transition_of t run a posts word).answer → Sized run
      → get_or (transition_of t run a posts word).run.times c 0 ≡ cond (resets_clock t a c) 0 (get_or run.times c 0)
  unfolding resets_clock reset_is ◌and◌
  step_clock a posts word c = by (ℕ_discrete a epsilon)
    where
      by : Dec (a ≡ epsilon) → Accepted (transition_of t run a posts word).answer → Sized run
          → get_or (transition_of t run a posts word).run.times c 0 ≡ cond (resets_clock t a c) 0 (get_or run.times c 0)
      by (yes q) = rw q (λ e z. ap (λ (x : List ℕ). get_or x c 0) (autonomous_still t run posts word e).1)
      by (no n) = λ e z.
          either_way (λ (x : ℕ). get_or (transition_of t run a posts word).run.times c 0 ≡ x) (resets_clock t a c) 0 (get_or run.times c 0)
          (λ r.
          let s = any_some (reset_is t a c) (reset_count t a) (and_rest (not (eqb a epsilon)) _ r) in
          subst (λ (x : ℕ). get_or (transition_of t run a posts word).run.times x 0 ≡ 0) (eqb-true _ _ s.2)
          (plain_resets t run posts word a n e z s.0 s.1))
          (λ r.
          plain_other_clock t run posts word a n e c (λ i l q.
          never (sym r ∙ and_both (ap not (ne_eqb a epsilon n)) (any_found (reset_is t a c) (reset_count t a) i l (eq-eqb _ _ q)))))

  -- an accepted call moves a clock as it says
  accepted_clock : (call : RunCall) (c : ℕ) → Accepted (answer_to t run call) → Sized run → c < clock_count t
      → get_or (run_after t run call).times c 0 ≡ time_on t c call (get_or run.times c 0)
  accepted_clock (transition a posts word) c e z l = step_clock a posts word c e z
  accepted_clock (wait delta) c e z l = wait_moves t run delta e z c l
  accepted_clock (send a posts word) c e z l = ap (λ (x : List ℕ). get_or x c 0) (send_still t run a posts word e).1
  accepted_clock (receive a posts m) c e z l = ap (λ (x : List ℕ). get_or x c 0) (receive_clocks t run a posts m e)

  -- and any call
  pub call_clock : (call : RunCall) (c : ℕ) → Sized run → c < clock_count t
      → get_or (run_after t run call).times c 0
      ≡ cond (is_accepted (answer_to t run call)) (time_on t c call (get_or run.times c 0)) (get_or run.times c 0)
  call_clock call c z l =
      let time : ℕ = get_or run.times c 0 in
      answered (answer_to t run call)
      (λ e. chosen time (eq-eqb _ _ e.number) (accepted_clock call c e z l))
      (λ n. left_over _ (ne_eqb _ _ (λ q. n (record { number = q })))
      (ap (λ (x : ProgramGraphRun). get_or x.times c 0) (call_refused call n)))

  -- ---- 32
  -- On a run that is one of its table's no call answers 32.
  pub call_known : (call : RunCall) → fits_table t run ≡ true → Not 32 (answer_to t run call)
  unfolding transition_of step_of autonomous_of acted_of plain_of wait_of waited_of send_of sent_of said_of receive_of received_of heard_of
  call_known (transition a posts word) f =
      subst (λ (s : RunOutcome). Not 32 s.answer) (passed (refused 32 run) f refl)
      (skip (λ (s : RunOutcome). s.answer) 32 _ (refused 7 run) _ (λ e. omega arith)
      (skip (λ (s : RunOutcome). s.answer) 32 _ (refused 3 run) _ (λ e. omega arith)
      (either_way (λ (s : RunOutcome). Not 32 s.answer) (eqb a epsilon) _ _
      (λ q. skip (λ (s : RunOutcome). s.answer) 32 _ (refused 8 run) _ (λ e. omega arith)
      (λ e. omega arith))
      (λ q. skip (λ (s : RunOutcome). s.answer) 32 _ (refused 1 run) _ (λ e. omega arith)
      (skip (λ (s : RunOutcome). s.answer) 32 _ (refused 13 run) _ (λ e. omega arith)
      (skip (λ (s : RunOutcome). s.answer) 32 _ (refused 8 run) _ (λ e. omega arith)
      (skip (λ (s : RunOutcome). s.answer) 32 _ (refused 26 run) _ (λ e. omega arith)
      (λ e. omega arith))))))))
  call_known (wait delta) f =
      subst (λ (s : RunOutcome). Not 32 s.answer) (passed (refused 32 run) f refl)
      (skip (λ (s : RunOutcome). s.answer) 32 _ (refused 26 run) _ (λ e. omega arith)
      (skip (λ (s : RunOutcome). s.answer) 32 _ (refused 9 run) _ (λ e. omega arith)
      (λ e. omega arith)))
  call_known (send a posts word) f =
      subst (λ (s : Sent). Not 32 s.answer) (passed (refused_send 32 run) f refl)
      (skip (λ (s : Sent). s.answer) 32 _ (refused_send 14 run) _ (λ e. omega arith)
      (skip (λ (s : Sent). s.answer) 32 _ (refused_send 7 run) _ (λ e. omega arith)
      (skip (λ (s : Sent). s.answer) 32 _ (refused_send 8 run) _ (λ e. omega arith)
      (skip (λ (s : Sent). s.answer) 32 _ (refused_send 14 run) _ (λ e. omega arith)
      (skip (λ (s : Sent). s.answer) 32 _ (refused_send 26 run) _ (λ e. omega arith)
      (λ e. omega arith))))))
  call_known (receive a posts m) f =
      subst (λ (s : RunOutcome). Not 32 s.answer) (passed (refused 32 run) f refl)
      (skip (λ (s : RunOutcome). s.answer) 32 _ (refused 15 run) _ (λ e. omega arith)
      (skip (λ (s : RunOutcome). s.answer) 32 _ (refused 7 run) _ (λ e. omega arith)
      (skip (λ (s : RunOutcome). s.answer) 32 _ (refused 8 run) _ (λ e. omega arith)
      (skip (λ (s : RunOutcome). s.answer) 32 _ (refused 15 run) _ (λ e. omega arith)
      (skip (λ (s : RunOutcome). s.answer) 32 _ (refused 5 run) _ (λ e. omega arith)
      (λ e. omega arith))))))

-- ---- a chain, from a run that is one of its table's
module _ (t : List ℕ) where
  chain_keeps : (run : ProgramGraphRun) (calls : List RunCall) → fits_table t run ≡ true → Sized run
      → (fits_table t (run_after_all t run calls) ≡ true) × Sized (run_after_all t run calls)
  chain_keeps run [] f z = (f, z)
  chain_keeps run (call ∷ calls) f z =
      let k = call_keeps t run call f z in
      chain_keeps (run_after t run call) calls k.0 k.1

  chain_holds : (run : ProgramGraphRun) (calls : List RunCall) → fits_table t run ≡ true → Sized run → Holding t run
      → Holding t (run_after_all t run calls)
  chain_holds run [] f z h = h
  chain_holds run (call ∷ calls) f z h =
      let k = call_keeps t run call f z in
      chain_holds (run_after t run call) calls k.0 k.1 (call_holds t run call z h)

  chain_clock : (run : ProgramGraphRun) (calls : List RunCall) (c : ℕ) → fits_table t run ≡ true → Sized run → c < clock_count t
      → get_or (run_after_all t run calls).times c 0 ≡ since_reset t c run calls (get_or run.times c 0)
  chain_clock run [] c f z l = refl
  chain_clock run (call ∷ calls) c f z l =
      let k = call_keeps t run call f z in
      chain_clock (run_after t run call) calls c k.0 k.1 l
      ∙ ap (λ (x : ℕ). since_reset t c (run_after t run call) calls x) (call_clock t run call c z l)

-- ---- a chain, from a fresh run of a well-formed table
module _ (t : List ℕ) (formed : well_formed t false ≡ true) where
  -- it is the fresh run
  fresh : fresh_run t ≡ (new_run_of t).run
  unfolding new_run_of
  fresh = ap (λ (s : RunOutcome). s.run) (passed _ formed refl)

  -- whose clocks are all 0
  pub zero_clock : (c : ℕ) → get_or (new_run_of t).run.times c 0 ≡ 0
  zero_clock c = subst (λ (r : ProgramGraphRun). get_or r.times c 0 ≡ 0) fresh (all_replicate (λ (x : ℕ). x ≡ 0) 0 clock_room 0 refl refl c)

  -- and whose processes are where time 0 is inside
  pub fresh_holds : Holding t (new_run_of t).run
  fresh_holds =
      let s : Sound t = sound t false formed in
      subst (λ (r : ProgramGraphRun). Holding t r) fresh (λ p l.
      subst (λ (x : ℕ). InvariantsAt t (replicate clock_room 0) x) (sym (start_at t (process_count t) p l s.counts.processes)) (λ i k.
      subst (λ (x : ℕ). in_range (limit_range t (invariant_group (place_at t p)) i) x ≡ true)
      (sym (all_replicate (λ (x : ℕ). x ≡ 0) 0 clock_room 0 refl refl (clock_of t (invariant_group (place_at t p)) i)))
      ((s.process p l).zero_in_range i k)))

  -- After every chain of calls the run is one of its table's.
  pub chain_fits : (calls : List RunCall)
      → (fits_table t (run_after_all t (new_run_of t).run calls) ≡ true) × Sized (run_after_all t (new_run_of t).run calls)
  chain_fits calls = let q = fresh_fits t formed in chain_keeps t (new_run_of t).run calls q.0 q.1

  -- No call after a chain answers 32.
  pub chain_known : (calls : List RunCall) (call : RunCall) → Not 32 (answer_to t (run_after_all t (new_run_of t).run calls) call)
  chain_known calls call = call_known t (run_after_all t (new_run_of t).run calls) call (chain_fits calls).0

  -- After every chain of calls the invariants of every occupied location hold.
  pub chain_invariants : (calls : List RunCall) → Holding t (run_after_all t (new_run_of t).run calls)
  chain_invariants calls = let q = fresh_fits t formed in chain_holds t (new_run_of t).run calls q.0 q.1 fresh_holds

  -- After every chain of calls each clock reads the sum of the accepted waits since its last accepted reset.
  pub chain_clocks : (calls : List RunCall) (c : ℕ) → c < clock_count t
      → get_or (run_after_all t (new_run_of t).run calls).times c 0 ≡ since_reset t c (new_run_of t).run calls 0
  chain_clocks calls c l =
      let q = fresh_fits t formed in
      chain_clock t (new_run_of t).run calls c q.0 q.1 l ∙ ap (λ (x : ℕ). since_reset t c (new_run_of t).run calls x) (zero_clock c)
