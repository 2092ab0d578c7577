-- What a clock reads: the accepted waits since its last accepted reset.
use Prim.Native.Nat.{ℕ, ◌+◌, ◌<◌}
use mathlib.Core.Path.{◌≡◌, refl, ap, ◌∙◌}
use mathlib.Core.Bool.{Bool, true, false, cond}
use mathlib.Core.List.{List, [], ◌∷◌, ◌++◌}
use native.Mathlib.Omega.{arith}
use lib.ListN.{get_or}
use Rattle.graph_tables.specs.Words.{clock_count}
use Rattle.graph_tables.specs.Formed.{well_formed}
use Rattle.program_graph.specs.Running.{new_run_of}
use Rattle.program_graph.specs.RunChains.{RunCall, transition, wait, send, receive, answer_to, run_after, run_after_all, is_accepted}
use Rattle.program_graph.specs.RunChains.{resets_clock, time_on, since_reset, delta_of, accepted_waits, reset_by, NoReset}
use Rattle.program_graph.specs.declared.record.ProgramGraphRun.{ProgramGraphRun}
use Rattle.program_graph.proofs.RunChains.{chain_clocks}

module _ (t : List ℕ) (c : ℕ) where
  -- one accepted call that does not reset the clock takes its time
  moves_on : (call : RunCall) (x : ℕ) → reset_by t c call ≡ false → time_on t c call x ≡ x + delta_of call
  moves_on (transition a posts word) x n = ap (λ (b : Bool). cond b 0 x) n ∙ omega arith
  moves_on (wait delta) x n = refl
  moves_on (send a posts word) x n = omega arith
  moves_on (receive a posts m) x n = omega arith

  pub one_call : (b : Bool) (call : RunCall) (x : ℕ) → (b ≡ true → reset_by t c call ≡ false)
      → cond b (time_on t c call x) x ≡ x + cond b (delta_of call) 0
  one_call true call x n = moves_on call x (n refl)
  one_call false call x n = omega arith

  -- While nothing resets it a clock goes on by the accepted waits.
  pub goes_on : (run : ProgramGraphRun) (calls : List RunCall) (x : ℕ) → NoReset t c run calls
      → since_reset t c run calls x ≡ x + accepted_waits t run calls
  goes_on run [] x n = omega arith
  goes_on run (call ∷ calls) x n =
      goes_on (run_after t run call) calls (cond (is_accepted (answer_to t run call)) (time_on t c call x) x) n.1
      ∙ omega (arith, one_call (is_accepted (answer_to t run call)) call x n.0)

  -- a chain in two parts
  since_both : (run : ProgramGraphRun) (first second : List RunCall) (x : ℕ)
      → since_reset t c run (first ++ second) x ≡ since_reset t c (run_after_all t run first) second (since_reset t c run first x)
  since_both run [] second x = refl
  since_both run (call ∷ calls) second x =
      since_both (run_after t run call) calls second (cond (is_accepted (answer_to t run call)) (time_on t c call x) x)

  -- an accepted step that resets the clock
  from_zero : (run : ProgramGraphRun) (a : ℕ) (posts : List ℕ) (word : ℕ) (calls : List RunCall) (x : ℕ)
      → is_accepted (answer_to t run (transition a posts word)) ≡ true → resets_clock t a c ≡ true
      → since_reset t c run (transition a posts word ∷ calls) x ≡ since_reset t c (run_after t run (transition a posts word)) calls 0
  from_zero run a posts word calls x e r =
      ap (λ (b : Bool). since_reset t c (run_after t run (transition a posts word)) calls (cond b (cond (resets_clock t a c) 0 x) x)) e
      ∙ ap (λ (b : Bool). since_reset t c (run_after t run (transition a posts word)) calls (cond b 0 x)) r

module _ (t : List ℕ) (formed : well_formed t false ≡ true) (c : ℕ) (known : c < clock_count t) where
  -- From a fresh run, if nothing resets it, a clock reads the sum of the accepted waits.
  pub never_reset : (calls : List RunCall) → NoReset t c (new_run_of t).run calls
      → get_or (run_after_all t (new_run_of t).run calls).times c 0 ≡ accepted_waits t (new_run_of t).run calls
  never_reset calls n = chain_clocks t formed calls c known ∙ goes_on t c (new_run_of t).run calls 0 n ∙ omega arith

  -- After an accepted step that resets it, and calls of which none does, it reads the sum of their accepted waits.
  pub since_its_reset : (first : List RunCall) (a : ℕ) (posts : List ℕ) (word : ℕ) (second : List RunCall)
      → is_accepted (answer_to t (run_after_all t (new_run_of t).run first) (transition a posts word)) ≡ true → resets_clock t a c ≡ true
      → NoReset t c (run_after t (run_after_all t (new_run_of t).run first) (transition a posts word)) second
      → get_or (run_after_all t (new_run_of t).run (first ++ (transition a posts word ∷ second))).times c 0
      ≡ accepted_waits t (run_after t (run_after_all t (new_run_of t).run first) (transition a posts word)) second
  since_its_reset first a posts word second e r n =
      chain_clocks t formed (first ++ (transition a posts word ∷ second)) c known
      ∙ since_both t c (new_run_of t).run first (transition a posts word ∷ second) 0
      ∙ from_zero t c (run_after_all t (new_run_of t).run first) a posts word second (since_reset t c (new_run_of t).run first 0) e r
      ∙ goes_on t c (run_after t (run_after_all t (new_run_of t).run first) (transition a posts word)) second 0 n
      ∙ omega arith
