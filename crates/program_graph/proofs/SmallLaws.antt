-- Places and times stay numbers of 32 bits, whatever a call answers.
use Prim.Native.Nat.{ℕ, zero, suc, ◌+◌, ◌<◌, ◌≤◌}
use mathlib.Core.Path.{◌≡◌}
use mathlib.Core.Bool.{Bool, true, false, cond}
use mathlib.Core.List.{List}
use native.Mathlib.Omega.{arith}
use lib.Dec.{eqb}
use lib.ListN.{length, get_or, set}
use borrow.Author.Tests.{eqb-true, ltb-true}
use Rattle.laws.specs.Below.{all_below}
use Rattle.laws.proofs.Ladder.{rung}
use Rattle.laws.proofs.BelowLaws.{and_first, and_rest, all_at}
use Rattle.graph_tables.specs.Layout.{post_span}
use Rattle.graph_tables.specs.Sizes.{word32}
use Rattle.graph_tables.specs.Words.{location_count, transition_count, key_of, post_of, reset_at, reset_count, epsilon}
use Rattle.graph_tables.specs.Sound.{Sound}
use Rattle.graph_tables.specs.declared.handed.Message.{Message}
use Rattle.grammar.specs.declared.values.Slot.{Slot}
use Rattle.run_steps.specs.Steps.{leads_of, process_ready, ready_of, reset_below, placed_below, post_known, clock_fits, shifted_below}
use Rattle.run_steps.proofs.AnyLaws.{any_some}
use Rattle.run_steps.proofs.StepLaws.{set_keeps, fits_at}
use Rattle.program_graph.specs.Running.{autonomous_of, plain_of, acted_of, step_of, waited_of}
use Rattle.program_graph.specs.Messaging.{said_of, sent_of, heard_of, received_of}
use Rattle.program_graph.specs.Inner.{Small}
use Rattle.program_graph.specs.declared.record.ProgramGraphRun.{ProgramGraphRun}
use Rattle.program_graph.specs.Outcomes.{RunOutcome, Sent}

-- ---- lists of them
small_set : (xs : List ℕ) (i x : ℕ) → Small xs → x < word32 → Small (set xs i x)
small_set xs i x h l j = set_keeps (λ (y : ℕ). y < word32) 0 xs i x j (λ e. l) (h j)

small_placed : (places posts : List ℕ) → Small places → (n : ℕ) → ((p : ℕ) → p < n → get_or posts p 0 < word32)
    → Small (placed_below places posts n)
unfolding placed_below
small_placed places posts h zero l = h
small_placed places posts h (suc n) l =
    small_set (placed_below places posts n) n (get_or posts n 0) (small_placed places posts h n (λ p m. l p (omega arith))) (l n (omega arith))

small_reset : (t : List ℕ) (a : ℕ) (clocks : List ℕ) → Small clocks → (n : ℕ) → Small (reset_below t a clocks n)
unfolding reset_below
small_reset t a clocks h zero = h
small_reset t a clocks h (suc n) = small_set (reset_below t a clocks n) (reset_at t a n) 0 (small_reset t a clocks h n) (omega arith)

small_shifted : (clocks : List ℕ) (delta m : ℕ) → Small clocks → all_below m (clock_fits clocks delta) ≡ true → (n : ℕ) → n ≤ m
    → Small (shifted_below clocks delta n)
unfolding shifted_below
small_shifted clocks delta m h f zero l = h
small_shifted clocks delta m h f (suc n) l =
    small_set (shifted_below clocks delta n) n (get_or clocks n 0 + delta) (small_shifted clocks delta m h f n (omega arith))
    (omega (arith, fits_at clocks delta m n f (omega arith)))

-- ---- posts that are locations, or to which there is a transition
known_small : (t posts : List ℕ) → Sound t → (n : ℕ) → all_below n (post_known t posts) ≡ true → (p : ℕ) → p < n → get_or posts p 0 < word32
unfolding post_known
known_small t posts sound n h p l =
    let k = ltb-true (get_or posts p 0) (location_count t) (all_at (post_known t posts) n p h l) in
    omega (arith, k, sound.counts.locations)

ready_small :
    (t : List ℕ) (vars : List Slot) (clocks after places : List ℕ) (n a : ℕ) (posts : List ℕ) → ready_of t vars clocks after places n a posts
    ≡ true →
    (p : ℕ) → p < n → get_or posts p 0 < word32
unfolding ready_of process_ready leads_of
ready_small t vars clocks after places n a posts h p l =
    let some = any_some _ (transition_count t) (all_at _ n p h l) in
    let k = some.0 in
    let e = eqb-true (post_of (key_of t k)) (get_or posts p 0) (and_first _ _ (and_rest _ _ some.2)) in
    let m : post_of (key_of t k) < post_span = omega arith in
    omega (arith, e, m)

-- ---- a run's places and times
pub record SmallRun (run : ProgramGraphRun) : Type 0 where
  pub places : Small run.places
  pub times : Small run.times

module _ (t : List ℕ) (run : ProgramGraphRun) (sound : Sound t) (h : SmallRun run) where
  abbrev Step : RunOutcome → Type 0
  Step s = SmallRun s.run

  abbrev Sends : Sent → Type 0
  Sends s = SmallRun s.run

  abbrev Receives : RunOutcome → Type 0
  Receives s = SmallRun s.run

  autonomous_small : (posts : List ℕ) → ((p : ℕ) → p < run.processes → get_or posts p 0 < word32) → Step (autonomous_of t run posts)
  unfolding autonomous_of
  autonomous_small posts l =
      rung Step _ _ _ h (λ e. record { places = small_placed run.places posts h.places run.processes l; times = h.times })

  acted_small : (a : ℕ) (posts : List ℕ) (word : ℕ) → ((p : ℕ) → p < run.processes → get_or posts p 0 < word32)
      → Step (acted_of t run a posts word)
  unfolding acted_of plain_of
  acted_small a posts word l =
      rung Step _ _ _ h (λ e.
      rung Step _ _ _ h (λ f.
      rung Step _ _ _ h (λ g.
      rung Step _ _ _ h (λ k.
      record {
        places = small_placed run.places posts h.places run.processes l;
        times = small_reset t a run.times h.times (reset_count t a);
      }))))

  pub step_small : (a : ℕ) (posts : List ℕ) (word : ℕ) → SmallRun (step_of t run a posts word).run
  unfolding step_of
  step_small a posts word =
      rung Step _ _ _ h (λ e.
      rung Step _ _ _ h (λ f.
      let l = posts_small e f in
      by (eqb a epsilon) l))
    where
      posts_small : eqb (length posts) run.processes ≡ true → all_below (length posts) (post_known t posts) ≡ true → (p : ℕ)
          → p < run.processes
          → get_or posts p 0 < word32
      posts_small e f p l = known_small t posts sound (length posts) f p (omega (arith, eqb-true (length posts) run.processes e))

      by : (b : Bool) → ((p : ℕ) → p < run.processes → get_or posts p 0 < word32)
          → Step (cond b (autonomous_of t run posts) (acted_of t run a posts word))
      by true l = autonomous_small posts l
      by false l = acted_small a posts word l

  pub wait_small : (delta : ℕ) → SmallRun (waited_of t run delta).run
  unfolding waited_of
  wait_small delta =
      rung (λ (w : RunOutcome). SmallRun w.run) _ _ _ h (λ e.
      rung (λ (w : RunOutcome). SmallRun w.run) _ _ _ h (λ f.
      record { places = h.places; times = small_shifted run.times delta run.clocks h.times e run.clocks (omega arith) }))

  pub send_small : (a : ℕ) (posts : List ℕ) (word : ℕ) → SmallRun (sent_of t run a posts word).run
  unfolding sent_of said_of
  send_small a posts word =
      rung Sends _ _ _ h (λ e.
      rung Sends _ _ _ h (λ f.
      rung Sends _ _ _ h (λ g.
      rung Sends _ _ _ h (λ k.
      rung Sends _ _ _ h (λ s.
      record {
        places = small_placed run.places posts h.places run.processes
            (ready_small t _ _ _ _ _ _ posts g);
        times = h.times;
      })))))

  pub receive_small : (a : ℕ) (posts : List ℕ) (m : Message) → SmallRun (received_of t run a posts m).run
  unfolding received_of heard_of
  receive_small a posts m =
      rung Receives _ _ _ h (λ e.
      rung Receives _ _ _ h (λ f.
      rung Receives _ _ _ h (λ g.
      rung Receives _ _ _ h (λ k.
      rung Receives _ _ _ h (λ s.
      record {
        places = small_placed run.places posts h.places run.processes
            (ready_small t _ _ _ _ _ _ posts g);
        times = h.times;
      })))))
