-- A wait of a system by cases: it is refused and leaves the state, or every clock, and the time, goes on by the delta.
use Rattle.channel_system.specs.declared.answers.WaitError.TheVariants as WaitError
use Rattle.std.specs.Prelude.{Ok, Err}
use Prim.Native.Nat.{ℕ, ◌+◌, ◌<◌}
use mathlib.Core.Path.{◌≡◌}
use mathlib.Core.Bool.{true}
use mathlib.Core.List.{List}
use Rattle.laws.proofs.Ladder.{rung}
use Rattle.laws.proofs.BelowLaws.{all_at}
use Rattle.graph_tables.specs.Refusals.{refusal}
use Rattle.program_graph.specs.Running.{wait_fits, wait_holds, later}
use Rattle.system_tables.specs.Sizes.{channel_room}
use Rattle.system_tables.specs.Words.{graph_count, graph_part}
use Rattle.system_tables.specs.Sound.{SystemSound}
use Rattle.system_state.specs.Words.{time_in, queue_part}
use Rattle.system_state.specs.Fits.{StateSound}
use Rattle.channel_system.specs.Steps.{run_of}
use Rattle.run_steps.specs.Lowest.{lowest}
use Rattle.channel_system.specs.Waits.{clocks_fit, graph_holds, all_fit, later_state, Passed, refused_wait, passed_of}
use Rattle.channel_system.proofs.LaterLaws.{clock_fits_lem, later_sound, later_time_lem, later_run, later_queue}

-- what an accepted wait found
pub record WaitFound (t s : List ℕ) (delta : ℕ) : Type 0 where
  pub all : all_fit t s delta ≡ true
  pub holds : (g : ℕ) → g < graph_count t → wait_holds (graph_part t g) (run_of s g) delta ≡ true

-- the parts of the state afterwards
pub record WaitLeaves (t s : List ℕ) (delta : ℕ) (u : List ℕ) : Type 0 where
  pub sound : StateSound t u
  pub time : time_in u ≡ time_in s + delta
  pub queue : (q : ℕ) → q < channel_room → queue_part u q ≡ queue_part s q
  pub run : (g : ℕ) → g < graph_count t → run_of u g ≡ later (run_of s g) delta

module _ {t s : List ℕ} (sound : SystemSound t) (h : StateSound t s) {delta : ℕ} (f : WaitFound t s delta) where
  pub wait_leaves : WaitLeaves t s delta (later_state t s delta)
  wait_leaves =
      record {
        sound = later_sound t sound s h delta f.all;
        time = later_time_lem t sound s h delta f.all;
        queue = later_queue t sound s h delta f.all;
        run = later_run t sound s h delta f.all;
      }

  -- each graph's clocks fit
  pub graph_fits : (g : ℕ) → g < graph_count t → wait_fits (run_of s g) delta ≡ true
  unfolding clocks_fit
  graph_fits = clock_fits_lem t sound s h delta f.all

-- accepted, with this state
abbrev pub passed_with : List ℕ → Passed
passed_with u = record { answer = Ok tt; state = u }

-- something that holds of both refusals, and of the state that an accepted wait leaves, is so of the wait
pub wait_cases : (P : Passed → Type 0) (t s : List ℕ) (delta : ℕ)
    → P (refused_wait (Err (WaitError.Refused (refusal 26))) s) → ((g : ℕ) → P (refused_wait (Err (WaitError.Invariant (record { 0 = g }))) s))
    → (WaitFound t s delta → P (passed_with (later_state t s delta))) → P (passed_of t s delta)
unfolding passed_of graph_holds
wait_cases P t s delta past objects all =
    rung P _ (refused_wait (Err (WaitError.Refused (refusal 26))) s) _ past
    (λ f. rung P _ (refused_wait (Err (WaitError.Invariant (record { 0 = lowest (graph_count t) (graph_holds t s delta) }))) s) _
    (objects (lowest (graph_count t) (graph_holds t s delta)))
    (λ k. all (record { all = f; holds = λ g l. all_at (graph_holds t s delta) (graph_count t) g k l })))
