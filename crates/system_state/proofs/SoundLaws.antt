-- The test of a state and the facts of a state are the same.
use Prim.Native.Nat.{ℕ, ◌<◌, ◌≤◌}
use mathlib.Core.Path.{◌≡◌}
use mathlib.Core.Bool.{true, false}
use mathlib.Core.List.{List}
use native.Mathlib.Omega.{arith}
use lib.ListN.{drop, length-drop}
use lib.Seq.{length-take-le}
use borrow.Author.Tests.{eqb-true, eq-eqb, leb-true, le-leb, lt-leb}
use Rattle.laws.proofs.BelowLaws.{and_first, and_rest, and_both, all_at, all_from}
use Rattle.graph_tables.specs.Sizes.{last_time}
use Rattle.graph_tables.specs.RunWords.{run_words, RunWords}
use Rattle.program_graph.specs.Fits.{RunKept}
use Rattle.program_graph.proofs.FitLaws as runs
use Rattle.queues.specs.Layout.{queue_words, QueueWords}
use Rattle.queues.specs.Fits.{QueueKept}
use Rattle.queues.proofs.FitLaws as queues
use Rattle.system_tables.specs.Sizes.{graph_room, channel_room}
use Rattle.system_tables.specs.Words.{graph_count, channel_count, channel_kinds, graph_part}
use Rattle.system_tables.specs.Sound.{SystemSound}
use Rattle.system_state.specs.Layout.{run_start, queue_start}
use Rattle.system_state.specs.Words.{StateWords, time_in, run_part, queue_part}
use Rattle.system_state.specs.Fits.{ceiling_at, time_fits, run_fits, queue_fits_at, state_fits, StateSound}

-- ---- the time
pub time_holds : (s : List ℕ) → time_in s ≤ last_time → time_fits s ≡ true
unfolding time_fits
time_holds s h = le-leb _ _ h

pub time_fails : (s : List ℕ) → last_time < time_in s → time_fits s ≡ false
unfolding time_fits
time_fails s h = lt-leb _ _ h

-- ---- parts have their sizes
module _ (s : List ℕ) (words : StateWords s) where
  pub run_words_lem : (g : ℕ) → g < graph_room → RunWords (run_part s g)
  run_words_lem g l = length-take-le run_words (drop (run_start g) s) (rw (length-drop (run_start g) s, words) (omega arith))

  pub queue_words_lem : (q : ℕ) → q < channel_room → QueueWords (queue_part s q)
  queue_words_lem q l = length-take-le queue_words (drop (queue_start q) s) (rw (length-drop (queue_start q) s, words) (omega arith))

module _ (t : List ℕ) (sound : SystemSound t) (s : List ℕ) where
  run_fits_lem : StateWords s → (g : ℕ) → g < graph_count t → run_fits t s g ≡ true → RunKept (graph_part t g) (run_part s g)
  unfolding run_fits
  run_fits_lem words g l h =
      runs.fits_kept (graph_part t g) (sound.graph g l) (run_part s g) (run_words_lem s words g (omega (arith, sound.graphs))) h

  run_tests : (g : ℕ) → g < graph_count t → RunKept (graph_part t g) (run_part s g) → run_fits t s g ≡ true
  unfolding run_fits
  run_tests g l f = runs.kept_fits (graph_part t g) (sound.graph g l) (run_part s g) f.run.words f

  queue_fits_lem : StateWords s → (q : ℕ) → q < channel_count t → queue_fits_at t s q ≡ true
      → QueueKept (queue_part s q) (channel_kinds t q) (ceiling_at t q)
  unfolding queue_fits_at
  queue_fits_lem words q l h =
      queues.fits_kept (queue_part s q) (channel_kinds t q) (ceiling_at t q)
      (queue_words_lem s words q (omega (arith, sound.channels))) (sound.channel q l).room h

  queue_tests : (q : ℕ) → QueueKept (queue_part s q) (channel_kinds t q) (ceiling_at t q) → queue_fits_at t s q ≡ true
  unfolding queue_fits_at
  queue_tests q f = queues.kept_fits (queue_part s q) (channel_kinds t q) (ceiling_at t q) f

  -- the facts, from the test
  pub state_sound : state_fits t s ≡ true → StateSound t s
  unfolding state_fits time_fits
  state_sound h =
      let words : StateWords s = eqb-true _ _ (and_first _ _ h) in
      let rest = and_rest _ _ (and_rest _ _ h) in
      record {
        words = words;
        time = leb-true _ _ (and_first _ _ (and_rest _ _ h));
        run = λ g l. run_fits_lem words g l (all_at (run_fits t s) (graph_count t) g (and_first _ _ rest) l);
        queue = λ q l. queue_fits_lem words q l (all_at (queue_fits_at t s) (channel_count t) q (and_rest _ _ rest) l);
      }

  -- and the test, from the facts
  pub sound_fits : StateSound t s → state_fits t s ≡ true
  unfolding state_fits time_fits
  sound_fits f =
      and_both (eq-eqb _ _ f.words)
      (and_both (time_holds s f.time)
      (and_both
      (all_from (run_fits t s) (graph_count t) (λ g l. run_tests g l (f.run g l)))
      (all_from (queue_fits_at t s) (channel_count t) (λ q l. queue_tests q (f.queue q l)))))
