-- A fresh state is one of its table's.
use Prim.Native.Nat.{ℕ, zero, suc, ◌<◌, ◌≤◌}
use mathlib.Core.Path.{◌≡◌, refl, sym, subst, ◌∙◌}
use mathlib.Core.Bool.{true}
use mathlib.Core.List.{List}
use native.Mathlib.Decide.{ℕ_discrete}
use native.Mathlib.Nat.{not-suc-le-zero}
use native.Mathlib.Omega.{arith}
use lib.ListN.{length-set}
use lib.Seq.{get_or-set_same}
use Rattle.graph_tables.specs.RunWords.{run_words, RunWords}
use Rattle.program_graph.specs.Fits.{RunKept}
use Rattle.program_graph.specs.FreshWords.{fresh_words}
use Rattle.program_graph.proofs.FreshLaws as runs
use Rattle.queues.specs.Layout.{queue_words, QueueWords}
use Rattle.queues.specs.Queues.{emptied}
use Rattle.queues.specs.Fits.{QueueKept}
use Rattle.queues.proofs.QueueLaws.{fresh_formed}
use Rattle.queues.proofs.FitLaws as queues
use Rattle.system_tables.specs.Sizes.{graph_room, channel_room}
use Rattle.system_tables.specs.Words.{graph_count, channel_count, graph_part}
use Rattle.system_tables.specs.Sound.{SystemSound}
use Rattle.system_tables.proofs.ElsewhereLaws.{Elsewhere}
use Rattle.system_state.specs.Layout.{time_cell, run_start, queue_start}
use Rattle.system_state.specs.Words.{StateWords, time_in, with_time, run_part, queue_part}
use Rattle.system_state.specs.Fits.{state_fits, StateSound}
use Rattle.system_state.specs.Fresh.{fresh_run_at, fresh_queue_at, fresh_runs_below, fresh_queues_below, fresh_state}
use Rattle.system_state.proofs.PartLaws.{run_time, run_run, queue_time, queue_run, queue_queue}
use Rattle.system_state.proofs.PartLaws.{with_run_elsewhere, with_run_part, with_queue_elsewhere, with_queue_part}
use Rattle.system_state.proofs.SoundLaws.{run_words_lem, queue_words_lem, sound_fits}

-- ---- runs
module _ (t : List ℕ) (sound : SystemSound t) where
  module _ (s : List ℕ) (words : StateWords s) (g : ℕ) (l : g < graph_count t) where
    small : g < graph_room
    small = omega (arith, sound.graphs)

    size : RunWords (fresh_words (graph_part t g) (run_part s g))
    size = runs.fresh_words_lem (graph_part t g) (sound.graph g l) (run_part s g) (run_words_lem s words g small)

    run_elsewhere : Elsewhere s (fresh_run_at t s g) (run_start g) run_words
    run_elsewhere = with_run_elsewhere s (fresh_words (graph_part t g) (run_part s g)) words g small size

    pub fresh_run_words : StateWords (fresh_run_at t s g)
    fresh_run_words = run_elsewhere.sizes ∙ words

    run_kept : RunKept (graph_part t g) (run_part (fresh_run_at t s g) g)
    run_kept =
        subst (RunKept (graph_part t g)) (sym (with_run_part s (fresh_words (graph_part t g) (run_part s g)) words g small size))
        (runs.fresh_kept (graph_part t g) (sound.graph g l) (run_part s g) (run_words_lem s words g small))

  module _ (s : List ℕ) (words : StateWords s) where
    runs_words : (n : ℕ) → n ≤ graph_count t → StateWords (fresh_runs_below t s n)
    unfolding fresh_runs_below
    runs_words zero h = words
    runs_words (suc n) h = fresh_run_words (fresh_runs_below t s n) (runs_words n (omega arith)) n (omega arith)

    runs_time : (n : ℕ) → n ≤ graph_count t → time_in (fresh_runs_below t s n) ≡ time_in s
    unfolding fresh_runs_below
    runs_time zero h = refl
    runs_time (suc n) h =
        let before = fresh_runs_below t s n in
        let w = runs_words n (omega arith) in
        run_time w n (small before w n (omega arith)) (run_elsewhere before w n (omega arith)) ∙ runs_time n (omega arith)

    runs_kept : (n : ℕ) → n ≤ graph_count t → (g : ℕ) → g < n → RunKept (graph_part t g) (run_part (fresh_runs_below t s n) g)
    unfolding fresh_runs_below
    runs_kept zero h g l = absurd (not-suc-le-zero l)
    runs_kept (suc n) h g l = by (runs_kept n (omega arith) g) (ℕ_discrete g n)
      where
        w : StateWords (fresh_runs_below t s n)
        w = runs_words n (omega arith)

        in_table : n < graph_count t
        in_table = omega arith

        by : (g < n → RunKept (graph_part t g) (run_part (fresh_runs_below t s n) g)) → Dec (g ≡ n)
            → RunKept (graph_part t g) (run_part (fresh_run_at t (fresh_runs_below t s n) n) g)
        by earlier (yes e) =
            subst (λ (k : ℕ). RunKept (graph_part t k) (run_part (fresh_run_at t (fresh_runs_below t s n) n) k)) (sym e)
            (run_kept (fresh_runs_below t s n) w n in_table)
        by earlier (no other) =
            subst (RunKept (graph_part t g))
            (sym
            (run_run w n (small (fresh_runs_below t s n) w n in_table) (run_elsewhere (fresh_runs_below t s n) w n in_table) g
            (omega (arith, sound.graphs)) other))
            (earlier (omega arith))

-- ---- queues
module _ (s : List ℕ) (words : StateWords s) (q : ℕ) (l : q < channel_room) where
  queue_size : QueueWords (emptied (queue_part s q))
  queue_size = (fresh_formed (queue_part s q) (queue_words_lem s words q l)).counted.words

  queue_elsewhere : Elsewhere s (fresh_queue_at s q) (queue_start q) queue_words
  queue_elsewhere = with_queue_elsewhere s (emptied (queue_part s q)) words q l queue_size

  pub fresh_queue_words : StateWords (fresh_queue_at s q)
  fresh_queue_words = queue_elsewhere.sizes ∙ words

  queue_kept : (kinds : List ℕ) (ceiling : ℕ) → QueueKept (queue_part (fresh_queue_at s q) q) kinds ceiling
  queue_kept kinds ceiling =
      subst (λ (x : List ℕ). QueueKept x kinds ceiling) (sym (with_queue_part s (emptied (queue_part s q)) words q l queue_size))
      (queues.fresh_kept kinds ceiling (queue_part s q) (queue_words_lem s words q l))

module _ (s : List ℕ) (words : StateWords s) where
  queues_words : (n : ℕ) → n ≤ channel_room → StateWords (fresh_queues_below s n)
  unfolding fresh_queues_below
  queues_words zero h = words
  queues_words (suc n) h = fresh_queue_words (fresh_queues_below s n) (queues_words n (omega arith)) n (omega arith)

  queues_time : (n : ℕ) → n ≤ channel_room → time_in (fresh_queues_below s n) ≡ time_in s
  unfolding fresh_queues_below
  queues_time zero h = refl
  queues_time (suc n) h =
      let w = queues_words n (omega arith) in
      queue_time w n (omega arith) (queue_elsewhere (fresh_queues_below s n) w n (omega arith)) ∙ queues_time n (omega arith)

  queues_run : (n : ℕ) → n ≤ channel_room → (g : ℕ) → g < graph_room → run_part (fresh_queues_below s n) g ≡ run_part s g
  unfolding fresh_queues_below
  queues_run zero h g l = refl
  queues_run (suc n) h g l =
      let w = queues_words n (omega arith) in
      queue_run w n (omega arith) (queue_elsewhere (fresh_queues_below s n) w n (omega arith)) g l ∙ queues_run n (omega arith) g l

  queues_kept : (n : ℕ) → n ≤ channel_room → (q : ℕ) → q < n → (kinds : List ℕ) (ceiling : ℕ)
      → QueueKept (queue_part (fresh_queues_below s n) q) kinds ceiling
  unfolding fresh_queues_below
  queues_kept zero h q l kinds ceiling = absurd (not-suc-le-zero l)
  queues_kept (suc n) h q l kinds ceiling = by (λ m. queues_kept n (omega arith) q m kinds ceiling) (ℕ_discrete q n)
    where
      w : StateWords (fresh_queues_below s n)
      w = queues_words n (omega arith)

      in_room : n < channel_room
      in_room = omega arith

      by : (q < n → QueueKept (queue_part (fresh_queues_below s n) q) kinds ceiling) → Dec (q ≡ n)
          → QueueKept (queue_part (fresh_queue_at (fresh_queues_below s n) n) q) kinds ceiling
      by earlier (yes e) =
          subst (λ (k : ℕ). QueueKept (queue_part (fresh_queue_at (fresh_queues_below s n) n) k) kinds ceiling) (sym e)
          (queue_kept (fresh_queues_below s n) w n in_room kinds ceiling)
      by earlier (no other) =
          subst (λ (x : List ℕ). QueueKept x kinds ceiling)
          (sym (queue_queue w n in_room (queue_elsewhere (fresh_queues_below s n) w n in_room) q (omega arith) other))
          (earlier (omega arith))

-- ---- the whole state
module _ (t : List ℕ) (sound : SystemSound t) (s : List ℕ) (words : StateWords s) where
  timed_words : StateWords (with_time s 0)
  timed_words = simp length-set words

  abbrev started : List ℕ
  started = fresh_runs_below t (with_time s 0) (graph_count t)

  started_words : StateWords started
  started_words = runs_words t sound (with_time s 0) timed_words (graph_count t) (omega arith)

  pub fresh_sound : StateSound t (fresh_state t s)
  unfolding fresh_state
  fresh_sound =
      let few = sound.channels in
      let at_zero : time_in (with_time s 0) ≡ 0 = get_or-set_same s time_cell 0 0 (omega (arith, words)) in
      record {
        words = queues_words started started_words (channel_count t) few;
        time = omega (
          arith,
          queues_time started started_words (channel_count t) few,
          runs_time t sound (with_time s 0) timed_words (graph_count t) (omega arith),
          at_zero,
        );
        run = λ g l.
            subst (RunKept (graph_part t g))
            (sym (queues_run started started_words (channel_count t) few g (omega (arith, sound.graphs))))
            (runs_kept t sound (with_time s 0) timed_words (graph_count t) (omega arith) g l);
        queue = λ q l. queues_kept started started_words (channel_count t) few q l _ _;
      }

  -- it fits its table
  pub fresh_fits : state_fits t (fresh_state t s) ≡ true
  fresh_fits = sound_fits t sound (fresh_state t s) fresh_sound
