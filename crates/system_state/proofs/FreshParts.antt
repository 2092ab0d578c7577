-- The parts of a fresh state: time 0, each graph's fresh run, empty queues.
use Prim.Native.Nat.{ℕ, zero, suc, ◌<◌, ◌≤◌}
use mathlib.Core.Path.{◌≡◌, refl, sym, ap, subst, ◌∙◌}
use mathlib.Core.List.{List, []}
use native.Mathlib.Decide.{ℕ_discrete}
use native.Mathlib.Nat.{not-suc-le-zero}
use native.Mathlib.Omega.{arith}
use lib.ListN.{get_or}
use Rattle.graph_tables.specs.Words.{clock_count}
use Rattle.graph_tables.specs.RunWords.{RunWords, clocks_in}
use Rattle.program_graph.specs.Facts.{Holding}
use Rattle.program_graph.specs.Running.{fresh_run}
use Rattle.program_graph.specs.Inner.{run_at}
use Rattle.program_graph.specs.FreshWords.{fresh_words}
use Rattle.program_graph.proofs.FreshLaws as runs
use Rattle.program_graph.proofs.FreshReads.{SameRun, fresh_reads, fresh_holding}
use Rattle.queues.specs.Layout.{QueueWords}
use Rattle.queues.specs.Queues.{queue_of, emptied}
use Rattle.queues.proofs.QueueLaws.{fresh_formed, fresh_queue}
use Rattle.system_tables.specs.Sizes.{graph_room, channel_room}
use Rattle.system_tables.specs.Words.{graph_count, channel_count, graph_part}
use Rattle.system_tables.specs.Sound.{SystemSound}
use Rattle.system_state.specs.Words.{StateWords, time_in, with_time, run_part, queue_part}
use Rattle.system_state.specs.Fresh.{fresh_run_at, fresh_queue_at, fresh_runs_below, fresh_queues_below, fresh_state}
use Rattle.system_state.proofs.SoundLaws.{run_words_lem, queue_words_lem}
use Rattle.system_state.proofs.FreshLaws.{fresh_run_words, fresh_queue_words}
use Rattle.system_state.proofs.WithLaws.{with_time_words, with_time_time, with_time_run, with_time_queue}
use Rattle.system_state.proofs.WithLaws.{with_run_here, with_run_time, with_run_run, with_run_queue}
use Rattle.system_state.proofs.WithLaws.{with_queue_here, with_queue_time, with_queue_run, with_queue_queue}

-- ---- runs, one graph after the other
module _ (t : List ℕ) (sound : SystemSound t) (s : List ℕ) (words : StateWords s) where
  runs_words : (n : ℕ) → n ≤ graph_count t → StateWords (fresh_runs_below t s n)
  unfolding fresh_runs_below
  runs_words zero h = words
  runs_words (suc n) h = fresh_run_words t sound (fresh_runs_below t s n) (runs_words n (omega arith)) n (omega arith)

  module _ (n : ℕ) (h : n < graph_count t) where
    abbrev before : List ℕ
    before = fresh_runs_below t s n

    before_words : StateWords before
    before_words = runs_words n (omega arith)

    small : n < graph_room
    small = omega (arith, sound.graphs)

    abbrev new : List ℕ
    new = fresh_words (graph_part t n) (run_part before n)

    size : RunWords new
    size = runs.fresh_words_lem (graph_part t n) (sound.graph n h) (run_part before n) (run_words_lem before before_words n small)

  runs_time : (n : ℕ) → n ≤ graph_count t → time_in (fresh_runs_below t s n) ≡ time_in s
  unfolding fresh_runs_below
  runs_time zero h = refl
  runs_time (suc n) h = with_run_time (before n h) (before_words n h) n (small n h) (new n h) (size n h) ∙ runs_time n (omega arith)

  runs_queue : (n : ℕ) → n ≤ graph_count t → (q : ℕ) → q < channel_room → queue_part (fresh_runs_below t s n) q ≡ queue_part s q
  unfolding fresh_runs_below
  runs_queue zero h q l = refl
  runs_queue (suc n) h q l =
      with_run_queue (before n h) (before_words n h) n (small n h) (new n h) (size n h) q l ∙ runs_queue n (omega arith) q l

  -- a run that is yet to come is as it was
  runs_past : (n : ℕ) → n ≤ graph_count t → (g : ℕ) → g < graph_room → n ≤ g → run_part (fresh_runs_below t s n) g ≡ run_part s g
  unfolding fresh_runs_below
  runs_past zero h g l m = refl
  runs_past (suc n) h g l m =
      with_run_run (before n h) (before_words n h) n (small n h) (new n h) (size n h) g l (λ e. omega arith)
      ∙ runs_past n (omega arith) g l (omega arith)

  runs_at : (n : ℕ) → n ≤ graph_count t → (g : ℕ) → g < n → run_part (fresh_runs_below t s n) g ≡ fresh_words (graph_part t g) (run_part s g)
  unfolding fresh_runs_below
  runs_at zero h g l = absurd (not-suc-le-zero l)
  runs_at (suc n) h g l = by (runs_at n (omega arith) g) (ℕ_discrete g n)
    where
      here : run_part (fresh_run_at t (fresh_runs_below t s n) n) n ≡ fresh_words (graph_part t n) (run_part s n)
      here =
          with_run_here (before n h) (before_words n h) n (small n h) (new n h) (size n h)
          ∙ ap (fresh_words (graph_part t n)) (runs_past n (omega arith) n (small n h) (omega arith))

      by : (g < n → run_part (fresh_runs_below t s n) g ≡ fresh_words (graph_part t g) (run_part s g)) → Dec (g ≡ n)
          → run_part (fresh_run_at t (fresh_runs_below t s n) n) g ≡ fresh_words (graph_part t g) (run_part s g)
      by old (yes e) =
          subst (λ (k : ℕ). run_part (fresh_run_at t (fresh_runs_below t s n) n) k ≡ fresh_words (graph_part t k) (run_part s k)) (sym e) here
      by old (no other) =
          with_run_run (before n h) (before_words n h) n (small n h) (new n h) (size n h) g (omega (arith, sound.graphs)) other
          ∙ old (omega arith)

-- ---- queues, one channel after the other
module _ (s : List ℕ) (words : StateWords s) where
  queues_words : (n : ℕ) → n ≤ channel_room → StateWords (fresh_queues_below s n)
  unfolding fresh_queues_below
  queues_words zero h = words
  queues_words (suc n) h = fresh_queue_words (fresh_queues_below s n) (queues_words n (omega arith)) n (omega arith)

  module _ (n : ℕ) (h : n < channel_room) where
    abbrev earlier : List ℕ
    earlier = fresh_queues_below s n

    earlier_words : StateWords earlier
    earlier_words = queues_words n (omega arith)

    abbrev empty : List ℕ
    empty = emptied (queue_part earlier n)

    empty_size : QueueWords empty
    empty_size = (fresh_formed (queue_part earlier n) (queue_words_lem earlier earlier_words n h)).counted.words

  queues_time : (n : ℕ) → n ≤ channel_room → time_in (fresh_queues_below s n) ≡ time_in s
  unfolding fresh_queues_below
  queues_time zero h = refl
  queues_time (suc n) h = with_queue_time (earlier n h) (earlier_words n h) n h (empty n h) (empty_size n h) ∙ queues_time n (omega arith)

  queues_run : (n : ℕ) → n ≤ channel_room → (g : ℕ) → g < graph_room → run_part (fresh_queues_below s n) g ≡ run_part s g
  unfolding fresh_queues_below
  queues_run zero h g l = refl
  queues_run (suc n) h g l =
      with_queue_run (earlier n h) (earlier_words n h) n h (empty n h) (empty_size n h) g l ∙ queues_run n (omega arith) g l

  queues_past : (n : ℕ) → n ≤ channel_room → (q : ℕ) → q < channel_room → n ≤ q → queue_part (fresh_queues_below s n) q ≡ queue_part s q
  unfolding fresh_queues_below
  queues_past zero h q l m = refl
  queues_past (suc n) h q l m =
      with_queue_queue (earlier n h) (earlier_words n h) n h (empty n h) (empty_size n h) q l (λ e. omega arith)
      ∙ queues_past n (omega arith) q l (omega arith)

  queues_at : (n : ℕ) → n ≤ channel_room → (q : ℕ) → q < n → queue_part (fresh_queues_below s n) q ≡ emptied (queue_part s q)
  unfolding fresh_queues_below
  queues_at zero h q l = absurd (not-suc-le-zero l)
  queues_at (suc n) h q l = by (queues_at n (omega arith) q) (ℕ_discrete q n)
    where
      here : queue_part (fresh_queue_at (fresh_queues_below s n) n) n ≡ emptied (queue_part s n)
      here =
          with_queue_here (earlier n h) (earlier_words n h) n h (empty n h) (empty_size n h)
          ∙ ap emptied (queues_past n (omega arith) n h (omega arith))

      by : (q < n → queue_part (fresh_queues_below s n) q ≡ emptied (queue_part s q)) → Dec (q ≡ n)
          → queue_part (fresh_queue_at (fresh_queues_below s n) n) q ≡ emptied (queue_part s q)
      by old (yes e) = subst (λ (k : ℕ). queue_part (fresh_queue_at (fresh_queues_below s n) n) k ≡ emptied (queue_part s k)) (sym e) here
      by old (no other) =
          with_queue_queue (earlier n h) (earlier_words n h) n h (empty n h) (empty_size n h) q (omega arith) other
          ∙ old (omega arith)

-- ---- the whole state
module _ (t : List ℕ) (sound : SystemSound t) (s : List ℕ) (words : StateWords s) where
  abbrev timed : List ℕ
  timed = with_time s 0

  timed_words : StateWords timed
  timed_words = with_time_words s words 0

  abbrev started : List ℕ
  started = fresh_runs_below t timed (graph_count t)

  started_words : StateWords started
  started_words = runs_words t sound timed timed_words (graph_count t) (omega arith)

  pub fresh_state_time : time_in (fresh_state t s) ≡ 0
  unfolding fresh_state
  fresh_state_time =
      queues_time started started_words (channel_count t) sound.channels
      ∙ runs_time t sound timed timed_words (graph_count t) (omega arith)
      ∙ with_time_time s words 0

  pub fresh_state_queue : (q : ℕ) → q < channel_count t → queue_part (fresh_state t s) q ≡ emptied (queue_part s q)
  unfolding fresh_state
  fresh_state_queue q l =
      let in_room : q < channel_room = omega (arith, sound.channels) in
      queues_at started started_words (channel_count t) sound.channels q l
      ∙ ap emptied (runs_queue t sound timed timed_words (graph_count t) (omega arith) q in_room ∙ with_time_queue s words 0 q in_room)

  -- nothing is in it
  pub fresh_state_empty : (q : ℕ) → q < channel_count t → queue_of (queue_part (fresh_state t s) q) ≡ []
  fresh_state_empty q l =
      ap queue_of (fresh_state_queue q l) ∙ fresh_queue (queue_part s q) (queue_words_lem s words q (omega (arith, sound.channels)))

  module _ (g : ℕ) (l : g < graph_count t) where
    in_room : g < graph_room
    in_room = omega (arith, sound.graphs)

    pub fresh_state_run : run_part (fresh_state t s) g ≡ fresh_words (graph_part t g) (run_part s g)
    unfolding fresh_state
    fresh_state_run =
        queues_run started started_words (channel_count t) sound.channels g in_room
        ∙ runs_at t sound timed timed_words (graph_count t) (omega arith) g l
        ∙ ap (fresh_words (graph_part t g)) (with_time_run s words 0 g in_room)

    -- it stands for the graph's fresh run
    pub fresh_state_reads : SameRun (graph_part t g) (run_at (run_part (fresh_state t s) g)) (fresh_run (graph_part t g))
    fresh_state_reads =
        subst (λ (r : List ℕ). SameRun (graph_part t g) (run_at r) (fresh_run (graph_part t g))) (sym fresh_state_run)
        (fresh_reads (graph_part t g) (sound.graph g l) (run_part s g) (run_words_lem s words g in_room))

    -- every invariant of every place where a process starts holds, and every clock is at 0
    pub fresh_state_holding : Holding (graph_part t g) (run_at (run_part (fresh_state t s) g))
    fresh_state_holding =
        subst (λ (r : List ℕ). Holding (graph_part t g) (run_at r)) (sym fresh_state_run)
        (fresh_holding (graph_part t g) (sound.graph g l) (run_part s g) (run_words_lem s words g in_room))

    pub fresh_state_clock : (c : ℕ) → c < clock_count (graph_part t g) → get_or (clocks_in (run_part (fresh_state t s) g)) c 0 ≡ 0
    fresh_state_clock c m =
        subst (λ (r : List ℕ). get_or (clocks_in r) c 0 ≡ 0) (sym fresh_state_run)
        (runs.fresh_time (graph_part t g) (sound.graph g l) (run_part s g) (run_words_lem s words g in_room) c m)
