-- The clocks of a graph that are moved: the state is one of the table's, and the runs of the other graphs are as they were, so that
-- each test that was made before the first clock was moved still speaks of the run whose clocks are moved.
use Prim.Native.Nat.{ℕ, zero, suc, ◌+◌, ◌<◌, ◌≤◌}
use mathlib.Core.Path.{◌≡◌, refl, ap, ◌∙◌}
use mathlib.Core.Bool.{true}
use mathlib.Core.List.{List}
use mathlib.Core.Logic.{⊎_elim}
use native.Mathlib.Nat.{le_of_suc-le-suc, not-suc-le-zero, eq-or-lt_of_le}
use native.Mathlib.Omega.{arith}
use borrow.Author.Tests.{leb-true}
use Rattle.laws.proofs.BelowLaws.{and_first, and_rest, all_at}
use Rattle.graph_tables.specs.Sizes.{last_time}
use Rattle.graph_tables.specs.RunWords.{clocks_in, run_clocks}
use Rattle.graph_tables.specs.Sound.{Sound}
use Rattle.run_steps.proofs.StepLaws.{shifted_length}
use Rattle.program_graph.specs.Running.{wait_fits, later}
use Rattle.program_graph.specs.Inner.{run_at, RunOf, Leaves}
use Rattle.program_graph.specs.Written.{words_of}
use Rattle.program_graph.proofs.WordLaws.{times_length, times_anew}
use Rattle.program_graph.proofs.LeaveLaws.{leaves_later}
use Rattle.program_graph.proofs.WrittenLaws.{words_leave}
use Rattle.program_graph.proofs.KeptLaws.{wait_kept}
use Rattle.system_tables.specs.Sizes.{graph_room, channel_room}
use Rattle.system_tables.specs.Words.{graph_count, graph_part}
use Rattle.system_tables.specs.Sound.{SystemSound}
use Rattle.system_state.specs.Words.{time_in, run_part, queue_part}
use Rattle.system_state.specs.Fits.{StateSound}
use Rattle.system_state.proofs.WithLaws.{with_run_here, with_run_run, with_run_time, with_run_queue, with_run_sound}
use Rattle.system_state.proofs.WithLaws.{with_time_time, with_time_run, with_time_queue, with_time_sound}
use Rattle.channel_system.specs.Steps.{run_of}
use Rattle.channel_system.specs.Waits.{clocks_fit, later_on, all_fit, later_below, later_state}

-- the words of a run whose clocks are moved stand for that run
later_leaves : (t r : List ℕ) → Sound t → RunOf t r → (delta : ℕ) → Leaves t r (later (run_at r) delta) (words_of t r (later (run_at r) delta))
later_leaves t r sound h delta =
    let size = shifted_length (clocks_in r) delta (run_clocks r) ∙ times_length r h.words in
    words_leave sound (leaves_later t r _ _ h (times_anew r h.words _ size))

module _ (t : List ℕ) (sound : SystemSound t) where
  -- ---- one graph
  module _ (s : List ℕ) (h : StateSound t s) (delta g : ℕ) (known : g < graph_count t) where
    leaves : Leaves (graph_part t g) (run_part s g) (later (run_of s g) delta)
        (words_of (graph_part t g) (run_part s g) (later (run_of s g) delta))
    leaves = later_leaves (graph_part t g) (run_part s g) (sound.graph g known) (h.run g known).run delta

    small : g < graph_room
    small = omega (arith, sound.graphs)

    pub later_on_run : (f : ℕ) → f < graph_count t → (f ≡ g → ⊥) → run_part (later_on t s delta g) f ≡ run_part s f
    later_on_run f l other =
        with_run_run s h.words g small (words_of (graph_part t g) (run_part s g) (later (run_of s g) delta)) leaves.words f
        (omega (arith, sound.graphs)) other

    -- the run itself: its clocks are moved, and nothing else
    pub later_on_here : run_of (later_on t s delta g) g ≡ later (run_of s g) delta
    later_on_here =
        ap run_at
        (with_run_here s h.words g small (words_of (graph_part t g) (run_part s g) (later (run_of s g) delta)) leaves.words)
        ∙ leaves.reads

    pub later_on_queue : (q : ℕ) → q < channel_room → queue_part (later_on t s delta g) q ≡ queue_part s q
    later_on_queue q l =
        with_run_queue s h.words g small (words_of (graph_part t g) (run_part s g) (later (run_of s g) delta)) leaves.words q l

    pub later_on_time : time_in (later_on t s delta g) ≡ time_in s
    later_on_time =
        with_run_time s h.words g small (words_of (graph_part t g) (run_part s g) (later (run_of s g) delta)) leaves.words

    pub later_on_sound : clocks_fit s delta g ≡ true → StateSound t (later_on t s delta g)
    unfolding clocks_fit
    later_on_sound fits =
        with_run_sound sound h g known (wait_kept (sound.graph g known) (h.run g known) delta fits leaves)

  -- ---- the first n graphs
  module _ (s : List ℕ) (h : StateSound t s) (delta : ℕ) (fits : all_fit t s delta ≡ true) where
    pub clock_fits_lem : (g : ℕ) → g < graph_count t → clocks_fit s delta g ≡ true
    unfolding all_fit
    clock_fits_lem g l = all_at (clocks_fit s delta) (graph_count t) g (and_rest _ _ fits) l

    pub time_fits_lem : time_in s + delta ≤ last_time
    unfolding all_fit
    time_fits_lem = leb-true _ _ (and_first _ _ fits)

    -- what is known while the clocks are moved
    pub record Moving (n : ℕ) : Type 0 where
      pub state : StateSound t (later_below t s delta n)
      pub time : time_in (later_below t s delta n) ≡ time_in s
      pub queue : (q : ℕ) → q < channel_room → queue_part (later_below t s delta n) q ≡ queue_part s q
      -- the runs of the other graphs, and those whose clocks are moved
      pub run : (f : ℕ) → n ≤ f → f < graph_count t → run_part (later_below t s delta n) f ≡ run_part s f
      pub moved : (f : ℕ) → f < n → run_of (later_below t s delta n) f ≡ later (run_of s f) delta

    fits_still : (n : ℕ) → Moving n → n < graph_count t → clocks_fit (later_below t s delta n) delta n ≡ true
    unfolding clocks_fit
    fits_still n m l = ap (λ (x : List ℕ). wait_fits (run_at x) delta) (m.run n (omega arith) l) ∙ clock_fits_lem n l

    pub moving : (n : ℕ) → n ≤ graph_count t → Moving n
    unfolding later_below
    moving zero l =
        record { state = h; time = refl; queue = λ q k. refl; run = λ f m k. refl; moved = λ f k. absurd (not-suc-le-zero k) }
    moving (suc n) l = by (moving n (omega arith))
      where
        before : List ℕ
        before = later_below t s delta n

        by : Moving n → Moving (suc n)
        by m =
            record {
              state = later_on_sound before m.state delta n l (fits_still n m l);
              time = later_on_time before m.state delta n l ∙ m.time;
              queue = λ q k. later_on_queue before m.state delta n l q k ∙ m.queue q k;
              run = λ f k q. later_on_run before m.state delta n l f q (λ e. omega arith) ∙ m.run f (omega arith) q;
              moved = λ f k.
                  ⊎_elim
                  (λ (e : f ≡ n).
                  rw e
                  (later_on_here before m.state delta n l
                  ∙ ap (λ (x : List ℕ). later (run_at x) delta) (m.run n (omega arith) l)))
                  (λ (q : f < n).
                  ap run_at (later_on_run before m.state delta n l f (omega arith) (λ e. omega arith)) ∙ m.moved f q)
                  (eq-or-lt_of_le (le_of_suc-le-suc k));
            }

    pub still_fits : (n : ℕ) → n < graph_count t → clocks_fit (later_below t s delta n) delta n ≡ true
    still_fits n l = fits_still n (moving n (omega arith)) l

    -- ---- all graphs, and the time
    abbrev end : List ℕ
    end = later_below t s delta (graph_count t)

    all_moved : Moving (graph_count t)
    all_moved = moving (graph_count t) (omega arith)

    -- the state is one of the table's
    pub later_sound : StateSound t (later_state t s delta)
    unfolding later_state
    later_sound = with_time_sound sound all_moved.state (time_in s + delta) time_fits_lem

    -- all clocks and the time are moved alike, and the queues are as they were
    pub later_time_lem : time_in (later_state t s delta) ≡ time_in s + delta
    unfolding later_state
    later_time_lem = with_time_time end all_moved.state.words (time_in s + delta)

    pub later_run : (g : ℕ) → g < graph_count t → run_of (later_state t s delta) g ≡ later (run_of s g) delta
    unfolding later_state
    later_run g l =
        ap run_at (with_time_run end all_moved.state.words (time_in s + delta) g (omega (arith, sound.graphs)))
        ∙ all_moved.moved g l

    pub later_queue : (q : ℕ) → q < channel_room → queue_part (later_state t s delta) q ≡ queue_part s q
    unfolding later_state
    later_queue q l = with_time_queue end all_moved.state.words (time_in s + delta) q l ∙ all_moved.queue q l
