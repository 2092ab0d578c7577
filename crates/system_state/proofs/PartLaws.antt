-- What a write of one part of a state leaves: the time, and every other run and queue.
use Prim.Native.Nat.{ℕ, ◌<◌}
use mathlib.Core.Path.{◌≡◌}
use mathlib.Core.List.{List}
use native.Mathlib.Omega.{arith}
use Rattle.graph_tables.specs.RunWords.{run_words, RunWords}
use Rattle.queues.specs.Layout.{queue_words, QueueWords}
use Rattle.system_tables.specs.Sizes.{graph_room, channel_room}
use Rattle.system_tables.proofs.ElsewhereLaws.{Elsewhere, set_elsewhere, put_elsewhere, put_part, part_elsewhere}
use Rattle.system_state.specs.Layout.{time_cell, run_start, queue_start}
use Rattle.system_state.specs.Words.{StateWords, time_in, with_time, run_part, with_run, queue_part, with_queue}

module _ {s u : List ℕ} (words : StateWords s) where
  -- ---- the time
  module _ (e : Elsewhere s u time_cell 1) where
    pub time_run : (g : ℕ) → g < graph_room → run_part u g ≡ run_part s g
    time_run g l = part_elsewhere e (run_start g) run_words (omega arith) (λ j k m h p. omega arith)

    pub time_queue : (q : ℕ) → q < channel_room → queue_part u q ≡ queue_part s q
    time_queue q l = part_elsewhere e (queue_start q) queue_words (omega arith) (λ j k m h p. omega arith)

  -- ---- the run of graph g
  module _ (g : ℕ) (small : g < graph_room) (e : Elsewhere s u (run_start g) run_words) where
    pub run_time : time_in u ≡ time_in s
    run_time = e.same time_cell (λ k h p. omega arith)

    pub run_run : (f : ℕ) → f < graph_room → (f ≡ g → ⊥) → run_part u f ≡ run_part s f
    run_run f l other = part_elsewhere e (run_start f) run_words (omega arith) (λ j k m h p. other (omega arith))

    pub run_queue : (q : ℕ) → q < channel_room → queue_part u q ≡ queue_part s q
    run_queue q l = part_elsewhere e (queue_start q) queue_words (omega arith) (λ j k m h p. omega arith)

  -- ---- the queue of channel q
  module _ (q : ℕ) (small : q < channel_room) (e : Elsewhere s u (queue_start q) queue_words) where
    pub queue_time : time_in u ≡ time_in s
    queue_time = e.same time_cell (λ k h p. omega arith)

    pub queue_run : (g : ℕ) → g < graph_room → run_part u g ≡ run_part s g
    queue_run g l = part_elsewhere e (run_start g) run_words (omega arith) (λ j k m h p. omega arith)

    pub queue_queue : (p : ℕ) → p < channel_room → (p ≡ q → ⊥) → queue_part u p ≡ queue_part s p
    queue_queue p l other = part_elsewhere e (queue_start p) queue_words (omega arith) (λ j k m h i. other (omega arith))

-- ---- a part written whole
module _ (s new : List ℕ) (words : StateWords s) where
  module _ (g : ℕ) (small : g < graph_room) (size : RunWords new) where
    pub with_run_elsewhere : Elsewhere s (with_run s g new) (run_start g) run_words
    with_run_elsewhere = put_elsewhere s new (run_start g) run_words size (omega arith)

    pub with_run_part : run_part (with_run s g new) g ≡ new
    with_run_part = put_part s new (run_start g) run_words size (omega arith)

  module _ (q : ℕ) (small : q < channel_room) (size : QueueWords new) where
    pub with_queue_elsewhere : Elsewhere s (with_queue s q new) (queue_start q) queue_words
    with_queue_elsewhere = put_elsewhere s new (queue_start q) queue_words size (omega arith)

    pub with_queue_part : queue_part (with_queue s q new) q ≡ new
    with_queue_part = put_part s new (queue_start q) queue_words size (omega arith)

pub with_time_elsewhere : (s : List ℕ) (n : ℕ) → Elsewhere s (with_time s n) time_cell 1
with_time_elsewhere s n = set_elsewhere s time_cell n time_cell 1 (omega arith) (omega arith)
