-- A state with one part written: what each part of it is then, and that it is a state of the table still.
use Prim.Native.Nat.{ℕ, ◌<◌, ◌≤◌}
use mathlib.Core.Path.{◌≡◌, sym, ap, subst, ◌∙◌}
use mathlib.Core.List.{List, ◌++◌}
use native.Mathlib.Decide.{ℕ_discrete}
use native.Mathlib.Omega.{arith}
use lib.ListN.{take, drop, length-set, take-append-drop}
use lib.Seq.{get_or-set_same, set-get_or}
use Rattle.graph_tables.specs.Sizes.{last_time}
use Rattle.graph_tables.specs.RunWords.{run_words, RunWords}
use Rattle.program_graph.specs.Fits.{RunKept}
use Rattle.queues.specs.Layout.{queue_words, QueueWords}
use Rattle.queues.specs.Fits.{QueueKept}
use Rattle.system_tables.specs.Sizes.{graph_room, channel_room}
use Rattle.system_tables.specs.Words.{graph_count, channel_count, channel_kinds, graph_part}
use Rattle.system_tables.specs.Sound.{SystemSound}
use Rattle.system_state.specs.Layout.{time_cell, run_start, queue_start}
use Rattle.system_state.specs.Words.{StateWords, time_in, with_time, run_part, with_run, queue_part, with_queue}
use Rattle.system_state.specs.Fits.{ceiling_at, StateSound}
use Rattle.system_state.proofs.PartLaws.{time_run, time_queue, run_time, run_run, run_queue, queue_time, queue_run, queue_queue}
use Rattle.system_state.proofs.PartLaws.{with_run_elsewhere, with_run_part, with_queue_elsewhere, with_queue_part}
use Rattle.system_state.proofs.PartLaws.{with_time_elsewhere}

-- ---- a part put where it stood
back : (s : List ℕ) (a n : ℕ) → take a s ++ (take n (drop a s) ++ drop n (drop a s)) ≡ s
back s a n = ap (λ (x : List ℕ). take a s ++ x) (take-append-drop n (drop a s)) ∙ take-append-drop a s

pub with_run_back : (s : List ℕ) (g : ℕ) → with_run s g (run_part s g) ≡ s
with_run_back s g = back s (run_start g) run_words

pub with_queue_back : (s : List ℕ) (q : ℕ) → with_queue s q (queue_part s q) ≡ s
with_queue_back s q = back s (queue_start q) queue_words

pub with_time_back : (s : List ℕ) → with_time s (time_in s) ≡ s
with_time_back s = set-get_or s time_cell 0

-- ---- the parts afterwards
module _ (s : List ℕ) (words : StateWords s) where
  -- another time
  module _ (n : ℕ) where
    pub with_time_words : StateWords (with_time s n)
    with_time_words = length-set s time_cell n ∙ words

    pub with_time_time : time_in (with_time s n) ≡ n
    with_time_time = get_or-set_same s time_cell n 0 (omega arith)

    pub with_time_run : (g : ℕ) → g < graph_room → run_part (with_time s n) g ≡ run_part s g
    with_time_run = time_run words (with_time_elsewhere s n)

    pub with_time_queue : (q : ℕ) → q < channel_room → queue_part (with_time s n) q ≡ queue_part s q
    with_time_queue = time_queue words (with_time_elsewhere s n)

  -- another run of graph g; the run itself is `with_run_part`
  module _ (g : ℕ) (small : g < graph_room) (new : List ℕ) (size : RunWords new) where
    pub with_run_words : StateWords (with_run s g new)
    with_run_words = (with_run_elsewhere s new words g small size).sizes ∙ words

    pub with_run_here : run_part (with_run s g new) g ≡ new
    with_run_here = with_run_part s new words g small size

    pub with_run_time : time_in (with_run s g new) ≡ time_in s
    with_run_time = run_time words g small (with_run_elsewhere s new words g small size)

    pub with_run_run : (f : ℕ) → f < graph_room → (f ≡ g → ⊥) → run_part (with_run s g new) f ≡ run_part s f
    with_run_run = run_run words g small (with_run_elsewhere s new words g small size)

    pub with_run_queue : (q : ℕ) → q < channel_room → queue_part (with_run s g new) q ≡ queue_part s q
    with_run_queue = run_queue words g small (with_run_elsewhere s new words g small size)

  -- another queue of channel q
  module _ (q : ℕ) (small : q < channel_room) (new : List ℕ) (size : QueueWords new) where
    pub with_queue_words : StateWords (with_queue s q new)
    with_queue_words = (with_queue_elsewhere s new words q small size).sizes ∙ words

    pub with_queue_here : queue_part (with_queue s q new) q ≡ new
    with_queue_here = with_queue_part s new words q small size

    pub with_queue_time : time_in (with_queue s q new) ≡ time_in s
    with_queue_time = queue_time words q small (with_queue_elsewhere s new words q small size)

    pub with_queue_run : (g : ℕ) → g < graph_room → run_part (with_queue s q new) g ≡ run_part s g
    with_queue_run = queue_run words q small (with_queue_elsewhere s new words q small size)

    pub with_queue_queue : (p : ℕ) → p < channel_room → (p ≡ q → ⊥) → queue_part (with_queue s q new) p ≡ queue_part s p
    with_queue_queue = queue_queue words q small (with_queue_elsewhere s new words q small size)

-- ---- a state of the table still
module _ {t s : List ℕ} (sound : SystemSound t) (h : StateSound t s) where
  in_graphs : (g : ℕ) → g < graph_count t → g < graph_room
  in_graphs g l = omega (arith, sound.graphs)

  in_channels : (q : ℕ) → q < channel_count t → q < channel_room
  in_channels q l = omega (arith, sound.channels)

  abbrev words : StateWords s
  words = h.words

  pub with_time_sound : (n : ℕ) → n ≤ last_time → StateSound t (with_time s n)
  with_time_sound n low =
      record {
        words = with_time_words s words n;
        time = rw (with_time_time s words n) low;
        run = λ g l. subst (RunKept (graph_part t g)) (sym (with_time_run s words n g (in_graphs g l))) (h.run g l);
        queue = λ q l. subst (λ (x : List ℕ). QueueKept x (channel_kinds t q) (ceiling_at t q))
            (sym (with_time_queue s words n q (in_channels q l))) (h.queue q l);
      }

  pub with_run_sound : (g : ℕ) → g < graph_count t → {new : List ℕ} → RunKept (graph_part t g) new → StateSound t (with_run s g new)
  with_run_sound g l {new} kept =
      record {
        words = with_run_words s words g small new size;
        time = rw (with_run_time s words g small new size) h.time;
        run = λ f m. by f m (ℕ_discrete f g);
        queue = λ q m. subst (λ (x : List ℕ). QueueKept x (channel_kinds t q) (ceiling_at t q))
            (sym (with_run_queue s words g small new size q (in_channels q m))) (h.queue q m);
      }
    where
      small : g < graph_room
      small = in_graphs g l

      size : RunWords new
      size = kept.run.words

      by : (f : ℕ) → f < graph_count t → Dec (f ≡ g) → RunKept (graph_part t f) (run_part (with_run s g new) f)
      by f m (yes e) =
          subst (λ (k : ℕ). RunKept (graph_part t k) (run_part (with_run s g new) k)) (sym e)
          (subst (RunKept (graph_part t g)) (sym (with_run_here s words g small new size)) kept)
      by f m (no other) = subst (RunKept (graph_part t f)) (sym (with_run_run s words g small new size f (in_graphs f m) other)) (h.run f m)

  pub with_queue_sound : (q : ℕ) → q < channel_count t → {new : List ℕ} → QueueKept new (channel_kinds t q) (ceiling_at t q)
      → StateSound t (with_queue s q new)
  with_queue_sound q l {new} kept =
      record {
        words = with_queue_words s words q small new size;
        time = rw (with_queue_time s words q small new size) h.time;
        run = λ g m. subst (RunKept (graph_part t g)) (sym (with_queue_run s words q small new size g (in_graphs g m))) (h.run g m);
        queue = λ p m. by p m (ℕ_discrete p q);
      }
    where
      small : q < channel_room
      small = in_channels q l

      size : QueueWords new
      size = kept.formed.counted.words

      Kept : ℕ → List ℕ → Type 0
      Kept p x = QueueKept x (channel_kinds t p) (ceiling_at t p)

      by : (p : ℕ) → p < channel_count t → Dec (p ≡ q) → Kept p (queue_part (with_queue s q new) p)
      by p m (yes e) =
          subst (λ (k : ℕ). Kept k (queue_part (with_queue s q new) k)) (sym e)
          (subst (Kept q) (sym (with_queue_here s words q small new size)) kept)
      by p m (no other) = subst (Kept p) (sym (with_queue_queue s words q small new size p (in_channels p m) other)) (h.queue p m)
