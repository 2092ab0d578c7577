-- Laws of the queue of a channel that is lent as a part of the state, and of messages on their way in and out.
use Prim.Native.Nat.{ℕ, ◌≤◌, ◌<◌}
use mathlib.Core.Path.{◌≡◌, subst}
use mathlib.Core.List.{List, ◌++◌}
use native.Mathlib.Omega.{arith}
use lib.ListN.{take, drop}
use Rattle.queues.specs.Layout.{queue_words}
use Rattle.queues.specs.Queues.{stored_of, slots_for, Counted}
use Rattle.queues.proofs.FitLaws.{one_message}
use Rattle.system_tables.specs.Sizes.{channel_room}
use Rattle.system_tables.specs.Words.{channel_count, width_of, channel_kinds}
use Rattle.system_tables.specs.Sound.{SystemSound}
use Rattle.system_state.specs.Layout.{queue_start}
use Rattle.system_state.specs.Words.{queue_part, with_queue}
use Rattle.system_state.specs.Fits.{StateSound, ceiling_at}
use Rattle.system_state.proofs.ChannelLaws.{kinds_length}

-- ---- the queue is lent as m words from `at` on
module _ (s : List ℕ) (q at m : ℕ) (start : at ≡ queue_start q) (size : m ≡ queue_words) where
  pub lent_is : take m (drop at s) ≡ queue_part s q
  lent_is = rw (size, start)

  pub put_back : (f : List ℕ → List ℕ) (last : List ℕ) → last ≡ f (take m (drop at s))
      → take at s ++ (last ++ drop m (drop at s)) ≡ with_queue s q (f (queue_part s q))
  put_back f last e = rw (e, size, start)

-- ---- a queue of a sound state
module _ {t s : List ℕ} (sound : SystemSound t) (h : StateSound t s) (q : ℕ) (l : q < channel_count t) where
  pub queue_small : q < channel_room
  queue_small = omega (arith, l, sound.channels)

  pub queue_counted : Counted (queue_part s q)
  queue_counted = (h.queue q l).formed.counted

  -- where something is stored, a whole message is
  pub message_stored : 0 < stored_of (queue_part s q) → slots_for (width_of t q) ≤ stored_of (queue_part s q)
  message_stored some =
      subst (λ (w : ℕ). slots_for w ≤ stored_of (queue_part s q)) (kinds_length sound q l)
      (one_message (channel_kinds t q) (ceiling_at t q) (queue_part s q) (h.queue q l) (λ e. omega arith))
