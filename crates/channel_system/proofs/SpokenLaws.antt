-- What an action is to the system, by its number.
use Prim.Native.Nat.{ℕ, ◌≤◌, ◌<◌}
use mathlib.Core.Path.{◌≡◌, refl}
use mathlib.Core.Bool.{Bool, true, false, cond}
use mathlib.Core.List.{List}
use native.Mathlib.Decide.{ℕ_discrete}
use native.Mathlib.Omega.{arith}
use lib.Dec.{ltb}
use borrow.Author.Tests.{lt-ltb, le-ltb, ltb-true}
use Rattle.graph_tables.specs.Sizes.{word32}
use Rattle.graph_tables.specs.Words.{action_count}
use Rattle.system_tables.specs.Sizes.{no_communication}
use Rattle.system_tables.specs.Words.{graph_count, channel_count, graph_part, communication_at, channel_part, communication_of}
use Rattle.system_tables.specs.Sound.{SystemSound}
use Rattle.system_tables.specs.declared.ids.Channel.{Channel}
use Rattle.system_tables.specs.declared.ids.Message.{Message}
use Rattle.system_tables.specs.declared.ids.Communication.TheVariants.{Plain, On}
use Rattle.system_tables.proofs.CommunicationLaws.{message_says}
use Rattle.channel_system.specs.Steps.{spoken_by}

module _ (t : List ℕ) (g a : ℕ) where
  -- one that the graph does not have
  pub spoken_none : action_count (graph_part t g) ≤ a → Plain ≡ spoken_by t g a
  spoken_none h = rw (le-ltb a (action_count (graph_part t g)) h)

  -- one that it has
  pub spoken_some : a < action_count (graph_part t g) → communication_of t g a ≡ spoken_by t g a
  spoken_some h = rw (lt-ltb a (action_count (graph_part t g)) h)

  module _ (sound : SystemSound t) (known : g < graph_count t) where
    -- the channel's word is small
    pub channel_small : a < action_count (graph_part t g) → channel_part (communication_at t g a) < word32
    channel_small h = by (ℕ_discrete (communication_at t g a) no_communication)
      where
        by : Dec (communication_at t g a ≡ no_communication) → channel_part (communication_at t g a) < word32
        by (yes e) = rw e (omega arith)
        by (no some) = omega (arith, (sound.communication g a known h).channel some, sound.channels)

    -- a communication's channel is one of the table's
    pub spoken_channel : {m : Message} {q : Channel} → spoken_by t g a ≡ On m q → q.0 < channel_count t
    spoken_channel {m} {q} h = by (ltb a (action_count (graph_part t g))) refl h
      where
        by : (b : Bool) → ltb a (action_count (graph_part t g)) ≡ b → cond b (communication_of t g a) Plain ≡ On m q → q.0 < channel_count t
        by true e f = (message_says (sound.communication g a known (ltb-true _ _ e)) m q f).0
        by false e f = let z : ◌≡◌ {A = ℕ} 0 1 = cc in absurd (omega arith)
