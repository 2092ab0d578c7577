-- What is written of a capacity and of a communication is read again.
use Prim.Native.Nat.{ℕ, ◌+◌, ◌*◌, ◌<◌, ◌≤◌}
use mathlib.Core.Path.{◌≡◌, refl, ◌∙◌}
use mathlib.Core.List.{List}
use native.Mathlib.Omega.{arith}
use borrow.Author.Tests.{ne_eqb}
use mathlib.Core.Bool.{false}
use lib.Dec.{eqb}
use lib.ListN.{length, set, length-set}
use lib.Seq.{get_or-set_same, get_or-set_other}
use Rattle.system_tables.specs.Sizes.{channel_room, bounded_sort, unbounded_sort, sink_sort, no_communication, full_message}
use Rattle.system_tables.specs.Layout.{sort_cell, capacity_cell, communication_span}
use Rattle.system_tables.specs.Words.{SystemWords, sort_of, bound_of, capacity_of, capacity_set, message_part, channel_part}
use Rattle.system_tables.specs.Words.{message_of, message_word, communication_in, communication_word}
use Rattle.system_tables.specs.declared.ids.ChannelCapacity.{ChannelCapacity}
use Rattle.system_tables.specs.declared.ids.ChannelCapacity.TheVariants.{Bounded, Unbounded, Sink}
use Rattle.system_tables.specs.declared.ids.Message.{Message}
use Rattle.system_tables.specs.declared.ids.Message.TheVariants.{Send, Receive, ProbeEmptyQueue, ProbeFullQueue}
use Rattle.system_tables.specs.declared.ids.Communication.{Communication}
use Rattle.system_tables.specs.declared.ids.Communication.TheVariants.{Plain, On}
use Rattle.system_tables.proofs.CeilingLaws.{few_messages}

-- ---- capacities
module _ (t : List ℕ) (words : SystemWords t) (q : ℕ) (small : q < channel_room) where
  sort_set : (sort : ℕ) → sort_of (set t (sort_cell q) sort) q ≡ sort
  sort_set sort = get_or-set_same t (sort_cell q) sort 0 (omega arith)

  pub capacity_back : (c : ChannelCapacity) → capacity_of (capacity_set t q c) q ≡ c
  capacity_back (Bounded n) =
      let s = set t (sort_cell q) bounded_sort in
      let in_s : capacity_cell q < length s = simp length-set (omega arith) in
      let sort : sort_of (set s (capacity_cell q) n) q ≡ bounded_sort =
      get_or-set_other s (capacity_cell q) (sort_cell q) n 0 (λ e. omega arith) ∙ sort_set bounded_sort
      in
      let bound : bound_of (set s (capacity_cell q) n) q ≡ n = get_or-set_same s (capacity_cell q) n 0 in_s in
      rw (sort, bound)
  capacity_back Unbounded = rw (sort_set unbounded_sort)
  capacity_back Sink = rw (sort_set sink_sort)

-- ---- communications
message_back_lem : (m : Message) → message_of (message_word m) ≡ m
message_back_lem Send = refl
message_back_lem Receive = refl
message_back_lem ProbeEmptyQueue = refl
message_back_lem ProbeFullQueue = refl

some_message : (m : Message) → 0 < message_word m
some_message Send = omega arith
some_message Receive = omega arith
some_message ProbeEmptyQueue = omega arith
some_message ProbeFullQueue = omega arith

pub communication_back : (c : Communication) → communication_in (communication_word c) ≡ c
communication_back Plain = refl
communication_back (On m q) =
    let k = message_word m in
    let w = k + communication_span * q.0 in
    let low : 0 < k = some_message m in
    let few : k ≤ full_message = few_messages m in
    let other : eqb w no_communication ≡ false = ne_eqb w no_communication (λ e. omega arith) in
    let kind : message_part w ≡ k = omega arith in
    let channel : channel_part w ≡ q.0 = omega arith in
    rw (other, kind, channel, message_back_lem m)
