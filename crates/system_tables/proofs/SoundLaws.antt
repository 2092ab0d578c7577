-- A system's table that is well formed is sound: from the tests to the facts, part by part.
use Prim.Native.Nat.{ℕ, ◌≤◌, ◌<◌}
use mathlib.Core.Path.{◌≡◌, refl}
use mathlib.Core.Bool.{Bool, true, false, ◌||◌}
use mathlib.Core.List.{List}
use native.Mathlib.Omega.{arith}
use borrow.Author.Tests.{ltb-true, leb-true, eqb-true, eqb-false}
use lib.Dec.{eqb}
use Rattle.laws.specs.Below.{all_below}
use Rattle.laws.proofs.BelowLaws.{and_first, and_rest, all_at}
use Rattle.graph_tables.specs.Words.{action_count, process_count}
use Rattle.graph_tables.specs.Messages.{is_plain}
use Rattle.graph_tables.proofs.SoundLaws.{by_test, started}
use Rattle.system_tables.specs.Sizes.{bounded_sort, sink_sort, no_communication, send_message, receive_message, empty_message, full_message}
use Rattle.system_tables.specs.Words.{graph_count, channel_count, width_of, sort_of, graph_part, communication_at, message_part, channel_part}
use Rattle.system_tables.specs.Ceiling.{has_room}
use Rattle.system_tables.specs.Formed.{system_counted, graph_formed, channel_kind_formed, capacity_formed, channel_formed, value_fits}
use Rattle.system_tables.specs.Formed.{message_fits, send_fits, receive_fits, is_probe, probe_formed, message_formed, communication_fits}
use Rattle.system_tables.specs.Formed.{communication_formed, communications_formed, members_formed, system_formed}
use Rattle.system_tables.specs.Sound.{ChannelSound, MessageSound, ProbeSound, CommunicationSound, SystemSound}
use Rattle.system_tables.proofs.FormedLaws.{few_graphs, few_channels, graphs_sound, bound_fits}

-- ---- channels
sort_known : (t : List ℕ) (q : ℕ) → capacity_formed t q ≡ true → sort_of t q ≤ sink_sort
unfolding capacity_formed
sort_known t q h =
    by_test (eqb (sort_of t q) bounded_sort) _ _ h
    (λ e f. let z : sort_of t q ≡ bounded_sort = eqb-true _ _ e in omega arith)
    (λ e f. leb-true _ _ f)

channel : (t : List ℕ) (q : ℕ) → channel_formed t q ≡ true → ChannelSound t q
unfolding channel_formed channel_kind_formed has_room
channel t q h =
    let capacity : capacity_formed t q ≡ true = and_first _ _ (and_rest _ _ (and_rest _ _ h)) in
    record {
      width = leb-true _ _ (and_first _ _ h);
      kind = λ e l. ltb-true _ _ (all_at (channel_kind_formed t q) (width_of t q) e (and_first _ _ (and_rest _ _ h)) l);
      sort = sort_known t q capacity;
      bound = bound_fits t q capacity;
      room = leb-true _ _ (and_rest _ _ (and_rest _ _ (and_rest _ _ h)));
    }

-- ---- communications
message : (t : List ℕ) (q : ℕ) (G : List ℕ) (a : ℕ) → message_fits t q G a ≡ true → MessageSound t q G a
unfolding message_fits value_fits
message t q G a h =
    record {
      count = eqb-true _ _ (and_first _ _ h);
      kind = λ e l. eqb-true _ _ (all_at (value_fits t q G a) (width_of t q) e (and_rest _ _ h) l);
    }

probe : (k : ℕ) (G : List ℕ) (a : ℕ) → probe_formed k G a ≡ true → ProbeSound G a
unfolding probe_formed
probe k G a h = record { send = and_first _ _ (and_rest _ _ h); none = eqb-true _ _ (and_rest _ _ (and_rest _ _ h)) }

probe_kind : (k : ℕ) → is_probe k ≡ true → (empty_message ≤ k) × (k ≤ full_message)
unfolding is_probe
probe_kind k h = one (eqb k empty_message) refl h
  where
    one : (b : Bool) → eqb k empty_message ≡ b → (b || eqb k full_message) ≡ true → (empty_message ≤ k) × (k ≤ full_message)
    one true e f = let z : k ≡ empty_message = eqb-true _ _ e in (omega arith, omega arith)
    one false e f = let z : k ≡ full_message = eqb-true _ _ f in (omega arith, omega arith)

module _ (t : List ℕ) (w : ℕ) (G : List ℕ) (a : ℕ) where
  none : w ≡ no_communication → is_plain G a ≡ true → CommunicationSound t w G a
  none e f =
      let z : message_part w ≡ 0 = rw e in
      record {
        plain = λ q. f;
        channel = λ q. absurd (q e);
        low = λ q. absurd (q e);
        high = λ q. absurd (q e);
        send = λ q. absurd (omega arith);
        receive = λ q. absurd (omega arith);
        empty = λ q. absurd (omega arith);
        full = λ q. absurd (omega arith);
      }

  module _ (some : w ≡ no_communication → ⊥) (known : channel_part w < channel_count t) where
    sent : message_part w ≡ send_message → send_fits t (channel_part w) G a ≡ true → CommunicationSound t w G a
    unfolding send_fits
    sent e f =
        record {
          plain = λ q. absurd (some q);
          channel = λ q. known;
          low = λ q. omega arith;
          high = λ q. omega arith;
          send = λ q. (and_first _ _ f, message t (channel_part w) G a (and_rest _ _ f));
          receive = λ q. absurd (omega arith);
          empty = λ q. absurd (omega arith);
          full = λ q. absurd (omega arith);
        }

    received : message_part w ≡ receive_message → receive_fits t (channel_part w) G a ≡ true → CommunicationSound t w G a
    unfolding receive_fits
    received e f =
        record {
          plain = λ q. absurd (some q);
          channel = λ q. known;
          low = λ q. omega arith;
          high = λ q. omega arith;
          send = λ q. absurd (omega arith);
          receive = λ q. (and_first _ _ f, message t (channel_part w) G a (and_rest _ _ f));
          empty = λ q. absurd (omega arith);
          full = λ q. absurd (omega arith);
        }

    probed : probe_formed (message_part w) G a ≡ true → CommunicationSound t w G a
    unfolding probe_formed
    probed f =
        let k = probe_kind (message_part w) (and_first _ _ f) in
        let low : empty_message ≤ message_part w = k.0 in
        record {
          plain = λ q. absurd (some q);
          channel = λ q. known;
          low = λ q. omega arith;
          high = λ q. k.1;
          send = λ q. absurd (omega arith);
          receive = λ q. absurd (omega arith);
          empty = λ q. probe (message_part w) G a f;
          full = λ q. probe (message_part w) G a f;
        }

  communication : communication_fits t w G a ≡ true → CommunicationSound t w G a
  unfolding communication_fits message_formed
  communication h =
      by_test (eqb w no_communication) _ _ h
      (λ z f. none (eqb-true _ _ z) f)
      (λ z f.
      let some : w ≡ no_communication → ⊥ = eqb-false _ _ z in
      let known : channel_part w < channel_count t = ltb-true _ _ (and_first _ _ f) in
      by_test (eqb (message_part w) send_message) _ _ (and_rest _ _ f)
      (λ y e. sent some known (eqb-true _ _ y) e)
      (λ y e.
      by_test (eqb (message_part w) receive_message) _ _ e
      (λ x d. received some known (eqb-true _ _ x) d)
      (λ x d. probed some known d)))

-- ---- the whole table
communications : (t : List ℕ) (g : ℕ) → communications_formed t g ≡ true → (a : ℕ) → a < action_count (graph_part t g)
    → CommunicationSound t (communication_at t g a) (graph_part t g) a
unfolding communications_formed communication_formed
communications t g h a l = communication t (communication_at t g a) (graph_part t g) a (all_at (communication_formed t g) _ a h l)

pub system_sound : (t : List ℕ) (building : Bool) → system_formed t building ≡ true → SystemSound t
unfolding system_formed members_formed
system_sound t building h =
    let counted : system_counted t ≡ true = and_first _ _ (and_rest _ _ h) in
    let members : members_formed t building ≡ true = and_rest _ _ (and_rest _ _ h) in
    let channels : all_below (channel_count t) (channel_formed t) ≡ true = and_first _ _ (and_rest _ _ members) in
    let all : all_below (graph_count t) (communications_formed t) ≡ true = and_rest _ _ (and_rest _ _ members) in
    record {
      words = eqb-true _ _ (and_first _ _ h);
      graphs = few_graphs t counted;
      channels = few_channels t counted;
      graph = graphs_sound t building (graph_count t) (and_first _ _ members);
      channel = λ q l. channel t q (all_at (channel_formed t) (channel_count t) q channels l);
      communication = λ g a l. communications t g (all_at (communications_formed t) (graph_count t) g all l) a;
    }

-- outside building every graph has a process
pub system_started : (t : List ℕ) → system_formed t false ≡ true → (g : ℕ) → g < graph_count t → 0 < process_count (graph_part t g)
unfolding system_formed members_formed graph_formed
system_started t h g l =
    started (graph_part t g) (all_at (graph_formed t false) (graph_count t) g (and_first _ _ (and_rest _ _ (and_rest _ _ h))) l)
