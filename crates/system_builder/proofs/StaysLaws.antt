-- A system that has all that another has, as it was: channels, graphs, actions with their communications. What stays in two steps
-- stays in both.
use Prim.Native.Nat.{ℕ, ◌≤◌, ◌<◌}
use mathlib.Core.Path.{◌≡◌, ◌∙◌}
use mathlib.Core.List.{List, [], ◌∷◌}
use native.Mathlib.Nat.{le_trans, lt_of_lt_of_le}
use Rattle.graph_tables.specs.Words.{action_count}
use Rattle.graph_builder.specs.Reading.{Graph, graph_of}
use Rattle.graph_builder.proofs.KeptParts.{GoesOn, ResetsStay, Kept, counts_kept}
use Rattle.system_tables.specs.Words.{graph_count, channel_count, width_of, channel_kind, capacity_of, graph_part, communication_of}
use Rattle.system_tables.proofs.KeptLaws.{MessageSame, ActionSame}

-- a channel: how many values its messages have, of which kinds, and how much it holds
pub record ChannelStays (t u : List ℕ) (q : ℕ) : Type 0 where
  pub width : width_of u q ≡ width_of t q
  pub kind : (e : ℕ) → e < width_of t q → channel_kind u q e ≡ channel_kind t q e
  pub capacity : capacity_of u q ≡ capacity_of t q

-- a graph: its parts are there under their numbers; each action is what it was to the system, and has its communication
pub record GraphStays (t u : List ℕ) (g : ℕ) : Type 0 where
  pub parts : Kept (graph_of (graph_part t g)) (graph_of (graph_part u g))
  pub action : (a : ℕ) → a < action_count (graph_part t g) → ActionSame (graph_part t g) (graph_part u g) a
  pub communication : (a : ℕ) → a < action_count (graph_part t g) → communication_of u g a ≡ communication_of t g a

-- a system: no graph and no channel goes, and each is as it was
pub record Stays (t u : List ℕ) : Type 0 where
  pub graphs : graph_count t ≤ graph_count u
  pub channels : channel_count t ≤ channel_count u
  pub graph : (g : ℕ) → g < graph_count t → GraphStays t u g
  pub channel : (q : ℕ) → q < channel_count t → ChannelStays t u q

-- ---- one step after the other
goes_on_then : {A : Type 0} (R : A → A → Type 0) → ((x y z : A) → R x y → R y z → R x z) → (xs ys zs : List A) → GoesOn R xs ys
    → GoesOn R ys zs → GoesOn R xs zs
goes_on_then R on [] ys zs h k = tt
goes_on_then R on (x ∷ xs) [] zs h k = absurd h
goes_on_then R on (x ∷ xs) (y ∷ ys) [] h k = absurd k
goes_on_then R on (x ∷ xs) (y ∷ ys) (z ∷ zs) h k = (on x y z h.0 k.0, goes_on_then R on xs ys zs h.1 k.1)

abbrev Is : {A : Type 0} → A → A → Type 0
Is x y = y ≡ x

is_then : {A : Type 0} (xs ys zs : List A) → GoesOn Is xs ys → GoesOn Is ys zs → GoesOn Is xs zs
is_then = goes_on_then Is (λ x y z p q. q ∙ p)

kept_then : {g h k : Graph} → Kept g h → Kept h k → Kept g k
kept_then {g} {h} {k} p q =
    record {
      variables = is_then g.variables h.variables k.variables p.variables q.variables;
      clocks = le_trans p.clocks q.clocks;
      locations = is_then g.locations h.locations k.locations p.locations q.locations;
      processes = is_then g.processes h.processes k.processes p.processes q.processes;
      actions =
          goes_on_then ResetsStay (λ x y z a b. λ c i. b c (a c i)) g.actions h.actions k.actions p.actions q.actions;
    }

message_then : {G H K : List ℕ} {a : ℕ} → MessageSame G H a → MessageSame H K a → MessageSame G K a
message_then p q = record { count = q.count ∙ p.count; kind = λ e l. q.kind e (rw p.count l) ∙ p.kind e l }

pub action_then : {G H K : List ℕ} {a : ℕ} → ActionSame G H a → ActionSame H K a → ActionSame G K a
action_then x y =
    record {
      plain = y.plain ∙ x.plain;
      send = y.send ∙ x.send;
      receive = y.receive ∙ x.receive;
      sent = λ h. message_then (x.sent h) (y.sent (x.send ∙ h));
      received = λ h. message_then (x.received h) (y.received (x.receive ∙ h));
    }

module _ {t u v : List ℕ} where
  graph_then : (g : ℕ) → GraphStays t u g → GraphStays u v g → GraphStays t v g
  graph_then g p q =
      let more : action_count (graph_part t g) ≤ action_count (graph_part u g) = (counts_kept (graph_part t g) (graph_part u g) p.parts).3 in
      record {
        parts = kept_then p.parts q.parts;
        action = λ a l. action_then (p.action a l) (q.action a (lt_of_lt_of_le l more));
        communication = λ a l. q.communication a (lt_of_lt_of_le l more) ∙ p.communication a l;
      }

  pub channel_then : (q : ℕ) → ChannelStays t u q → ChannelStays u v q → ChannelStays t v q
  channel_then q x y =
      record {
        width = y.width ∙ x.width;
        kind = λ e l. y.kind e (rw x.width l) ∙ x.kind e l;
        capacity = y.capacity ∙ x.capacity;
      }

  pub stays_then : Stays t u → Stays u v → Stays t v
  stays_then p q =
      record {
        graphs = le_trans p.graphs q.graphs;
        channels = le_trans p.channels q.channels;
        graph = λ g l. graph_then g (p.graph g l) (q.graph g (lt_of_lt_of_le l p.graphs));
        channel = λ c l. channel_then c (p.channel c l) (q.channel c (lt_of_lt_of_le l p.channels));
      }
