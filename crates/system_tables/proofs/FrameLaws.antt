-- What a write in one region of a system's table leaves: the other counts, channels, communications and graphs.
use Prim.Native.Nat.{ℕ, ◌+◌, ◌<◌}
use mathlib.Core.Path.{◌≡◌}
use mathlib.Core.List.{List}
use native.Mathlib.Omega.{arith}
use lib.ListN.{length, get_or}
use Rattle.graph_tables.specs.Layout.{table_words}
use Rattle.graph_tables.specs.Sizes.{action_room}
use Rattle.system_tables.specs.Sizes.{graph_room, channel_room}
use Rattle.system_tables.specs.Layout.{graphs_cell, channels_cell, channels_start, channel_span, channel_row, member_row}
use Rattle.system_tables.specs.Layout.{communication_cell, graph_start}
use Rattle.system_tables.specs.Words.{SystemWords, graph_count, channel_count, graph_part, with_graph, communication_at}
use Rattle.system_tables.proofs.ElsewhereLaws.{Elsewhere, put_elsewhere, put_part, part_elsewhere}

-- what two tables share: counts, the row of channel q, the communications of graph g, the words of graph g
pub record CountsSame (t u : List ℕ) : Type 0 where
  pub graphs : graph_count u ≡ graph_count t
  pub channels : channel_count u ≡ channel_count t

abbrev pub ChannelSame : List ℕ → List ℕ → ℕ → Type 0
ChannelSame t u q = (j : ℕ) → j < channel_span → get_or u (channel_row q + j) 0 ≡ get_or t (channel_row q + j) 0

abbrev pub CommunicationsSame : List ℕ → List ℕ → ℕ → Type 0
CommunicationsSame t u g = (a : ℕ) → a < action_room → communication_at u g a ≡ communication_at t g a

abbrev pub GraphSame : List ℕ → List ℕ → ℕ → Type 0
GraphSame t u g = graph_part u g ≡ graph_part t g

module _ {t u : List ℕ} (words : SystemWords t) where
  -- ---- a write among the counts
  module _ (e : Elsewhere t u graphs_cell channels_start) where
    pub counts_channel : (q : ℕ) → ChannelSame t u q
    counts_channel q j l = e.same (channel_row q + j) (λ k h p. omega arith)

    pub counts_communications : (g : ℕ) → CommunicationsSame t u g
    counts_communications g a l = e.same (communication_cell g a) (λ k h p. omega arith)

    pub counts_graph : (g : ℕ) → g < graph_room → GraphSame t u g
    counts_graph g r = part_elsewhere e (graph_start g) table_words (omega arith) (λ j k l h p. omega arith)

  -- ---- a write in the row of channel q
  module _ (q : ℕ) (small : q < channel_room) (e : Elsewhere t u (channel_row q) channel_span) where
    pub channel_counts : CountsSame t u
    channel_counts = record { graphs = e.same graphs_cell (λ k h p. omega arith); channels = e.same channels_cell (λ k h p. omega arith) }

    pub channel_channel : (p : ℕ) → (p ≡ q → ⊥) → ChannelSame t u p
    channel_channel p other j l = e.same (channel_row p + j) (λ k h s. other (omega arith))

    pub channel_communications : (g : ℕ) → CommunicationsSame t u g
    channel_communications g a l = e.same (communication_cell g a) (λ k h p. omega arith)

    pub channel_graph : (g : ℕ) → g < graph_room → GraphSame t u g
    channel_graph g r = part_elsewhere e (graph_start g) table_words (omega arith) (λ j k l h p. omega arith)

  -- ---- a write among the communications of graph g
  module _ (g : ℕ) (e : Elsewhere t u (member_row g) action_room) where
    pub communications_counts : CountsSame t u
    communications_counts =
        record { graphs = e.same graphs_cell (λ k h p. omega arith); channels = e.same channels_cell (λ k h p. omega arith) }

    pub communications_channel : (q : ℕ) → q < channel_room → ChannelSame t u q
    communications_channel q s j l = e.same (channel_row q + j) (λ k h p. omega arith)

    pub communications_communications : (f : ℕ) → (f ≡ g → ⊥) → CommunicationsSame t u f
    communications_communications f other a l = e.same (communication_cell f a) (λ k h p. other (omega arith))

    pub communications_graph : (f : ℕ) → f < graph_room → GraphSame t u f
    communications_graph f r = part_elsewhere e (graph_start f) table_words (omega arith) (λ j k l h p. omega arith)

  -- ---- a write in the words of graph g
  module _ (g : ℕ) (e : Elsewhere t u (graph_start g) table_words) where
    pub graph_counts : CountsSame t u
    graph_counts = record { graphs = e.same graphs_cell (λ k h p. omega arith); channels = e.same channels_cell (λ k h p. omega arith) }

    pub graph_channel : (q : ℕ) → q < channel_room → ChannelSame t u q
    graph_channel q s j l = e.same (channel_row q + j) (λ k h p. omega arith)

    pub graph_communications : (f : ℕ) → CommunicationsSame t u f
    graph_communications f a l = e.same (communication_cell f a) (λ k h p. omega arith)

    pub graph_graph : (f : ℕ) → f < graph_room → (f ≡ g → ⊥) → GraphSame t u f
    graph_graph f r other = part_elsewhere e (graph_start f) table_words (omega arith) (λ j k l h p. other (omega arith))

-- ---- the words of graph g written whole
module _ (t new : List ℕ) (words : SystemWords t) (g : ℕ) (small : g < graph_room) (size : length new ≡ table_words) where
  pub with_graph_elsewhere : Elsewhere t (with_graph t g new) (graph_start g) table_words
  with_graph_elsewhere = put_elsewhere t new (graph_start g) table_words size (omega arith)

  pub with_graph_part : graph_part (with_graph t g new) g ≡ new
  with_graph_part = put_part t new (graph_start g) table_words size (omega arith)
