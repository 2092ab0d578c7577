-- A table of which each part is that of a well-formed one, or is well formed itself, is well formed: what calls that add a channel or
-- a graph, or change one graph, leave.
use Prim.Native.Nat.{ℕ, ◌≤◌, ◌<◌}
use mathlib.Core.Path.{◌≡◌, refl, ◌∙◌}
use mathlib.Core.Bool.{Bool, true, false}
use mathlib.Core.List.{List}
use native.Mathlib.Nat.{lt_of_lt_of_le, le_refl, not-le_of_lt}
use native.Mathlib.Decide.{ℕ_discrete}
use borrow.Author.Tests.{ltb-true, ltb-false}
use lib.Dec.{ltb}
use lib.ListN.{length}
use Rattle.graph_tables.specs.Sizes.{action_room}
use Rattle.graph_tables.specs.Layout.{table_words}
use Rattle.graph_tables.specs.Words.{action_count}
use Rattle.graph_tables.specs.Formed.{well_formed}
use Rattle.graph_tables.proofs.SoundLaws.{sound}
use Rattle.system_tables.specs.Sizes.{graph_room, channel_room}
use Rattle.system_tables.specs.Layout.{graph_start}
use Rattle.system_tables.specs.Words.{SystemWords, graph_count, channel_count, graph_part, with_graph}
use Rattle.system_tables.specs.Formed.{graph_formed, channel_formed, communications_formed}
use Rattle.system_tables.proofs.FormedLaws.{channel_narrow}
use Rattle.system_tables.proofs.ElsewhereLaws.{Elsewhere}
use Rattle.system_tables.proofs.FrameLaws.{CountsSame, ChannelSame, CommunicationsSame, GraphSame}
use Rattle.system_tables.proofs.FrameLaws.{graph_counts, graph_channel, graph_communications, graph_graph}
use Rattle.system_tables.proofs.FrameLaws.{with_graph_elsewhere, with_graph_part}
use Rattle.system_tables.proofs.KeptLaws.{Formed, ActionSame, same_action, ChannelsGrown, rows_grown}
use Rattle.system_tables.proofs.KeptLaws.{graph_kept, channel_kept, communications_kept}

-- graph g of u is that of t, with its communications, or is well formed itself
pub data GraphCarried (t u : List ℕ) (building : Bool) (g : ℕ) : Type 0 where
  kept : g < graph_count t → GraphSame t u g → CommunicationsSame t u g → GraphCarried t u building g
  anew : graph_formed u building g ≡ true → communications_formed u g ≡ true → GraphCarried t u building g

pub record Carried (t u : List ℕ) (building : Bool) : Type 0 where
  pub words : SystemWords u
  pub graphs : graph_count u ≤ graph_room
  pub channels : channel_count u ≤ channel_room
  pub more : channel_count t ≤ channel_count u
  pub row : (q : ℕ) → q < channel_count t → ChannelSame t u q
  pub fresh : (q : ℕ) → channel_count t ≤ q → q < channel_count u → channel_formed u q ≡ true
  pub graph : (g : ℕ) → g < graph_count u → GraphCarried t u building g

few_actions : (t : List ℕ) (building : Bool) (g : ℕ) → graph_formed t building g ≡ true → action_count (graph_part t g) ≤ action_room
unfolding graph_formed
few_actions t building g h = (sound (graph_part t g) building h).counts.actions

module _ (t u : List ℕ) (building : Bool) (f : Formed t building) (c : Carried t u building) where
  grown : ChannelsGrown t u
  grown = rows_grown t u c.more c.row (λ q l. channel_narrow t q (f.channel q l))

  channel_carried : (q : ℕ) → q < channel_count u → channel_formed u q ≡ true
  channel_carried q l = by (ltb q (channel_count t)) refl
    where
      by : (b : Bool) → ltb q (channel_count t) ≡ b → channel_formed u q ≡ true
      by true e = let known = ltb-true _ _ e in channel_kept t u q (c.row q known) (f.channel q known)
      by false e = c.fresh q (ltb-false _ _ e) l

  graph_carried : (g : ℕ) → GraphCarried t u building g → graph_formed u building g ≡ true
  graph_carried g (kept l same each) = graph_kept t u building g same (f.graph g l)
  graph_carried g (anew h k) = h

  communications_carried : (g : ℕ) → GraphCarried t u building g → communications_formed u g ≡ true
  communications_carried g (kept l same each) =
      communications_kept grown g
      (λ a k. each a (lt_of_lt_of_le k (few_actions t building g (f.graph g l))))
      (λ a k. rw same (same_action (graph_part t g) a))
      (f.communications g l)
      (rw same)
  communications_carried g (anew h k) = k

  pub carried : Formed u building
  carried =
      record {
        words = c.words;
        graphs = c.graphs;
        channels = c.channels;
        graph = λ g l. graph_carried g (c.graph g l);
        channel = channel_carried;
        communications = λ g l. communications_carried g (c.graph g l);
      }

-- ---- the words of graph g written
module _ (t new : List ℕ) (building : Bool) (f : Formed t building) (g : ℕ)
    (known : g < graph_count t) (formed : well_formed new building ≡ true) where
  size : length new ≡ table_words
  size = (sound new building formed).words

  changed : Elsewhere t (with_graph t g new) (graph_start g) table_words
  changed = with_graph_elsewhere t new f.words g (lt_of_lt_of_le known f.graphs) size

  counts : CountsSame t (with_graph t g new)
  counts = graph_counts f.words g changed

  part : graph_part (with_graph t g new) g ≡ new
  part = with_graph_part t new f.words g (lt_of_lt_of_le known f.graphs) size

  new_formed : graph_formed (with_graph t g new) building g ≡ true
  unfolding graph_formed
  new_formed = rw part formed

  rows : (q : ℕ) → q < channel_count t → ChannelSame t (with_graph t g new) q
  rows q l = graph_channel f.words g changed q (lt_of_lt_of_le l f.channels)

  channels : ChannelsGrown t (with_graph t g new)
  channels = rows_grown t (with_graph t g new) (rw counts.channels (le_refl _)) rows (λ q l. channel_narrow t q (f.channel q l))

  -- no action more, and each as it was: the communications fit as before
  pub same_actions : action_count new ≡ action_count (graph_part t g)
      → ((a : ℕ) → a < action_count (graph_part t g) → ActionSame (graph_part t g) new a) → communications_formed (with_graph t g new) g ≡ true
  same_actions count each =
      communications_kept channels g
      (λ a l. graph_communications f.words g changed g a (lt_of_lt_of_le l (few_actions t building g (f.graph g known))))
      (λ a l. rw part (each a l))
      (f.communications g known)
      (rw part count)

  -- the system is well formed if the communications of graph g fit
  pub with_graph_formed : communications_formed (with_graph t g new) g ≡ true → Formed (with_graph t g new) building
  with_graph_formed fit =
      carried t (with_graph t g new) building f
      (record {
        words = changed.sizes ∙ f.words;
        graphs = rw counts.graphs f.graphs;
        channels = rw counts.channels f.channels;
        more = channels.more;
        row = rows;
        fresh = λ q l k. absurd (not-le_of_lt (rw counts.channels at k) l);
        graph = λ h l. by h (rw counts.graphs at l) (ℕ_discrete h g);
      })
    where
      by : (h : ℕ) → h < graph_count t → Dec (h ≡ g) → GraphCarried t (with_graph t g new) building h
      by h l (yes e) = rw e (anew new_formed fit)
      by h l (no other) =
          kept l (graph_graph f.words g changed h (lt_of_lt_of_le l f.graphs) other) (graph_communications f.words g changed h)
