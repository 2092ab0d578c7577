-- A graph more, and a channel more, leave a well-formed system well formed.
use Rattle.graph_tables.specs.Answers.{Answer}
use Prim.Native.Nat.{ℕ, zero, suc, ◌+◌, ◌≤◌, ◌<◌}
use mathlib.Core.Path.{◌≡◌, refl, sym, ap, ◌∙◌}
use mathlib.Core.Bool.{true}
use mathlib.Core.List.{List}
use native.Mathlib.Nat.{lt_of_lt_of_le}
use native.Mathlib.Decide.{ℕ_discrete}
use native.Mathlib.Omega.{arith}
use borrow.Author.Tests.{lt-ltb, le-leb}
use lib.ListN.{length, get_or, set, length-set}
use lib.Seq.{get_or-set_same, get_or-set_other}
use Rattle.laws.proofs.BelowLaws.{and_both, all_from}
use Rattle.grammar.specs.Values.{kind_word}
use Rattle.grammar.specs.declared.values.«Type».{«Type» as Kind}
use Rattle.graph_tables.specs.Layout.{table_words}
use Rattle.graph_tables.specs.Sizes.{message_room, no_kind}
use Rattle.graph_tables.specs.Words.{Words, action_count}
use Rattle.graph_tables.specs.Formed.{well_formed}
use Rattle.graph_tables.proofs.SoundLaws.{sound}
use Rattle.graph_edits.specs.Lists.{action_at}
use Rattle.graph_edits.proofs.ListLaws.{list_length}
use Rattle.graph_builder.specs.Building.{Outcome, empty_of}
use Rattle.graph_builder.specs.Reading.{Graph, graph_of, empty_graph}
use Rattle.graph_builder.proofs.BuildingLaws.{placed_if_lem}
use Rattle.graph_builder.proofs.Theorems as own
use Rattle.system_tables.specs.Sizes.{graph_room, channel_room, bounded_sort, unbounded_sort, sink_sort}
use Rattle.system_tables.specs.Layout.{graphs_cell, channels_cell, channels_start, channel_span, channel_row, channel_kind_cell, sort_cell}
use Rattle.system_tables.specs.Layout.{capacity_cell, graph_start}
use Rattle.system_tables.specs.Words.{SystemWords, graph_count, channel_count, width_of, channel_kind, sort_of, bound_of, capacity_of}
use Rattle.system_tables.specs.Words.{capacity_set, graph_part}
use Rattle.system_tables.specs.Formed.{graph_formed, channel_kind_formed, capacity_formed, channel_formed}
use Rattle.system_tables.specs.declared.ids.ChannelCapacity.{ChannelCapacity}
use Rattle.system_tables.specs.declared.ids.ChannelCapacity.TheVariants.{Bounded, Unbounded, Sink}
use Rattle.system_tables.proofs.WordLaws.{capacity_back}
use Rattle.system_tables.proofs.ElsewhereLaws.{Elsewhere, set_elsewhere, then_elsewhere}
use Rattle.system_tables.proofs.FrameLaws.{ChannelSame, GraphSame, CommunicationsSame, with_graph_elsewhere, with_graph_part}
use Rattle.system_tables.proofs.FrameLaws.{graph_counts, graph_channel, graph_communications, graph_graph}
use Rattle.system_tables.proofs.FrameLaws.{counts_channel, counts_communications, counts_graph}
use Rattle.system_tables.proofs.FrameLaws.{channel_counts, channel_channel, channel_communications, channel_graph}
use Rattle.system_tables.proofs.KeptLaws.{Formed, width_same, kind_same, sort_same, bound_same, channel_kept, no_communications}
use Rattle.system_tables.proofs.CarriedLaws.{GraphCarried, kept, anew, carried}
use Rattle.system_builder.specs.declared.handed.Kinds.{Kinds}
use Rattle.system_builder.specs.Systems.{graph_check, with_no_parts, with_new_graph, new_graph_of, handed_kind, channel_check, with_kinds}
use Rattle.system_builder.specs.Systems.{with_row}
use Rattle.system_builder.specs.Systems.{with_new_channel, new_channel_of, blank_kind}
use Rattle.system_builder.specs.Chains.{CapacityFits}
use Rattle.system_builder.proofs.SystemLaws.{graph_ready, channel_ready, ChannelReady, part_size}

-- ---- a graph more
module _ (t : List ℕ) (f : Formed t true) (small : graph_count t < graph_room) where
  -- its number, its words, and the table with them, before it is counted
  abbrev new : ℕ
  new = graph_count t

  abbrev empty : List ℕ
  empty = (empty_of (graph_part t new)).table

  abbrev put : List ℕ
  put = with_no_parts t new

  size : Words (graph_part t new)
  size = part_size t new f.words small

  empty_formed : well_formed empty true ≡ true
  empty_formed = own.empty_formed (graph_part t new) size

  put_there : Elsewhere t put (graph_start new) table_words
  put_there = with_graph_elsewhere t empty f.words new small (sound empty true empty_formed).words

  put_words : SystemWords put
  put_words = put_there.sizes ∙ f.words

  counted : Elsewhere put (with_new_graph t) graphs_cell channels_start
  counted = set_elsewhere put graphs_cell (new + 1) graphs_cell channels_start (omega arith) (omega arith)

  pub graphs_more : graph_count (with_new_graph t) ≡ graph_count t + 1
  graphs_more = get_or-set_same put graphs_cell (new + 1) 0 (omega (arith, put_words))

  pub graph_channels : channel_count (with_new_graph t) ≡ channel_count t
  graph_channels =
      get_or-set_other put graphs_cell channels_cell (new + 1) 0 (λ e. omega arith) ∙ (graph_counts f.words new put_there).channels

  pub graph_row : (q : ℕ) → q < channel_count t → ChannelSame t (with_new_graph t) q
  graph_row q l j k =
      counts_channel put_words counted q j k ∙ graph_channel f.words new put_there q (lt_of_lt_of_le l f.channels) j k

  pub graph_same_lem : (g : ℕ) → g < graph_count t → GraphSame t (with_new_graph t) g
  graph_same_lem g l =
      let s = lt_of_lt_of_le l f.graphs in
      counts_graph put_words counted g s ∙ graph_graph f.words new put_there g s (λ e. omega (arith, l))

  pub graph_messages : (g : ℕ) → CommunicationsSame t (with_new_graph t) g
  graph_messages g a l = counts_communications put_words counted g a l ∙ graph_communications f.words new put_there g a l

  -- it is empty
  pub part : graph_part (with_new_graph t) new ≡ empty
  part = counts_graph put_words counted new small ∙ with_graph_part t empty f.words new small (sound empty true empty_formed).words

  new_formed : graph_formed (with_new_graph t) true new ≡ true
  unfolding graph_formed
  new_formed = rw part empty_formed

  pub none : action_count empty ≡ 0
  none =
      sym (list_length (action_at empty) (action_count empty))
      ∙ ap (λ (g : Graph). length g.actions) (own.empty_reads (graph_part t new) size)

  -- it reads as a graph without parts
  pub new_reads : graph_of (graph_part (with_new_graph t) new) ≡ empty_graph
  new_reads = ap graph_of part ∙ own.empty_reads (graph_part t new) size

  more_formed : Formed (with_new_graph t) true
  more_formed =
      carried t (with_new_graph t) true f
      (record {
        words = counted.sizes ∙ put_words;
        graphs = omega (arith, graphs_more, small);
        channels = omega (arith, graph_channels, f.channels);
        more = omega (arith, graph_channels);
        row = graph_row;
        fresh = λ q l k. absurd (omega (arith, graph_channels, l, k));
        graph = λ g l. by g l (ℕ_discrete g new);
      })
    where
      by : (g : ℕ) → g < graph_count (with_new_graph t) → Dec (g ≡ new) → GraphCarried t (with_new_graph t) true g
      by g l (yes e) = rw e (anew new_formed (no_communications (with_new_graph t) new (ap action_count part ∙ none)))
      by g l (no other) =
          let m : g < graph_count t = omega (arith, graphs_more, l, other) in
          kept m (graph_same_lem g m) (graph_messages g)

pub graph_formed_lem : (t : List ℕ) → Formed t true → Formed (new_graph_of t).table true
unfolding new_graph_of
graph_formed_lem t f =
    placed_if_lem (λ (o : Outcome (Answer ℕ)). Formed o.table true) (graph_check t) t _ _ (λ r. f) (λ e. more_formed t f (graph_ready t e).1)

-- ---- a channel more
kind_word_lem : (k : Kind) → kind_word k < no_kind
kind_word_lem Kind.Boolean = omega arith
kind_word_lem Kind.Integer = omega arith

handed_kind_lem : (k : Kinds) (e : ℕ) → handed_kind k e < no_kind
handed_kind_lem k e = kind_word_lem (get_or k.kinds e blank_kind).kind

module _ (t : List ℕ) (q : ℕ) (k : Kinds) where
  kinds_elsewhere : (n : ℕ) → n ≤ message_room → Elsewhere t (with_kinds t q k n) (channel_row q) channel_span
  unfolding with_kinds
  kinds_elsewhere zero l = record { sizes = refl; same = λ i out. refl }
  kinds_elsewhere (suc n) l =
      then_elsewhere (kinds_elsewhere n (omega arith))
      (set_elsewhere (with_kinds t q k n) (channel_kind_cell q n) (handed_kind k n) (channel_row q) channel_span (omega arith) (omega arith))

  -- each kind stands in its place
  kinds_at : SystemWords t → q < channel_room → (n : ℕ) → n ≤ message_room → (e : ℕ) → e < n
      → channel_kind (with_kinds t q k n) q e ≡ handed_kind k e
  unfolding with_kinds
  kinds_at words small zero l e h = absurd (omega arith)
  kinds_at words small (suc n) l e h = by (kinds_at words small n (omega arith) e) (ℕ_discrete e n)
    where
      by : (e < n → channel_kind (with_kinds t q k n) q e ≡ handed_kind k e) → Dec (e ≡ n)
          → channel_kind (set (with_kinds t q k n) (channel_kind_cell q n) (handed_kind k n)) q e ≡ handed_kind k e
      by before (yes p) =
          rw p
          (get_or-set_same (with_kinds t q k n) (channel_kind_cell q n) (handed_kind k n) 0
          (omega (arith, (kinds_elsewhere n (omega arith)).sizes, words, small)))
      by before (no other) =
          get_or-set_other (with_kinds t q k n) (channel_kind_cell q n) (channel_kind_cell q e) (handed_kind k n) 0 (λ p. other (omega arith))
          ∙ before (omega (arith, h, other))

module _ (u : List ℕ) (q : ℕ) where
  capacity_elsewhere : (c : ChannelCapacity) → Elsewhere u (capacity_set u q c) (channel_row q) channel_span
  capacity_elsewhere (Bounded n) =
      then_elsewhere (set_elsewhere u (sort_cell q) bounded_sort (channel_row q) channel_span (omega arith) (omega arith))
      (set_elsewhere (set u (sort_cell q) bounded_sort) (capacity_cell q) n (channel_row q) channel_span (omega arith) (omega arith))
  capacity_elsewhere Unbounded = set_elsewhere u (sort_cell q) unbounded_sort (channel_row q) channel_span (omega arith) (omega arith)
  capacity_elsewhere Sink = set_elsewhere u (sort_cell q) sink_sort (channel_row q) channel_span (omega arith) (omega arith)

  -- the words of the row before its sort are as they were
  capacity_leaves : (c : ChannelCapacity) (i : ℕ) → i < sort_cell q → get_or (capacity_set u q c) i 0 ≡ get_or u i 0
  capacity_leaves (Bounded n) i l =
      get_or-set_other (set u (sort_cell q) bounded_sort) (capacity_cell q) i n 0 (λ e. omega arith)
      ∙ get_or-set_other u (sort_cell q) i bounded_sort 0 (λ e. omega arith)
  capacity_leaves Unbounded i l = get_or-set_other u (sort_cell q) i unbounded_sort 0 (λ e. omega arith)
  capacity_leaves Sink i l = get_or-set_other u (sort_cell q) i sink_sort 0 (λ e. omega arith)

  module _ (words : SystemWords u) (small : q < channel_room) where
    sort_set : (sort : ℕ) → sort_of (set u (sort_cell q) sort) q ≡ sort
    sort_set sort = get_or-set_same u (sort_cell q) sort 0 (omega arith)

    capacity_formed_lem : (c : ChannelCapacity) → CapacityFits c → capacity_formed (capacity_set u q c) q ≡ true
    unfolding capacity_formed
    capacity_formed_lem (Bounded n) fit =
        let s = set u (sort_cell q) bounded_sort in
        let in_s : capacity_cell q < length s = simp length-set (omega arith) in
        let sort : sort_of (set s (capacity_cell q) n) q ≡ bounded_sort =
        get_or-set_other s (capacity_cell q) (sort_cell q) n 0 (λ e. omega arith) ∙ sort_set bounded_sort
        in
        let bound : bound_of (set s (capacity_cell q) n) q ≡ n = get_or-set_same s (capacity_cell q) n 0 in_s in
        rw (sort, bound) (lt-ltb _ _ fit)
    capacity_formed_lem Unbounded fit = rw (sort_set unbounded_sort)
    capacity_formed_lem Sink fit = rw (sort_set sink_sort)

module _ (t : List ℕ) (f : Formed t true) (k : Kinds) (c : ChannelCapacity) (fit : CapacityFits c) (r : ChannelReady t k c) where
  -- its number, and the table with its row, before it is counted
  abbrev next : ℕ
  next = channel_count t

  abbrev row : List ℕ
  row = with_row t next k c

  abbrev kinds : List ℕ
  kinds = with_kinds t next k k.count

  abbrev wide : List ℕ
  wide = set kinds (channel_row next) k.count

  kinds_there : Elsewhere t kinds (channel_row next) channel_span
  kinds_there = kinds_elsewhere t next k k.count r.few

  kinds_words : SystemWords kinds
  kinds_words = kinds_there.sizes ∙ f.words

  wide_there : Elsewhere kinds wide (channel_row next) channel_span
  wide_there = set_elsewhere kinds (channel_row next) k.count (channel_row next) channel_span (omega arith) (omega arith)

  wide_words : SystemWords wide
  wide_words = wide_there.sizes ∙ kinds_words

  row_there : Elsewhere t row (channel_row next) channel_span
  row_there = then_elsewhere (then_elsewhere kinds_there wide_there) (capacity_elsewhere wide next c)

  row_words : SystemWords row
  row_words = row_there.sizes ∙ f.words

  written : Elsewhere row (with_new_channel t k c) graphs_cell channels_start
  written = set_elsewhere row channels_cell (next + 1) graphs_cell channels_start (omega arith) (omega arith)

  pub channels_more : channel_count (with_new_channel t k c) ≡ channel_count t + 1
  channels_more = get_or-set_same row channels_cell (next + 1) 0 (omega (arith, row_words))

  pub channel_graphs : graph_count (with_new_channel t k c) ≡ graph_count t
  channel_graphs =
      get_or-set_other row channels_cell graphs_cell (next + 1) 0 (λ e. omega arith)
      ∙ (channel_counts f.words next r.more row_there).graphs

  pub channel_row_lem : (q : ℕ) → q < channel_count t → ChannelSame t (with_new_channel t k c) q
  channel_row_lem q l j m =
      counts_channel row_words written q j m ∙ channel_channel f.words next r.more row_there q (λ e. omega (arith, l, e)) j m

  pub channel_same : (g : ℕ) → g < graph_count t → GraphSame t (with_new_channel t k c) g
  channel_same g l =
      let s = lt_of_lt_of_le l f.graphs in
      counts_graph row_words written g s ∙ channel_graph f.words next r.more row_there g s

  pub channel_messages : (g : ℕ) → CommunicationsSame t (with_new_channel t k c) g
  channel_messages g a l = counts_communications row_words written g a l ∙ channel_communications f.words next r.more row_there g a l

  -- its row says what was handed
  width : width_of row next ≡ k.count
  width =
      capacity_leaves wide next c (channel_row next) (omega arith)
      ∙ get_or-set_same kinds (channel_row next) k.count 0 (omega (arith, kinds_words, r.more))

  kind_at_lem : (e : ℕ) → e < k.count → channel_kind row next e ≡ handed_kind k e
  kind_at_lem e l =
      capacity_leaves wide next c (channel_kind_cell next e) (omega (arith, l, r.few))
      ∙ get_or-set_other kinds (channel_row next) (channel_kind_cell next e) k.count 0 (λ p. omega arith)
      ∙ kinds_at t next k f.words r.more k.count r.few e l

  row_formed : channel_formed row next ≡ true
  unfolding channel_formed channel_kind_formed
  row_formed =
      rw (width, capacity_back wide wide_words next r.more c)
      (and_both (le-leb _ _ r.few)
      (and_both (all_from (channel_kind_formed row next) k.count (λ e l. rw (kind_at_lem e l) (lt-ltb _ _ (handed_kind_lem k e))))
      (and_both (capacity_formed_lem wide next wide_words r.more c fit) r.room)))

  row_same : ChannelSame row (with_new_channel t k c) next
  row_same = counts_channel row_words written next

  pub new_width : width_of (with_new_channel t k c) next ≡ k.count
  new_width = width_same row (with_new_channel t k c) next row_same ∙ width

  pub new_kind : (e : ℕ) → e < k.count → channel_kind (with_new_channel t k c) next e ≡ handed_kind k e
  new_kind e l = kind_same row (with_new_channel t k c) next row_same e (omega (arith, r.few)) ∙ kind_at_lem e l

  pub new_capacity : capacity_of (with_new_channel t k c) next ≡ c
  new_capacity =
      rw (sort_same row (with_new_channel t k c) next row_same, bound_same row (with_new_channel t k c) next row_same)
      (capacity_back wide wide_words next r.more c)

  fresh_formed : channel_formed (with_new_channel t k c) next ≡ true
  fresh_formed = channel_kept row (with_new_channel t k c) next row_same row_formed

  wider_formed : Formed (with_new_channel t k c) true
  wider_formed =
      carried t (with_new_channel t k c) true f
      (record {
        words = written.sizes ∙ row_words;
        graphs = omega (arith, channel_graphs, f.graphs);
        channels = omega (arith, channels_more, r.more);
        more = omega (arith, channels_more);
        row = channel_row_lem;
        fresh = λ q l m. let e : q ≡ next = omega (arith, channels_more, l, m) in rw e fresh_formed;
        graph = λ g l.
            let m : g < graph_count t = omega (arith, channel_graphs, l) in
            kept m (channel_same g m) (channel_messages g);
      })

pub channel_formed_lem : (t : List ℕ) (k : Kinds) (c : ChannelCapacity) → CapacityFits c → Formed t true
    → Formed (new_channel_of t k c).table true
unfolding new_channel_of
channel_formed_lem t k c fit f =
    placed_if_lem (λ (o : Outcome (Answer ℕ)). Formed o.table true) (channel_check t k c) t _ _ (λ r. f)
    (λ e. wider_formed t f k c fit (channel_ready t k c e))
