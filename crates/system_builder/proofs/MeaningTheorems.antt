-- What a building call adds to a system, and that all else keeps its meaning.
use Rattle.std.specs.Prelude.{Ok, Err, ⊤}
use Prim.Native.Nat.{ℕ, ◌+◌, ◌<◌}
use mathlib.Core.Path.{◌≡◌, refl, sym, ap, ◌∙◌}
use mathlib.Core.Bool.{true}
use mathlib.Core.List.{List, [], ◌∷◌}
use native.Mathlib.Nat.{lt_of_lt_of_le, le_refl}
use native.Mathlib.Decide.{ℕ_discrete}
use native.Mathlib.Omega.{arith}
use Rattle.graph_tables.specs.Words.{action_count}
use Rattle.graph_tables.specs.Answers.{Answer, admitted, answer_number}
use Rattle.graph_tables.proofs.NumberLaws.{above_ok}
use Rattle.graph_tables.proofs.SoundLaws.{sound}
use Rattle.graph_builder.specs.Building.{Outcome, placed_if}
use Rattle.graph_builder.specs.Chains as Own
use Rattle.graph_builder.specs.Reading.{graph_of, empty_graph, added}
use Rattle.graph_builder.proofs.BuildingLaws.{placed_if_lem}
use Rattle.graph_builder.proofs.KeptParts.{kept_same}
use Rattle.graph_builder.proofs.Theorems as own
use Rattle.system_tables.specs.Words.{graph_count, channel_count, width_of, channel_kind, capacity_of, graph_part}
use Rattle.system_tables.specs.Words.{communication_in, communication_of}
use Rattle.system_tables.specs.Formed.{system_formed}
use Rattle.system_tables.specs.declared.ids.ChannelCapacity.{ChannelCapacity}
use Rattle.system_tables.specs.declared.ids.Communication.{Communication}
use Rattle.system_tables.proofs.FormedLaws.{channel_narrow}
use Rattle.system_tables.proofs.FrameLaws.{ChannelSame, GraphSame, CommunicationsSame}
use Rattle.system_tables.proofs.WordLaws.{communication_back}
use Rattle.system_tables.proofs.KeptLaws.{Formed, apart, same_action, width_same, kind_same, sort_same, bound_same}
use Rattle.system_builder.specs.declared.handed.Kinds.{Kinds}
use Rattle.system_builder.specs.Systems.{graph_check, new_graph_of, with_new_graph, handed_kind, channel_check, new_channel_of, with_new_channel}
use Rattle.system_builder.specs.Chains.{OnGraph, after_on, answer_on, Fits, Call, new_graph, new_channel, call_on_graph, after, answer_of}
use Rattle.system_builder.specs.Chains.{CallFits, after_all, AllFit, own_call, Tells}
use Rattle.system_builder.proofs.SystemLaws.{graph_ready, channel_ready}
use Rattle.system_builder.proofs.ActionLaws.{part_formed}
use Rattle.system_builder.proofs.Theorems.{others_stay}
use Rattle.system_builder.proofs.SameActions.{after_same}
use Rattle.system_builder.proofs.NewMembers.{graphs_more, graph_channels, graph_row, graph_same_lem, graph_messages, new_reads}
use Rattle.system_builder.proofs.NewMembers.{channels_more, channel_graphs, channel_row_lem, channel_same, channel_messages}
use Rattle.system_builder.proofs.NewMembers.{new_width, new_kind, new_capacity}
use Rattle.system_builder.proofs.StaysLaws.{ChannelStays, GraphStays, Stays, stays_then}
use Rattle.system_builder.proofs.KeptTheorems.{keeps_formed}
use Rattle.system_builder.proofs.AfterCalls.{After, refused, acted, own_fits, after_on_lem, told_word}

-- ---- what was there keeps its meaning
module _ (t u : List ℕ) (f : Formed t true) where
  -- from the words
  channel_stays : (q : ℕ) → q < channel_count t → ChannelSame t u q → ChannelStays t u q
  channel_stays q l same =
      let few = channel_narrow t q (f.channel q l) in
      record {
        width = width_same t u q same;
        kind = λ e k. kind_same t u q same e (lt_of_lt_of_le k few);
        capacity = rw (sort_same t u q same, bound_same t u q same);
      }

  graph_stays : (g : ℕ) → g < graph_count t → GraphSame t u g → CommunicationsSame t u g → GraphStays t u g
  graph_stays g l same each =
      record {
        parts = rw same (kept_same (graph_of (graph_part t g)));
        action = λ a k. rw same (same_action (graph_part t g) a);
        communication = λ a k.
            ap communication_in (each a (lt_of_lt_of_le k (sound (graph_part t g) true (part_formed t g f l)).counts.actions));
      }

same_stays : (t : List ℕ) → Formed t true → Stays t t
same_stays t f =
    record {
      graphs = le_refl _;
      channels = le_refl _;
      graph = λ g l. graph_stays t t f g l refl (λ a k. refl);
      channel = λ q l. channel_stays t t f q l (λ j k. refl);
    }

-- the graph that a call is on
own_stays : (t u : List ℕ) (g : ℕ) (c : Own.Call) (n : ℕ) → Formed t true → g < graph_count t → Own.Fits c
    → After t u g c n → GraphStays t u g
own_stays t u g c n f l fit (refused e m) = rw e ((same_stays t f).graph g l)
own_stays t u g c n f l fit (acted k part old e) =
    record {
      parts = rw part (own.parts_stay (graph_part t g) c fit);
      action = λ a m. rw part (after_same (graph_part t g) (part_formed t g f l) c fit a m);
      communication = λ a m. ap communication_in (old a m);
    }

on_stays : (t : List ℕ) (f : Formed t true) (g : ℕ) (c : OnGraph) → Fits c → Stays t (after_on t g c)
on_stays t f g c fit =
    let o = others_stay t g c fit f.words in
    record {
      graphs = rw o.counts.graphs (le_refl _);
      channels = rw o.counts.channels (le_refl _);
      graph = λ i l. by i l (ℕ_discrete i g);
      channel = λ q l. channel_stays t (after_on t g c) f q l (o.channel q (lt_of_lt_of_le l f.channels));
    }
  where
    by : (i : ℕ) → i < graph_count t → Dec (i ≡ g) → GraphStays t (after_on t g c) i
    by i l (yes e) =
        let here : g < graph_count t = rw e at l in
        rw e (own_stays t (after_on t g c) g (own_call c) (answer_on t g c) f here (own_fits c fit) (after_on_lem t f g c fit))
    by i l (no other) =
        let o = others_stay t g c fit f.words in
        graph_stays t (after_on t g c) f i l (o.graph i (lt_of_lt_of_le l f.graphs) other) (o.communications i other)

-- Whatever a call answers, every channel is there after it with its width, its kinds and its capacity, and every graph with its parts,
-- its actions what they were, each with its communication.
pub meaning_stays : (t : List ℕ) (c : Call) → CallFits c → system_formed t true ≡ true → Stays t (after t c)
unfolding new_graph_of new_channel_of
meaning_stays t new_graph fit h =
    placed_if_lem (λ (o : Outcome (Answer ℕ)). Stays t o.table) (graph_check t) t _ _ (λ r. same_stays t (apart t true h)) (λ e.
    let f = apart t true h in
    let s = (graph_ready t e).1 in
    record {
      graphs = omega (arith, graphs_more t f s);
      channels = omega (arith, graph_channels t f s);
      graph = λ g l. graph_stays t (with_new_graph t) f g l (graph_same_lem t f s g l) (graph_messages t f s g);
      channel = λ q l. channel_stays t (with_new_graph t) f q l (graph_row t f s q l);
    })
meaning_stays t (new_channel k c) fit h =
    placed_if_lem (λ (o : Outcome (Answer ℕ)). Stays t o.table) (channel_check t k c) t _ _ (λ r. same_stays t (apart t true h)) (λ e.
    let f = apart t true h in
    let s = channel_ready t k c e in
    record {
      graphs = omega (arith, channel_graphs t f k c fit s);
      channels = omega (arith, channels_more t f k c fit s);
      graph = λ g l. graph_stays t (with_new_channel t k c) f g l (channel_same t f k c fit s g l) (channel_messages t f k c fit s g);
      channel = λ q l. channel_stays t (with_new_channel t k c) f q l (channel_row_lem t f k c fit s q l);
    })
meaning_stays t (call_on_graph g c) fit h = on_stays t (apart t true h) g c fit

-- So it is under every chain of calls.
pub chain_meaning_stays : (t : List ℕ) (calls : List Call) → AllFit calls → system_formed t true ≡ true → Stays t (after_all t calls)
chain_meaning_stays t [] fit h = same_stays t (apart t true h)
chain_meaning_stays t (c ∷ calls) fit h =
    stays_then (meaning_stays t c fit.0 h) (chain_meaning_stays (after t c) calls fit.1 (keeps_formed t c fit.0 h))

-- ---- what an accepted call adds
-- An accepted call on graph g adds to it what the graph's own call does, and nothing else.
pub graph_reads_as : (t : List ℕ) (g : ℕ) (c : OnGraph) → Fits c → system_formed t true ≡ true → answer_on t g c ≡ 0
    → graph_of (graph_part (after_on t g c) g) ≡ added (own_call c) (graph_of (graph_part t g))
graph_reads_as t g c fit h done = by (after_on_lem t (apart t true h) g c fit)
  where
    by : After t (after_on t g c) g (own_call c) (answer_on t g c)
        → graph_of (graph_part (after_on t g c) g) ≡ added (own_call c) (graph_of (graph_part t g))
    by (refused e m) = absurd (omega (arith, m, done))
    by (acted k part old e) = ap graph_of part ∙ own.reads_as (graph_part t g) (own_call c) (own_fits c fit) (sym e ∙ done)

-- The action that an accepted call adds has the communication that the call says.
pub told_reads : (t : List ℕ) (g : ℕ) (c : OnGraph) (m : Communication) → system_formed t true ≡ true → Tells c m → answer_on t g c ≡ 0
    → communication_of (after_on t g c) g (action_count (graph_part t g)) ≡ m
told_reads t g c m h tells done = ap communication_in (told_word t (apart t true h) g c m tells done) ∙ communication_back m

-- an accepted answer says that the check passed
placed_reads : (P : List ℕ → Type 0) (c : Answer ⊤) (t : List ℕ) (n : ℕ) (u : List ℕ) → answer_number (placed_if c t n u).answer ≡ 0
    → (c ≡ admitted → P u) → P (placed_if c t n u).table
placed_reads P (Ok _) t n u e h = h refl
placed_reads P (Err r) t n u e h = absurd (above_ok r e)

-- there is one graph more, without parts
abbrev GraphAdded : List ℕ → List ℕ → Type 0
GraphAdded t u = (graph_count u ≡ graph_count t + 1) × (graph_of (graph_part u (graph_count t)) ≡ empty_graph)

-- An accepted `new_program_graph` adds a graph without parts.
pub new_graph_reads : (t : List ℕ) → system_formed t true ≡ true → answer_of t new_graph ≡ 0 → GraphAdded t (after t new_graph)
unfolding new_graph_of
new_graph_reads t h done =
    placed_reads (GraphAdded t) (graph_check t) t _ _ done (λ e.
    let f = apart t true h in
    let s = (graph_ready t e).1 in
    (graphs_more t f s, new_reads t f s))

-- there is one channel more: as wide as the kinds that are handed are many, of those kinds, with that capacity
pub record ChannelAdded (t u : List ℕ) (k : Kinds) (c : ChannelCapacity) : Type 0 where
  pub count : channel_count u ≡ channel_count t + 1
  pub width : width_of u (channel_count t) ≡ k.count
  pub kind : (e : ℕ) → e < k.count → channel_kind u (channel_count t) e ≡ handed_kind k e
  pub capacity : capacity_of u (channel_count t) ≡ c

-- An accepted `new_channel` adds a channel that is as it was asked for.
pub new_channel_reads : (t : List ℕ) (k : Kinds) (c : ChannelCapacity) → CallFits (new_channel k c) → system_formed t true ≡ true
    → answer_of t (new_channel k c) ≡ 0 → ChannelAdded t (after t (new_channel k c)) k c
unfolding new_channel_of
new_channel_reads t k c fit h done =
    placed_reads (λ (u : List ℕ). ChannelAdded t u k c) (channel_check t k c) t _ _ done (λ e.
    let f = apart t true h in
    let s = channel_ready t k c e in
    record {
      count = channels_more t f k c fit s;
      width = new_width t f k c fit s;
      kind = new_kind t f k c fit s;
      capacity = new_capacity t f k c fit s;
    })
