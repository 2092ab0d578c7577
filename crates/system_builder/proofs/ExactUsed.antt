-- A table that has every word that a well-formed system uses is a well-formed system.
use Prim.Native.Nat.{ℕ, ◌+◌, ◌<◌, ◌≤◌}
use mathlib.Core.Path.{◌≡◌, refl, sym, ap, ◌∙◌}
use mathlib.Core.Logic.{◌≢◌}
use mathlib.Core.Bool.{Bool, true, false, cond}
use mathlib.Core.List.{List}
use native.Mathlib.Nat.{add-zero, lt_of_lt_of_le}
use native.Mathlib.Decide.{dec_lt}
use native.Mathlib.Omega.{arith}
use borrow.Author.Tests.{eqb-true}
use lib.Dec.{eqb, leb, ltb}
use lib.ListN.{get_or, drop, get_or-eq_default}
use lib.Seq.{get_or-take, get_or-drop}
use Rattle.laws.proofs.BelowLaws.{and_kept, all_kept}
use Rattle.graph_tables.specs.Layout.{table_words, variables_cell, clocks_cell, locations_cell, actions_cell, kinds_start, effect_slot}
use Rattle.graph_tables.specs.Sizes.{word32, item_room, send_kind, receive_kind}
use Rattle.graph_tables.specs.Words.{Words, action_count, action_kind, effect_count, effect_var, effect_length, effect_items}
use Rattle.graph_tables.specs.Messages.{is_send, is_receive, message_count, value_kind}
use Rattle.graph_tables.specs.Sound.{Sound}
use Rattle.graph_tables.proofs.SoundLaws.{sound}
use Rattle.graph_tables.proofs.KeptLaws as own
use Rattle.graph_tables.proofs.KeptLaws.{Grown, typed_grown, items_moved}
use Rattle.graph_tables.proofs.MessageLaws.{value_known_lem, sent_kind, send_kind_lem, receive_kind_lem, send_no_receive}
use Rattle.graph_tables.proofs.MessageLaws.{plain_same, send_same, receive_same}
use Rattle.graph_builder.specs.Used as Own
use Rattle.graph_builder.proofs.ExactUsed.{used_formed as graph-used}
use Rattle.system_tables.specs.Sizes.{graph_room, bounded_sort, sink_sort}
use Rattle.system_tables.specs.Layout.{graphs_cell, channels_cell, graph_start}
use Rattle.system_tables.specs.Words.{SystemWords, graph_count, channel_count, width_of, sort_of, bound_of, capacity_of, graph_part}
use Rattle.system_tables.specs.Formed.{graph_formed, channel_kind_formed, capacity_formed, channel_formed, communications_formed}
use Rattle.system_tables.specs.declared.ids.ChannelCapacity.TheVariants.{Bounded}
use Rattle.system_tables.proofs.KeptLaws.{Formed, MessageSame, ActionSame, ChannelsGrown, communications_kept}
use Rattle.system_builder.specs.Used.{count, width, kind, sort, bound, communication, own as own_word, HasWords}
use Rattle.system_builder.proofs.SystemLaws.{part_size}

-- ---- a graph that has every word that another uses: its actions are the same to a system
module _ (G H : List ℕ) (f : own.Formed G) (words : Words H) (has : Own.HasWords G H) where
  s : Sound G
  s = sound G true (own.together G f)

  grown : Grown G H
  grown =
      let same : (c : ℕ) → c < kinds_start → get_or H c 0 ≡ get_or G c 0 = λ c l. has c (Own.count c l) in
      record {
        words = f.words;
        grown_words = words;
        variables = omega (arith, same variables_cell (omega arith));
        few = omega (arith, same variables_cell (omega arith), f.counts.variables);
        kinds = λ v l. has _ (Own.kind v l);
        clocks = omega (arith, same clocks_cell (omega arith));
        locations = omega (arith, same locations_cell (omega arith));
        actions = omega (arith, same actions_cell (omega arith));
      }

  module _ (a : ℕ) (known : a < action_count G) where
    kind_same : action_kind H a ≡ action_kind G a
    kind_same = simp add-zero at (has _ (Own.action a 0 known (omega arith)))

    effects_same : effect_count H a ≡ effect_count G a
    effects_same = has _ (Own.action a 2 known (omega arith))

    items_same : action_kind G a ≢ receive_kind → (e : ℕ) → e < effect_count G a → effect_length G a e ≤ item_room
        → effect_items H a e ≡ effect_items G a e
    items_same told e l short =
        rw (has _ (Own.long a e known told l))
        (items_moved G H (effect_slot a e) (effect_slot a e) (effect_length G a e) (effect_length G a e) (omega arith)
        (omega (arith, f.words, f.counts.actions, (s.action a known).few)) (omega (arith, f.counts.actions, (s.action a known).few))
        (λ j m. has _ (Own.item a e j known told l m)))

    sent : is_send G a ≡ true → MessageSame G H a
    unfolding message_count value_kind
    sent h =
        let is : action_kind G a ≡ send_kind = send_kind_lem G a h in
        let not : is_receive H a ≡ false = receive_same G H a kind_same ∙ send_no_receive G a h in
        record {
          count = effects_same;
          kind = λ e l.
              let x = sent_kind G s a known e l (send_no_receive G a h) in
              let items = items_same (omega arith) e l (((s.action a known).send is).expression e l).short in
              rw (not, items, typed_grown grown (effect_items G a e) x.0 x.1.0) (sym x.1.1);
        }

    received : is_receive G a ≡ true → MessageSame G H a
    unfolding message_count value_kind
    received h =
        let is : action_kind G a ≡ receive_kind = receive_kind_lem G a h in
        let also : is_receive H a ≡ true = receive_same G H a kind_same ∙ h in
        record {
          count = effects_same;
          kind = λ e l.
              let var : effect_var H a e ≡ effect_var G a e = has _ (Own.var a e known (omega arith) l) in
              rw (also, var, h) (grown.kinds (effect_var G a e) (value_known_lem G s a known e l h));
        }

    pub used_action : ActionSame G H a
    used_action =
        record {
          plain = plain_same G H a kind_same;
          send = send_same G H a kind_same;
          receive = receive_same G H a kind_same;
          sent = sent;
          received = received;
        }

-- ---- a word of a part
-- past the end both are 0
part_word : (t u : List ℕ) (g i : ℕ) → SystemWords t → SystemWords u → g < graph_room
    → (i < table_words → get_or u (graph_start g + i) 0 ≡ get_or t (graph_start g + i) 0) → get_or (graph_part u g) i 0 ≡ get_or (graph_part t g) i 0
part_word t u g i words more small e = by (dec_lt i table_words)
  where
    by : Dec (i < table_words) → get_or (graph_part u g) i 0 ≡ get_or (graph_part t g) i 0
    by (yes l) =
        get_or-take table_words (drop (graph_start g) u) i 0 l ∙ get_or-drop (graph_start g) u i 0 ∙ e l
        ∙ sym (get_or-take table_words (drop (graph_start g) t) i 0 l ∙ get_or-drop (graph_start g) t i 0)
    by (no l) =
        get_or-eq_default (graph_part u g) 0 (omega (arith, part_size u g more small))
        ∙ sym (get_or-eq_default (graph_part t g) 0 (omega (arith, part_size t g words small)))

module _ (t u : List ℕ) (f : Formed t true) (words : SystemWords u) (has : HasWords t u) where
  graphs : graph_count u ≡ graph_count t
  graphs = has graphs_cell (count graphs_cell (omega arith))

  channels : channel_count u ≡ channel_count t
  channels = has channels_cell (count channels_cell (omega arith))

  -- ---- channels
  module _ (q : ℕ) (l : q < channel_count t) where
    sort_same : sort_of u q ≡ sort_of t q
    sort_same = has _ (sort q l)

    -- a bound is there where the sort says so
    bound_same : {A : Type 0} (f : ℕ → A) (rest : A)
        → cond (eqb (sort_of t q) bounded_sort) (f (bound_of u q)) rest ≡ cond (eqb (sort_of t q) bounded_sort) (f (bound_of t q)) rest
    bound_same {A} f rest = by (eqb (sort_of t q) bounded_sort) refl
      where
        by : (b : Bool) → eqb (sort_of t q) bounded_sort ≡ b → cond b (f (bound_of u q)) rest ≡ cond b (f (bound_of t q)) rest
        by true e = ap f (has _ (bound q l (eqb-true _ _ e)))
        by false e = refl

    capacity_same : capacity_of u q ≡ capacity_of t q
    capacity_same = rw sort_same (bound_same Bounded _)

    channel_formed_lem : channel_formed u q ≡ true
    unfolding channel_formed capacity_formed channel_kind_formed
    channel_formed_lem =
        rw (has _ (width q l), capacity_same)
        (and_kept (λ r. r)
        (and_kept
        (all_kept (channel_kind_formed t q) (channel_kind_formed u q) (width_of t q) (λ e m r. rw (has _ (kind q e l m)) r))
        (and_kept (λ r. rw sort_same (bound_same (λ (n : ℕ). ltb n word32) (leb (sort_of t q) sink_sort) ∙ r)) (λ r. r)))
        (f.channel q l))

  -- all mean the same
  means : ChannelsGrown t u
  means = record { more = omega (arith, channels); width = λ q l. has _ (width q l); kind = λ q e l m. has _ (kind q e l m) }

  -- ---- graphs
  module _ (g : ℕ) (l : g < graph_count t) where
    small : g < graph_room
    small = lt_of_lt_of_le l f.graphs

    formed : own.Formed (graph_part t g)
    unfolding graph_formed
    formed = own.apart (graph_part t g) true (f.graph g l)

    size : Words (graph_part u g)
    size = part_size u g words small

    part_has : Own.HasWords (graph_part t g) (graph_part u g)
    part_has i used = part_word t u g i f.words words small (λ m. has _ (own_word g i l m used))

    graph_formed_lem : graph_formed u true g ≡ true
    unfolding graph_formed
    graph_formed_lem = own.together (graph_part u g) (graph-used (graph_part t g) (graph_part u g) formed size part_has)

    actions : action_count (graph_part u g) ≡ action_count (graph_part t g)
    actions = part_has actions_cell (Own.count actions_cell (omega arith))

    graph_communications : communications_formed u g ≡ true
    graph_communications =
        communications_kept means g (λ a m. has _ (communication g a l m))
        (used_action (graph_part t g) (graph_part u g) formed size part_has)
        (f.communications g l) actions

  -- ---- the whole table
  pub used_formed : Formed u true
  used_formed =
      record {
        words = words;
        graphs = omega (arith, graphs, f.graphs);
        channels = omega (arith, channels, f.channels);
        graph = λ g l. graph_formed_lem g (omega (arith, graphs));
        channel = λ q l. channel_formed_lem q (omega (arith, channels));
        communications = λ g l. graph_communications g (omega (arith, graphs));
      }
