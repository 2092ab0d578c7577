-- What holds of building a system. Further: BuildTheorems (`new` and `build`), KeptTheorems (a system stays well formed), KnownCalls (no 32),
-- MeaningTheorems (what was there stays, what is added reads as it was handed), ExactTheorems (32 exactly where no calls build what is there).
use Rattle.std.specs.Prelude.{Ok, Err, ⊤}
use Prim.Native.Nat.{ℕ, ◌+◌, ◌-◌, ◌≤◌, ◌<◌}
use mathlib.Core.Bool.{true}
use mathlib.Core.Path.{◌≡◌, refl, ap, ◌∙◌}
use mathlib.Core.List.{List, ◌++◌}
use native.Mathlib.Omega.{arith}
use lib.ListN.{length, take, drop, take-append-drop}
use Rattle.graph_tables.specs.Layout.{table_words}
use Rattle.graph_tables.specs.Answers.{Answer, admitted, answer_number}
use Rattle.graph_tables.specs.declared.refusals.Refusal.{Refusal}
use Rattle.graph_builder.specs.Building.{Outcome, placed_if, new_var_of, new_clock_of, new_action_of, new_process_of, add_reset_of, add_effect_of}
use Rattle.graph_builder.specs.Building.{new_timed_location_of, new_initial_of, add_transition_of, new_send_of, new_receive_of}
use Rattle.graph_builder.specs.Chains as Own
use Rattle.graph_builder.proofs.BuildingLaws.{placed_if_lem}
use Rattle.graph_builder.proofs.Theorems as own
use Rattle.graph_tables.specs.Sizes.{action_room}
use Rattle.graph_tables.specs.Formed.{well_formed}
use Rattle.graph_tables.proofs.SoundLaws.{sound}
use Rattle.system_tables.specs.Sizes.{graph_room, channel_room}
use Rattle.system_tables.specs.Layout.{graphs_cell, channels_cell, channel_row, member_row, member_span, communication_cell, graph_start}
use Rattle.system_tables.proofs.ElsewhereLaws.{Elsewhere, set_elsewhere, then_elsewhere, part_elsewhere}
use Rattle.system_tables.proofs.FrameLaws.{CountsSame, ChannelSame, CommunicationsSame, GraphSame, with_graph_elsewhere}
use Rattle.system_tables.proofs.KeptLaws.{apart}
use Rattle.system_tables.specs.Words.{SystemWords, graph_part, with_graph, communication_word}
use Rattle.system_tables.specs.declared.ids.Communication.{Communication}
use Rattle.system_tables.specs.declared.ids.Communication.TheVariants.{Plain, On}
use Rattle.system_tables.specs.declared.ids.Message.TheVariants.{Send, Receive}
use Rattle.system_builder.specs.Systems.{graph_check, channel_check, new_graph_of, new_channel_of}
use Rattle.system_builder.specs.Graphs.{member_check, only_if, on_part, on_graph, placed_on, told, telling}
use Rattle.system_builder.specs.Messages.{known_check, send_check_on, receive_check_on, send_part, receive_part, no_values, new_send_on, new_receive_on, new_probe_on}
use Rattle.system_builder.specs.Chains.{OnGraph, new_var, new_clock, new_action, new_process, add_reset, add_effect, new_timed_location}
use Rattle.system_builder.specs.Chains.{new_initial_location, add_transition, new_send, new_receive, new_probe, after_on, answer_on, Fits}
use Rattle.system_builder.specs.Chains.{Call, new_graph, new_channel, call_on_graph, after, answer_of}
use Rattle.system_builder.proofs.SystemLaws.{member_ready}
use Rattle.system_builder.proofs.ActionLaws.{PutsAction, action_puts, send_puts, receive_puts, part_formed, HasWord, has_word, checked_word}
use Rattle.system_builder.proofs.MessageLaws.{known_member, send_known, receive_known}

-- ---- an answer of a number above 0 is a refusal: it leaves every word
abbrev Untouched : {A : Type 0} → (A → ℕ) → List ℕ → Outcome A → Type 0
Untouched number t o = 0 < number o.answer → o.table ≡ t

-- the words of a graph put back where they were
part_back : (t : List ℕ) (g : ℕ) → with_graph t g (graph_part t g) ≡ t
part_back t g =
    ap (λ (u : List ℕ). take (graph_start g) t ++ u) (take-append-drop table_words (drop (graph_start g) t)) ∙ take-append-drop (graph_start g) t

part_untouched : {A : Type 0} (number : A → ℕ) (call : List ℕ → Outcome A) → ((G : List ℕ) → Untouched number G (call G))
    → (t : List ℕ) (g : ℕ) → Untouched number t (on_part call t g)
part_untouched number call leaves t g l = ap (with_graph t g) (leaves (graph_part t g) l) ∙ part_back t g

only_untouched : {A : Type 0} (refuse : Refusal → A) (number : A → ℕ) (c : Answer ⊤) (t : List ℕ) (o : Outcome A) → Untouched number t o
    → Untouched number t (only_if refuse c t o)
only_untouched refuse number (Ok _) t o h = h
only_untouched refuse number (Err r) t o h = λ l. refl

telling_untouched : (g : ℕ) (c : Communication) (o : Outcome (Answer ℕ)) (t : List ℕ) → Untouched answer_number t o
    → Untouched answer_number t (telling g c o)
telling_untouched g c o t h = by o.answer refl
  where
    by : (p : Answer ℕ) → o.answer ≡ p → 0 < answer_number o.answer → told g c o.answer o.table ≡ t
    by (Ok a) e l = let z : 0 < 0 = rw e at l in absurd (omega arith)
    by (Err r) e l = ap (λ (p : Answer ℕ). told g c p o.table) e ∙ h l

placed : (c : Answer ⊤) (t : List ℕ) (n : ℕ) (u : List ℕ) → Untouched answer_number t (placed_if c t n u)
placed c t n u = placed_if_lem (Untouched answer_number t) c t n u (λ q h. refl) (λ a h. absurd (omega arith))

module _ (t : List ℕ) (g : ℕ) where
  placed_on_lem : (call : List ℕ → Outcome (Answer ℕ)) → ((G : List ℕ) → Untouched answer_number G (call G))
      → Untouched answer_number t (on_graph Err call t g)
  placed_on_lem call leaves = only_untouched Err answer_number (member_check t g) t _ (part_untouched answer_number call leaves t g)

  done_on_lem : (call : List ℕ → Outcome (Answer ⊤)) → ((G : List ℕ) → Untouched answer_number G (call G))
      → Untouched answer_number t (on_graph Err call t g)
  done_on_lem call leaves = only_untouched Err answer_number (member_check t g) t _ (part_untouched answer_number call leaves t g)

  send_untouched : (m : ℕ → List ℕ) (count : ℕ) → Untouched answer_number t (send_part t g m count)
  send_untouched m count =
      part_untouched answer_number (λ (G : List ℕ). new_send_of G m count) (λ G. own.refused_leaves G (Own.new_send m count)) t g

  on_leaves : (c : OnGraph) → 0 < answer_on t g c → after_on t g c ≡ t
  unfolding new_send_on new_receive_on new_probe_on
  on_leaves (new_var v) = placed_on_lem (λ (G : List ℕ). new_var_of G v) (λ G. own.refused_leaves G (Own.new_var v))
  on_leaves new_clock = placed_on_lem new_clock_of (λ G. own.refused_leaves G Own.new_clock)
  on_leaves new_action =
      telling_untouched g Plain (placed_on new_action_of t g) t (placed_on_lem new_action_of (λ G. own.refused_leaves G Own.new_action))
  on_leaves (new_process l) = done_on_lem (λ (G : List ℕ). new_process_of G l) (λ G. own.refused_leaves G (Own.new_process l))
  on_leaves (add_reset a clock) = done_on_lem (λ (G : List ℕ). add_reset_of G a clock) (λ G. own.refused_leaves G (Own.add_reset a clock))
  on_leaves (add_effect a v ws) = done_on_lem (λ (G : List ℕ). add_effect_of G a v ws) (λ G. own.refused_leaves G (Own.add_effect a v ws))
  on_leaves (new_timed_location l) =
      placed_on_lem (λ (G : List ℕ). new_timed_location_of G l) (λ G. own.refused_leaves G (Own.new_timed_location l))
  on_leaves (new_initial_location l) =
      placed_on_lem (λ (G : List ℕ). new_initial_of G l) (λ G. own.refused_leaves G (Own.new_initial_location l))
  on_leaves (add_transition pre a post guarded ws l) =
      done_on_lem (λ (G : List ℕ). add_transition_of G pre a post guarded ws l)
      (λ G. own.refused_leaves G (Own.add_transition pre a post guarded ws l))
  on_leaves (new_send q m count) =
      only_untouched Err answer_number (send_check_on t g q.0 m count) t (telling g (On Send q) (send_part t g m count))
      (telling_untouched g (On Send q) (send_part t g m count) t (send_untouched m count))
  on_leaves (new_receive q v) =
      only_untouched Err answer_number (receive_check_on t g q.0 v) t (telling g (On Receive q) (receive_part t g v))
      (telling_untouched g (On Receive q) (receive_part t g v) t
      (part_untouched answer_number (λ (G : List ℕ). new_receive_of G v) (λ G. own.refused_leaves G (Own.new_receive v)) t g))
  on_leaves (new_probe k q) =
      only_untouched Err answer_number (known_check t g q.0) t (telling g (On k q) (send_part t g no_values 0))
      (telling_untouched g (On k q) (send_part t g no_values 0) t (send_untouched no_values 0))

-- A refused call leaves every word.
pub refused_leaves : (t : List ℕ) (c : Call) → 0 < answer_of t c → after t c ≡ t
unfolding new_graph_of new_channel_of
refused_leaves t new_graph = placed (graph_check t) t _ _
refused_leaves t (new_channel k c) = placed (channel_check t k c) t _ _
refused_leaves t (call_on_graph g c) = on_leaves t g c

-- ---- a call on graph g writes in the row of that graph alone: its communications and its own words
abbrev Row : List ℕ → List ℕ → ℕ → Type 0
Row t u g = Elsewhere t u (member_row g) member_span

widen : {t u : List ℕ} {b m : ℕ} (a n : ℕ) → a ≤ b → b + m ≤ a + n → Elsewhere t u b m → Elsewhere t u a n
widen {b = b} a n low high e =
    record { sizes = e.sizes; same = λ i out. e.same i (λ k l p. out (b + k - a) (omega arith) (omega arith)) }

only_row : {A : Type 0} (refuse : Refusal → A) (c : Answer ⊤) (t : List ℕ) (o : Outcome A) (g : ℕ) → (c ≡ admitted → Row t o.table g)
    → Row t (only_if refuse c t o).table g
only_row refuse (Ok _) t o g h = h refl
only_row refuse (Err r) t o g h = record { sizes = refl; same = λ i out. refl }

telling_row : (g : ℕ) (c : Communication) (o : Outcome (Answer ℕ)) (t : List ℕ) → HasWord o.table g o.answer → Row t o.table g
    → Row t (telling g c o).table g
telling_row g c o t word h = by o.answer refl
  where
    by : (p : Answer ℕ) → o.answer ≡ p → Row t (told g c o.answer o.table) g
    by (Ok a) e =
        let small : a < action_room = (word a e).2 in
        rw e (then_elsewhere h
        (set_elsewhere o.table (communication_cell g a) (communication_word c) (member_row g) member_span (omega arith) (omega arith)))
    by (Err r) e = rw e h

module _ (t : List ℕ) (g : ℕ) where
  part_row : {A : Type 0} (call : List ℕ → Outcome A)
      → ((G : List ℕ) → well_formed G true ≡ true → well_formed (call G).table true ≡ true)
      → member_check t g ≡ admitted → Row t (on_part call t g).table g
  part_row call keeps e =
      let r = member_ready t g e in
      let f = apart t true r.0 in
      let small : g < graph_room = omega (arith, r.1, f.graphs) in
      let size = (sound (call (graph_part t g)).table true (keeps (graph_part t g) (part_formed t g f r.1))).words in
      widen (member_row g) member_span (omega arith) (omega arith)
      (with_graph_elsewhere t (call (graph_part t g)).table f.words g small size)

  on_row : {A : Type 0} (refuse : Refusal → A) (call : List ℕ → Outcome A)
      → ((G : List ℕ) → well_formed G true ≡ true → well_formed (call G).table true ≡ true)
      → Row t (on_graph refuse call t g).table g
  on_row refuse call keeps = only_row refuse (member_check t g) t (on_part call t g) g (part_row call keeps)

  message_row : (check : Answer ⊤) (c : Communication) (call : List ℕ → Outcome (Answer ℕ)) → PutsAction call
      → (check ≡ admitted → member_check t g ≡ admitted)
      → Row t (only_if Err check t (telling g c (on_part call t g))).table g
  message_row check c call puts known =
      only_row Err check t (telling g c (on_part call t g)) g (λ e.
      telling_row g c (on_part call t g) t (has_word call puts t g (known e)) (part_row call (λ G h. (puts G h).0) (known e)))

  row_alone : (c : OnGraph) → Fits c → Row t (after_on t g c) g
  unfolding new_send_on new_receive_on new_probe_on
  row_alone (new_var v) fit = on_row Err (λ (G : List ℕ). new_var_of G v) (λ G. own.stays_formed G (Own.new_var v) fit)
  row_alone new_clock fit = on_row Err new_clock_of (λ G. own.stays_formed G Own.new_clock fit)
  row_alone new_action fit =
      telling_row g Plain (placed_on new_action_of t g) t (checked_word new_action_of action_puts t g)
      (on_row Err new_action_of (λ G. own.stays_formed G Own.new_action fit))
  row_alone (new_process l) fit = on_row Err (λ (G : List ℕ). new_process_of G l) (λ G. own.stays_formed G (Own.new_process l) fit)
  row_alone (add_reset a clock) fit =
      on_row Err (λ (G : List ℕ). add_reset_of G a clock) (λ G. own.stays_formed G (Own.add_reset a clock) fit)
  row_alone (add_effect a v ws) fit =
      on_row Err (λ (G : List ℕ). add_effect_of G a v ws) (λ G. own.stays_formed G (Own.add_effect a v ws) fit)
  row_alone (new_timed_location l) fit =
      on_row Err (λ (G : List ℕ). new_timed_location_of G l) (λ G. own.stays_formed G (Own.new_timed_location l) fit)
  row_alone (new_initial_location l) fit =
      on_row Err (λ (G : List ℕ). new_initial_of G l) (λ G. own.stays_formed G (Own.new_initial_location l) fit)
  row_alone (add_transition pre a post guarded ws l) fit =
      on_row Err (λ (G : List ℕ). add_transition_of G pre a post guarded ws l)
      (λ G. own.stays_formed G (Own.add_transition pre a post guarded ws l) fit)
  row_alone (new_send q m count) fit =
      message_row (send_check_on t g q.0 m count) (On Send q) (λ (G : List ℕ). new_send_of G m count) (send_puts m count)
      (λ e. known_member t g q.0 (send_known t g q.0 m count e))
  row_alone (new_receive q v) fit =
      message_row (receive_check_on t g q.0 v) (On Receive q) (λ (G : List ℕ). new_receive_of G v) (receive_puts v)
      (λ e. known_member t g q.0 (receive_known t g q.0 v e))
  row_alone (new_probe k q) fit =
      message_row (known_check t g q.0) (On k q) (λ (G : List ℕ). new_send_of G no_values 0) (send_puts no_values 0) (known_member t g q.0)

-- what a call on graph g leaves: the counts, the channels, and the words and communications of the other graphs
pub record OthersStay (t u : List ℕ) (g : ℕ) : Type 0 where
  pub words : length u ≡ length t
  pub counts : CountsSame t u
  pub channel : (q : ℕ) → q < channel_room → ChannelSame t u q
  pub graph : (f : ℕ) → f < graph_room → (f ≡ g → ⊥) → GraphSame t u f
  pub communications : (f : ℕ) → (f ≡ g → ⊥) → CommunicationsSame t u f

-- A call on graph g, whatever it answers, leaves all channels and the other graphs.
pub others_stay : (t : List ℕ) (g : ℕ) (c : OnGraph) → Fits c → SystemWords t → OthersStay t (after_on t g c) g
others_stay t g c fit size =
    let e = row_alone t g c fit in
    record {
      words = e.sizes;
      counts = record { graphs = e.same graphs_cell (λ k h p. omega arith); channels = e.same channels_cell (λ k h p. omega arith) };
      channel = λ q s j l. e.same (channel_row q + j) (λ k h p. omega arith);
      graph = λ f r other. part_elsewhere e (graph_start f) table_words (omega arith) (λ j k l h p. other (omega arith));
      communications = λ f other a l. e.same (communication_cell f a) (λ k h p. other (omega arith));
    }
