-- Each building call leaves a well-formed system well formed: the parts of the theorem.
use Rattle.std.specs.Prelude.{Ok, Err, ⊤}
use Prim.Native.Nat.{ℕ, ◌+◌, ◌<◌}
use mathlib.Core.Path.{◌≡◌, refl, sym, ap, ◌∙◌}
use mathlib.Core.Bool.{true}
use mathlib.Core.List.{List}
use native.Mathlib.Nat.{lt_of_lt_of_le, le_refl}
use native.Mathlib.Decide.{ℕ_discrete}
use native.Mathlib.Omega.{arith}
use borrow.Author.Tests.{ltb-true}
use lib.ListN.{set}
use lib.Seq.{get_or-set_same, get_or-set_other}
use Rattle.graph_tables.specs.Layout.{table_words}
use Rattle.graph_tables.specs.Sizes.{action_room}
use Rattle.graph_tables.specs.Words.{action_count}
use Rattle.graph_tables.specs.Formed.{well_formed}
use Rattle.graph_tables.specs.Answers.{Answer, admitted, answer_number}
use Rattle.graph_tables.specs.declared.refusals.Refusal.{Refusal}
use Rattle.graph_tables.specs.declared.handed.Vars.{Vars}
use Rattle.graph_tables.proofs.NumberLaws.{above_ok}
use Rattle.graph_tables.proofs.SoundLaws.{sound}
use Rattle.graph_checks.proofs.CheckLaws.{unless_on, then_both}
use Rattle.graph_builder.specs.Building.{Outcome, new_var_of, new_clock_of, new_action_of, new_process_of, add_reset_of, add_effect_of}
use Rattle.graph_builder.specs.Building.{new_timed_location_of, new_initial_of, add_transition_of, new_send_of, new_receive_of}
use Rattle.graph_builder.specs.Chains as Own
use Rattle.graph_builder.proofs.Theorems as own
use Rattle.system_tables.specs.Sizes.{graph_room}
use Rattle.system_tables.specs.Layout.{member_row, communication_cell, graph_start}
use Rattle.system_tables.specs.Words.{SystemWords, graph_count, channel_count, graph_part, with_graph, communication_at, communication_word}
use Rattle.system_tables.specs.Formed.{graph_formed, communication_fits, communication_formed, communications_formed}
use Rattle.system_tables.specs.declared.ids.Communication.{Communication}
use Rattle.system_tables.specs.declared.ids.Communication.TheVariants.{Plain, On}
use Rattle.system_tables.specs.declared.ids.Message.{Message}
use Rattle.system_tables.specs.declared.ids.Message.TheVariants.{Send, Receive}
use Rattle.system_tables.specs.declared.ids.Channel.{Channel}
use Rattle.system_tables.proofs.FormedLaws.{channel_narrow}
use Rattle.system_tables.proofs.ElsewhereLaws.{Elsewhere, set_elsewhere}
use Rattle.system_tables.proofs.FrameLaws.{CountsSame, ChannelSame, with_graph_elsewhere, with_graph_part, graph_counts, graph_channel}
use Rattle.system_tables.proofs.FrameLaws.{graph_communications, graph_graph, communications_counts, communications_channel}
use Rattle.system_tables.proofs.FrameLaws.{communications_communications, communications_graph}
use Rattle.system_tables.proofs.KeptLaws.{Formed, ActionSame, same_action, ChannelsGrown, rows_grown, fits_kept, communications_more}
use Rattle.system_tables.proofs.CarriedLaws.{GraphCarried, kept, anew, carried, same_actions, with_graph_formed}
use Rattle.system_builder.specs.Graphs.{member_check, only_if, on_part, on_graph, told, telling, new_action_on}
use Rattle.system_builder.specs.Messages.{known_check, send_check_on, receive_check_on, send_part, receive_part, no_values}
use Rattle.system_builder.specs.Chains.{OnGraph, new_var, new_clock, new_action, new_process, add_reset, add_effect}
use Rattle.system_builder.specs.Chains.{new_timed_location}
use Rattle.system_builder.specs.Chains.{new_initial_location, add_transition, new_send, new_receive, new_probe, after_on, Fits}
use Rattle.system_builder.specs.Chains.{IsProbe}
use Rattle.system_builder.specs.Messages.{new_send_on, new_receive_on, new_probe_on, sent_check, received_check}
use Rattle.system_builder.proofs.SystemLaws.{member_ready}
use Rattle.system_builder.proofs.ActionLaws.{part_formed}
use Rattle.system_builder.proofs.MessageLaws.{known_member}
use Rattle.system_builder.proofs.SameActions.{NoAction, count_stays, after_same}
use Rattle.system_builder.proofs.NewActions.{AddsOne, adds_plain, adds_send, adds_receive, plain_fits, send_fits_lem, receive_fits_lem}
use Rattle.system_builder.proofs.NewActions.{probe_fits}

-- ---- a graph gets an action more, and its communication
module _ (t : List ℕ) (f : Formed t true) (g : ℕ) (known : g < graph_count t) (H : List ℕ) (formed : well_formed H true ≡ true)
    (more : action_count H ≡ action_count (graph_part t g) + 1)
    (each : (a : ℕ) → a < action_count (graph_part t g) → ActionSame (graph_part t g) H a) (word : ℕ) where
  -- the number of the action, the table with the words of the graph, and with the communication
  abbrev new : ℕ
  new = action_count (graph_part t g)

  abbrev put : List ℕ
  put = with_graph t g H

  abbrev wrote : List ℕ
  wrote = set put (communication_cell g new) word

  small : g < graph_room
  small = lt_of_lt_of_le known f.graphs

  room : new < action_room
  room = omega (arith, more, (sound H true formed).counts.actions)

  put_there : Elsewhere t put (graph_start g) table_words
  put_there = with_graph_elsewhere t H f.words g small (sound H true formed).words

  put_words : SystemWords put
  put_words = put_there.sizes ∙ f.words

  wrote_there : Elsewhere put wrote (member_row g) action_room
  wrote_there = set_elsewhere put (communication_cell g new) word (member_row g) action_room (omega arith) (omega (arith, room))

  counts : CountsSame t wrote
  counts =
      let a = communications_counts put_words g wrote_there in
      let b = graph_counts f.words g put_there in
      record { graphs = a.graphs ∙ b.graphs; channels = a.channels ∙ b.channels }

  rows : (q : ℕ) → q < channel_count t → ChannelSame t wrote q
  rows q l j k =
      let s = lt_of_lt_of_le l f.channels in
      communications_channel put_words g wrote_there q s j k ∙ graph_channel f.words g put_there q s j k

  grown : ChannelsGrown t wrote
  grown = rows_grown t wrote (rw counts.channels (le_refl _)) rows (λ q l. channel_narrow t q (f.channel q l))

  pub part : graph_part wrote g ≡ H
  part = communications_graph put_words g wrote_there g small ∙ with_graph_part t H f.words g small (sound H true formed).words

  -- the communications that there were, and the one that is written
  pub old : (a : ℕ) → a < new → communication_at wrote g a ≡ communication_at t g a
  old a l =
      get_or-set_other put (communication_cell g new) (communication_cell g a) word 0 (λ e. omega arith)
      ∙ graph_communications f.words g put_there g a (omega (arith, room))

  pub fresh : communication_at wrote g new ≡ word
  fresh = get_or-set_same put (communication_cell g new) word 0 (omega (arith, put_words, room, small))

  graph_formed_lem : graph_formed wrote true g ≡ true
  unfolding graph_formed
  graph_formed_lem = rw part formed

  fits : communication_fits t word H new ≡ true → communication_formed wrote g new ≡ true
  unfolding communication_formed
  fits h = rw (fresh, part) (fits_kept t wrote (same_action H new) grown word h)

  all_fit : communication_fits t word H new ≡ true → communications_formed wrote g ≡ true
  all_fit h =
      communications_more grown g old (λ a l. rw part (each a l)) (f.communications g known) (ap action_count part ∙ more) (fits h)

  pub action_formed_lem : communication_fits t word H new ≡ true → Formed wrote true
  action_formed_lem h =
      carried t wrote true f
      (record {
        words = wrote_there.sizes ∙ put_words;
        graphs = rw counts.graphs f.graphs;
        channels = rw counts.channels f.channels;
        more = grown.more;
        row = rows;
        fresh = λ q l k. absurd (omega (arith, counts.channels));
        graph = λ i l. by i (rw counts.graphs at l) (ℕ_discrete i g);
      })
    where
      by : (i : ℕ) → i < graph_count t → Dec (i ≡ g) → GraphCarried t wrote true i
      by i l (yes e) = rw e (anew graph_formed_lem (all_fit h))
      by i l (no other) =
          let s = lt_of_lt_of_le l f.graphs in
          kept l (communications_graph put_words g wrote_there i s ∙ graph_graph f.words g put_there i s other)
          (λ a k. communications_communications put_words g wrote_there i other a k ∙ graph_communications f.words g put_there i a k)

-- ---- calls on a graph that is there
module _ (t : List ℕ) (f : Formed t true) (g : ℕ) (known : g < graph_count t) where
  abbrev own_words : List ℕ
  own_words = graph_part t g

  pub own_formed : well_formed own_words true ≡ true
  own_formed = part_formed t g f known

  -- one that adds no action
  call_formed : (c : Own.Call) → Own.Fits c → NoAction c → Formed (with_graph t g (Own.after own_words c)) true
  call_formed c fit none =
      let formed = own.stays_formed own_words c fit own_formed in
      with_graph_formed t (Own.after own_words c) true f g known formed
      (same_actions t (Own.after own_words c) true f g known formed (count_stays own_words c fit none)
      (after_same own_words own_formed c fit))

  -- one that leaves its words
  left_formed : (H : List ℕ) → H ≡ own_words → Formed (with_graph t g H) true
  left_formed H e =
      rw e
      (with_graph_formed t own_words true f g known own_formed
      (same_actions t own_words true f g known own_formed refl (λ a l. same_action own_words a)))

  -- one that adds an action, and tells its communication
  tells_formed : (c : Own.Call) (fit : Own.Fits c) (o : Outcome (Answer ℕ)) (m : Communication) → AddsOne own_words c o
      → (Own.answer_of own_words c ≡ 0 → communication_fits t (communication_word m) o.table (action_count own_words) ≡ true)
      → Formed (told g m o.answer (with_graph t g o.table)) true
  tells_formed c fit o m adds fits = by o.answer refl
    where
      by : (p : Answer ℕ) → o.answer ≡ p → Formed (told g m o.answer (with_graph t g o.table)) true
      by (Ok a) e =
          let ok : Own.answer_of own_words c ≡ 0 = adds.number ∙ ap answer_number e in
          let here : a ≡ action_count own_words = adds.place a e in
          let formed : well_formed o.table true ≡ true = rw adds.table at (own.stays_formed own_words c fit own_formed) in
          rw (e, here)
          (action_formed_lem t f g known o.table formed (adds.more ok)
          (λ b l. rw adds.table at (after_same own_words own_formed c fit b l))
          (communication_word m) (fits ok))
      by (Err r) e =
          let bad : 0 < Own.answer_of own_words c = rw (adds.number, e) (omega (arith, above_ok r)) in
          rw e (left_formed o.table (sym adds.table ∙ own.refused_leaves own_words c bad))

  plain_formed_lem : Formed (told g Plain (new_action_of own_words).answer (with_graph t g (new_action_of own_words).table)) true
  plain_formed_lem =
      tells_formed Own.new_action tt (new_action_of own_words) Plain (adds_plain own_words) (plain_fits t own_words own_formed)

  module _ (q : Channel) (there : q.0 < channel_count t) where
    sent_formed : (m : ℕ → List ℕ) (count : ℕ) → sent_check t q.0 own_words m count ≡ admitted
        → Formed (told g (On Send q) (new_send_of own_words m count).answer (with_graph t g (new_send_of own_words m count).table)) true
    sent_formed m count check =
        tells_formed (Own.new_send m count) tt (new_send_of own_words m count) (On Send q) (adds_send own_words m count)
        (λ ok. send_fits_lem t own_words own_formed q there m count ok check)

    received_formed : (v : Vars) → received_check t q.0 own_words v ≡ admitted
        → Formed (told g (On Receive q) (new_receive_of own_words v).answer (with_graph t g (new_receive_of own_words v).table)) true
    received_formed v check =
        tells_formed (Own.new_receive v) tt (new_receive_of own_words v) (On Receive q) (adds_receive own_words v)
        (λ ok. receive_fits_lem t own_words own_formed q there v ok check)

    probe_formed_lem : (k : Message) → IsProbe k
        → Formed (told g (On k q) (new_send_of own_words no_values 0).answer (with_graph t g (new_send_of own_words no_values 0).table)) true
    probe_formed_lem k p =
        tells_formed (Own.new_send no_values 0) tt (new_send_of own_words no_values 0) (On k q) (adds_send own_words no_values 0)
        (λ ok. probe_fits t own_words own_formed q there ok k p)

-- ---- a call that asks a check first
only_formed : {A : Type 0} (refuse : Refusal → A) (c : Answer ⊤) (t : List ℕ) (o : Outcome A) → Formed t true
    → (c ≡ admitted → Formed o.table true) → Formed (only_if refuse c t o).table true
only_formed refuse (Ok _) t o f h = h refl
only_formed refuse (Err r) t o f h = f

-- what an accepted check says of the channel, and of the values
module _ (t : List ℕ) (g q : ℕ) where
  pub known_channel : known_check t g q ≡ admitted → q < channel_count t
  unfolding known_check
  known_channel e = ltb-true _ _ (unless_on _ _ _ (then_both _ _ e).1).0

  pub send_both : (m : ℕ → List ℕ) (count : ℕ) → send_check_on t g q m count ≡ admitted
      → (known_check t g q ≡ admitted) × (sent_check t q (graph_part t g) m count ≡ admitted)
  unfolding send_check_on
  send_both m count e = then_both _ _ e

  pub receive_both : (v : Vars) → receive_check_on t g q v ≡ admitted
      → (known_check t g q ≡ admitted) × (received_check t q (graph_part t g) v ≡ admitted)
  unfolding receive_check_on
  receive_both v e = then_both _ _ e

-- A call on one graph leaves a well-formed system well formed, whatever it answers.
module _ (t : List ℕ) (f : Formed t true) (g : ℕ) where
  -- one that adds no action
  no_action : {A : Type 0} (refuse : Refusal → A) (call : List ℕ → Outcome A) (c : Own.Call) → Own.Fits c → NoAction c
      → (call (graph_part t g)).table ≡ Own.after (graph_part t g) c → Formed (on_graph refuse call t g).table true
  no_action refuse call c fit none same =
      only_formed refuse (member_check t g) t (on_part call t g) f
      (λ e. rw same (call_formed t f g (member_ready t g e).1 c fit none))

  plain_action : Formed (new_action_on t g).table true
  plain_action = by (member_check t g) refl
    where
      by : (c : Answer ⊤) → member_check t g ≡ c → Formed (new_action_on t g).table true
      by (Ok _) e = rw e (plain_formed_lem t f g (member_ready t g e).1)
      by (Err r) e = rw e f

  pub on_formed : (c : OnGraph) → Fits c → Formed (after_on t g c) true
  unfolding new_send_on new_receive_on new_probe_on
  on_formed (new_var v) fit = no_action Err (λ (G : List ℕ). new_var_of G v) (Own.new_var v) fit tt refl
  on_formed new_clock fit = no_action Err new_clock_of Own.new_clock fit tt refl
  on_formed new_action fit = plain_action
  on_formed (new_process l) fit = no_action Err (λ (G : List ℕ). new_process_of G l) (Own.new_process l) fit tt refl
  on_formed (add_reset a clock) fit = no_action Err (λ (G : List ℕ). add_reset_of G a clock) (Own.add_reset a clock) fit tt refl
  on_formed (add_effect a v ws) fit = no_action Err (λ (G : List ℕ). add_effect_of G a v ws) (Own.add_effect a v ws) fit tt refl
  on_formed (new_timed_location l) fit =
      no_action Err (λ (G : List ℕ). new_timed_location_of G l) (Own.new_timed_location l) fit tt refl
  on_formed (new_initial_location l) fit =
      no_action Err (λ (G : List ℕ). new_initial_of G l) (Own.new_initial_location l) fit tt refl
  on_formed (add_transition pre a post guarded ws l) fit =
      no_action Err (λ (G : List ℕ). add_transition_of G pre a post guarded ws l) (Own.add_transition pre a post guarded ws l) fit tt
      refl
  on_formed (new_send q m count) fit =
      only_formed Err (send_check_on t g q.0 m count) t (telling g (On Send q) (send_part t g m count)) f
      (λ e.
      let both = send_both t g q.0 m count e in
      sent_formed t f g (member_ready t g (known_member t g q.0 both.0)).1 q (known_channel t g q.0 both.0) m count both.1)
  on_formed (new_receive q v) fit =
      only_formed Err (receive_check_on t g q.0 v) t (telling g (On Receive q) (receive_part t g v)) f
      (λ e.
      let both = receive_both t g q.0 v e in
      received_formed t f g (member_ready t g (known_member t g q.0 both.0)).1 q (known_channel t g q.0 both.0) v both.1)
  on_formed (new_probe k q) fit =
      only_formed Err (known_check t g q.0) t (telling g (On k q) (send_part t g no_values 0)) f
      (λ e. probe_formed_lem t f g (member_ready t g (known_member t g q.0 e)).1 q (known_channel t g q.0 e) k fit)
