-- What a call on one graph of a system leaves in that graph: its words are what the graph's own call leaves, each action that there was
-- keeps its communication, and a new one has the communication that the call says.
use Rattle.std.specs.Prelude.{Ok, Err, ⊤}
use Prim.Native.Nat.{ℕ, ◌<◌}
use mathlib.Core.Path.{◌≡◌, refl, sym, ap, ◌∙◌}
use mathlib.Core.Bool.{true}
use mathlib.Core.List.{List}
use native.Mathlib.Nat.{lt_of_lt_of_le}
use native.Mathlib.Omega.{arith}
use Rattle.graph_tables.specs.Words.{action_count}
use Rattle.graph_tables.specs.Formed.{well_formed}
use Rattle.graph_tables.specs.Answers.{Answer, admitted, answer_number}
use Rattle.graph_tables.specs.Refusals.{number_of}
use Rattle.graph_tables.specs.declared.refusals.Refusal.{Refusal}
use Rattle.graph_tables.proofs.NumberLaws.{above_ok}
use Rattle.graph_tables.proofs.SoundLaws.{sound}
use Rattle.graph_builder.specs.Building.{Outcome, new_var_of, new_clock_of, new_action_of, new_process_of, add_reset_of, add_effect_of}
use Rattle.graph_builder.specs.Building.{new_timed_location_of, new_initial_of, add_transition_of, new_send_of, new_receive_of}
use Rattle.graph_builder.specs.Chains as Own
use Rattle.graph_builder.proofs.Theorems as own
use Rattle.system_tables.specs.Words.{graph_count, graph_part, with_graph, communication_at, communication_word}
use Rattle.system_tables.specs.declared.ids.Communication.{Communication}
use Rattle.system_tables.specs.declared.ids.Communication.TheVariants.{Plain, On}
use Rattle.system_tables.specs.declared.ids.Message.TheVariants.{Send, Receive}
use Rattle.system_tables.proofs.FrameLaws.{with_graph_elsewhere, with_graph_part, graph_communications}
use Rattle.system_tables.proofs.KeptLaws.{Formed, ActionSame}
use Rattle.system_builder.specs.Graphs.{member_check, only_if, on_part, on_graph, told, telling, new_action_on}
use Rattle.system_builder.specs.Messages.{known_check, send_check_on, receive_check_on, no_values}
use Rattle.system_builder.specs.Messages.{new_send_on, new_receive_on, new_probe_on}
use Rattle.system_builder.specs.Chains.{OnGraph, new_var, new_clock, new_action, new_process, add_reset, add_effect}
use Rattle.system_builder.specs.Chains.{new_timed_location}
use Rattle.system_builder.specs.Chains.{new_initial_location, add_transition, new_send, new_receive, new_probe, after_on, answer_on}
use Rattle.system_builder.specs.Chains.{Fits, own_call, Tells}
use Rattle.system_builder.proofs.SystemLaws.{member_ready}
use Rattle.system_builder.proofs.MessageLaws.{known_member, send_known, receive_known}
use Rattle.system_builder.proofs.SameActions.{after_same}
use Rattle.system_builder.proofs.NewActions.{AddsOne, adds_plain, adds_send, adds_receive}
use Rattle.system_builder.proofs.FormedCalls.{part, old, fresh, own_formed}

-- each action that the graph had has its communication
abbrev pub OldSame : List ℕ → List ℕ → ℕ → Type 0
OldSame t u g = (a : ℕ) → a < action_count (graph_part t g) → communication_at u g a ≡ communication_at t g a

-- it is refused and leaves every word, or the graph's own call is made
pub data After (t u : List ℕ) (g : ℕ) (c : Own.Call) (number : ℕ) : Type 0 where
  refused : u ≡ t → 0 < number → After t u g c number
  acted : g < graph_count t → graph_part u g ≡ Own.after (graph_part t g) c → OldSame t u g → number ≡ Own.answer_of (graph_part t g) c
      → After t u g c number

-- what is handed to it fits
pub own_fits : (c : OnGraph) → Fits c → Own.Fits (own_call c)
own_fits (new_var v) fit = fit
own_fits new_clock fit = tt
own_fits new_action fit = tt
own_fits (new_process l) fit = tt
own_fits (add_reset a clock) fit = tt
own_fits (add_effect a v ws) fit = tt
own_fits (new_timed_location l) fit = fit
own_fits (new_initial_location l) fit = fit
own_fits (add_transition pre a post guarded ws l) fit = fit
own_fits (new_send q m count) fit = tt
own_fits (new_receive q v) fit = tt
own_fits (new_probe k q) fit = tt

-- ---- calls on a graph that is there
module _ (t : List ℕ) (f : Formed t true) (g : ℕ) (known : g < graph_count t) (c : Own.Call) (fit : Own.Fits c) where
  after_formed : well_formed (Own.after (graph_part t g) c) true ≡ true
  after_formed = own.stays_formed (graph_part t g) c fit (own_formed t f g known)

  -- the words of the graph alone are written
  put_after : (number : ℕ) → number ≡ Own.answer_of (graph_part t g) c → After t (with_graph t g (Own.after (graph_part t g) c)) g c number
  put_after number e =
      let s = lt_of_lt_of_le known f.graphs in
      let size = (sound (Own.after (graph_part t g) c) true after_formed).words in
      let there = with_graph_elsewhere t (Own.after (graph_part t g) c) f.words g s size in
      acted known (with_graph_part t (Own.after (graph_part t g) c) f.words g s size)
      (λ a l. graph_communications f.words g there g a
      (lt_of_lt_of_le l (sound (graph_part t g) true (own_formed t f g known)).counts.actions))
      e

  -- and the communication of the action that it adds
  module _ (o : Outcome (Answer ℕ)) (m : Communication) (adds : AddsOne (graph_part t g) c o) where
    formed : well_formed o.table true ≡ true
    formed = rw adds.table at after_formed

    each : (a : ℕ) → a < action_count (graph_part t g) → ActionSame (graph_part t g) o.table a
    each a l = rw adds.table at (after_same (graph_part t g) (own_formed t f g known) c fit a l)

    told_after : After t (told g m o.answer (with_graph t g o.table)) g c (answer_number o.answer)
    told_after = by o.answer refl
      where
        by : (p : Answer ℕ) → o.answer ≡ p → After t (told g m o.answer (with_graph t g o.table)) g c (answer_number o.answer)
        by (Ok a) e =
            let ok : Own.answer_of (graph_part t g) c ≡ 0 = adds.number ∙ ap answer_number e in
            let here : a ≡ action_count (graph_part t g) = adds.place a e in
            rw (e, here)
            (acted known
            (part t f g known o.table formed (adds.more ok) each (communication_word m) ∙ sym adds.table)
            (old t f g known o.table formed (adds.more ok) each (communication_word m))
            (sym ok))
        by (Err r) e =
            rw (e, sym adds.table) (put_after (number_of r) (sym (ap answer_number e) ∙ sym adds.number))

    told_fresh : answer_number o.answer ≡ 0
        → communication_at (told g m o.answer (with_graph t g o.table)) g (action_count (graph_part t g)) ≡ communication_word m
    told_fresh done = by o.answer refl
      where
        by : (p : Answer ℕ) → o.answer ≡ p
            → communication_at (told g m o.answer (with_graph t g o.table)) g (action_count (graph_part t g)) ≡ communication_word m
        by (Ok a) e =
            let ok : Own.answer_of (graph_part t g) c ≡ 0 = adds.number ∙ done in
            let here : a ≡ action_count (graph_part t g) = adds.place a e in
            rw (e, here) (fresh t f g known o.table formed (adds.more ok) each (communication_word m))
        by (Err r) e = absurd (above_ok r (sym (ap answer_number e) ∙ done))

-- ---- a call that asks a check first
only_after : {A : Type 0} (refuse : Refusal → A) (number : A → ℕ) → ((r : Refusal) → number (refuse r) ≡ number_of r)
    → (check : Answer ⊤) (t : List ℕ) (o : Outcome A) (g : ℕ) (c : Own.Call)
    → (check ≡ admitted → After t o.table g c (number o.answer))
    → After t (only_if refuse check t o).table g c (number (only_if refuse check t o).answer)
only_after refuse number same (Ok _) t o g c h = h refl
only_after refuse number same (Err r) t o g c h = refused refl (omega (arith, above_ok r, same r))

module _ (t : List ℕ) (f : Formed t true) (g : ℕ) where
  placed_after : (call : List ℕ → Outcome (Answer ℕ)) (c : Own.Call) → Own.Fits c → (call (graph_part t g)).table ≡ Own.after (graph_part t g) c
      → answer_number (call (graph_part t g)).answer ≡ Own.answer_of (graph_part t g) c
      → After t (on_graph Err call t g).table g c (answer_number (on_graph Err call t g).answer)
  placed_after call c fit same number =
      only_after Err answer_number (λ r. refl) (member_check t g) t (on_part call t g) g c
      (λ e. rw same (put_after t f g (member_ready t g e).1 c fit _ number))

  done_after : (call : List ℕ → Outcome (Answer ⊤)) (c : Own.Call) → Own.Fits c → (call (graph_part t g)).table ≡ Own.after (graph_part t g) c
      → answer_number (call (graph_part t g)).answer ≡ Own.answer_of (graph_part t g) c
      → After t (on_graph Err call t g).table g c (answer_number (on_graph Err call t g).answer)
  done_after call c fit same number =
      only_after Err answer_number (λ r. refl) (member_check t g) t (on_part call t g) g c
      (λ e. rw same (put_after t f g (member_ready t g e).1 c fit _ number))

  action_after : After t (new_action_on t g).table g Own.new_action (answer_number (new_action_on t g).answer)
  action_after = by (member_check t g) refl
    where
      by : (d : Answer ⊤) → member_check t g ≡ d → After t (new_action_on t g).table g Own.new_action (answer_number (new_action_on t g).answer)
      by (Ok _) e =
          rw e (told_after t f g (member_ready t g e).1 Own.new_action tt (new_action_of (graph_part t g)) Plain (adds_plain (graph_part t g)))
      by (Err r) e = rw e (refused refl (omega (arith, above_ok r)))

  message_after : (check : Answer ⊤) (m : Communication) (call : List ℕ → Outcome (Answer ℕ)) (c : Own.Call) → Own.Fits c
      → AddsOne (graph_part t g) c (call (graph_part t g)) → (check ≡ admitted → member_check t g ≡ admitted)
      → After t (only_if Err check t (telling g m (on_part call t g))).table g c
      (answer_number (only_if Err check t (telling g m (on_part call t g))).answer)
  message_after check m call c fit adds member =
      only_after Err answer_number (λ r. refl) check t (telling g m (on_part call t g)) g c
      (λ e. told_after t f g (member_ready t g (member e)).1 c fit (call (graph_part t g)) m adds)

  pub after_on_lem : (c : OnGraph) → Fits c → After t (after_on t g c) g (own_call c) (answer_on t g c)
  unfolding new_send_on new_receive_on new_probe_on
  after_on_lem (new_var v) fit = placed_after (λ (G : List ℕ). new_var_of G v) (Own.new_var v) fit refl refl
  after_on_lem new_clock fit = placed_after new_clock_of Own.new_clock tt refl refl
  after_on_lem new_action fit = action_after
  after_on_lem (new_process l) fit = done_after (λ (G : List ℕ). new_process_of G l) (Own.new_process l) tt refl refl
  after_on_lem (add_reset a clock) fit = done_after (λ (G : List ℕ). add_reset_of G a clock) (Own.add_reset a clock) tt refl refl
  after_on_lem (add_effect a v ws) fit = done_after (λ (G : List ℕ). add_effect_of G a v ws) (Own.add_effect a v ws) tt refl refl
  after_on_lem (new_timed_location l) fit = placed_after (λ (G : List ℕ). new_timed_location_of G l) (Own.new_timed_location l) fit refl refl
  after_on_lem (new_initial_location l) fit = placed_after (λ (G : List ℕ). new_initial_of G l) (Own.new_initial_location l) fit refl refl
  after_on_lem (add_transition pre a post guarded ws l) fit =
      done_after (λ (G : List ℕ). add_transition_of G pre a post guarded ws l) (Own.add_transition pre a post guarded ws l) fit refl refl
  after_on_lem (new_send q m count) fit =
      message_after (send_check_on t g q.0 m count) (On Send q) (λ (G : List ℕ). new_send_of G m count) (Own.new_send m count) tt
      (adds_send (graph_part t g) m count) (λ e. known_member t g q.0 (send_known t g q.0 m count e))
  after_on_lem (new_receive q v) fit =
      message_after (receive_check_on t g q.0 v) (On Receive q) (λ (G : List ℕ). new_receive_of G v) (Own.new_receive v) tt
      (adds_receive (graph_part t g) v) (λ e. known_member t g q.0 (receive_known t g q.0 v e))
  after_on_lem (new_probe k q) fit =
      message_after (known_check t g q.0) (On k q) (λ (G : List ℕ). new_send_of G no_values 0) (Own.new_send no_values 0) tt
      (adds_send (graph_part t g) no_values 0) (known_member t g q.0)

  -- ---- an action that is added has the communication that its call says
  only_fresh : (check : Answer ⊤) (o : Outcome (Answer ℕ)) (m : Communication) (a : ℕ)
      → (check ≡ admitted → answer_number o.answer ≡ 0 → communication_at o.table g a ≡ communication_word m)
      → answer_number (only_if Err check t o).answer ≡ 0
      → communication_at (only_if Err check t o).table g a ≡ communication_word m
  only_fresh (Ok _) o m a h e = h refl e
  only_fresh (Err r) o m a h e = absurd (above_ok r e)

  action_fresh : answer_number (new_action_on t g).answer ≡ 0
      → communication_at (new_action_on t g).table g (action_count (graph_part t g)) ≡ communication_word Plain
  action_fresh done = by (member_check t g) refl
    where
      by : (d : Answer ⊤) → member_check t g ≡ d
          → communication_at (new_action_on t g).table g (action_count (graph_part t g)) ≡ communication_word Plain
      by (Ok _) e =
          let fine : answer_number (new_action_of (graph_part t g)).answer ≡ 0 = rw e at done in
          rw e
          (told_fresh t f g (member_ready t g e).1 Own.new_action tt (new_action_of (graph_part t g)) Plain (adds_plain (graph_part t g)) fine)
      by (Err r) e = absurd (above_ok r (rw e at done))

  message_fresh : (check : Answer ⊤) (m : Communication) (call : List ℕ → Outcome (Answer ℕ)) (c : Own.Call) → Own.Fits c
      → AddsOne (graph_part t g) c (call (graph_part t g)) → (check ≡ admitted → member_check t g ≡ admitted)
      → answer_number (only_if Err check t (telling g m (on_part call t g))).answer ≡ 0
      → communication_at (only_if Err check t (telling g m (on_part call t g))).table g (action_count (graph_part t g))
      ≡ communication_word m
  message_fresh check m call c fit adds member =
      only_fresh check (telling g m (on_part call t g)) m (action_count (graph_part t g))
      (λ e. told_fresh t f g (member_ready t g (member e)).1 c fit (call (graph_part t g)) m adds)

  pub told_word : (c : OnGraph) (m : Communication) → Tells c m → answer_on t g c ≡ 0
      → communication_at (after_on t g c) g (action_count (graph_part t g)) ≡ communication_word m
  unfolding new_send_on new_receive_on new_probe_on
  told_word (new_var v) m h = absurd h
  told_word new_clock m h = absurd h
  told_word new_action m h = rw h action_fresh
  told_word (new_process l) m h = absurd h
  told_word (add_reset a clock) m h = absurd h
  told_word (add_effect a v ws) m h = absurd h
  told_word (new_timed_location l) m h = absurd h
  told_word (new_initial_location l) m h = absurd h
  told_word (add_transition pre a post guarded ws l) m h = absurd h
  told_word (new_send q e count) m h =
      rw h
      (message_fresh (send_check_on t g q.0 e count) (On Send q) (λ (G : List ℕ). new_send_of G e count) (Own.new_send e count) tt
      (adds_send (graph_part t g) e count) (λ k. known_member t g q.0 (send_known t g q.0 e count k)))
  told_word (new_receive q v) m h =
      rw h
      (message_fresh (receive_check_on t g q.0 v) (On Receive q) (λ (G : List ℕ). new_receive_of G v) (Own.new_receive v) tt
      (adds_receive (graph_part t g) v) (λ k. known_member t g q.0 (receive_known t g q.0 v k)))
  told_word (new_probe k q) m h =
      rw h
      (message_fresh (known_check t g q.0) (On k q) (λ (G : List ℕ). new_send_of G no_values 0) (Own.new_send no_values 0) tt
      (adds_send (graph_part t g) no_values 0) (known_member t g q.0))
