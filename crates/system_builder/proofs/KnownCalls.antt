-- On a well-formed system no call answers 32.
use Rattle.std.specs.Prelude.{Ok, Err, ⊤}
use Prim.Native.Nat.{ℕ}
use mathlib.Core.Path.{◌≡◌, refl, sym, ◌∙◌}
use mathlib.Core.Logic.{◌≢◌}
use mathlib.Core.Bool.{Bool, true, false}
use mathlib.Core.List.{List}
use native.Mathlib.Omega.{arith}
use lib.Dec.{leb, ltb}
use Rattle.laws.specs.Ladder.{unless}
use Rattle.laws.specs.Below.{all_below}
use Rattle.graph_tables.specs.Answers.{Answer, admitted, answer_number}
use Rattle.graph_tables.specs.Refusals.{number_of}
use Rattle.graph_tables.specs.Sizes.{message_room}
use Rattle.graph_tables.specs.declared.refusals.Refusal.{Refusal}
use Rattle.graph_tables.specs.declared.handed.Vars.{Vars}
use Rattle.graph_checks.specs.Checks.{refused_by}
use Rattle.graph_builder.specs.Building.{Outcome, new_var_of, new_clock_of, new_action_of, new_process_of, add_reset_of, add_effect_of}
use Rattle.graph_builder.specs.Building.{new_timed_location_of, new_initial_of, add_transition_of, var_type_of}
use Rattle.graph_builder.specs.Chains as Own
use Rattle.graph_builder.proofs.KnownChecks.{Known, else_known, then_known}
use Rattle.graph_builder.proofs.Theorems as own
use Rattle.system_tables.specs.Sizes.{graph_room, channel_room}
use Rattle.system_tables.specs.Words.{graph_count, channel_count, graph_part}
use Rattle.system_tables.specs.Ceiling.{has_room}
use Rattle.system_tables.specs.Formed.{system_formed}
use Rattle.system_tables.specs.declared.ids.ChannelCapacity.{ChannelCapacity}
use Rattle.system_tables.proofs.KeptLaws.{apart}
use Rattle.system_builder.specs.declared.handed.Kinds.{Kinds}
use Rattle.system_builder.specs.Systems.{graph_check, new_graph_of, channel_check, new_channel_of, started, build_system_of, read_check}
use Rattle.system_builder.specs.Systems.{read_if}
use Rattle.system_builder.specs.Systems.{kinds_in, channel_in}
use Rattle.system_tables.specs.Words.{capacity_of}
use Rattle.system_builder.specs.Graphs.{member_check, only_if, on_part, on_graph, telling, type_if, var_type_in}
use Rattle.system_builder.specs.Messages.{known_check, fit_check, if_read, sent_check, send_check_on, send_part, new_send_on, received_check}
use Rattle.system_builder.specs.Messages.{receive_check_on, receive_part, new_receive_on, no_values, new_probe_on}
use Rattle.system_tables.specs.declared.ids.Communication.TheVariants.{On}
use Rattle.system_tables.specs.declared.ids.Message.TheVariants.{Send, Receive}
use Rattle.system_builder.specs.Chains.{OnGraph, new_var, new_clock, new_action, new_process, add_reset, add_effect}
use Rattle.system_builder.specs.Chains.{new_timed_location}
use Rattle.system_builder.specs.Chains.{new_initial_location, add_transition, new_send, new_receive, new_probe, answer_on}
use Rattle.system_builder.specs.Chains.{Call, new_graph, new_channel, call_on_graph, answer_of}
use Rattle.system_builder.proofs.SystemLaws.{member_ready}
use Rattle.system_builder.proofs.ActionLaws.{part_formed}
use Rattle.system_builder.proofs.MessageLaws.{known_member, send_known, receive_known}

ok : Known admitted
ok = omega arith

one_rung : (b : Bool) (refused : Answer ⊤) → Known refused → Known (unless b refused admitted)
one_rung b refused h = else_known b refused admitted h ok

-- a call that asks a check first
only_known : {A : Type 0} (refuse : Refusal → A) (number : A → ℕ) → ((r : Refusal) → number (refuse r) ≡ number_of r)
    → (c : Answer ⊤) (t : List ℕ) (o : Outcome A) → Known c → (c ≡ admitted → number o.answer ≢ 32)
    → number (only_if refuse c t o).answer ≢ 32
only_known refuse number same (Ok _) t o h k = k refl
only_known refuse number same (Err r) t o h k = λ e. h (sym (same r) ∙ e)

-- 5, where the list can be read
fit_known : (few each : Bool) (count width : ℕ) (fits : Bool) → Known (if_read few each (fit_check count width fits))
unfolding if_read
fit_known true true count width fits = else_known _ (refused_by 5) _ (omega arith) (one_rung _ (refused_by 5) (omega arith))
fit_known true false count width fits = ok
fit_known false each count width fits = ok

module _ (t : List ℕ) (h : system_formed t true ≡ true) where
  graph_known : Known (graph_check t)
  unfolding graph_check unless
  graph_known = rw h (one_rung (ltb (graph_count t) graph_room) (refused_by 28) (omega arith))

  channel_known_lem : (k : Kinds) (c : ChannelCapacity) → Known (channel_check t k c)
  unfolding channel_check unless
  channel_known_lem k c =
      rw h
      (else_known (leb k.count message_room) (refused_by 28) _ (omega arith)
      (else_known (has_room k.count c) (refused_by 31) _ (omega arith)
      (one_rung (ltb (channel_count t) channel_room) (refused_by 28) (omega arith))))

  member_known : (g : ℕ) → Known (member_check t g)
  unfolding member_check unless
  member_known g = rw h (one_rung (ltb g (graph_count t)) (refused_by 17) (omega arith))

  both_known : (g q : ℕ) → Known (known_check t g q)
  unfolding known_check
  both_known g q = then_known (member_check t g) _ (member_known g) (one_rung (ltb q (channel_count t)) (refused_by 30) (omega arith))

  send_check_known : (g q : ℕ) (m : ℕ → List ℕ) (count : ℕ) → Known (send_check_on t g q m count)
  unfolding send_check_on sent_check
  send_check_known g q m count = then_known (known_check t g q) _ (both_known g q) (fit_known _ _ count _ _)

  receive_check_known : (g q : ℕ) (v : Vars) → Known (receive_check_on t g q v)
  unfolding receive_check_on received_check
  receive_check_known g q v = then_known (known_check t g q) _ (both_known g q) (fit_known _ _ v.count _ _)

  -- the graph's own call does not, as its words are well formed
  module _ (g : ℕ) where
    own_known : (c : Own.Call) → member_check t g ≡ admitted → Own.answer_of (graph_part t g) c ≢ 32
    own_known c e = own.call_known (graph_part t g) c (part_formed t g (apart t true h) (member_ready t g e).1)

    placed_known : (call : List ℕ → Outcome (Answer ℕ)) (c : Own.Call)
        → answer_number (call (graph_part t g)).answer ≡ Own.answer_of (graph_part t g) c
        → answer_number (on_graph Err call t g).answer ≢ 32
    placed_known call c same =
        only_known Err answer_number (λ r. refl) (member_check t g) t (on_part call t g) (member_known g)
        (λ e n. own_known c e (sym same ∙ n))

    done_known : (call : List ℕ → Outcome (Answer ⊤)) (c : Own.Call)
        → answer_number (call (graph_part t g)).answer ≡ Own.answer_of (graph_part t g) c
        → answer_number (on_graph Err call t g).answer ≢ 32
    done_known call c same =
        only_known Err answer_number (λ r. refl) (member_check t g) t (on_part call t g) (member_known g)
        (λ e n. own_known c e (sym same ∙ n))

    on_known : (c : OnGraph) → answer_on t g c ≢ 32
    unfolding new_send_on new_receive_on new_probe_on
    on_known (new_var v) = placed_known (λ (G : List ℕ). new_var_of G v) (Own.new_var v) refl
    on_known new_clock = placed_known new_clock_of Own.new_clock refl
    on_known new_action = placed_known new_action_of Own.new_action refl
    on_known (new_process l) = done_known (λ (G : List ℕ). new_process_of G l) (Own.new_process l) refl
    on_known (add_reset a clock) = done_known (λ (G : List ℕ). add_reset_of G a clock) (Own.add_reset a clock) refl
    on_known (add_effect a v ws) = done_known (λ (G : List ℕ). add_effect_of G a v ws) (Own.add_effect a v ws) refl
    on_known (new_timed_location l) = placed_known (λ (G : List ℕ). new_timed_location_of G l) (Own.new_timed_location l) refl
    on_known (new_initial_location l) = placed_known (λ (G : List ℕ). new_initial_of G l) (Own.new_initial_location l) refl
    on_known (add_transition pre a post guarded ws l) =
        done_known (λ (G : List ℕ). add_transition_of G pre a post guarded ws l) (Own.add_transition pre a post guarded ws l) refl
    on_known (new_send q m count) =
        only_known Err answer_number (λ r. refl) (send_check_on t g q.0 m count) t (telling g (On Send q) (send_part t g m count))
        (send_check_known g q.0 m count)
        (λ e. own_known (Own.new_send m count) (known_member t g q.0 (send_known t g q.0 m count e)))
    on_known (new_receive q v) =
        only_known Err answer_number (λ r. refl) (receive_check_on t g q.0 v) t (telling g (On Receive q) (receive_part t g v))
        (receive_check_known g q.0 v)
        (λ e. own_known (Own.new_receive v) (known_member t g q.0 (receive_known t g q.0 v e)))
    on_known (new_probe k q) =
        only_known Err answer_number (λ r. refl) (known_check t g q.0) t (telling g (On k q) (send_part t g no_values 0))
        (both_known g q.0) (λ e. own_known (Own.new_send no_values 0) (known_member t g q.0 e))

  -- On a well-formed system no building call answers 32.
  pub call_known : (c : Call) → answer_of t c ≢ 32
  unfolding new_graph_of new_channel_of
  call_known new_graph = own.known_placed (graph_check t) t _ _ graph_known
  call_known (new_channel k c) = own.known_placed (channel_check t k c) t _ _ (channel_known_lem k c)
  call_known (call_on_graph g c) = on_known g c

  -- Nor does `build`, or a question for the kind of a variable.
  pub build_known : answer_number (build_system_of t) ≢ 32
  unfolding build_system_of unless
  build_known = rw h (one_rung (all_below (graph_count t) (started t)) (refused_by 29) (omega arith))

  pub kind_known_lem : (g v : ℕ) → answer_number (var_type_in t g v) ≢ 32
  unfolding var_type_in
  kind_known_lem g v = by (member_check t g) refl (member_known g)
    where
      by : (c : Answer ⊤) → member_check t g ≡ c → Known c → answer_number (type_if c (var_type_of (graph_part t g) v)) ≢ 32
      by (Ok _) e k = own.kind_known_lem (graph_part t g) v (part_formed t g (apart t true h) (member_ready t g e).1)
      by (Err r) e k = k

-- On a system that `build` accepts a read of a channel does not answer 32.
pub read_known : (t : List ℕ) (q : ℕ) → system_formed t false ≡ true → answer_number (channel_in t q).answer ≢ 32
unfolding channel_in read_check unless
read_known t q h = by (read_check t q) (rw h (one_rung (ltb q (channel_count t)) (refused_by 30) (omega arith)))
  where
    by : (c : Answer ⊤) → Known c → answer_number (read_if c (kinds_in t q) (capacity_of t q)).answer ≢ 32
    by (Ok _) k = k
    by (Err r) k = k
