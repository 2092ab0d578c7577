-- Each accepted call's table reads as the old graph with one part more: the parts of the theorem.
use Rattle.std.specs.Prelude.{Ok, Err, ⊤}
use Prim.Native.Nat.{ℕ, ◌+◌, ◌<◌}
use mathlib.Core.Path.{◌≡◌, refl, sym, ap, ◌∙◌}
use mathlib.Core.Bool.{Bool, true, false, cond}
use mathlib.Core.List.{List, [], ◌∷◌, ◌++◌}
use native.Mathlib.Omega.{arith}
use lib.Dec.{eqb}
use Rattle.grammar.specs.Values.{kind_of, kind_word}
use Rattle.grammar.specs.Slots.{val_of, FitVal}
use Rattle.grammar.proofs.SlotLaws.{val_back}
use Rattle.grammar.specs.declared.values.Val.{Val}
use Rattle.grammar.specs.declared.values.Val.TheVariants.{Boolean, Integer}
use Rattle.graph_tables.specs.Layout.{variables_cell, clocks_cell, locations_cell, actions_cell, processes_cell, transitions_cell, post_span}
use Rattle.graph_tables.specs.Sizes.{word32, plain_kind}
use Rattle.graph_tables.specs.Answers.{Answer, admitted, answer_number}
use Rattle.graph_tables.specs.declared.handed.Limits.{Limits}
use Rattle.graph_tables.specs.declared.handed.Vars.{Vars}
use Rattle.graph_tables.specs.Words.{variable_count, clock_count, location_count, action_count, process_count, place_at, key_with}
use Rattle.graph_tables.proofs.NumberLaws.{above_ok}
use Rattle.graph_tables.proofs.KeptLaws.{apart}
use Rattle.graph_edits.specs.Edits.{with_var, with_clock, with_action, with_process, with_location, with_reset, with_effect, with_send, with_receive}
use Rattle.graph_edits.specs.Edits.{with_transition}
use Rattle.graph_edits.specs.Lists.{changed_at, variable_at, variables_of, places_of, StoredLimit, invariants_of, locations_of, StoredAction}
use Rattle.graph_edits.specs.Lists.{action_at, actions_of, StoredTransition, transitions_of}
use Rattle.graph_edits.proofs.ExpressionLaws.{Short}
use Rattle.graph_edits.proofs.KeyLaws.{key_pre, key_action, key_post}
use Rattle.graph_edits.proofs.ListLaws.{list_length, transitions_list, invariants_list}
use Rattle.graph_edits.proofs.PartsKept.{none, Kept, perhaps, variables_read, locations_read, places_read, actions_read, actions_changed}
use Rattle.graph_edits.proofs.PartsKept.{plain_at}
use Rattle.graph_edits.proofs.EditsRead.{var_keeps, var_read_lem, clock_keeps, process_keeps, process_read, action_keeps, action_read}
use Rattle.graph_edits.proofs.EditsRead.{send_keeps, send_read, receive_keeps, receive_read, location_keeps, place_grows, initial_keeps}
use Rattle.graph_edits.proofs.EditsRead.{initial_invariants, initial_place, reset_keeps, reset_read, effect_keeps, effect_read}
use Rattle.graph_edits.proofs.EditsRead.{transition_keeps}
use Rattle.graph_checks.specs.Checks.{var_check, clock_check, action_check, process_check, reset_check, effect_check, send_check, receive_check}
use Rattle.graph_checks.specs.Checks.{location_check, initial_check, transition_check}
use Rattle.graph_checks.proofs.ReadyActions.{reset_ready, effect_ready, send_ready, receive_ready}
use Rattle.graph_checks.proofs.ReadyParts.{var_ready, clock_ready, action_ready, process_ready_lem, location_ready, initial_ready}
use Rattle.graph_checks.proofs.ReadyParts.{transition_ready}
use Rattle.graph_builder.specs.Building.{done_if, placed_if, payload_of, guard_of}
use Rattle.graph_builder.specs.Chains.{new_var, new_clock, new_action, new_process, add_reset, add_effect, new_send, new_receive}
use Rattle.graph_builder.specs.Chains.{new_timed_location, new_initial_location, add_transition}
use Rattle.graph_builder.specs.Reading.{Graph, graph_of, variables_now, locations_now, processes_now, actions_now, transitions_now}
use Rattle.graph_builder.specs.Reading.{with_clock_reset, with_assignment, in_order, added}
use Rattle.graph_builder.proofs.FormedCalls.{known_small, guard_fits}

-- graphs with the same lists are one
same_graph : (g h : Graph) → g.variables ≡ h.variables → g.clocks ≡ h.clocks → g.locations ≡ h.locations → g.processes ≡ h.processes
    → g.actions ≡ h.actions → g.transitions ≡ h.transitions → g ≡ h
same_graph g h variables clocks locations processes actions transitions =
    λ i. record {
      variables = variables i;
      clocks = clocks i;
      locations = locations i;
      processes = processes i;
      actions = actions i;
      transitions = transitions i;
    }

-- one part more for each count that grows
abbrev grown_graph : (ℕ → Bool) → List ℕ → List ℕ → Graph
grown_graph grows t u = record {
  variables = perhaps (grows variables_cell) (variables_of t) (variable_at u (variable_count t));
  clocks = cond (grows clocks_cell) (clock_count t + 1) (clock_count t);
  locations = perhaps (grows locations_cell) (locations_of t) (invariants_of u (location_count t));
  processes = perhaps (grows processes_cell) (places_of t) (place_at u (process_count t));
  actions = perhaps (grows actions_cell) (actions_of t) (action_at u (action_count t));
  transitions = transitions_of t;
}

module _ (t u : List ℕ) where
  -- every part is kept
  reads_grown : (grows : ℕ → Bool) → Kept grows none t u → grows transitions_cell ≡ false → graph_of u ≡ grown_graph grows t u
  reads_grown grows k still =
      same_graph (graph_of u) (grown_graph grows t u)
      (variables_read grows none t u k)
      (k.counts clocks_cell (omega arith))
      (locations_read grows none t u k)
      (places_read grows none t u k)
      (actions_read grows none t u k (λ a. refl))
      (k.transitions still)

  -- every part but action a
  reads_changed : (a : ℕ) (f : StoredAction → StoredAction) → Kept none (eqb a) t u → a < action_count t → action_at u a ≡ f (action_at t a)
      → graph_of u ≡ actions_now (graph_of t) (changed_at a f (actions_of t))
  reads_changed a f k known here =
      same_graph (graph_of u) (actions_now (graph_of t) (changed_at a f (actions_of t)))
      (variables_read none (eqb a) t u k)
      (k.counts clocks_cell (omega arith))
      (locations_read none (eqb a) t u k)
      (places_read none (eqb a) t u k)
      (actions_changed t u a f k known here)
      (k.transitions refl)

  -- every part but the transitions
  reads_moved : (transitions : List StoredTransition) → Kept (eqb transitions_cell) none t u → transitions_of u ≡ transitions
      → graph_of u ≡ transitions_now (graph_of t) transitions
  reads_moved transitions k here =
      same_graph (graph_of u) (transitions_now (graph_of t) transitions)
      (variables_read (eqb transitions_cell) none t u k)
      (k.counts clocks_cell (omega arith))
      (locations_read (eqb transitions_cell) none t u k)
      (places_read (eqb transitions_cell) none t u k)
      (actions_read (eqb transitions_cell) none t u k (λ a. refl))
      here

-- ---- an accepted answer says that the check passed, and what the table is
pub done_reads : (c : Answer ⊤) (t u : List ℕ) (g : Graph) → (c ≡ admitted → graph_of u ≡ g)
    → answer_number (done_if c t u).answer ≡ 0 → graph_of (done_if c t u).table ≡ g
done_reads (Ok _) t u g k e = k refl
done_reads (Err r) t u g k e = absurd (above_ok r e)

pub placed_reads : (c : Answer ⊤) (t : List ℕ) (n : ℕ) (u : List ℕ) (g : Graph) → (c ≡ admitted → graph_of u ≡ g)
    → answer_number (placed_if c t n u).answer ≡ 0 → graph_of (placed_if c t n u).table ≡ g
placed_reads (Ok _) t n u g k e = k refl
placed_reads (Err r) t n u g k e = absurd (above_ok r e)

-- ---- what each check lets in
-- a value comes back from its kind and its bits
stored : (v : Val) → FitVal v → val_of (kind_word (kind_of v)) (payload_of v) ≡ v
stored (Boolean false) f = val_back (Boolean false) f
stored (Boolean true) f = val_back (Boolean true) f
stored (Integer n) f = val_back (Integer n) f

-- an action more, as it reads
reads_action : (t u : List ℕ) (x : StoredAction) → Kept (eqb actions_cell) none t u → action_at u (action_count t) ≡ x
    → graph_of u ≡ actions_now (graph_of t) (actions_of t ++ (x ∷ []))
reads_action t u x k e =
    reads_grown t u (eqb actions_cell) k refl ∙ ap (λ (y : StoredAction). actions_now (graph_of t) (actions_of t ++ (y ∷ []))) e

module _ (t : List ℕ) where
  pub var_reads : (v : Val) → FitVal v → var_check t ≡ admitted
      → graph_of (with_var t (kind_word (kind_of v)) (payload_of v)) ≡ added (new_var v) (graph_of t)
  var_reads v fit e =
      let f = apart t _ (var_ready t e).0 in
      let room = (var_ready t e).1 in
      reads_grown t _ (eqb variables_cell) (var_keeps t _ _ f room) refl
      ∙ ap (λ (x : Val). variables_now (graph_of t) (variables_of t ++ (x ∷ []))) (var_read_lem t _ _ f room ∙ stored v fit)

  pub clock_reads : clock_check t ≡ admitted → graph_of (with_clock t) ≡ added new_clock (graph_of t)
  clock_reads e = reads_grown t _ (eqb clocks_cell) (clock_keeps t (apart t _ (clock_ready t e).0)) refl

  pub process_reads : (l : ℕ) → process_check t l ≡ admitted → graph_of (with_process t l) ≡ added (new_process l) (graph_of t)
  process_reads l e =
      let r = process_ready_lem t l e in
      let f = apart t _ r.formed in
      reads_grown t _ (eqb processes_cell) (process_keeps t l f r.room) refl
      ∙ ap (λ (x : ℕ). processes_now (graph_of t) (places_of t ++ (x ∷ []))) (process_read t l f r.room)

  pub action_reads : action_check t ≡ admitted → graph_of (with_action t plain_kind 0) ≡ added new_action (graph_of t)
  action_reads e =
      let f = apart t _ (action_ready t e).0 in
      let room = (action_ready t e).1 in
      reads_action t _ _ (action_keeps t f room) (action_read t f room)

  pub send_reads : (m : ℕ → List ℕ) (count : ℕ) → send_check t m count ≡ admitted
      → graph_of (with_send t m count) ≡ added (new_send m count) (graph_of t)
  send_reads m count e =
      let r = send_ready t m count e in
      let f = apart t _ r.formed in
      let short : Short m count = λ i l. (r.expression i l).0 in
      reads_action t _ _ (send_keeps t m count f r.room r.few short) (send_read t m count f r.room r.few short)

  pub receive_reads : (v : Vars) → receive_check t v ≡ admitted → graph_of (with_receive t v) ≡ added (new_receive v) (graph_of t)
  receive_reads v e =
      let r = receive_ready t v e in
      let f = apart t _ r.formed in
      reads_action t _ _ (receive_keeps t v f r.room r.few) (receive_read t v f r.room r.few)

  pub location_reads : (l : Limits) → location_check t l ≡ admitted → graph_of (with_location t l) ≡ added (new_timed_location l) (graph_of t)
  location_reads l e =
      let r = location_ready t l e in
      let f = apart t _ r.formed in
      let few = r.limits.0 in
      reads_grown t _ (eqb locations_cell) (location_keeps t l f r.room few) refl
      ∙ ap (λ (x : List StoredLimit). locations_now (graph_of t) (locations_of t ++ (x ∷ []))) (invariants_list t l f.words r.room few)

  pub initial_reads : (l : Limits) → initial_check t l ≡ admitted
      → graph_of (with_location (with_process t (location_count t)) l) ≡ added (new_initial_location l) (graph_of t)
  initial_reads l e =
      let r = initial_ready t l e in
      let f = apart t _ r.location.formed in
      let few = r.location.limits.0 in
      let u = with_location (with_process t (location_count t)) l in
      let place = initial_place t l f r.location.room r.room few ∙ sym (list_length (invariants_of t) (location_count t)) in
      reads_grown t u place_grows (initial_keeps t l f r.location.room r.room few) refl
      ∙ ap (λ (x : List StoredLimit). settled_at x (place_at u (process_count t))) (initial_invariants t l f r.location.room r.room few)
      ∙ ap (settled_at (in_order l)) place
    where
      -- a location with these invariants, and a process at this one
      settled_at : List StoredLimit → ℕ → Graph
      settled_at x p = processes_now (locations_now (graph_of t) (locations_of t ++ (x ∷ []))) (places_of t ++ (p ∷ []))

  pub reset_reads : (a clock : ℕ) → reset_check t a clock ≡ admitted → graph_of (with_reset t a clock) ≡ added (add_reset a clock) (graph_of t)
  reset_reads a clock e =
      let r = reset_ready t a clock e in
      let f = apart t _ r.formed in
      let known = r.action.0 in
      let kind = r.action.1 in
      reads_changed t _ a (with_clock_reset clock) (reset_keeps t a clock f known r.room) known
      (reset_read t a clock f known r.room kind ∙ ap (with_clock_reset clock) (sym (plain_at t a kind)))

  pub effect_reads : (a v : ℕ) (ws : List ℕ) → effect_check t a v ws ≡ admitted
      → graph_of (with_effect t a v ws) ≡ added (add_effect a v ws) (graph_of t)
  effect_reads a v ws e =
      let r = effect_ready t a v ws e in
      let f = apart t _ r.formed in
      reads_changed t _ a (with_assignment v ws) (effect_keeps t a v ws f r.known r.few r.short) r.known
      (effect_read t a v ws f r.known r.few r.short r.plain ∙ ap (with_assignment v ws) (sym (plain_at t a r.plain)))

  pub transition_reads : (pre a post : ℕ) (guarded : Bool) (ws : List ℕ) (l : Limits) → transition_check t pre a post guarded ws l ≡ admitted
      → graph_of (with_transition t (key_with pre a post) (guard_of guarded ws) l) ≡ added (add_transition pre a post guarded ws l) (graph_of t)
  transition_reads pre a post guarded ws l e =
      let r = transition_ready t pre a post guarded ws l e in
      let f = apart t _ r.formed in
      let short = (guard_fits t guarded ws r.guard).0 in
      let few = r.limits.0 in
      let small : a < word32 = known_small t a f.counts.actions r.by in
      let low : post < post_span = omega (arith, r.to, f.counts.locations) in
      reads_moved t _ _ (transition_keeps t (key_with pre a post) (guard_of guarded ws) l f r.room short few)
      (transitions_list t (key_with pre a post) (guard_of guarded ws) l f r.room short few
      ∙ rw (key_pre pre a post small low, key_action pre a post small low, key_post pre a post small low))
