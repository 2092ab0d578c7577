-- Each building call leaves a well-formed table well formed: the parts of the theorem.
use Rattle.graph_tables.specs.Answers.{Answer, admitted}
use Rattle.std.specs.Prelude.{⊤}
use Prim.Native.Nat.{ℕ, ◌<◌, ◌≤◌}
use mathlib.Core.Path.{◌≡◌, refl}
use mathlib.Core.Bool.{Bool, true, false, cond, ◌||◌}
use mathlib.Core.List.{List}
use native.Mathlib.Omega.{arith}
use borrow.Author.Tests.{eqb-true, ltb-true, lt-ltb}
use lib.Dec.{eqb, ltb}
use lib.ListN.{length}
use Rattle.laws.specs.Below.{◌and◌}
use Rattle.laws.proofs.BelowLaws.{and_both}
use Rattle.grammar.specs.Values.{kind_of, kind_word}
use Rattle.grammar.specs.Slots.{FitVal}
use Rattle.grammar.proofs.BitLaws.{bits_small}
use Rattle.grammar.specs.declared.values.Val.{Val}
use Rattle.grammar.specs.declared.values.Val.TheVariants.{Boolean, Integer}
use Rattle.graph_tables.specs.Layout.{post_span}
use Rattle.graph_tables.specs.Sizes.{action_room, item_room, word32}
use Rattle.graph_tables.specs.declared.handed.Limits.{Limits}
use Rattle.graph_tables.specs.declared.handed.Vars.{Vars}
use Rattle.graph_tables.specs.Words.{location_count, action_count, epsilon, key_with}
use Rattle.graph_tables.specs.Formed.{well_formed, action_known, key_formed}
use Rattle.graph_tables.proofs.KeptLaws.{Formed, apart, together}
use Rattle.graph_edits.specs.Edits.{LimitsFit}
use Rattle.graph_edits.proofs.KeyLaws.{key_pre, key_action, key_post}
use Rattle.graph_edits.proofs.PartsFormed.{var_formed, clock_formed, process_formed_lem}
use Rattle.graph_edits.proofs.ResetFormed.{reset_formed_lem}
use Rattle.graph_edits.proofs.LocationFormed.{location_formed_lem, initial_formed}
use Rattle.graph_edits.proofs.EffectFormed.{effect_formed_lem}
use Rattle.graph_edits.proofs.ActionFormed.{action_formed_lem, send_formed_lem, receive_formed_lem}
use Rattle.graph_edits.proofs.TransitionFormed.{GuardFits, transition_formed_lem}
use Rattle.graph_checks.specs.Checks.{var_check, clock_check, action_check, process_check, reset_check, effect_check, send_check, receive_check}
use Rattle.graph_checks.specs.Checks.{location_check, initial_check, transition_check}
use Rattle.graph_builder.specs.Building.{Outcome, done_if, placed_if, payload_of, new_var_of, new_clock_of, new_action_of, new_process_of}
use Rattle.graph_builder.specs.Building.{add_reset_of, add_effect_of, new_send_of, new_receive_of, new_timed_location_of, new_initial_of, guard_of}
use Rattle.graph_builder.specs.Building.{add_transition_of}
use Rattle.graph_builder.proofs.BuildingLaws.{done_if_lem, placed_if_lem}
use Rattle.graph_checks.proofs.ReadyActions.{reset_ready, effect_ready, send_ready, receive_ready}
use Rattle.graph_checks.proofs.ReadyParts.{var_ready, clock_ready, action_ready, process_ready_lem, location_ready, initial_ready, GuardReady}
use Rattle.graph_checks.proofs.ReadyParts.{transition_ready}

abbrev WellFormed : List ℕ → Type 0
WellFormed t = well_formed t true ≡ true

-- ---- a refusal leaves the table; what is accepted is well formed
done_stays : (c : Answer ⊤) (t u : List ℕ) → WellFormed t → (c ≡ admitted → Formed u) → WellFormed (done_if c t u).table
done_stays c t u h k = done_if_lem (λ (o : Outcome (Answer ⊤)). WellFormed o.table) c t u (λ r. h) (λ e. together u (k e))

placed_stays : (c : Answer ⊤) (t : List ℕ) (n : ℕ) (u : List ℕ) → WellFormed t → (c ≡ admitted → Formed u)
    → WellFormed (placed_if c t n u).table
placed_stays c t n u h k = placed_if_lem (λ (o : Outcome (Answer ℕ)). WellFormed o.table) c t n u (λ r. h) (λ e. together u (k e))

-- a value's kind and bits
val_formed : (v : Val) → payload_of v < word32
    → cond (eqb (kind_word (kind_of v)) 0) (ltb (payload_of v) 2) (eqb (kind_word (kind_of v)) 1 and ltb (payload_of v) word32) ≡ true
val_formed (Boolean false) h = refl
val_formed (Boolean true) h = refl
val_formed (Integer n) h = and_both refl (lt-ltb _ _ h)

payload_small : (v : Val) → FitVal v → payload_of v < word32
unfolding FitVal
payload_small (Boolean false) f = omega arith
payload_small (Boolean true) f = omega arith
payload_small (Integer n) f = bits_small n f

module _ (t : List ℕ) (h : WellFormed t) where
  pub var_stays : (v : Val) → FitVal v → WellFormed (new_var_of t v).table
  unfolding new_var_of
  var_stays v fit =
      placed_stays (var_check t) t _ _ h (λ e. var_formed t _ _ (apart t true h) (var_ready t e).1 (val_formed v (payload_small v fit)))

  pub clock_stays : WellFormed (new_clock_of t).table
  unfolding new_clock_of
  clock_stays = placed_stays (clock_check t) t _ _ h (λ e. clock_formed t (apart t true h) (clock_ready t e).1)

  pub action_stays : WellFormed (new_action_of t).table
  unfolding new_action_of
  action_stays = placed_stays (action_check t) t _ _ h (λ e. action_formed_lem t (apart t true h) (action_ready t e).1)

  pub process_stays : (l : ℕ) → WellFormed (new_process_of t l).table
  unfolding new_process_of
  process_stays l =
      done_stays (process_check t l) t _ h (λ e.
      let r = process_ready_lem t l e in
      process_formed_lem t l (apart t true h) r.room r.place r.inside)

  pub reset_stays : (a clock : ℕ) → WellFormed (add_reset_of t a clock).table
  unfolding add_reset_of
  reset_stays a clock =
      done_stays (reset_check t a clock) t _ h (λ e.
      let r = reset_ready t a clock e in
      reset_formed_lem t a clock (apart t true h) r.action.0 r.action.1 r.room r.clock_known_lem)

  pub effect_stays : (a v : ℕ) (ws : List ℕ) → WellFormed (add_effect_of t a v ws).table
  unfolding add_effect_of
  effect_stays a v ws =
      done_stays (effect_check t a v ws) t _ h (λ e.
      let r = effect_ready t a v ws e in
      effect_formed_lem t a v ws (apart t true h) r.known r.plain r.few r.var r.short r.typed r.draws)

  pub send_stays : (m : ℕ → List ℕ) (count : ℕ) → WellFormed (new_send_of t m count).table
  unfolding new_send_of
  send_stays m count =
      placed_stays (send_check t m count) t _ _ h (λ e.
      let r = send_ready t m count e in
      send_formed_lem t m count (apart t true h) r.room r.few r.expression r.draws)

  pub receive_stays : (v : Vars) → WellFormed (new_receive_of t v).table
  unfolding new_receive_of
  receive_stays v =
      placed_stays (receive_check t v) t _ _ h (λ e.
      let r = receive_ready t v e in
      receive_formed_lem t v (apart t true h) r.room r.few r.var)

  pub timed_location_stays : (l : Limits) → LimitsFit l → WellFormed (new_timed_location_of t l).table
  unfolding new_timed_location_of
  timed_location_stays l fit =
      placed_stays (location_check t l) t _ _ h (λ e.
      let r = location_ready t l e in
      location_formed_lem t l (apart t true h) r.room r.limits.0 r.limits.1 fit)

  pub initial_stays : (l : Limits) → LimitsFit l → WellFormed (new_initial_of t l).table
  unfolding new_initial_of
  initial_stays l fit =
      placed_stays (initial_check t l) t _ _ h (λ e.
      let r = initial_ready t l e in
      initial_formed t l (apart t true h) r.location.room r.location.limits.0 r.location.limits.1 fit r.room r.inside)

-- ---- transitions: a key has its parts
pub known_small : (t : List ℕ) (a : ℕ) → action_count t ≤ action_room → action_known t a ≡ true → a < word32
unfolding action_known
known_small t a few h = by (eqb a epsilon) refl h
  where
    by : (x : Bool) → eqb a epsilon ≡ x → (x || ltb a (action_count t)) ≡ true → a < word32
    by true e k = omega (arith, eqb-true a epsilon e)
    by false e k = omega (arith, ltb-true a (action_count t) k)

key_formed_lem : (t : List ℕ) (pre a post : ℕ) → Formed t → pre < location_count t → post < location_count t → action_known t a ≡ true
    → key_formed t (key_with pre a post) ≡ true
unfolding key_formed
key_formed_lem t pre a post f from to by =
    let small : a < word32 = known_small t a f.counts.actions by in
    let m = f.counts.locations in
    let r : post < post_span = omega arith in
    and_both (rw (key_pre pre a post small r) (lt-ltb _ _ from))
    (and_both (rw (key_post pre a post small r) (lt-ltb _ _ to)) (rw (key_action pre a post small r) by))

pub guard_fits : (t : List ℕ) (guarded : Bool) (ws : List ℕ) → (guarded ≡ true → GuardReady t ws)
    → (length (guard_of guarded ws) ≤ item_room) × GuardFits t (guard_of guarded ws)
guard_fits t true ws g = let r = g refl in (r.short, λ some. (r.typed, r.no_draws))
guard_fits t false ws g = (omega arith, λ some. absurd (omega arith))

pub transition_stays : (t : List ℕ) → WellFormed t → (pre a post : ℕ) (guarded : Bool) (ws : List ℕ) (l : Limits) → LimitsFit l
    → WellFormed (add_transition_of t pre a post guarded ws l).table
unfolding add_transition_of
transition_stays t h pre a post guarded ws l fit =
    done_stays (transition_check t pre a post guarded ws l) t _ h (λ e.
    let r = transition_ready t pre a post guarded ws l e in
    let f = apart t true h in
    let g = guard_fits t guarded ws r.guard in
    transition_formed_lem t (key_with pre a post) (guard_of guarded ws) l f r.room (key_formed_lem t pre a post f r.from r.to r.by) g.0
    g.1 r.limits.0 r.limits.1 fit)
