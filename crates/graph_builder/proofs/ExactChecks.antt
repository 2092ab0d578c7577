-- Each check accepts what its facts allow: the other way round from ReadyParts and ReadyActions of `graph_checks`.
use Rattle.std.specs.Prelude.{⊤}
use Prim.Native.Nat.{ℕ, zero, suc, ◌+◌, ◌<◌, ◌≤◌}
use mathlib.Core.Path.{◌≡◌, refl, sym}
use mathlib.Core.Bool.{Bool, true, false}
use mathlib.Core.List.{List}
use native.Mathlib.Omega.{arith}
use borrow.Author.Tests.{lt-ltb, le-leb, eq-eqb}
use Rattle.laws.specs.Below.{sum_below}
use Rattle.laws.specs.Ladder.{unless}
use Rattle.laws.proofs.Ladder.{passed}
use Rattle.laws.proofs.BelowLaws.{all_from}
use Rattle.grammar.specs.Draws.{draws_of}
use Rattle.grammar.specs.Values.{kind_word}
use Rattle.grammar.specs.Typing.{type_of}
use Rattle.grammar.specs.declared.values.Val.{Val}
use Rattle.grammar.specs.declared.values.«Type».{«Type» as Kind}
use Rattle.grammar.specs.declared.typing.Typed.TheVariants.{Known}
use Rattle.graph_tables.specs.Sizes.{process_room, location_room, action_room, transition_room, variable_room, clock_room, limit_room, effect_room}
use Rattle.graph_tables.specs.Sizes.{reset_room, draw_room, message_room, plain_kind, send_kind, receive_kind}
use Rattle.graph_tables.specs.Answers.{Answer, admitted, answer_number}
use Rattle.graph_tables.specs.Handed.{handed_var}
use Rattle.graph_tables.specs.declared.handed.Limits.{Limits}
use Rattle.graph_tables.specs.declared.handed.Vars.{Vars}
use Rattle.graph_tables.specs.Words.{variable_count, clock_count, location_count, action_count, process_count, transition_count, kind_at, kinds_of}
use Rattle.graph_tables.specs.Words.{action_kind, reset_count, effect_count, epsilon}
use Rattle.graph_tables.specs.Formed.{well_formed, effect_draws, action_known}
use Rattle.graph_edits.specs.Edits.{ClocksKnown}
use Rattle.graph_checks.specs.Checks.{◌then◌, each_below, room_for, var_check, clock_check, action_check, zero_at, place_check, process_check}
use Rattle.graph_checks.specs.Checks.{clock_known, clocks_known, limits_check, location_check, plain_check, room_for_reset, reset_check}
use Rattle.graph_checks.specs.Checks.{room_for_effect, assigned_check, action_effect_check, known_effect_check, effect_check, typed_check}
use Rattle.graph_checks.specs.Checks.{expression_check, shallow, message_draws, send_room, send_check, var_known, receive_check, ends_check}
use Rattle.graph_checks.specs.Checks.{guard_check, if_guarded, guard_room, conditions_check, transition_check}
use Rattle.graph_checks.proofs.CheckLaws.{then_on, other}
use Rattle.graph_builder.specs.Building.{done_if, placed_if, new_var_of, new_clock_of, new_action_of, new_process_of, add_reset_of, add_effect_of}
use Rattle.graph_builder.specs.Building.{new_send_of, new_receive_of, new_timed_location_of, add_transition_of}
use Rattle.graph_builder.specs.Chains.{new_var, new_clock, new_action, new_process, add_reset, add_effect, new_send, new_receive}
use Rattle.graph_builder.specs.Chains.{new_timed_location, add_transition, answer_of}

-- ---- checks in their order
on : {b : Bool} (refused : Answer ⊤) {rest : Answer ⊤} → b ≡ true → rest ≡ admitted → unless b refused rest ≡ admitted
on refused e k = sym (passed refused e (sym k))

next : {c rest : Answer ⊤} → c ≡ admitted → rest ≡ admitted → (c then rest) ≡ admitted
next e k = sym (then_on e (sym k))

each : (n : ℕ) (f : ℕ → Answer ⊤) → ((i : ℕ) → i < n → f i ≡ admitted) → each_below n f ≡ admitted
unfolding each_below
each zero f h = refl
each (suc n) f h = next (each n f (λ i l. h i (omega arith))) (h n (omega arith))

room : {n size : ℕ} → n < size → room_for n size admitted ≡ admitted
room {n} {size} l = on _ (lt-ltb n size l) refl

-- an answer to a check that is passed is ok
done_ok : (c : Answer ⊤) (t u : List ℕ) → c ≡ admitted → answer_number (done_if c t u).answer ≡ 0
done_ok c t u e = rw e

placed_ok : (c : Answer ⊤) (t : List ℕ) (n : ℕ) (u : List ℕ) → c ≡ admitted → answer_number (placed_if c t n u).answer ≡ 0
placed_ok c t n u e = rw e

-- ---- the calls
module _ (t : List ℕ) (formed : well_formed t true ≡ true) where
  pub var_ok : (v : Val) → variable_count t < variable_room → answer_of t (new_var v) ≡ 0
  unfolding new_var_of var_check
  var_ok v few = placed_ok (var_check t) t _ _ (on _ formed (room few))

  pub clock_ok : clock_count t < clock_room → answer_of t new_clock ≡ 0
  unfolding new_clock_of clock_check
  clock_ok few = placed_ok (clock_check t) t _ _ (on _ formed (room few))

  pub action_ok : action_count t < action_room → answer_of t new_action ≡ 0
  unfolding new_action_of action_check
  action_ok few = placed_ok (action_check t) t _ _ (on _ formed (room few))

  pub process_ok : (l : ℕ) → l < location_count t → zero_at t l ≡ true → process_count t < process_room → answer_of t (new_process l) ≡ 0
  unfolding new_process_of process_check place_check
  process_ok l known inside few = done_ok (process_check t l) t _ (on _ formed (on _ (lt-ltb _ _ known) (on _ inside (room few))))

  limits_ok : (l : Limits) → l.count ≤ limit_room → ClocksKnown t l → limits_check t l ≡ admitted
  unfolding limits_check clocks_known clock_known
  limits_ok l few known = on _ (le-leb _ _ few) (on _ (all_from (clock_known t l) l.count (λ i m. lt-ltb _ _ (known i m))) refl)

  pub location_ok : (l : Limits) → l.count ≤ limit_room → ClocksKnown t l → location_count t < location_room
      → answer_of t (new_timed_location l) ≡ 0
  unfolding new_timed_location_of location_check
  location_ok l few known free = placed_ok (location_check t l) t _ _ (on _ formed (next (limits_ok l few known) (room free)))

  plain_ok : (a : ℕ) → a < action_count t → action_kind t a ≡ plain_kind → plain_check t a ≡ admitted
  unfolding plain_check
  plain_ok a known kind =
      on _ (lt-ltb _ _ known)
      (on _ (other {a = action_kind t a} {b = send_kind} (omega arith))
      (on _ (other {a = action_kind t a} {b = receive_kind} (omega arith)) refl))

  pub reset_ok : (a clock : ℕ) → a < action_room → clock < clock_count t → a < action_count t → action_kind t a ≡ plain_kind
      → reset_count t a < reset_room → answer_of t (add_reset a clock) ≡ 0
  unfolding add_reset_of reset_check room_for_reset
  reset_ok a clock low there known kind few =
      done_ok (reset_check t a clock) t _
      (on _ formed (on _ (other {a = a} {b = epsilon} (omega arith)) (on _ (lt-ltb _ _ there) (next (plain_ok a known kind) (room few)))))

  pub effect_ok : (a v : ℕ) (ws : List ℕ) (k : Kind) → a < action_room → a < action_count t → action_kind t a ≡ plain_kind
      → effect_count t a < effect_room → v < variable_count t → type_of (kinds_of t) ws ≡ Known k → kind_word k ≡ kind_at t v
      → sum_below (effect_count t a) (effect_draws t a) + draws_of ws ≤ draw_room → answer_of t (add_effect a v ws) ≡ 0
  unfolding add_effect_of effect_check known_effect_check assigned_check action_effect_check room_for_effect
  effect_ok a v ws k low known kind few there typed same draws =
      done_ok (effect_check t a v ws) t _
      (on _ formed (on _ (other {a = a} {b = epsilon} (omega arith))
      (rw typed
      (next (on _ refl (on _ refl (on _ (lt-ltb _ _ there) (on _ (eq-eqb _ _ same) refl))))
      (next (plain_ok a known kind) (on _ refl (on _ (lt-ltb _ _ few) (on _ (le-leb _ _ draws) refl))))))))

  pub send_ok : (m : ℕ → List ℕ) (count : ℕ) (kind : (i : ℕ) → i < count → Kind) → count ≤ message_room
      → ((i : ℕ) (l : i < count) → type_of (kinds_of t) (m i) ≡ Known (kind i l))
      → sum_below count (message_draws m) ≤ draw_room → action_count t < action_room → answer_of t (new_send m count) ≡ 0
  unfolding new_send_of send_check expression_check typed_check send_room shallow
  send_ok m count kind few typed draws free =
      placed_ok (send_check t m count) t _ _
      (on _ formed (on _ (le-leb _ _ few)
      (next (each count (expression_check (kinds_of t) m) (λ i l. rw (typed i l) (on _ refl (on _ refl refl))))
      (on _ (all_from (shallow (kinds_of t) m) count (λ i l. rw (typed i l))) (on _ (le-leb _ _ draws) (room free))))))

  pub receive_ok : (v : Vars) → v.count ≤ message_room → ((i : ℕ) → i < v.count → handed_var v i < variable_count t)
      → action_count t < action_room → answer_of t (new_receive v) ≡ 0
  unfolding new_receive_of receive_check var_known
  receive_ok v few known free =
      placed_ok (receive_check t v) t _ _
      (on _ formed (on _ (le-leb _ _ few) (on _ (all_from (var_known t v) v.count (λ i l. lt-ltb _ _ (known i l))) (room free))))

  guard_ok : (ws : List ℕ) → type_of (kinds_of t) ws ≡ Known Kind.Boolean → draws_of ws ≡ 0 → guard_check t ws ≡ admitted
  unfolding guard_check
  guard_ok ws typed draws = rw typed (on _ refl (on _ refl (on _ (eq-eqb _ _ draws) (on _ refl refl))))

  guarded_ok : (guarded : Bool) (check : Answer ⊤) → (guarded ≡ true → check ≡ admitted) → if_guarded guarded check ≡ admitted
  guarded_ok true check h = h refl
  guarded_ok false check h = refl

  pub transition_ok : (pre a post : ℕ) (guarded : Bool) (ws : List ℕ) (l : Limits) → pre < location_count t → post < location_count t
      → action_known t a ≡ true → l.count ≤ limit_room → ClocksKnown t l
      → (guarded ≡ true → (type_of (kinds_of t) ws ≡ Known Kind.Boolean) × (draws_of ws ≡ 0))
      → transition_count t < transition_room → answer_of t (add_transition pre a post guarded ws l) ≡ 0
  unfolding add_transition_of transition_check ends_check conditions_check guard_room
  transition_ok pre a post guarded ws l from to by few known guard free =
      done_ok (transition_check t pre a post guarded ws l) t _
      (on _ formed
      (next (on _ (lt-ltb _ _ from) (on _ (lt-ltb _ _ to) (on _ by refl)))
      (next (limits_ok l few known)
      (next (guarded_ok guarded (guard_check t ws) (λ e. guard_ok ws (guard e).0 (guard e).1)) (room free)))))
