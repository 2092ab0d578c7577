-- On a well-formed table no check refuses with 32.
use Rattle.std.specs.Prelude.{Ok, Err, ⊤}
use Prim.Native.Nat.{ℕ, zero, suc}
use mathlib.Core.Path.{◌≡◌}
use mathlib.Core.Logic.{◌≢◌}
use mathlib.Core.Bool.{Bool, true, false}
use mathlib.Core.List.{List}
use native.Mathlib.Omega.{arith}
use Rattle.laws.specs.Ladder.{unless}
use Rattle.laws.proofs.Ladder.{rung}
use Rattle.grammar.specs.declared.typing.Typed.{Typed}
use Rattle.graph_tables.specs.Answers.{Answer, admitted, answer_number}
use Rattle.graph_tables.specs.declared.handed.Limits.{Limits}
use Rattle.graph_tables.specs.declared.handed.Vars.{Vars}
use Rattle.graph_tables.specs.Words.{kinds_of}
use Rattle.graph_tables.specs.Formed.{well_formed}
use Rattle.graph_checks.specs.Checks.{refused_by, ◌then◌, each_below, on_table, var_check, clock_check, action_check, place_check, process_check}
use Rattle.graph_checks.specs.Checks.{limits_check, location_check, start_check, initial_check, plain_check, room_for_reset, reset_check}
use Rattle.graph_checks.specs.Checks.{room_for_effect, assigned_check, action_effect_check, known_effect_check, effect_check, typed_check}
use Rattle.graph_checks.specs.Checks.{expression_check, send_room, send_check, receive_check, ends_check, guard_check, if_guarded, guard_room}
use Rattle.graph_checks.specs.Checks.{conditions_check, transition_check}

-- it does not answer 32
abbrev pub Known : Answer ⊤ → Type 0
Known d = answer_number d ≢ 32

-- ---- checks in their order
pub else_known : (b : Bool) (refused rest : Answer ⊤) → Known refused → Known rest → Known (unless b refused rest)
else_known b refused rest h k = rung Known b refused rest h (λ e. k)

pub then_known : (c rest : Answer ⊤) → Known c → Known rest → Known (c then rest)
then_known (Ok _) rest h k = k
then_known (Err r) rest h k = h

each_known : (n : ℕ) (f : ℕ → Answer ⊤) → ((i : ℕ) → Known (f i)) → Known (each_below n f)
unfolding each_below
each_known zero f h = omega arith
each_known (suc n) f h = then_known (each_below n f) (f n) (each_known n f h) (h n)

guarded_known : (guarded : Bool) (check : Answer ⊤) → Known check → Known (if_guarded guarded check)
guarded_known true check h = h
guarded_known false check h = omega arith

ok : Known admitted
ok = omega arith

-- the last rungs, whose numbers are told
one_rung : (b : Bool) (refused : Answer ⊤) → Known refused → Known (unless b refused admitted)
one_rung b refused h = else_known b refused admitted h ok

limits_known_lem : (t : List ℕ) (l : Limits) → Known (limits_check t l)
unfolding limits_check
limits_known_lem t l = else_known _ (refused_by 28) _ (omega arith) (one_rung _ (refused_by 2) (omega arith))

plain_known : (t : List ℕ) (a : ℕ) → Known (plain_check t a)
unfolding plain_check
plain_known t a =
    else_known _ (refused_by 1) _ (omega arith) (else_known _ (refused_by 11) _ (omega arith) (one_rung _ (refused_by 12) (omega arith)))

assigned_known : (t : List ℕ) (v : ℕ) (typed : Typed) → Known (assigned_check t v typed)
unfolding assigned_check
assigned_known t v typed =
    else_known _ (refused_by 28) _ (omega arith)
    (else_known _ (refused_by 6) _ (omega arith)
    (else_known _ (refused_by 4) _ (omega arith) (one_rung _ (refused_by 5) (omega arith))))

effect_room_known : (t : List ℕ) (a : ℕ) (typed : Typed) (draws : ℕ) → Known (room_for_effect t a typed draws)
unfolding room_for_effect
effect_room_known t a typed draws =
    else_known _ (refused_by 28) _ (omega arith) (else_known _ (refused_by 28) _ (omega arith) (one_rung _ (refused_by 28) (omega arith)))

expression_known : (kinds : List ℕ) (m : ℕ → List ℕ) (i : ℕ) → Known (expression_check kinds m i)
unfolding expression_check typed_check
expression_known kinds m i = else_known _ (refused_by 28) _ (omega arith) (one_rung _ (refused_by 6) (omega arith))

send_room_known : (t : List ℕ) (m : ℕ → List ℕ) (count : ℕ) → Known (send_room t m count)
unfolding send_room
send_room_known t m count =
    else_known _ (refused_by 28) _ (omega arith) (else_known _ (refused_by 28) _ (omega arith) (one_rung _ (refused_by 28) (omega arith)))

ends_known : (t : List ℕ) (pre a post : ℕ) → Known (ends_check t pre a post)
unfolding ends_check
ends_known t pre a post =
    else_known _ (refused_by 3) _ (omega arith) (else_known _ (refused_by 3) _ (omega arith) (one_rung _ (refused_by 1) (omega arith)))

guard_known : (t ws : List ℕ) → Known (guard_check t ws)
unfolding guard_check
guard_known t ws =
    else_known _ (refused_by 28) _ (omega arith)
    (else_known _ (refused_by 6) _ (omega arith)
    (else_known _ (refused_by 6) _ (omega arith) (one_rung _ (refused_by 28) (omega arith))))

-- ---- the checks of the calls
module _ (t : List ℕ) (formed : well_formed t true ≡ true) where
  table_known : (rest : Answer ⊤) → Known rest → Known (on_table t rest)
  unfolding unless
  table_known rest k = rw formed k

  pub var_known_lem : Known (var_check t)
  unfolding var_check
  var_known_lem = table_known _ (one_rung _ (refused_by 28) (omega arith))

  pub clock_known_lem : Known (clock_check t)
  unfolding clock_check
  clock_known_lem = table_known _ (one_rung _ (refused_by 28) (omega arith))

  pub action_known_lem : Known (action_check t)
  unfolding action_check
  action_known_lem = table_known _ (one_rung _ (refused_by 28) (omega arith))

  pub process_known : (l : ℕ) → Known (process_check t l)
  unfolding process_check place_check
  process_known l =
      table_known _
      (else_known _ (refused_by 3) _ (omega arith) (else_known _ (refused_by 9) _ (omega arith) (one_rung _ (refused_by 28) (omega arith))))

  pub location_known : (l : Limits) → Known (location_check t l)
  unfolding location_check
  location_known l = table_known _ (then_known _ _ (limits_known_lem t l) (one_rung _ (refused_by 28) (omega arith)))

  pub initial_known : (l : Limits) → Known (initial_check t l)
  unfolding initial_check start_check
  initial_known l =
      table_known _
      (then_known _ _ (limits_known_lem t l)
      (else_known _ (refused_by 9) _ (omega arith) (else_known _ (refused_by 28) _ (omega arith) (one_rung _ (refused_by 28) (omega arith)))))

  pub reset_known : (a clock : ℕ) → Known (reset_check t a clock)
  unfolding reset_check room_for_reset
  reset_known a clock =
      table_known _
      (else_known _ (refused_by 10) _ (omega arith)
      (else_known _ (refused_by 2) _ (omega arith) (then_known _ _ (plain_known t a) (one_rung _ (refused_by 28) (omega arith)))))

  pub effect_known : (a v : ℕ) (ws : List ℕ) → Known (effect_check t a v ws)
  unfolding effect_check known_effect_check action_effect_check
  effect_known a v ws =
      table_known _
      (else_known _ (refused_by 10) _ (omega arith)
      (then_known _ _ (assigned_known t v _) (then_known _ _ (plain_known t a) (effect_room_known t a _ _))))

  pub send_known : (m : ℕ → List ℕ) (count : ℕ) → Known (send_check t m count)
  unfolding send_check
  send_known m count =
      table_known _
      (else_known _ (refused_by 28) _ (omega arith)
      (then_known _ _ (each_known count _ (expression_known (kinds_of t) m)) (send_room_known t m count)))

  pub receive_known : (v : Vars) → Known (receive_check t v)
  unfolding receive_check
  receive_known v =
      table_known _
      (else_known _ (refused_by 28) _ (omega arith) (else_known _ (refused_by 4) _ (omega arith) (one_rung _ (refused_by 28) (omega arith))))

  pub transition_known : (pre a post : ℕ) (guarded : Bool) (ws : List ℕ) (l : Limits) → Known (transition_check t pre a post guarded ws l)
  unfolding transition_check conditions_check guard_room
  transition_known pre a post guarded ws l =
      table_known _
      (then_known _ _ (ends_known t pre a post)
      (then_known _ _ (limits_known_lem t l)
      (then_known _ _ (guarded_known guarded _ (guard_known t ws)) (one_rung _ (refused_by 28) (omega arith)))))
