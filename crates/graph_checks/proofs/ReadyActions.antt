-- What accepted checks of actions say: of resets, effects and messages.
use Rattle.graph_tables.specs.Answers.{admitted}
use Prim.Native.Nat.{ℕ, ◌+◌, ◌<◌, ◌≤◌}
use mathlib.Core.Path.{◌≡◌}
use mathlib.Core.Bool.{true}
use mathlib.Core.List.{List}
use native.Mathlib.Omega.{arith}
use lib.ListN.{length}
use borrow.Author.Tests.{ltb-true, leb-true, eqb-false, not-true}
use Rattle.laws.specs.Below.{sum_below}
use Rattle.laws.proofs.BelowLaws.{all_at}
use Rattle.grammar.specs.Draws.{draws_of}
use Rattle.grammar.specs.Typing.{type_of, is_typed, typed_as}
use Rattle.graph_tables.specs.Sizes.{action_room, effect_room, reset_room, draw_room, message_room, item_room, plain_kind, send_kind, receive_kind}
use Rattle.graph_tables.specs.declared.handed.Vars.{Vars}
use Rattle.graph_tables.specs.Handed.{handed_var}
use Rattle.graph_tables.specs.Words.{variable_count, action_count, kind_at, kinds_of, clock_count, action_kind, reset_count, effect_count}
use Rattle.graph_tables.specs.Formed.{well_formed, effect_draws}
use Rattle.graph_tables.specs.Sound.{Sound}
use Rattle.graph_tables.proofs.SoundLaws.{sound}
use Rattle.graph_checks.specs.Checks.{each_below, plain_check, room_for_reset, reset_check, room_for_effect, assigned_check}
use Rattle.graph_checks.specs.Checks.{action_effect_check, known_effect_check, effect_check, typed_check, expression_check, shallow}
use Rattle.graph_checks.specs.Checks.{message_draws, send_room, send_check, var_known, receive_check}
use Rattle.graph_checks.proofs.CheckLaws.{unless_on, then_both, each_at}
use Rattle.graph_checks.proofs.TypedLaws.{short, as_typed, is_typed_lem}

-- ---- actions that take resets and effects
pub plain_ready : (t : List ℕ) (a : ℕ) → Sound t → plain_check t a ≡ admitted → (a < action_count t) × (action_kind t a ≡ plain_kind)
unfolding plain_check
plain_ready t a s e =
    let known = unless_on _ _ _ e in
    let send = unless_on _ _ _ known.1 in
    let receive = unless_on _ _ _ send.1 in
    let l : a < action_count t = ltb-true _ _ known.0 in
    let one : action_kind t a ≡ send_kind → ⊥ = eqb-false _ _ (not-true _ send.0) in
    let two : action_kind t a ≡ receive_kind → ⊥ = eqb-false _ _ (not-true _ receive.0) in
    (l, omega (arith, (s.action a l).kind))

-- ---- resets
pub record ResetReady (t : List ℕ) (a clock : ℕ) : Type 0 where
  pub formed : well_formed t true ≡ true
  pub action : (a < action_count t) × (action_kind t a ≡ plain_kind)
  pub room : reset_count t a < reset_room
  pub clock_known_lem : clock < clock_count t

pub reset_ready : (t : List ℕ) (a clock : ℕ) → reset_check t a clock ≡ admitted → ResetReady t a clock
unfolding reset_check room_for_reset
reset_ready t a clock h =
    let x = unless_on _ _ _ h in
    let y = unless_on _ _ _ x.1 in
    let z = unless_on _ _ _ y.1 in
    let p = then_both _ _ z.1 in
    record {
      formed = x.0;
      action = plain_ready t a (sound t true x.0) p.0;
      room = ltb-true _ _ (unless_on _ _ _ p.1).0;
      clock_known_lem = ltb-true _ _ z.0;
    }

-- ---- effects
pub assigned_short : (t : List ℕ) (v : ℕ) (kinds ws : List ℕ) → assigned_check t v (type_of kinds ws) ≡ admitted → length ws ≤ item_room
unfolding assigned_check
assigned_short t v kinds ws e = short kinds ws (unless_on _ _ _ e).0

pub record EffectReady (t : List ℕ) (a v : ℕ) (ws : List ℕ) : Type 0 where
  pub formed : well_formed t true ≡ true
  pub known : a < action_count t
  pub plain : action_kind t a ≡ plain_kind
  pub few : effect_count t a < effect_room
  pub var : v < variable_count t
  pub short : length ws ≤ item_room
  pub typed : typed_as (kind_at t v) (type_of (kinds_of t) ws) ≡ true
  pub draws : sum_below (effect_count t a) (effect_draws t a) + draws_of ws ≤ draw_room

pub effect_ready : (t : List ℕ) (a v : ℕ) (ws : List ℕ) → effect_check t a v ws ≡ admitted → EffectReady t a v ws
unfolding effect_check known_effect_check action_effect_check assigned_check room_for_effect
effect_ready t a v ws e =
    let formed = unless_on _ _ _ e in
    let checks = then_both _ _ (unless_on _ _ _ formed.1).1 in
    let long = unless_on _ _ _ checks.0 in
    let var = unless_on _ _ _ (unless_on _ _ _ long.1).1 in
    let kind = unless_on _ _ _ var.1 in
    let action = then_both _ _ checks.1 in
    let plain = plain_ready t a (sound t true formed.0) action.0 in
    let deep = unless_on _ _ _ action.1 in
    let room = unless_on _ _ _ deep.1 in
    record {
      formed = formed.0;
      known = plain.0;
      plain = plain.1;
      few = ltb-true _ _ room.0;
      var = ltb-true _ _ var.0;
      short = short (kinds_of t) ws long.0;
      typed = as_typed (kind_at t v) (type_of (kinds_of t) ws) kind.0 deep.0;
      draws = leb-true _ _ (unless_on _ _ _ room.1).0;
    }

-- ---- sends
pub message_short : (kinds : List ℕ) (m : ℕ → List ℕ) (n : ℕ) → each_below n (expression_check kinds m) ≡ admitted → (i : ℕ) → i < n
    → length (m i) ≤ item_room
unfolding expression_check typed_check
message_short kinds m n h i l = short kinds (m i) (unless_on _ _ _ (each_at (expression_check kinds m) n i h l)).0

pub record SendReady (t : List ℕ) (m : ℕ → List ℕ) (count : ℕ) : Type 0 where
  pub formed : well_formed t true ≡ true
  pub room : action_count t < action_room
  pub few : count ≤ message_room
  pub expression : (i : ℕ) → i < count → (length (m i) ≤ item_room) × (is_typed (type_of (kinds_of t) (m i)) ≡ true)
  pub draws : sum_below count (λ (i : ℕ). draws_of (m i)) ≤ draw_room

pub send_ready : (t : List ℕ) (m : ℕ → List ℕ) (count : ℕ) → send_check t m count ≡ admitted → SendReady t m count
unfolding send_check expression_check typed_check send_room shallow message_draws
send_ready t m count e =
    let formed = unless_on _ _ _ e in
    let few = unless_on _ _ _ formed.1 in
    let checks = then_both _ _ few.1 in
    let deep = unless_on _ _ _ checks.1 in
    let draws = unless_on _ _ _ deep.1 in
    record {
      formed = formed.0;
      room = ltb-true _ _ (unless_on _ _ _ draws.1).0;
      few = leb-true _ _ few.0;
      expression = λ i l. (
        message_short (kinds_of t) m count checks.0 i l,
        is_typed_lem (type_of (kinds_of t) (m i))
            (unless_on _ _ _ (unless_on _ _ _ (each_at (expression_check (kinds_of t) m) count i checks.0 l)).1).0
            (all_at (shallow (kinds_of t) m) count i deep.0 l),
      );
      draws = leb-true _ _ draws.0;
    }

-- ---- receives
pub record ReceiveReady (t : List ℕ) (v : Vars) : Type 0 where
  pub formed : well_formed t true ≡ true
  pub room : action_count t < action_room
  pub few : v.count ≤ message_room
  pub var : (i : ℕ) → i < v.count → handed_var v i < variable_count t

pub receive_ready : (t : List ℕ) (v : Vars) → receive_check t v ≡ admitted → ReceiveReady t v
unfolding receive_check var_known
receive_ready t v e =
    let formed = unless_on _ _ _ e in
    let few = unless_on _ _ _ formed.1 in
    let known = unless_on _ _ _ few.1 in
    record {
      formed = formed.0;
      room = ltb-true _ _ (unless_on _ _ _ known.1).0;
      few = leb-true _ _ few.0;
      var = λ i l. ltb-true _ _ (all_at (var_known t v) v.count i known.0 l);
    }
