-- What accepted checks of parts, limits, locations and transitions say.
use Rattle.graph_tables.specs.Answers.{Answer, admitted}
use Rattle.std.specs.Prelude.{⊤}
use Prim.Native.Nat.{ℕ, ◌≤◌, ◌<◌}
use mathlib.Core.Path.{◌≡◌}
use mathlib.Core.Bool.{Bool, true, false}
use mathlib.Core.List.{List}
use borrow.Author.Tests.{leb-true, ltb-true, eqb-true}
use lib.ListN.{length}
use Rattle.grammar.specs.Draws.{draws_of}
use Rattle.grammar.specs.Typing.{type_of, typed_as}
use Rattle.graph_tables.specs.Sizes.{process_room, location_room, action_room, transition_room, variable_room, clock_room, limit_room, item_room}
use Rattle.graph_tables.specs.declared.handed.Limits.{Limits}
use Rattle.graph_tables.specs.Words.{location_count, process_count, transition_count, kinds_of, variable_count, clock_count, action_count}
use Rattle.graph_tables.specs.Formed.{well_formed, action_known}
use Rattle.laws.proofs.Tests.{never}
use Rattle.laws.proofs.BelowLaws.{all_at}
use Rattle.graph_edits.specs.Edits.{ClocksKnown, StartInside}
use Rattle.graph_checks.specs.Checks.{on_table, room_for, var_check, clock_check, action_check, zero_at, place_check, process_check}
use Rattle.graph_checks.specs.Checks.{clock_known, clocks_known, starts_inside, all_start_inside, limits_check, location_check, start_check}
use Rattle.graph_checks.specs.Checks.{initial_check, ends_check, guard_check, if_guarded, guard_room, conditions_check, transition_check}
use Rattle.graph_checks.proofs.CheckLaws.{unless_on, then_both}
use Rattle.graph_checks.proofs.TypedLaws.{as_typed, short}

-- a part more, and nothing handed
pub room_ready : (t : List ℕ) (n size : ℕ) → on_table t (room_for n size admitted) ≡ admitted → (well_formed t true ≡ true) × (n < size)
room_ready t n size h =
    let a = unless_on _ _ _ h in
    (a.0, ltb-true _ _ (unless_on _ _ _ a.1).0)

pub var_ready : (t : List ℕ) → var_check t ≡ admitted → (well_formed t true ≡ true) × (variable_count t < variable_room)
unfolding var_check
var_ready t = room_ready t _ _

pub clock_ready : (t : List ℕ) → clock_check t ≡ admitted → (well_formed t true ≡ true) × (clock_count t < clock_room)
unfolding clock_check
clock_ready t = room_ready t _ _

pub action_ready : (t : List ℕ) → action_check t ≡ admitted → (well_formed t true ≡ true) × (action_count t < action_room)
unfolding action_check
action_ready t = room_ready t _ _

-- a process
pub record ProcessReady (t : List ℕ) (l : ℕ) : Type 0 where
  pub formed : well_formed t true ≡ true
  pub place : l < location_count t
  pub inside : zero_at t l ≡ true
  pub room : process_count t < process_room

pub process_ready_lem : (t : List ℕ) (l : ℕ) → process_check t l ≡ admitted → ProcessReady t l
unfolding process_check place_check
process_ready_lem t l h =
    let a = unless_on _ _ _ h in
    let b = unless_on _ _ _ a.1 in
    let c = unless_on _ _ _ b.1 in
    record { formed = a.0; place = ltb-true _ _ b.0; inside = c.0; room = ltb-true _ _ (unless_on _ _ _ c.1).0 }

-- handed limits
pub limits_ready : (t : List ℕ) (l : Limits) → limits_check t l ≡ admitted → (l.count ≤ limit_room) × ClocksKnown t l
unfolding limits_check clocks_known clock_known
limits_ready t l h =
    let a = unless_on _ _ _ h in
    (leb-true _ _ a.0, λ i m. ltb-true _ _ (all_at (clock_known t l) l.count i (unless_on _ _ _ a.1).0 m))

-- a location
pub record LocationReady (t : List ℕ) (l : Limits) : Type 0 where
  pub formed : well_formed t true ≡ true
  pub limits : (l.count ≤ limit_room) × ClocksKnown t l
  pub room : location_count t < location_room

pub location_ready : (t : List ℕ) (l : Limits) → location_check t l ≡ admitted → LocationReady t l
unfolding location_check
location_ready t l h =
    let a = unless_on _ _ _ h in
    let b = then_both _ _ a.1 in
    record { formed = a.0; limits = limits_ready t l b.0; room = ltb-true _ _ (unless_on _ _ _ b.1).0 }

-- a location where a process starts
pub record InitialReady (t : List ℕ) (l : Limits) : Type 0 where
  pub location : LocationReady t l
  pub inside : StartInside l
  pub room : process_count t < process_room

pub initial_ready : (t : List ℕ) (l : Limits) → initial_check t l ≡ admitted → InitialReady t l
unfolding initial_check start_check all_start_inside starts_inside
initial_ready t l h =
    let a = unless_on _ _ _ h in
    let b = then_both _ _ a.1 in
    let c = unless_on _ _ _ b.1 in
    let d = unless_on _ _ _ c.1 in
    record {
      location = record { formed = a.0; limits = limits_ready t l b.0; room = ltb-true _ _ d.0 };
      inside = λ i m. all_at (starts_inside l) l.count i c.0 m;
      room = ltb-true _ _ (unless_on _ _ _ d.1).0;
    }

-- a guard
pub record GuardReady (t ws : List ℕ) : Type 0 where
  pub short : length ws ≤ item_room
  pub typed : typed_as 0 (type_of (kinds_of t) ws) ≡ true
  pub no_draws : draws_of ws ≡ 0

pub guard_ready : (t ws : List ℕ) → guard_check t ws ≡ admitted → GuardReady t ws
unfolding guard_check
guard_ready t ws h =
    let x = unless_on _ _ _ h in
    let y = unless_on _ _ _ x.1 in
    let z = unless_on _ _ _ y.1 in
    let d = unless_on _ _ _ z.1 in
    record {
      short = short (kinds_of t) ws x.0;
      typed = as_typed 0 (type_of (kinds_of t) ws) y.0 d.0;
      no_draws = eqb-true (draws_of ws) 0 z.0;
    }

-- a guard that is there was checked
guarded_check : (guarded : Bool) (check : Answer ⊤) → guarded ≡ true → if_guarded guarded check ≡ admitted → check ≡ admitted
guarded_check true check e h = h
guarded_check false check e h = never e

-- a transition
pub record TransitionReady (t : List ℕ) (pre a post : ℕ) (guarded : Bool) (ws : List ℕ) (l : Limits) : Type 0 where
  pub formed : well_formed t true ≡ true
  pub from : pre < location_count t
  pub to : post < location_count t
  pub by : action_known t a ≡ true
  pub limits : (l.count ≤ limit_room) × ClocksKnown t l
  pub guard : guarded ≡ true → GuardReady t ws
  pub room : transition_count t < transition_room

pub transition_ready : (t : List ℕ) (pre a post : ℕ) (guarded : Bool) (ws : List ℕ) (l : Limits)
    → transition_check t pre a post guarded ws l ≡ admitted → TransitionReady t pre a post guarded ws l
unfolding transition_check ends_check conditions_check guard_room
transition_ready t pre a post guarded ws l h =
    let x = unless_on _ _ _ h in
    let e = then_both _ _ x.1 in
    let e1 = unless_on _ _ _ e.0 in
    let e2 = unless_on _ _ _ e1.1 in
    let e3 = unless_on _ _ _ e2.1 in
    let c = then_both _ _ e.1 in
    let g = then_both _ _ c.1 in
    record {
      formed = x.0;
      from = ltb-true _ _ e1.0;
      to = ltb-true _ _ e2.0;
      by = e3.0;
      limits = limits_ready t l c.0;
      guard = λ y. guard_ready t ws (guarded_check guarded (guard_check t ws) y g.0);
      room = ltb-true _ _ (unless_on _ _ _ g.1).0;
    }
