-- A table that has the parts of a well-formed one where they stood, and perhaps more: it is well formed if what is new in it is.
use Prim.Native.Nat.{ℕ, zero, suc, ◌+◌, ◌≤◌, ◌<◌}
use mathlib.Core.Path.{◌≡◌, refl}
use mathlib.Core.Logic.{◌≢◌}
use mathlib.Core.Bool.{Bool, true, false}
use mathlib.Core.List.{List}
use native.Mathlib.Nat.{add-zero}
use native.Mathlib.Omega.{arith}
use borrow.Author.Tests.{ltb-true, ltb-false, leb-true, eqb-true, eqb-false}
use lib.Dec.{eqb, ltb}
use lib.ListN.{get_or}
use Rattle.laws.proofs.BelowLaws.{and_first, and_rest}
use Rattle.graph_tables.specs.Layout.{variables_cell, clocks_cell, locations_cell, actions_cell, processes_cell, transitions_cell, actions_start}
use Rattle.graph_tables.specs.Layout.{transitions_start, effects_start, action_width, transition_width, kind_cell, value_cell, place_cell}
use Rattle.graph_tables.specs.Layout.{invariants_cell, action_row, transition_row, group_start, guard_slot}
use Rattle.graph_tables.specs.Sizes.{action_room, limit_room, effect_room, item_room}
use Rattle.graph_tables.specs.Words.{Words, variable_count, clock_count, location_count, action_count, process_count, transition_count, value_at}
use Rattle.graph_tables.specs.Words.{place_at, invariant_count, key_of, invariant_group}
use Rattle.graph_tables.specs.Formed.{variable_formed, location_formed, process_formed, action_formed, key_before, transition_formed}
use Rattle.graph_tables.specs.Sound.{Counted}
use Rattle.graph_tables.proofs.FormedLaws.{few_limits}
use Rattle.graph_tables.proofs.KeptLaws.{Formed, Grown, Moved, GroupMoved, ItemsKept, variable_kept, location_kept, process_kept}
use Rattle.graph_tables.proofs.KeptLaws.{action_kept, transition_kept}

-- ---- parts of t stand in u where they stood
pub record LocationStands (t u : List ℕ) (l : ℕ) : Type 0 where
  pub count : invariant_count u l ≡ invariant_count t l
  pub group : GroupMoved t u (invariant_group l) (invariant_group l)

pub record ActionStands (t u : List ℕ) (a : ℕ) : Type 0 where
  pub row : Moved t u (action_row a) (action_row a) action_width
  pub items : (e : ℕ) → e < effect_room → ItemsKept t u a e

pub record TransitionStands (t u : List ℕ) (k : ℕ) : Type 0 where
  pub row : Moved t u (transition_row k) (transition_row k) transition_width
  pub group : GroupMoved t u k k
  pub guard : Moved t u (guard_slot k) (guard_slot k) item_room

-- all of them but actions and transitions
pub record Stands (t u : List ℕ) : Type 0 where
  pub values : (v : ℕ) → v < variable_count t → value_at u v ≡ value_at t v
  pub locations : (l : ℕ) → l < location_count t → LocationStands t u l
  pub places : (p : ℕ) → p < process_count t → place_at u p ≡ place_at t p

-- what well-formed parts say
ordered : (t : List ℕ) (k : ℕ) → transition_formed t k ≡ true → key_before t k ≤ key_of t k
unfolding transition_formed
ordered t k h = leb-true _ _ (and_first _ _ (and_rest _ _ h))

pub few_invariants : (t : List ℕ) (l : ℕ) → location_formed t l ≡ true → invariant_count t l ≤ limit_room
unfolding location_formed
few_invariants t l h = few_limits t (invariant_group l) (invariant_count t l) h

known_place : (t : List ℕ) (p : ℕ) → process_formed t p ≡ true → place_at t p < location_count t
unfolding process_formed
known_place t p h = ltb-true _ _ (and_first _ _ h)

-- a test holds below m if it does below n, and from n on
pub both_sides : (p : ℕ → Bool) (n m : ℕ) → ((i : ℕ) → i < n → p i ≡ true) → ((i : ℕ) → n ≤ i → i < m → p i ≡ true) → (i : ℕ) → i < m
    → p i ≡ true
both_sides p n m old new i l = by (ltb i n) refl
  where
    by : (b : Bool) → ltb i n ≡ b → p i ≡ true
    by true e = old i (ltb-true i n e)
    by false e = new i (ltb-false i n e) l

module _ (t u : List ℕ) (formed : Formed t) (grown : Grown t u) where
  pub action_stands : (a : ℕ) → a < action_count t → ActionStands t u a → action_formed u a ≡ true
  action_stands a l s = action_kept grown a (omega arith) s.row s.items (formed.action a l)

  pub transitions_stand : ((k : ℕ) → k < transition_count t → TransitionStands t u k) → (k : ℕ) → k < transition_count t
      → transition_formed u k ≡ true
  transitions_stand s k l =
      transition_kept grown k k (omega arith) (omega arith) (s k l).row (s k l).group (s k l).guard (order k l) (formed.transition k l)
    where
      key : (i : ℕ) → i < transition_count t → key_of u i ≡ key_of t i
      key i m = simp add-zero at ((s i m).row variables_cell (omega arith))

      order : (i : ℕ) → i < transition_count t → key_before u i ≤ key_of u i
      order zero m = omega arith
      order (suc i) m = omega (arith, key i (omega arith), key (suc i) m, ordered t (suc i) (formed.transition (suc i) m))

  pub process_stands : (p : ℕ) → place_at u p ≡ place_at t p → ((l : ℕ) → l < location_count t → LocationStands t u l)
      → process_formed t p ≡ true → process_formed u p ≡ true
  process_stands p place s h =
      let l = place_at t p in
      let known : l < location_count t = known_place t p h in
      process_kept grown p place (s l known).count (s l known).group (few_invariants t l (formed.location l known)) h

  -- actions and transitions are given as they are in u
  pub grown_formed : Counted u → Stands t u
      → ((v : ℕ) → variable_count t ≤ v → v < variable_count u → variable_formed u v ≡ true)
      → ((l : ℕ) → location_count t ≤ l → l < location_count u → location_formed u l ≡ true)
      → ((p : ℕ) → process_count t ≤ p → p < process_count u → process_formed u p ≡ true)
      → ((a : ℕ) → a < action_count u → action_formed u a ≡ true)
      → ((k : ℕ) → k < transition_count u → transition_formed u k ≡ true)
      → Formed u
  grown_formed counts s variables locations processes actions transitions =
      record {
        words = grown.grown_words;
        counts = counts;
        variable =
            both_sides (variable_formed u) _ _
            (λ v l. variable_kept t u v (grown.kinds v l) (s.values v l) (formed.variable v l)) variables;
        location =
            both_sides (location_formed u) _ _
            (λ i l. location_kept grown i (s.locations i l).count (s.locations i l).group (formed.location i l)) locations;
        process = both_sides (process_formed u) _ _ (λ p l. process_stands p (s.places p l) s.locations (formed.process p l)) processes;
        action = actions;
        transition = transitions;
      }

-- ---- u has t's words but for how many actions there are and for the words of action a
pub record Around (t u : List ℕ) (a : ℕ) : Type 0 where
  pub words : Words u
  pub more : action_count t ≤ action_count u
  pub few : action_count u ≤ action_room
  pub others : (b : ℕ) → b < action_count u → b ≢ a → b < action_count t
  pub row : (j : ℕ) → j < effects_start → j ≢ actions_cell → ((i : ℕ) → i < action_width → j ≢ action_row a + i) → get_or u j 0 ≡ get_or t j 0
  pub items : (b e : ℕ) → b < action_room → b ≢ a → ItemsKept t u b e

module _ (t u : List ℕ) (a : ℕ) (known : a < action_room) (formed : Formed t) (around : Around t u a) where
  -- the words before the actions, and those between them and the items
  pub front : (j : ℕ) → (j < actions_start) × (j ≢ actions_cell) → get_or u j 0 ≡ get_or t j 0
  front j l = around.row j (omega arith) l.1 (omega arith)

  back : (j : ℕ) → (transitions_start ≤ j) × (j < effects_start) → get_or u j 0 ≡ get_or t j 0
  back j l = around.row j l.1 (omega arith) (omega arith)

  -- the other counts
  pub same : (variable_count u ≡ variable_count t) × (clock_count u ≡ clock_count t) × (location_count u ≡ location_count t) × (process_count u
      ≡ process_count t) × (transition_count u ≡ transition_count t)
  same = (
    front variables_cell (omega arith),
    front clocks_cell (omega arith),
    front locations_cell (omega arith),
    front processes_cell
        (omega arith),
    front transitions_cell (omega arith),
  )

  pub around_grown : Grown t u
  around_grown =
      record {
        words = formed.words;
        grown_words = around.words;
        variables = omega (arith, same);
        few = omega (arith, same);
        kinds = λ v l. front (kind_cell v) (omega arith);
        clocks = omega (arith, same);
        locations = omega (arith, same);
        actions = around.more;
      }

  pub stands : Stands t u
  stands = record {
    values = λ v l. front (value_cell v) (omega arith);
    locations =
        λ i l. record {
          count = front (invariants_cell i) (omega arith);
          group = λ j h. back (group_start (invariant_group i) + j)
              (omega arith);
        };
    places = λ p l. front (place_cell p) (omega arith);
  }

  pub transition_stands : (k : ℕ) → k < transition_count t → TransitionStands t u k
  transition_stands k l = record {
    row = λ j h. back (transition_row k + j) (omega arith);
    group = λ j h. back (group_start k + j) (omega arith);
    guard = λ j h. back (guard_slot k + j) (omega arith);
  }

  -- another action than a
  other_formed : (b : ℕ) → b < action_count t → b ≢ a → action_formed u b ≡ true
  other_formed b l other =
      action_stands t u formed around_grown b l (record {
        row = λ j h. around.row (action_row b + j) (omega arith) (omega arith) (omega arith);
        items = λ e h. around.items b e (omega arith) other;
      })

  pub around_formed : action_formed u a ≡ true → Formed u
  around_formed new =
      grown_formed t u formed around_grown (omega (arith, same)) stands
      (λ v l m. absurd (omega (arith, same)))
      (λ i l m. absurd (omega (arith, same)))
      (λ p l m. absurd (omega (arith, same)))
      (λ b l. by b l (eqb b a) refl)
      (λ k l. transitions_stand t u formed around_grown transition_stands k (omega (arith, same)))
    where
      by : (b : ℕ) → b < action_count u → (test : Bool) → eqb b a ≡ test → action_formed u b ≡ true
      by b l true q = rw (eqb-true b a q) new
      by b l false q = let other : b ≢ a = eqb-false b a q in other_formed b (around.others b l other) other
