-- A table that has every word that a well-formed one uses is well formed.
use Prim.Native.Nat.{ℕ, zero, suc, ◌+◌, ◌<◌, ◌≤◌}
use mathlib.Core.Path.{◌≡◌, refl, ap, ◌∙◌}
use mathlib.Core.Logic.{◌≢◌}
use mathlib.Core.Bool.{Bool, true, false, cond}
use mathlib.Core.List.{List}
use native.Mathlib.Nat.{add-zero}
use native.Mathlib.Omega.{arith}
use borrow.Author.Tests.{ltb-true, leb-true, eqb-true}
use lib.Dec.{eqb, ltb}
use lib.ListN.{get_or}
use Rattle.laws.specs.Below.{◌and◌, all_below, sum_below}
use Rattle.laws.proofs.BelowLaws.{and_first, and_rest, and_both, and_kept, all_kept, sum_same}
use Rattle.grammar.specs.Draws.{draws_of}
use Rattle.graph_tables.specs.Layout.{variables_cell, clocks_cell, locations_cell, actions_cell, processes_cell, transitions_cell, kinds_start}
use Rattle.graph_tables.specs.Layout.{limit_width, limit_row, effect_slot, guard_slot}
use Rattle.graph_tables.specs.Sizes.{plain_kind, send_kind, receive_kind, item_room}
use Rattle.graph_tables.specs.Words.{Words, variable_count, clock_count, location_count, action_count, process_count, transition_count, kind_at}
use Rattle.graph_tables.specs.Words.{place_at, invariant_count, action_kind, reset_count, effect_count, effect_var}
use Rattle.graph_tables.specs.Words.{effect_length, effect_items, key_of, guard_length, limit_count, guard_items, clock_of, lower_of, upper_of}
use Rattle.graph_tables.specs.Words.{invariant_group}
use Rattle.graph_tables.specs.Formed.{clock_before, limit_formed, limits_formed, location_formed, zero_inside, process_formed, effect_formed}
use Rattle.graph_tables.specs.Formed.{effect_draws, plain_formed, expression_formed, send_formed, target_formed, receive_formed, action_formed}
use Rattle.graph_tables.specs.Formed.{key_before, guard_formed, transition_formed}
use Rattle.graph_tables.specs.Sound.{Sound}
use Rattle.graph_tables.proofs.SoundLaws.{sound}
use Rattle.graph_tables.proofs.KeptLaws.{Formed, together, Grown, items_moved, choice_kept, variable_kept, typed_as_grown, is_typed_grown}
use Rattle.graph_tables.proofs.KeptLaws.{resets_kept, target_kept, key_kept}
use Rattle.graph_builder.specs.Used.{count, kind, value, place, invariants, invariant, action, reset, var, long, item}
use Rattle.graph_builder.specs.Used.{transition, limit, guard, HasWords}

-- ---- limits of the same words
module _ (t u : List ℕ) (g n : ℕ)
    (same : (i j : ℕ) → i < n → j < limit_width → get_or u (limit_row g i + j) 0 ≡ get_or t (limit_row g i + j) 0) where
  clock_same : (i : ℕ) → i < n → clock_of u g i ≡ clock_of t g i
  clock_same i l = simp add-zero at (same i 0 l (omega arith))

  lower_same : (i : ℕ) → i < n → lower_of u g i ≡ lower_of t g i
  lower_same i l = same i 1 l (omega arith)

  upper_same : (i : ℕ) → i < n → upper_of u g i ≡ upper_of t g i
  upper_same i l = same i 2 l (omega arith)

  before_same : (i : ℕ) → i < n → clock_before u g i ≡ clock_before t g i
  before_same zero l = refl
  before_same (suc i) l = clock_same i (omega arith)

  limits_same_lem : clock_count u ≡ clock_count t → limits_formed t g n ≡ true → limits_formed u g n ≡ true
  unfolding limits_formed limit_formed
  limits_same_lem clocks =
      and_kept (λ r. r)
      (all_kept (limit_formed t g) (limit_formed u g) n
      (λ i l f. rw (clock_same i l, lower_same i l, upper_same i l, before_same i l, clocks) f))

  zero_same : all_below n (zero_inside t g) ≡ true → all_below n (zero_inside u g) ≡ true
  unfolding zero_inside
  zero_same = all_kept (zero_inside t g) (zero_inside u g) n (λ i l f. rw (lower_same i l, upper_same i l) f)

module _ (t u : List ℕ) (f : Formed t) (words : Words u) (has : HasWords t u) where
  s : Sound t
  s = sound t true (together t f)

  count_same : (c : ℕ) → c < kinds_start → get_or u c 0 ≡ get_or t c 0
  count_same c l = has c (count c l)

  variables : variable_count u ≡ variable_count t
  variables = count_same variables_cell (omega arith)

  clocks : clock_count u ≡ clock_count t
  clocks = count_same clocks_cell (omega arith)

  locations : location_count u ≡ location_count t
  locations = count_same locations_cell (omega arith)

  actions : action_count u ≡ action_count t
  actions = count_same actions_cell (omega arith)

  processes : process_count u ≡ process_count t
  processes = count_same processes_cell (omega arith)

  transitions : transition_count u ≡ transition_count t
  transitions = count_same transitions_cell (omega arith)

  grown : Grown t u
  grown = record {
    words = f.words;
    grown_words = words;
    variables = omega (arith, variables);
    few = omega (arith, variables, f.counts.variables);
    kinds = λ v l. has _ (kind v l);
    clocks = omega (arith, clocks);
    locations = omega (arith, locations);
    actions = omega (arith, actions);
  }

  -- ---- locations and processes
  group_same : (l : ℕ) → l < location_count t → (i j : ℕ) → i < invariant_count t l → j < limit_width
      → get_or u (limit_row (invariant_group l) i + j) 0 ≡ get_or t (limit_row (invariant_group l) i + j) 0
  group_same l m i j q r = has _ (invariant l i j m q r)

  location_formed_lem : (l : ℕ) → l < location_count t → location_formed u l ≡ true
  unfolding location_formed
  location_formed_lem l m =
      rw (has _ (invariants l m)) (limits_same_lem t u (invariant_group l) (invariant_count t l) (group_same l m) clocks (f.location l m))

  process_formed_lem : (p : ℕ) → p < process_count t → process_formed u p ≡ true
  unfolding process_formed
  process_formed_lem p m =
      let l : place_at t p < location_count t = (s.process p m).place in
      rw (has _ (place p m), has _ (invariants (place_at t p) l), locations)
      (and_kept (λ r. r) (zero_same t u (invariant_group (place_at t p)) (invariant_count t (place_at t p)) (group_same (place_at t p) l))
      (f.process p m))

  -- ---- actions
  module _ (a : ℕ) (known : a < action_count t) where
    kind_same : action_kind u a ≡ action_kind t a
    kind_same = simp add-zero at (has _ (action a 0 known (omega arith)))

    resets_same : reset_count u a ≡ reset_count t a
    resets_same = has _ (action a 1 known (omega arith))

    effects_same : effect_count u a ≡ effect_count t a
    effects_same = has _ (action a 2 known (omega arith))

    -- expressions, where there are any
    module _ (told : action_kind t a ≢ receive_kind) (e : ℕ) (l : e < effect_count t a) where
      length_same : effect_length u a e ≡ effect_length t a e
      length_same = has _ (long a e known told l)

      items_same : effect_length t a e ≤ item_room → effect_items u a e ≡ effect_items t a e
      items_same short =
          rw length_same
          (items_moved t u (effect_slot a e) (effect_slot a e) (effect_length t a e) (effect_length t a e) (omega arith)
          (omega (arith, f.words, f.counts.actions, (s.action a known).few)) (omega (arith, f.counts.actions, (s.action a known).few))
          (λ j m. has _ (item a e j known told l m)))

      effect_formed_lem : action_kind t a ≢ send_kind → effect_formed t a e ≡ true → effect_formed u a e ≡ true
      unfolding effect_formed
      effect_formed_lem other h =
          let v = effect_var t a e in
          let low : v < variable_count t = ltb-true _ _ (and_first _ _ h) in
          rw (items_same (leb-true _ _ (and_first _ _ (and_rest _ _ h))), has _ (var a e known other l), length_same, has _ (kind v low))
          (and_kept (λ r. ap (ltb v) variables ∙ r) (and_kept (λ r. r) (typed_as_grown grown (kind_at t v) (effect_items t a e))) h)

      expression_formed_lem : expression_formed t a e ≡ true → expression_formed u a e ≡ true
      unfolding expression_formed
      expression_formed_lem h =
          rw (items_same (leb-true _ _ (and_first _ _ h)), length_same) (and_kept (λ r. r) (is_typed_grown grown (effect_items t a e)) h)

    draws_same : action_kind t a ≢ receive_kind → ((e : ℕ) → e < effect_count t a → effect_length t a e ≤ item_room)
        → sum_below (effect_count t a) (effect_draws u a) ≡ sum_below (effect_count t a) (effect_draws t a)
    unfolding effect_draws
    draws_same told short =
        sum_same (effect_draws u a) (effect_draws t a) (effect_count t a) (λ e l. ap draws_of (items_same told e l (short e l)))

    plain_formed_lem : action_kind t a ≡ plain_kind → plain_formed t a ≡ true → plain_formed u a ≡ true
    unfolding plain_formed
    plain_formed_lem k h =
        rw (effects_same, draws_same (omega arith) (λ e l. (((s.action a known).plain k).effect e l).expression.short))
        (and_kept (resets_kept grown a resets_same (λ i l. has _ (reset a i known l)))
        (and_kept (λ r. r)
        (and_kept
        (all_kept (effect_formed t a) (effect_formed u a) (effect_count t a) (λ e l. effect_formed_lem (omega arith) e l (omega arith)))
        (λ r. r)))
        h)

    send_formed_lem : action_kind t a ≡ send_kind → send_formed t a ≡ true → send_formed u a ≡ true
    unfolding send_formed
    send_formed_lem k h =
        rw (resets_same, effects_same, draws_same (omega arith) (λ e l. (((s.action a known).send k).expression e l).short))
        (and_kept (λ r. r)
        (and_kept (λ r. r)
        (and_kept (all_kept (expression_formed t a) (expression_formed u a) (effect_count t a) (expression_formed_lem (omega arith))) (λ r. r)))
        h)

    receive_formed_lem : action_kind t a ≡ receive_kind → receive_formed t a ≡ true → receive_formed u a ≡ true
    unfolding receive_formed
    receive_formed_lem k h =
        rw (resets_same, effects_same)
        (and_kept (λ r. r)
        (and_kept (λ r. r)
        (all_kept (target_formed t a) (target_formed u a) (effect_count t a)
        (λ e l. target_kept grown a e (has _ (var a e known (omega arith) l)))))
        h)

    action_formed_lem : action_formed u a ≡ true
    unfolding action_formed
    action_formed_lem =
        rw kind_same
        (by_kind (action_kind t a) (eqb (action_kind t a) plain_kind) (eqb (action_kind t a) send_kind) refl refl
        plain_formed_lem send_formed_lem receive_formed_lem
        (f.action a known))
      where
        by_kind : (n : ℕ) (x y : Bool) → eqb n plain_kind ≡ x → eqb n send_kind ≡ y
            → {p q r p' q' r' : Bool} → (n ≡ plain_kind → p ≡ true → p' ≡ true) → (n ≡ send_kind → q ≡ true → q' ≡ true)
            → (n ≡ receive_kind → r ≡ true → r' ≡ true)
            → cond x p (cond y q (eqb n receive_kind and r)) ≡ true → cond x p' (cond y q' (eqb n receive_kind and r')) ≡ true
        by_kind n true y d e p q r h = p (eqb-true _ _ d) h
        by_kind n false true d e p q r h = q (eqb-true _ _ e) h
        by_kind n false false d e p q r h =
            let k = and_first _ _ h in
            and_both k (r (eqb-true _ _ k) (and_rest _ _ h))

  -- ---- transitions
  module _ (k : ℕ) (known : k < transition_count t) where
    key_same : key_of u k ≡ key_of t k
    key_same = simp add-zero at (has _ (transition k 0 known (omega arith)))

    guard_length_lem : guard_length u k ≡ guard_length t k
    guard_length_lem = has _ (transition k 1 known (omega arith))

    limit_count_lem : limit_count u k ≡ limit_count t k
    limit_count_lem = has _ (transition k 2 known (omega arith))

    guard_items_lem : guard_items u k ≡ guard_items t k
    guard_items_lem =
        rw guard_length_lem
        (items_moved t u (guard_slot k) (guard_slot k) (guard_length t k) (guard_length t k) (omega arith)
        (omega (arith, f.words, f.counts.transitions, (s.transition k known).guard.short))
        (omega (arith, f.counts.transitions, (s.transition k known).guard.short))
        (λ j m. has _ (guard k j known m)))

    guard_formed_lem : guard_formed t k ≡ true → guard_formed u k ≡ true
    unfolding guard_formed
    guard_formed_lem h =
        rw (guard_items_lem, guard_length_lem)
        (choice_kept (eqb (guard_length t k) 0) (λ r. r)
        (and_kept (λ r. r) (and_kept (typed_as_grown grown 0 (guard_items t k)) (λ r. r)))
        h)

  key_before_lem : (k : ℕ) → k < transition_count t → key_before u k ≡ key_before t k
  key_before_lem zero l = refl
  key_before_lem (suc k) l = key_same k (omega arith)

  transition_formed_lem : (k : ℕ) → k < transition_count t → transition_formed u k ≡ true
  unfolding transition_formed
  transition_formed_lem k known =
      rw (key_same k known, key_before_lem k known, limit_count_lem k known)
      (and_kept (key_kept grown (key_of t k))
      (and_kept (λ r. r)
      (and_kept (guard_formed_lem k known)
      (limits_same_lem t u k (limit_count t k) (λ i j l m. has _ (limit k i j known l m)) clocks)))
      (f.transition k known))

  -- ---- the whole table
  pub used_formed : Formed u
  used_formed = record {
    words = words;
    counts = record {
      variables = omega (arith, variables, f.counts.variables);
      clocks = omega (arith, clocks, f.counts.clocks);
      locations = omega (arith, locations, f.counts.locations);
      actions = omega (arith, actions, f.counts.actions);
      processes = omega (arith, processes, f.counts.processes);
      transitions = omega (arith, transitions, f.counts.transitions);
    };
    variable = λ v l.
        let m : v < variable_count t = omega (arith, variables) in
        variable_kept t u v (has _ (kind v m)) (has _ (value v m)) (f.variable v m);
    location = λ l m. location_formed_lem l (omega (arith, locations));
    process = λ p l. process_formed_lem p (omega (arith, processes));
    action = λ a l. action_formed_lem a (omega (arith, actions));
    transition = λ k l. transition_formed_lem k (omega (arith, transitions));
  }
