-- A well-formed table stays so when a location is put in, alone or as the place of a process more.
use Prim.Native.Nat.{ℕ, zero, suc, ◌+◌, ◌<◌, ◌≤◌}
use mathlib.Core.Path.{◌≡◌, sym, ap, subst, ◌∙◌}
use mathlib.Core.Bool.{true}
use mathlib.Core.List.{List}
use native.Mathlib.Numerals.{add-one}
use native.Mathlib.Omega.{arith}
use borrow.Author.Tests.{ltb-true, leb-true, lt-ltb}
use lib.ListN.{get_or, set, length-set}
use lib.Seq.{get_or-set_same, get_or-set_other}
use Rattle.laws.specs.Below.{all_below}
use Rattle.laws.proofs.BelowLaws.{and_first, and_rest, and_both, all_kept}
use Rattle.graph_tables.specs.Layout.{variables_cell, clocks_cell, locations_cell, actions_cell, processes_cell, transitions_cell, values_start}
use Rattle.graph_tables.specs.Layout.{invariants_start, group_width, kind_cell, value_cell, place_cell, invariants_cell, transition_row}
use Rattle.graph_tables.specs.Layout.{group_start}
use Rattle.graph_tables.specs.Sizes.{process_room, location_room, variable_room, limit_room}
use Rattle.graph_tables.specs.declared.handed.Limits.{Limits}
use Rattle.graph_tables.specs.Words.{Words, variable_count, clock_count, location_count, action_count, process_count, transition_count, place_at}
use Rattle.graph_tables.specs.Words.{invariant_count, key_of, invariant_group}
use Rattle.graph_tables.specs.Formed.{location_formed, zero_inside, process_formed, key_before, transition_formed}
use Rattle.graph_tables.proofs.FormedLaws.{few_limits}
use Rattle.graph_tables.proofs.KeptLaws.{Formed, Grown, GroupMoved, variable_kept, zero_kept, limits_kept, location_kept, process_kept}
use Rattle.graph_tables.proofs.KeptLaws.{action_kept, transition_kept}
use Rattle.graph_edits.specs.Edits.{LimitsFit, with_limits, with_location, with_process, ClocksKnown, StartInside}
use Rattle.graph_edits.proofs.LimitLaws.{Outside, sides, outside, limits_length, limits_before, limits_after, limits_formed_lem}
use Rattle.graph_edits.proofs.LimitLaws.{limits_zero, clocks_same}

-- the same words but for the numbers of locations, processes and transitions
pub grown_same : (t u : List ℕ) → Words t → Words u → variable_count t ≤ variable_room → location_count t ≤ location_count u
    → ((j : ℕ) → (j < values_start) × (j ≡ locations_cell → ⊥) × (j ≡ processes_cell → ⊥) × (j ≡ transitions_cell → ⊥) → get_or u j 0
    ≡ get_or t j 0) → Grown t u
grown_same t u words long few more same =
    let variables : variable_count u ≡ variable_count t = same variables_cell (omega arith) in
    let clocks : clock_count u ≡ clock_count t = same clocks_cell (omega arith) in
    let actions : action_count u ≡ action_count t = same actions_cell (omega arith) in
    record {
      words = words;
      grown_words = long;
      variables = omega arith;
      few = omega arith;
      kinds = λ v l. same (kind_cell v) (omega arith);
      clocks = omega arith;
      locations = more;
      actions = omega arith;
    }

pub keys_ordered : (t : List ℕ) → Formed t → (k : ℕ) → k + 1 < transition_count t → key_of t k ≤ key_of t (k + 1)
unfolding transition_formed
keys_ordered t f k h =
    let e : k + 1 ≡ suc k = add-one k in rw e (leb-true _ _ (and_first _ _ (and_rest _ _ (f.transition (suc k) (omega arith)))))

-- ---- the table with a location more
module _ (t : List ℕ) (l : Limits) (words : Words t) (room : location_count t < location_room) (few : l.count ≤ limit_room) where
  -- the limits alone
  abbrev limited : List ℕ
  limited = with_limits t (invariant_group (location_count t)) l l.count

  pub limited_same : Outside t limited (group_start (invariant_group (location_count t)))
      (group_start (invariant_group (location_count t)) + group_width)
  limited_same =
      outside t limited _ _
      (λ j m. limits_before t (invariant_group (location_count t)) l words (omega arith) l.count few j (omega arith))
      (λ j m. limits_after t (invariant_group (location_count t)) l words (omega arith) l.count few j (omega arith))

  pub limited_words : Words limited
  limited_words = limits_length t (invariant_group (location_count t)) l words (omega arith) l.count few ∙ words

  pub put_words : Words (with_location t l)
  put_words = simp length-set limited_words

  pub put_count : location_count (with_location t l) ≡ location_count t + 1
  put_count =
      get_or-set_same (set limited (invariants_cell (location_count t)) l.count) locations_cell (location_count t + 1) 0
      (simp length-set (omega (arith, limited_words)))

  pub put_number : invariant_count (with_location t l) (location_count t) ≡ l.count
  put_number =
      get_or-set_other (set limited (invariants_cell (location_count t)) l.count) locations_cell (invariants_cell (location_count t))
      (location_count t + 1) 0 (omega arith)
      ∙ get_or-set_same limited (invariants_cell (location_count t)) l.count 0 (omega (arith, limited_words))

  put_other : (j : ℕ) → (j ≡ locations_cell → ⊥) × (j ≡ invariants_cell (location_count t) → ⊥)
      → get_or (with_location t l) j 0 ≡ get_or limited j 0
  put_other j h =
      get_or-set_other (set limited (invariants_cell (location_count t)) l.count) locations_cell j (location_count t + 1) 0 h.0
      ∙ get_or-set_other limited (invariants_cell (location_count t)) j l.count 0 h.1

  pub put_same : (j : ℕ)
      → (j ≡ locations_cell → ⊥) × (j ≡ invariants_cell (location_count t) → ⊥)
      × (group_start (invariant_group (location_count t)) ≤ j → group_start (invariant_group (location_count t)) + group_width ≤ j)
      → get_or (with_location t l) j 0 ≡ get_or t j 0
  put_same j h = put_other j (h.0, h.1) ∙ limited_same j h.2

  pub put_group : GroupMoved limited (with_location t l) (invariant_group (location_count t)) (invariant_group (location_count t))
  put_group j m = put_other _ (omega arith)

  put_formed : variable_count t ≤ variable_room → ClocksKnown t l → LimitsFit l → location_formed (with_location t l) (location_count t) ≡ true
  unfolding location_formed
  put_formed variables clocks fit =
      rw put_number
      (limits_kept more (invariant_group (location_count t)) (invariant_group (location_count t)) l.count put_group
      (limits_formed_lem t (invariant_group (location_count t)) l words (omega arith) few clocks fit))
    where
      more : Grown limited (with_location t l)
      more =
          grown_same limited (with_location t l) limited_words put_words (omega (arith, limited_same variables_cell (omega arith)))
          (omega (arith, put_count, limited_same locations_cell (omega arith))) (λ j h. put_other j (omega arith))

  put_zero : StartInside l → all_below l.count (zero_inside (with_location t l) (invariant_group (location_count t))) ≡ true
  put_zero inside =
      all_kept (zero_inside limited (invariant_group (location_count t))) (zero_inside (with_location t l) (invariant_group (location_count t)))
      l.count
      (λ i m h. zero_kept limited (with_location t l) (invariant_group (location_count t)) (invariant_group (location_count t)) put_group i
      (omega arith) ∙ h)
      (limits_zero t (invariant_group (location_count t)) l words (omega arith) few inside)

-- ---- u is t, which is well formed, with a location more, and perhaps with a process more
-- word j of t is no count of theirs, and no word of theirs
abbrev Stays : List ℕ → ℕ → Type 0
Stays t j =
    (j ≡ locations_cell → ⊥) × (j ≡ processes_cell → ⊥) × (j ≡ invariants_cell (location_count t) → ⊥)
    × (j < invariants_start → j < place_cell (process_count t)) ×
    (group_start (invariant_group (location_count t)) ≤ j → group_start (invariant_group (location_count t)) + group_width ≤ j)

module _ (t u : List ℕ) (f : Formed t) (words : Words u) (count : location_count u ≡ location_count t + 1)
    (room : location_count t < location_room)
    (same : (j : ℕ) → Stays t j → get_or u j 0 ≡ get_or t j 0) where
  grown : Grown t u
  grown = grown_same t u f.words words f.counts.variables (omega arith) (λ j h. same j (omega arith))

  group : (i : ℕ) → i < location_count t → GroupMoved t u (invariant_group i) (invariant_group i)
  group i h j m = same _ (omega arith)

  process : (p : ℕ) → p < process_count t → process_formed u p ≡ true
  unfolding process_formed location_formed
  process p h =
      let place : place_at t p < location_count t = ltb-true _ _ (and_first _ _ (f.process p h)) in
      process_kept grown p (same (place_cell p) (omega arith)) (same (invariants_cell (place_at t p)) (omega arith))
      (group (place_at t p) place)
      (few_limits t (invariant_group (place_at t p)) (invariant_count t (place_at t p)) (f.location (place_at t p) place)) (f.process p h)

  order : (k : ℕ) → k < transition_count t → key_before u k ≤ key_of u k
  order zero h = omega arith
  order (suc k) h =
      let e : suc k ≡ k + 1 = omega arith in
      rw (same (transition_row k) (omega arith), same (transition_row (suc k)) (omega arith), e) (keys_ordered t f k (omega arith))

  -- all but the new location and process
  whole : location_formed u (location_count t) ≡ true → process_count u ≤ process_room
      → ((p : ℕ) → p < process_count u → process_formed u p ≡ true) → Formed u
  whole location few all = record {
    words = words;
    counts = record {
      variables = grown.few;
      clocks = omega (arith, same clocks_cell (omega arith));
      locations = omega arith;
      actions = omega (arith, same actions_cell (omega arith));
      processes = few;
      transitions = omega (arith, same transitions_cell (omega arith));
    };
    variable = λ v h.
        let m : v < variable_count t = omega (arith, same variables_cell (omega arith)) in
        variable_kept t u v (same (kind_cell v) (omega arith)) (same (value_cell v) (omega arith)) (f.variable v m);
    location = λ i h.
        sides i (location_count t)
        (λ m. location_kept grown i (same (invariants_cell i) (omega arith)) (group i m) (f.location i m))
        (λ e. rw e location)
        (λ m. absurd (omega arith));
    process = all;
    action = λ a h.
        let m : a < action_count t = omega (arith, same actions_cell (omega arith)) in
        action_kept grown a (omega arith) (λ j k. same _ (omega arith)) (λ e k j n. same _ (omega arith)) (f.action a m);
    transition = λ k h.
        let m : k < transition_count t = omega (arith, same transitions_cell (omega arith)) in
        transition_kept grown k k (omega arith) (omega arith) (λ j n. same _ (omega arith)) (λ j n. same _ (omega arith))
        (λ j n. same _ (omega arith))
        (order k m) (f.transition k m);
  }

pub location_formed_lem : (t : List ℕ) (l : Limits) → Formed t → location_count t < location_room → l.count ≤ limit_room → ClocksKnown t l
    → LimitsFit l → Formed (with_location t l)
location_formed_lem t l f room few clocks fit =
    whole t u f (put_words t l f.words room few) (put_count t l f.words room few) room same
    (put_formed t l f.words room few f.counts.variables clocks fit)
    (omega (arith, processes))
    (λ p h. process t u f (put_words t l f.words room few) (put_count t l f.words room few) room same p (omega (arith, processes)))
  where
    u : List ℕ
    u = with_location t l

    processes : process_count u ≡ process_count t
    processes = put_same t l f.words room few processes_cell (omega arith)

    same : (j : ℕ) → Stays t j → get_or u j 0 ≡ get_or t j 0
    same j h = put_same t l f.words room few j (h.0, h.2, h.4)

-- the place of a process more
pub initial_formed : (t : List ℕ) (l : Limits) → Formed t → location_count t < location_room → l.count ≤ limit_room → ClocksKnown t l
    → LimitsFit l
    → process_count t < process_room → StartInside l → Formed (with_location (with_process t (location_count t)) l)
unfolding process_formed
initial_formed t l f room few clocks fit free inside =
    whole t u f (put_words s l words here few) count room same
    (subst (λ (i : ℕ). location_formed u i ≡ true) n
    (put_formed s l words here few (omega (arith, stays variables_cell (omega arith)))
    (clocks_same t s l (stays clocks_cell (omega arith)) clocks) fit))
    (omega (arith, processes))
    (λ p h.
    sides p (process_count t)
    (λ m. process t u f (put_words s l words here few) count room same p m)
    (λ e.
    rw (e, place, put_number s l words here few)
    (and_both (lt-ltb (location_count s) (location_count u) (omega (arith, count, n))) (put_zero s l words here few inside)))
    (λ m. absurd (omega (arith, processes))))
  where
    s : List ℕ
    s = with_process t (location_count t)

    u : List ℕ
    u = with_location s l

    words : Words s
    words = simp length-set f.words

    stays : (j : ℕ) → (j ≡ processes_cell → ⊥) × (j ≡ place_cell (process_count t) → ⊥) → get_or s j 0 ≡ get_or t j 0
    stays j h =
        get_or-set_other (set t (place_cell (process_count t)) (location_count t)) processes_cell j (process_count t + 1) 0 h.0
        ∙ get_or-set_other t (place_cell (process_count t)) j (location_count t) 0 h.1

    n : location_count s ≡ location_count t
    n = stays locations_cell (omega arith)

    here : location_count s < location_room
    here = omega (arith, n)

    count : location_count u ≡ location_count t + 1
    count = put_count s l words here few ∙ ap (λ (i : ℕ). i + 1) n

    same : (j : ℕ) → Stays t j → get_or u j 0 ≡ get_or t j 0
    same j h =
        put_same s l words here few j
        (h.0, (λ e. h.2 (e ∙ ap (λ (i : ℕ). invariants_cell i) n)), λ m. omega (arith, n, h.4 (omega (arith, n))))
        ∙ stays j (h.1, λ e. omega (arith, h.3 (omega arith)))

    processes : process_count u ≡ process_count t + 1
    processes =
        put_same s l words here few processes_cell (omega arith)
        ∙ get_or-set_same (set t (place_cell (process_count t)) (location_count t)) processes_cell (process_count t + 1) 0
        (simp length-set (omega arith))

    place : place_at u (process_count t) ≡ location_count s
    place =
        put_same s l words here few (place_cell (process_count t)) (omega arith)
        ∙ get_or-set_other (set t (place_cell (process_count t)) (location_count t)) processes_cell (place_cell (process_count t))
        (process_count t + 1) 0 (omega arith)
        ∙ get_or-set_same t (place_cell (process_count t)) (location_count t) 0 (omega arith)
        ∙ sym n
