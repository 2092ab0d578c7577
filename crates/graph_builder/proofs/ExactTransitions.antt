-- The calls of a well-formed table's transitions make them.
use Prim.Native.Nat.{ℕ, zero, suc, ◌<◌, ◌≤◌}
use mathlib.Core.Path.{◌≡◌, refl, ap, ◌∙◌}
use mathlib.Core.Bool.{true, ◌||◌}
use mathlib.Core.List.{List}
use native.Mathlib.Decide.{ℕ_discrete}
use native.Mathlib.Omega.{arith}
use borrow.Author.Tests.{ltb-true, lt-ltb, eq-eqb, ne_eqb}
use lib.Dec.{eqb, ltb}
use lib.ListN.{take}
use Rattle.grammar.specs.Typing.{type_of}
use Rattle.graph_tables.specs.Words.{location_count, action_count, transition_count, key_of, guard_length, limit_count}
use Rattle.graph_tables.specs.Words.{action_of, guard_items, epsilon}
use Rattle.graph_tables.specs.Formed.{well_formed, action_known}
use Rattle.graph_tables.specs.Sound.{Sound}
use Rattle.graph_tables.proofs.SoundLaws.{sound}
use Rattle.graph_edits.specs.Lists.{list_of, insert_sorted, variables_of, invariants_of, action_at, StoredTransition}
use Rattle.graph_edits.specs.Lists.{key_in, transition_of}
use Rattle.graph_edits.proofs.KeyLaws.{key_back}
use Rattle.graph_builder.specs.Building.{guard_of}
use Rattle.graph_builder.specs.Reading.{Graph, graph_of, transitions_now}
use Rattle.graph_builder.specs.Chains.{answer_of}
use Rattle.graph_builder.specs.Built.{each_of, limits_back, transition_call, transition_calls}
use Rattle.graph_builder.proofs.ExactLaws.{same_count, insert_next, ascending, Makes, makes_one, makes_each}
use Rattle.graph_builder.proofs.ExactChecks.{transition_ok}
use Rattle.graph_builder.proofs.ExactHanded.{limits_fit, clocks_known_lem, limits_back_lem}
use Rattle.graph_builder.proofs.ExactParts.{some_actions, some_transitions, location_count_lem}
use Rattle.graph_builder.proofs.ExactActions.{same_kinds}

-- the reserved action, or a known one
known_action : (t : List ℕ) (a : ℕ) → ((a ≡ epsilon → ⊥) → a < action_count t) → action_known t a ≡ true
unfolding action_known
known_action t a h = by (ℕ_discrete a epsilon)
  where
    by : Dec (a ≡ epsilon) → (eqb a epsilon || ltb a (action_count t)) ≡ true
    by (yes e) = rw (eq-eqb a epsilon e)
    by (no n) = rw (ne_eqb a epsilon n, lt-ltb a (action_count t) (h n))

-- a guard without items is none
guard_back : (ws : List ℕ) (n : ℕ) → guard_of (ltb 0 n) (take n ws) ≡ take n ws
guard_back ws zero = refl
guard_back ws (suc n) = rw (lt-ltb 0 (suc n) (omega arith))

module _ (t : List ℕ) (s : Sound t) (k : ℕ) (known : k < transition_count t) where
  accepted : (u : List ℕ) → well_formed u true ≡ true → graph_of u ≡ some_transitions t k → answer_of u (transition_call t k) ≡ 0
  accepted u f e =
      let so = s.transition k known in
      let vars : variables_of u ≡ variables_of t = ap (λ (g : Graph). g.variables) e in
      let places : location_count u ≡ location_count t = location_count_lem u (invariants_of t) _ (ap (λ (g : Graph). g.locations) e) in
      let actions : action_count u ≡ action_count t =
      same_count (action_at u) (action_at t) (action_count u) (action_count t) (ap (λ (g : Graph). g.actions) e)
      in
      let count : transition_count u ≡ k =
      same_count (transition_of u) (transition_of t) (transition_count u) k (ap (λ (g : Graph). g.transitions) e)
      in
      transition_ok u f _ _ _ _ _ (limits_back t k (limit_count t k)) (omega (arith, so.pre)) (omega (arith, so.post))
      (known_action u (action_of (key_of t k)) (λ n. omega (arith, so.action n)))
      so.limits.few
      (clocks_known_lem t k _ so.limits u (ap (λ (g : Graph). g.clocks) e))
      (λ y. (
        ap (λ (kinds : List ℕ). type_of kinds (guard_items t k)) (same_kinds t u s (sound u true f) vars)
            ∙ so.guard.typed (ltb-true _ _ y),
        so.guard.no_draws,
      ))
      (omega (arith, s.counts.transitions))

  -- it stands behind those before it
  behind : (i : ℕ) → i < k → key_in (transition_of t i) ≤ key_in (transition_of t k)
  behind i l =
      rw (key_back (key_of t i), key_back (key_of t k))
      (ascending (key_of t) (transition_count t) s.ordered i k (omega arith) known)

  makes_transition : Makes (transition_calls t k) (some_transitions t k) (some_transitions t (suc k))
  makes_transition =
      let so = s.transition k known in
      makes_one (transition_call t k) _ _ (limits_fit t k _ so.limits) accepted
      (ap (transitions_now (some_actions t (action_count t)))
      (ap (λ (x : StoredTransition). insert_sorted key_in x (list_of (transition_of t) k))
      (rw (guard_back _ (guard_length t k), limits_back_lem t k (limit_count t k) so.limits))
      ∙ insert_next key_in (transition_of t) k behind))

pub makes_transitions : (t : List ℕ) → Sound t
    → Makes (each_of (transition_calls t) (transition_count t)) (some_transitions t 0) (some_transitions t (transition_count t))
makes_transitions t s = makes_each (transition_calls t) (some_transitions t) (transition_count t) (makes_transition t s)
