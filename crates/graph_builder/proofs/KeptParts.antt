-- What is in a graph stays in it under its number, whatever part a call adds.
use Prim.Native.Nat.{ℕ, zero, suc, ◌<◌, ◌≤◌}
use mathlib.Core.Path.{◌≡◌, refl, ap, ◌∙◌}
use mathlib.Core.Logic.{◌⊎◌, inl, inr, ⊎_elim}
use mathlib.Core.Bool.{Bool, true, false, cond}
use mathlib.Core.List.{List, [], ◌∷◌, ◌++◌}
use native.Mathlib.Omega.{arith}
use lib.Dec.{ltb}
use lib.ListN.{length}
use Rattle.graph_tables.specs.Sizes.{send_kind, receive_kind}
use Rattle.graph_tables.specs.Words.{variable_count, clock_count, location_count, action_count, process_count, place_at, action_kind}
use Rattle.graph_tables.specs.Handed.{handed_var}
use Rattle.graph_tables.specs.Sound.{ActionSound}
use Rattle.graph_edits.specs.Lists.{list_of, insert_sorted, changed_at, variable_at, invariants_of, resets_of}
use Rattle.graph_edits.specs.Lists.{StoredAction, plain, send, receive, action_at, StoredTransition}
use Rattle.graph_edits.proofs.LimitLaws.{sides}
use Rattle.graph_edits.proofs.PartsKept.{plain_at, send_at_lem, receive_at_lem}
use Rattle.graph_builder.specs.Chains.{Call, new_var, new_clock, new_action, new_process, add_reset, add_effect, new_send}
use Rattle.graph_builder.specs.Chains.{new_receive}
use Rattle.graph_builder.specs.Chains.{new_timed_location, new_initial_location, add_transition}
use Rattle.graph_builder.specs.Reading.{Graph, graph_of, actions_now, transitions_now}
use Rattle.graph_builder.specs.Reading.{with_clock_reset, with_assignment, in_order, added}

-- ---- a list that goes on as another: each entry has one in its place that it may have become
module _ {A : Type 0} (R : A → A → Type 0) where
  abbrev pub GoesOn : List A → List A → Type 0
  GoesOn [] ys = Unit {0}
  GoesOn (x ∷ xs) [] = ⊥
  GoesOn (x ∷ xs) (y ∷ ys) = R x y × GoesOn xs ys

  -- rows: there are as many or more, and each may have become its row
  pub no_fewer : (f h : ℕ → A) (n m : ℕ) → GoesOn (list_of f n) (list_of h m) → n ≤ m
  unfolding list_of
  no_fewer f h zero m k = omega arith
  no_fewer f h (suc n) zero k = absurd k
  no_fewer f h (suc n) (suc m) k = omega (arith, no_fewer (λ (i : ℕ). f (suc i)) (λ (i : ℕ). h (suc i)) n m k.1)

  pub row_goes_on : (f h : ℕ → A) (n m : ℕ) → GoesOn (list_of f n) (list_of h m) → (i : ℕ) → i < n → R (f i) (h i)
  unfolding list_of
  row_goes_on f h zero m k i l = absurd (omega arith)
  row_goes_on f h (suc n) zero k i l = absurd k
  row_goes_on f h (suc n) (suc m) k zero l = k.0
  row_goes_on f h (suc n) (suc m) k (suc i) l =
      row_goes_on (λ (j : ℕ). f (suc j)) (λ (j : ℕ). h (suc j)) n m k.1 i (omega arith)

  -- where an entry may stay: one more at the end, one changed, and all as they are
  module _ (stays : (x : A) → R x x) where
    pub goes_on_more : (xs zs : List A) → GoesOn xs (xs ++ zs)
    goes_on_more [] zs = tt
    goes_on_more (x ∷ xs) zs = (stays x, goes_on_more xs zs)

    pub goes_on_same : (xs : List A) → GoesOn xs xs
    goes_on_same [] = tt
    goes_on_same (x ∷ xs) = (stays x, goes_on_same xs)

    pub goes_on_changed : (f : A → A) → ((x : A) → R x (f x)) → (a : ℕ) (xs : List A) → GoesOn xs (changed_at a f xs)
    unfolding changed_at
    goes_on_changed f becomes a [] = tt
    goes_on_changed f becomes zero (x ∷ xs) = (becomes x, goes_on_same xs)
    goes_on_changed f becomes (suc a) (x ∷ xs) = (stays x, goes_on_changed f becomes a xs)

-- ---- the resets of an action
abbrev pub Has : ℕ → List ℕ → Type 0
Has c [] = ⊥
Has c (x ∷ xs) = (x ≡ c) ⊎ Has c xs

-- what is put in is there, and so is what was
has_either : (c : ℕ) (b : Bool) (xs ys : List ℕ) → Has c xs → Has c ys → Has c (cond b xs ys)
has_either c true xs ys h k = h
has_either c false xs ys h k = k

pub put_has : (x : ℕ) (ys : List ℕ) → Has x (insert_sorted (λ (c : ℕ). c) x ys)
unfolding insert_sorted
put_has x [] = inl refl
put_has x (y ∷ ys) = has_either x (ltb x y) _ _ (inl refl) (inr (put_has x ys))

put_keeps : (x c : ℕ) (ys : List ℕ) → Has c ys → Has c (insert_sorted (λ (c : ℕ). c) x ys)
unfolding insert_sorted
put_keeps x c [] h = absurd h
put_keeps x c (y ∷ ys) h = has_either c (ltb x y) _ _ (inr h) (⊎_elim (λ q. inl q) (λ k. inr (put_keeps x c ys k)) h)

-- only a plain action has resets
abbrev pub resets_in : StoredAction → List ℕ
resets_in (plain resets effects) = resets
resets_in (send expressions) = []
resets_in (receive vars) = []

-- what an action resets, the one that it became resets too
abbrev pub ResetsStay : StoredAction → StoredAction → Type 0
ResetsStay x y = (c : ℕ) → Has c (resets_in x) → Has c (resets_in y)

same_resets : (x : StoredAction) → ResetsStay x x
same_resets x c h = h

with_reset_lem : (clock : ℕ) (x : StoredAction) → ResetsStay x (with_clock_reset clock x)
with_reset_lem clock (plain resets effects) c h = put_keeps clock c resets h
with_reset_lem clock (send expressions) c h = h
with_reset_lem clock (receive vars) c h = h

with_effect_lem : (v : ℕ) (ws : List ℕ) (x : StoredAction) → ResetsStay x (with_assignment v ws x)
with_effect_lem v ws (plain resets effects) c h = h
with_effect_lem v ws (send expressions) c h = h
with_effect_lem v ws (receive vars) c h = h

-- the resets of a sound table's action are those that it reads as
pub resets_in_lem : (t : List ℕ) (a : ℕ) → ActionSound t a → resets_in (action_at t a) ≡ resets_of t a
unfolding list_of
resets_in_lem t a s =
    sides (action_kind t a) send_kind
    (λ m. ap resets_in (plain_at t a (omega arith)))
    (λ e. ap resets_in (send_at_lem t a e) ∙ rw (s.send e).still)
    (λ m. let e : action_kind t a ≡ receive_kind = omega (arith, s.kind) in ap resets_in (receive_at_lem t a e) ∙ rw (s.receive e).still)

-- ---- the variables, clocks, locations and processes of g are in h as they are, and its actions with their resets
abbrev Is : {A : Type 0} → A → A → Type 0
Is x y = y ≡ x

pub record Kept (g h : Graph) : Type 0 where
  pub variables : GoesOn Is g.variables h.variables
  pub clocks : g.clocks ≤ h.clocks
  pub locations : GoesOn Is g.locations h.locations
  pub processes : GoesOn Is g.processes h.processes
  pub actions : GoesOn ResetsStay g.actions h.actions

same : {A : Type 0} (xs : List A) → GoesOn Is xs xs
same = goes_on_same Is (λ x. refl)

more : {A : Type 0} (xs : List A) (x : A) → GoesOn Is xs (xs ++ (x ∷ []))
more xs x = goes_on_more Is (λ x. refl) xs (x ∷ [])

still : (xs : List StoredAction) → GoesOn ResetsStay xs xs
still = goes_on_same ResetsStay same_resets

one_more : (xs : List StoredAction) (x : StoredAction) → GoesOn ResetsStay xs (xs ++ (x ∷ []))
one_more xs x = goes_on_more ResetsStay same_resets xs (x ∷ [])

pub kept_same : (g : Graph) → Kept g g
kept_same g = record {
  variables = same g.variables;
  clocks = omega arith;
  locations = same g.locations;
  processes = same g.processes;
  actions = still g.actions;
}

-- a call that changes actions alone, or transitions
kept_actions : (g : Graph) (actions : List StoredAction) (transitions : List StoredTransition) → GoesOn ResetsStay g.actions actions
    → Kept g (transitions_now (actions_now g actions) transitions)
kept_actions g actions transitions k = record {
  variables = same g.variables;
  clocks = omega arith;
  locations = same g.locations;
  processes = same g.processes;
  actions = k;
}

-- They are in what a call makes of a graph.
pub added_keeps : (c : Call) (g : Graph) → Kept g (added c g)
added_keeps (new_var v) g = record {
  variables = more g.variables v;
  clocks = omega arith;
  locations = same g.locations;
  processes = same g.processes;
  actions = still g.actions;
}
added_keeps new_clock g = record {
  variables = same g.variables;
  clocks = omega arith;
  locations = same g.locations;
  processes = same g.processes;
  actions = still g.actions;
}
added_keeps new_action g = kept_actions g _ _ (one_more g.actions (plain [] []))
added_keeps (new_process l) g = record {
  variables = same g.variables;
  clocks = omega arith;
  locations = same g.locations;
  processes = more g.processes l;
  actions = still g.actions;
}
added_keeps (add_reset a clock) g =
    kept_actions g _ _ (goes_on_changed ResetsStay same_resets (with_clock_reset clock) (with_reset_lem clock) a g.actions)
added_keeps (add_effect a v ws) g =
    kept_actions g _ _ (goes_on_changed ResetsStay same_resets (with_assignment v ws) (with_effect_lem v ws) a g.actions)
added_keeps (new_send m count) g = kept_actions g _ _ (one_more g.actions (send (list_of m count)))
added_keeps (new_receive v) g = kept_actions g _ _ (one_more g.actions (receive (list_of (handed_var v) v.count)))
added_keeps (new_timed_location l) g = record {
  variables = same g.variables;
  clocks = omega arith;
  locations = more g.locations (in_order l);
  processes = same g.processes;
  actions = still g.actions;
}
added_keeps (new_initial_location l) g = record {
  variables = same g.variables;
  clocks = omega arith;
  locations = more g.locations (in_order l);
  processes = more g.processes (length g.locations);
  actions = still g.actions;
}
added_keeps (add_transition pre a post guarded ws l) g = kept_actions g g.actions _ (still g.actions)

-- ---- the same of tables
-- no count is less
abbrev pub NoneFewer : List ℕ → List ℕ → Type 0
NoneFewer t u =
    (variable_count t ≤ variable_count u) × (clock_count t ≤ clock_count u) × (location_count t ≤ location_count u)
    × (action_count t ≤ action_count u) × (process_count t ≤ process_count u)

module _ (t u : List ℕ) (k : Kept (graph_of t) (graph_of u)) where
  pub counts_kept : NoneFewer t u
  counts_kept = (
    no_fewer Is (variable_at t) (variable_at u) _ _ k.variables,
    k.clocks,
    no_fewer Is (invariants_of t) (invariants_of u) _ _ k.locations,
    no_fewer ResetsStay (action_at t) (action_at u) _ _ k.actions,
    no_fewer Is (place_at t) (place_at u) _ _ k.processes,
  )

  -- variables, the invariants of locations, and the resets of actions
  pub variable_kept : (v : ℕ) → v < variable_count t → variable_at u v ≡ variable_at t v
  variable_kept = row_goes_on Is (variable_at t) (variable_at u) _ _ k.variables

  pub invariants_kept : (l : ℕ) → l < location_count t → invariants_of u l ≡ invariants_of t l
  invariants_kept = row_goes_on Is (invariants_of t) (invariants_of u) _ _ k.locations

  pub resets_kept : (a : ℕ) → a < action_count t → ResetsStay (action_at t a) (action_at u a)
  resets_kept = row_goes_on ResetsStay (action_at t) (action_at u) _ _ k.actions
