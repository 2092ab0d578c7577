-- Places past the number of processes make no difference to what waits and what is listed, so the used ones alone are lent.
use Prim.Native.Nat.{ℕ, zero, suc, ◌<◌}
use mathlib.Core.Path.{◌≡◌, refl, ap}
use mathlib.Core.Bool.{cond}
use mathlib.Core.List.{List, [], ◌∷◌}
use native.Mathlib.Nat.{le_of_suc-le-suc, not-suc-le-zero}
use native.Mathlib.Omega.{arith}
use lib.ListN.{get_or, take}
use Rattle.laws.specs.Below.{any_below}
use Rattle.grammar.specs.declared.values.Slot.{Slot}
use Rattle.graph_tables.specs.Words.{action_count, transition_count, key_of, action_of, epsilon}
use Rattle.graph_tables.specs.declared.answers.Entry.{Entry}
use Rattle.run_steps.specs.Steps.{leaves_by}
use Rattle.run_steps.specs.Waiting.{place_has, shared_of, awaited_of, process_waits, waiting_of}
use Rattle.run_steps.proofs.AnyLaws.{all_same_lem, any_same}
use Rattle.run_steps.specs.Listing.{join_below, process_entries, shared_entries, listing_of}

-- ---- lists that are the same below a bound
pub join_same : (f g : ℕ → List Entry) (n : ℕ) → ((i : ℕ) → i < n → f i ≡ g i) → join_below n f ≡ join_below n g
unfolding join_below
join_same f g zero h = refl
join_same f g (suc n) h = cc (join_same f g n (λ i l. h i (omega arith)), h n (omega arith))

-- ---- two lists of places that are the same for n processes
module _ (t : List ℕ) (clocks : List ℕ) (xs ys : List ℕ) (n : ℕ) (same : (p : ℕ) → p < n → get_or xs p 0 ≡ get_or ys p 0) where
  shared_same : (action : ℕ) → shared_of t xs n action ≡ shared_of t ys n action
  unfolding shared_of place_has
  shared_same action =
      all_same_lem (place_has t xs action) (place_has t ys action) n
      (λ p l. ap (λ (x : ℕ). any_below (transition_count t) (leaves_by t x action)) (same p l))

  pub waiting_same : waiting_of t clocks xs n ≡ waiting_of t clocks ys n
  unfolding waiting_of process_waits awaited_of
  waiting_same =
      any_same (process_waits t clocks xs n) (process_waits t clocks ys n) n
      (λ p l. any_same (awaited_of t clocks xs n p) (awaited_of t clocks ys n p) (transition_count t)
      (λ k m. rw (same p l, shared_same (action_of (key_of t k)))))

  pub shared_entries_same : (vars : List Slot) (action : ℕ)
      → shared_entries t vars clocks xs n action ≡ shared_entries t vars clocks ys n action
  unfolding shared_entries
  shared_entries_same vars action =
      rw (shared_same action)
      (ap (λ (es : List Entry). cond (shared_of t ys n action) es [])
      (join_same (λ p. process_entries t vars clocks (get_or xs p 0) action p) (λ p. process_entries t vars clocks (get_or ys p 0) action p) n
      (λ p l. ap (λ (x : ℕ). process_entries t vars clocks x action p) (same p l))))

  pub listing_same : (vars : List Slot) → listing_of t vars clocks xs n ≡ listing_of t vars clocks ys n
  listing_same vars =
      let shared = shared_entries_same vars in
      cc (join_same (shared_entries t vars clocks xs n) (shared_entries t vars clocks ys n) (action_count t) (λ a l. shared a), shared epsilon)

-- ---- the used places
pub used_at : (xs : List ℕ) (n p : ℕ) → p < n → get_or (take n xs) p 0 ≡ get_or xs p 0
used_at xs zero p l = absurd (not-suc-le-zero l)
used_at [] (suc n) p l = refl
used_at (x ∷ xs) (suc n) zero l = refl
used_at (x ∷ xs) (suc n) (suc p) l = used_at xs n p (le_of_suc-le-suc l)

module _ (t clocks places : List ℕ) (n : ℕ) where
  pub waiting_used : waiting_of t clocks (take n places) n ≡ waiting_of t clocks places n
  waiting_used = waiting_same t clocks (take n places) places n (used_at places n)

  pub shared_entries_used : (vars : List Slot) (action : ℕ)
      → shared_entries t vars clocks (take n places) n action ≡ shared_entries t vars clocks places n action
  shared_entries_used = shared_entries_same t clocks (take n places) places n (used_at places n)

  pub listing_used : (vars : List Slot) → listing_of t vars clocks (take n places) n ≡ listing_of t vars clocks places n
  listing_used = listing_same t clocks (take n places) places n (used_at places n)
