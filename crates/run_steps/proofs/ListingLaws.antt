-- Laws of seeking an entry in lists that are joined, for loops that pass over what comes before it; and of what is found.
use Prim.Native.Nat.{ℕ, zero, suc, ◌+◌, ◌-◌, ◌<◌, ◌≤◌}
use mathlib.Core.Path.{◌≡◌, refl, sym, ap, ◌∙◌}
use mathlib.Core.Bool.{Bool, true, false, cond}
use mathlib.Core.List.{List, [], ◌∷◌, ◌++◌, Memᴰ}
use mathlib.Core.Logic.{⊎_elim}
use native.Mathlib.Nat.{le_of_suc-le-suc, not-suc-le-zero, eq-or-lt_of_le, le_antisymm}
use native.Mathlib.Decide.{ℕ_discrete}
use native.Mathlib.Numerals.{add-one}
use native.Mathlib.Omega.{arith}
use lib.Dec.{eqb, ltb}
use lib.ListN.{length}
use borrow.Author.Tests.{eqb-true, eq-eqb, ne_eqb, lt-ltb, le-ltb}
use Rattle.laws.proofs.BelowLaws.{and_first, and_rest, and_both, and_no, and_false}
use Rattle.grammar.specs.declared.values.Slot.{Slot}
use Rattle.graph_tables.specs.Sizes.{plain_kind, send_kind}
use Rattle.graph_tables.specs.Words.{action_count, action_kind, reset_count, key_of, pre_of, action_of, epsilon}
use Rattle.graph_tables.specs.Sound.{Sound}
use Rattle.graph_tables.specs.declared.answers.Entry.{Entry}
use Rattle.run_steps.specs.Steps.{is_kind, reset_below, clocks_after, leaves_by}
use Rattle.run_steps.specs.Rows.{Ascending}
use Rattle.run_steps.specs.Listing.{seek, join_below, clocks_by, opens_by, entry_of, process_entries}
use Rattle.run_steps.specs.declared.inner.listing.Sought.{Sought}
use Rattle.run_steps.specs.declared.inner.listing.Sought.TheVariants.{Found, Left}
use Rattle.run_steps.proofs.StepLaws.{reset_length}
use Rattle.run_steps.proofs.KeyLaws.{Asked}

-- ---- two lists in a row: what is found in the first is found in both; what is passed there is sought in the second
module _ (ys : List Entry) where
  pub seek_found : {e : Entry} (xs : List Entry) (k : ℕ) → seek xs k ≡ Found e → seek (xs ++ ys) k ≡ Found e
  seek_found [] k h = let z : ◌≡◌ {A = ℕ} 0 1 = cc in absurd (omega arith)
  seek_found (x ∷ xs) zero h = h
  seek_found (x ∷ xs) (suc k) h = seek_found xs k h

  pub seek_left : {m : ℕ} (xs : List Entry) (k : ℕ) → seek xs k ≡ Left m → seek (xs ++ ys) k ≡ seek ys m
  seek_left [] k h = ap (seek ys) (cc)
  seek_left (x ∷ xs) zero h = let z : ◌≡◌ {A = ℕ} 0 1 = cc in absurd (omega arith)
  seek_left (x ∷ xs) (suc k) h = seek_left xs k h

  -- the same for r, which is what was sought in one of the two
  pub first_found : {r : Sought} {e : Entry} (xs : List Entry) (k : ℕ) → r ≡ seek xs k → r ≡ Found e → r ≡ seek (xs ++ ys) k
  first_found xs k q e = e ∙ sym (seek_found xs k (sym q ∙ e))

  pub first_passed : {r : Sought} {m : ℕ} (xs : List Entry) (k : ℕ) → seek xs k ≡ Left m → r ≡ seek ys m → r ≡ seek (xs ++ ys) k
  first_passed xs k h q = q ∙ sym (seek_left xs k h)

-- ---- lists joined, list i being g i
module _ (g : ℕ → List Entry) (k : ℕ) where
  next : {m : ℕ} (i : ℕ) → seek (join_below i g) k ≡ Left m → seek (join_below (i + 1) g) k ≡ seek (g i) m
  unfolding join_below
  next i h = rw add-one (seek_left (g i) (join_below i g) k h)

  -- what is found in the first i lists is found in the first n
  kept : {e : Entry} (n i : ℕ) → i ≤ n → seek (join_below i g) k ≡ Found e → seek (join_below n g) k ≡ Found e
  unfolding join_below
  kept zero i l h = let q : i ≡ 0 = omega arith in rw q at h
  kept (suc n) i l h =
      ⊎_elim
      (λ (q : i ≡ suc n). rw q at h)
      (λ (q : i < suc n). seek_found (g n) (join_below n g) k (kept n i (le_of_suc-le-suc q) h))
      (eq-or-lt_of_le l)

  -- none is passed yet
  pub join_none : seek (join_below 0 g) k ≡ Left k
  unfolding join_below
  join_none = refl

  -- r is what was sought in list i: it is passed, or found there
  pub join_more : {r : Sought} {m rest : ℕ} (i : ℕ) → seek (join_below i g) k ≡ Left m → r ≡ seek (g i) m → r ≡ Left rest
      → seek (join_below (i + 1) g) k ≡ Left rest
  join_more i h q e = next i h ∙ sym q ∙ e

  pub join_found : {r : Sought} {m : ℕ} {e : Entry} (n i : ℕ) → i < n → seek (join_below i g) k ≡ Left m → r ≡ seek (g i) m → r ≡ Found e
      → r ≡ seek (join_below n g) k
  join_found n i l h q e = e ∙ sym (kept n (i + 1) (omega arith) (next i h ∙ sym q ∙ e))

  -- all are passed
  pub join_done : {m : ℕ} (n i : ℕ) → i ≤ n → n ≤ i → seek (join_below i g) k ≡ Left m → seek (join_below n g) k ≡ Left m
  join_done n i l q h = rw (le_antisymm l q) at h

-- ---- a list of one entry, if a test holds
module _ {b : Bool} (e : Entry) where
  pub one_found : (m : ℕ) → b ≡ true → m ≡ 0 → Found e ≡ seek (cond b (e ∷ []) []) m
  one_found m h z = rw (h, z)

  pub one_passed : (m : ℕ) → b ≡ true → (m ≡ 0 → ⊥) → Left (m - 1) ≡ seek (cond b (e ∷ []) []) m
  one_passed zero h z = absurd (z refl)
  one_passed (suc m) h z = rw h (ap Left (omega arith))

  pub none_passed : (m : ℕ) → b ≡ false → Left m ≡ seek (cond b (e ∷ []) []) m
  none_passed m h = rw h

-- ---- a process at a location, by an action: both stand in the first key of a transition from the one by the other
module _ (t : List ℕ) (vars : List Slot) (clocks : List ℕ) where
  pub opens_entry : (pre action p k : ℕ) → opens_by t vars clocks pre action k ≡ true
      → entry_of t (action_of (key_of t k)) p k ≡ entry_of t action p k
  unfolding opens_by leaves_by
  opens_entry pre action p k h = ap (λ (a : ℕ). entry_of t a p k) (eqb-true _ _ (and_rest _ _ (and_first _ _ h)))

  pub process_sought :
      {r : Sought} {first pre action : ℕ} → Asked first pre action 0 → (p m : ℕ) →
      r ≡ seek (process_entries t vars clocks (pre_of first) (action_of first) p) m → r ≡ seek (process_entries t vars clocks pre action p) m
  process_sought {first = first} {pre = pre} s p m h =
      h
      ∙ ap (λ (x : ℕ). seek (process_entries t vars clocks x (action_of first) p) m) s.pre
      ∙ ap (λ (x : ℕ). seek (process_entries t vars clocks pre x p) m) s.action

-- ---- what is found is a member, in the list's order
pub found_in : {e : Entry} (list : List Entry) (i : ℕ) → seek list i ≡ Found e → Memᴰ e list
found_in [] i h = let z : ◌≡◌ {A = ℕ} 0 1 = cc in absurd (omega arith)
found_in {e} (x ∷ list) zero h = let q : e ≡ x = cc in Memᴰ.head q
found_in (x ∷ list) (suc i) h = Memᴰ.tail (found_in list i h)

pub in_found : {e : Entry} {list : List Entry} → Memᴰ e list → (i : ℕ) × (seek list i ≡ Found e)
in_found (Memᴰ.head q) = (zero, ap Found (sym q))
in_found (Memᴰ.tail m) = let r = in_found m in (suc r.0, r.1)

pub found_ascending :
    (Before : Entry → Entry → Type 0) {e d : Entry} (list : List Entry) → Ascending Before list → (i j : ℕ) → i < j → seek list i ≡ Found e
    → seek list j ≡ Found d → Before e d
found_ascending Before [] a i j l h k = let z : ◌≡◌ {A = ℕ} 0 1 = cc in absurd (omega arith)
found_ascending Before (x ∷ list) a i zero l h k = absurd (not-suc-le-zero l)
found_ascending Before {e} {d} (x ∷ list) a zero (suc j) l h k = let q : x ≡ e = cc in rw q at (a.0 d (found_in list j k))
found_ascending Before (x ∷ list) a (suc i) (suc j) l h k = found_ascending Before list a.1 i j (le_of_suc-le-suc l) h k

-- what is not found is past the end
pub left_past : {m : ℕ} (list : List Entry) (i : ℕ) → seek list i ≡ Left m → i ≡ length list + m
left_past {m} [] i h = let q : i ≡ m = cc in omega arith
left_past (x ∷ list) zero h = let z : ◌≡◌ {A = ℕ} 0 1 = cc in absurd (omega arith)
left_past (x ∷ list) (suc i) h = let q = left_past list i h in omega arith

pub past_left : (m : ℕ) (list : List Entry) (i : ℕ) → i ≡ length list + m → seek list i ≡ Left m
past_left m [] i h = ap Left (omega arith)
past_left m (x ∷ list) zero h = absurd (omega arith)
past_left m (x ∷ list) (suc i) h = past_left m list i (omega arith)

-- ---- the clocks on which post-invariants are read (StepLaws' reset_at_lem and reset_other say what a plain action's are)
either_length : {A : Type 0} (b : Bool) (xs ys : List A) → length xs ≡ length ys → length (cond b xs ys) ≡ length ys
either_length true xs ys e = e
either_length false xs ys e = refl

module _ (t clocks : List ℕ) where
  pub clocks_by_length : (a : ℕ) → length (clocks_by t a clocks) ≡ length clocks
  clocks_by_length a = either_length (is_kind t a plain_kind) (clocks_after t a clocks) clocks (reset_length t a clocks (reset_count t a))

  pub clocks_by_plain : (a : ℕ) → a < action_count t → action_kind t a ≡ plain_kind → clocks_by t a clocks ≡ clocks_after t a clocks
  clocks_by_plain a known plain = rw (and_both (lt-ltb a (action_count t) known) (eq-eqb (action_kind t a) plain_kind plain))

  pub clocks_by_message : (a : ℕ) → (action_kind t a ≡ plain_kind → ⊥) → clocks_by t a clocks ≡ clocks
  clocks_by_message a message = rw (ne_eqb (action_kind t a) plain_kind message, and_false (ltb a (action_count t)))

  pub clocks_by_unknown : (a : ℕ) → action_count t ≤ a → clocks_by t a clocks ≡ clocks
  clocks_by_unknown a l = rw (← (and_no (eqb (action_kind t a) plain_kind) (le-ltb a (action_count t) l)))

  pub clocks_by_epsilon : Sound t → clocks_by t epsilon clocks ≡ clocks
  clocks_by_epsilon s = clocks_by_unknown epsilon (omega (arith, s.counts.actions))

  -- a communication has no resets
  message_still : Sound t → (a : ℕ) → a < action_count t → (action_kind t a ≡ plain_kind → ⊥) → reset_count t a ≡ 0
  message_still s a known message = by (ℕ_discrete (action_kind t a) send_kind)
    where
      by : Dec (action_kind t a ≡ send_kind) → reset_count t a ≡ 0
      by (yes e) = ((s.action a known).send e).still
      by (no h) = ((s.action a known).receive (omega (arith, (s.action a known).kind))).still

  -- so the kind of an action of the table makes no difference
  pub clocks_by_known : Sound t → (a : ℕ) → a < action_count t → clocks_by t a clocks ≡ clocks_after t a clocks
  unfolding reset_below
  clocks_by_known s a known = by (ℕ_discrete (action_kind t a) plain_kind)
    where
      by : Dec (action_kind t a ≡ plain_kind) → clocks_by t a clocks ≡ clocks_after t a clocks
      by (yes e) = clocks_by_plain a known e
      by (no h) = clocks_by_message a h ∙ sym (ap (reset_below t a clocks) (message_still s a known h))
