-- Laws of seeking an entry among those of all graphs, for a loop over the graphs.
use Rattle.std.specs.Prelude.{Ok, Some, None}
use Prim.Native.Nat.{ℕ, zero, suc, ◌+◌, ◌<◌}
use mathlib.Core.Path.{◌≡◌, refl, sym, ap, ◌∙◌}
use mathlib.Core.List.{List, [], ◌∷◌, ◌++◌, append_assoc, append-nil}
use mathlib.Core.Logic.{⊎_elim}
use native.Mathlib.Nat.{le_of_suc-le-suc, not-suc-le-zero, eq-or-lt_of_le}
use native.Mathlib.Numerals.{add-one}
use native.Mathlib.Omega.{arith}
use Rattle.graph_tables.specs.declared.answers.Entry.{Entry}
use Rattle.run_steps.specs.Listing.{seek}
use Rattle.run_steps.specs.declared.inner.listing.Sought.TheVariants.{Found, Left}
use Rattle.channel_system.specs.Listing.{Possible, of_graph, listed_on, listed_below, entry_at}

-- entry k of two lists in a row is entry m of the second
abbrev pub Passes : List Possible → ℕ → ℕ → Type 0
Passes ps k m = (qs : List Possible) → entry_at (ps ++ qs) k ≡ entry_at qs m

-- ---- the list of graph g: what is found there is found in front of any list, and what is passed there is sought in that list
module _ (g : ℕ) (qs : List Possible) where
  of_found : {e : Entry} (es : List Entry) (k : ℕ) → seek es k ≡ Found e → entry_at (of_graph g es ++ qs) k ≡ Ok (Some ((record { 0 = g }), e))
  of_found [] k h = let z : ◌≡◌ {A = ℕ} 0 1 = cc in absurd (omega arith)
  of_found {e} (x ∷ es) zero h = let q : x ≡ e = cc in ap ((λ x. Ok (Some ((record { 0 = g }), x)))) q
  of_found (x ∷ es) (suc k) h = of_found es k h

  of_left : {m : ℕ} (es : List Entry) (k : ℕ) → seek es k ≡ Left m → entry_at (of_graph g es ++ qs) k ≡ entry_at qs m
  of_left [] k h = ap (entry_at qs) (cc)
  of_left (x ∷ es) zero h = let z : ◌≡◌ {A = ℕ} 0 1 = cc in absurd (omega arith)
  of_left (x ∷ es) (suc k) h = of_left es k h

-- ---- the lists of the first i graphs, one behind the other
module _ (t s : List ℕ) (k : ℕ) where
  pub passes_none : Passes (listed_below t s 0) k k
  unfolding listed_below
  passes_none qs = refl

  pub passes_more : {m rest : ℕ} (i : ℕ) → Passes (listed_below t s i) k m → seek (listed_on t s i) m ≡ Left rest
      → Passes (listed_below t s (i + 1)) k rest
  unfolding listed_below
  passes_more {m} i p h qs =
      rw add-one
      (ap (λ (x : List Possible). entry_at x k) (append_assoc (listed_below t s i) (of_graph i (listed_on t s i)) qs)
      ∙ p (of_graph i (listed_on t s i) ++ qs)
      ∙ of_left i qs (listed_on t s i) m h)

  -- the entry of graph i, in front of any list
  found_here : {m : ℕ} {e : Entry} (i : ℕ) → Passes (listed_below t s i) k m → seek (listed_on t s i) m ≡ Found e → (qs : List Possible)
      → entry_at (listed_below t s (suc i) ++ qs) k ≡ Ok (Some ((record { 0 = i }), e))
  unfolding listed_below
  found_here {m} i p h qs =
      ap (λ (x : List Possible). entry_at x k) (append_assoc (listed_below t s i) (of_graph i (listed_on t s i)) qs)
      ∙ p (of_graph i (listed_on t s i) ++ qs)
      ∙ of_found i qs (listed_on t s i) m h

  -- it stays however many graphs follow
  found_among : {m : ℕ} {e : Entry} (n i : ℕ) → i < n → Passes (listed_below t s i) k m → seek (listed_on t s i) m ≡ Found e
      → (qs : List Possible) → entry_at (listed_below t s n ++ qs) k ≡ Ok (Some ((record { 0 = i }), e))
  unfolding listed_below
  found_among zero i l p h qs = absurd (not-suc-le-zero l)
  found_among (suc n) i l p h qs =
      ⊎_elim
      (λ (q : i ≡ n). ap (λ (j : ℕ). entry_at (listed_below t s (suc j) ++ qs) k) (sym q) ∙ found_here i p h qs)
      (λ (q : i < n).
      ap (λ (x : List Possible). entry_at x k) (append_assoc (listed_below t s n) (of_graph n (listed_on t s n)) qs)
      ∙ found_among n i q p h (of_graph n (listed_on t s n) ++ qs))
      (eq-or-lt_of_le (le_of_suc-le-suc l))

  pub entry_found : {m : ℕ} {e : Entry} (n i : ℕ) → i < n → Passes (listed_below t s i) k m → seek (listed_on t s i) m ≡ Found e
      → Ok (Some ((record { 0 = i }), e)) ≡ entry_at (listed_below t s n) k
  entry_found n i l p h =
      sym (ap (λ (x : List Possible). entry_at x k) (sym (append-nil (listed_below t s n))) ∙ found_among n i l p h [])

  -- all are passed
  pub entry_end : {m : ℕ} (n i : ℕ) → i ≡ n → Passes (listed_below t s i) k m → (Ok None) ≡ entry_at (listed_below t s n) k
  entry_end n i e p =
      sym (ap (λ (x : List Possible). entry_at x k) (sym (append-nil (listed_below t s n))) ∙ (rw e at (p [])))
