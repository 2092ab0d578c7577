-- What holds of every time range.
use Prim.Native.Nat.{ℕ, suc, ◌+◌, ◌≤◌}
use mathlib.Core.Path.{◌≡◌, refl, ap, ◌∙◌}
use mathlib.Core.Bool.{Bool, true, ◌&&◌}
use native.Mathlib.Omega.{arith}
use native.Mathlib.Nat.{min-eq_left}
use borrow.Author.Tests.{ltb-true, leb-true, lt-ltb, le-leb}
use Rattle.laws.specs.Examples.{Hold}
use Rattle.laws.proofs.Tests.{first, second, both, leb_same}
use Rattle.time.specs.Time.{lower_met, upper_met, in_range, shifted_bound, shifted_range}
use Rattle.time.specs.Marked.{examples}
use Rattle.time.specs.declared.Bound.{Bound}
use Rattle.time.specs.declared.Bound.TheVariants.{Included, Excluded, Unbounded}
use Rattle.time.specs.declared.TimeRange.{TimeRange}

-- a bound met from below stays met later, one met from above was met before
later : (b : Bound) (t u : ℕ) → t ≤ u → lower_met b t ≡ true → lower_met b u ≡ true
later (Included b) t u l h = le-leb b u (omega (arith, leb-true b t h))
later (Excluded b) t u l h = lt-ltb b u (omega (arith, ltb-true b t h))
later Unbounded t u l h = refl

earlier : (b : Bound) (t u : ℕ) → t ≤ u → upper_met b u ≡ true → upper_met b t ≡ true
earlier (Included b) t u l h = le-leb t b (omega (arith, leb-true u b h))
earlier (Excluded b) t u l h = lt-ltb t b (omega (arith, ltb-true u b h))
earlier Unbounded t u l h = refl

-- A range that holds at two times holds at every time between them.
pub between : (r : TimeRange) (from t to : ℕ) → from ≤ t → t ≤ to → in_range r from ≡ true → in_range r to ≡ true → in_range r t ≡ true
between r from t to l m h k =
    both (later r.lower from t l (first (lower_met r.lower from) (upper_met r.upper from) h))
    (earlier r.upper t to m (second (lower_met r.lower to) (upper_met r.upper to) k))

-- a bound that a shift does not stop
abbrev pub Below : Bound → ℕ → Type 0
Below (Included b) d = b + d ≤ 4294967295
Below (Excluded b) d = b + d ≤ 4294967295
Below Unbounded d = Unit {0}

bound_zero : (b : Bound) → Below b 0 → shifted_bound b 0 ≡ b
bound_zero (Included b) h = ap Included (min-eq_left h ∙ omega arith)
bound_zero (Excluded b) h = ap Excluded (min-eq_left h ∙ omega arith)
bound_zero Unbounded h = refl

-- Shifting by 0 is the identity.
pub shift_zero : (r : TimeRange) → Below r.lower 0 → Below r.upper 0 → shifted_range r 0 ≡ r
shift_zero r l u = rw (bound_zero r.lower l, bound_zero r.upper u)

lower_shift : (b : Bound) (d t : ℕ) → Below b d → lower_met (shifted_bound b d) (t + d) ≡ lower_met b t
lower_shift (Included b) d t h = rw (min-eq_left h) (leb_same (b + d) (t + d) b t (λ l. omega arith) (λ l. omega arith))
lower_shift (Excluded b) d t h = rw (min-eq_left h) (leb_same (suc (b + d)) (t + d) (suc b) t (λ l. omega arith) (λ l. omega arith))
lower_shift Unbounded d t h = refl

upper_shift : (b : Bound) (d t : ℕ) → Below b d → upper_met (shifted_bound b d) (t + d) ≡ upper_met b t
upper_shift (Included b) d t h = rw (min-eq_left h) (leb_same (t + d) (b + d) t b (λ l. omega arith) (λ l. omega arith))
upper_shift (Excluded b) d t h = rw (min-eq_left h) (leb_same (suc (t + d)) (b + d) (suc t) b (λ l. omega arith) (λ l. omega arith))
upper_shift Unbounded d t h = refl

-- Below saturation a shifted range holds at a later time exactly when the range held before.
pub contains_shift : (r : TimeRange) (d t : ℕ) → Below r.lower d → Below r.upper d → in_range (shifted_range r d) (t + d) ≡ in_range r t
contains_shift r d t l u =
    ap (λ (b : Bool). b && upper_met (shifted_bound r.upper d) (t + d)) (lower_shift r.lower d t l)
    ∙ ap (λ (b : Bool). lower_met r.lower t && b) (upper_shift r.upper d t u)

-- The marked examples.
pub marked : Hold examples
marked = (refl, tt)
