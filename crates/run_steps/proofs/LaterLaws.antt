-- Laws of limits on clocks that a wait has moved: each clock is moved by the delta.
use Prim.Native.Nat.{ℕ, ◌+◌, ◌<◌, ◌≤◌}
use mathlib.Core.Path.{◌≡◌}
use mathlib.Core.Bool.{true}
use mathlib.Core.List.{List}
use native.Mathlib.Omega.{arith}
use lib.ListN.{length, get_or}
use Rattle.laws.specs.Below.{all_below}
use Rattle.time.specs.Time.{in_range}
use Rattle.graph_tables.specs.Sizes.{last_time}
use Rattle.graph_tables.specs.Words.{clock_of, limit_range}
use Rattle.run_steps.specs.Steps.{limit_holds, clock_fits, shifted_below}
use Rattle.run_steps.proofs.StepLaws.{fits_at, shifted_at}

-- where every clock fits, the one that is read plus the delta is at most the last time
pub read_fits : (clocks : List ℕ) (delta n : ℕ) {c x : ℕ} → all_below n (clock_fits clocks delta) ≡ true → c < n → x ≡ c
    → get_or clocks x 0 + delta ≤ last_time
read_fits clocks delta n {x = x} h l e = fits_at clocks delta n x h (omega (arith, e, l))

-- a limit on the moved clocks is one on its own clock plus the delta
pub limit_later : (t : List ℕ) (g i : ℕ) (clocks : List ℕ) (delta n : ℕ) → clock_of t g i < n → n ≤ length clocks
    → in_range (limit_range t g i) (get_or clocks (clock_of t g i) 0 + delta) ≡ limit_holds t g (shifted_below clocks delta n) i
unfolding limit_holds
limit_later t g i clocks delta n l h = rw (shifted_at clocks delta n (clock_of t g i) l h)
