-- Time ranges.
use Rattle.std.specs.Prelude.{ℕ, ◌+◌, min, Bool, true, ◌&&◌, leb, ltb}
use Rattle.time.specs.declared.Bound.{Bound}
use Rattle.time.specs.declared.Bound.TheVariants.{Included, Excluded, Unbounded}
use Rattle.time.specs.declared.TimeRange.{TimeRange}

-- Each end is included, excluded or absent.
abbrev pub lower_met : Bound → ℕ → Bool
lower_met (Included b) t = leb b t
lower_met (Excluded b) t = ltb b t
lower_met Unbounded t = true

abbrev pub upper_met : Bound → ℕ → Bool
upper_met (Included b) t = leb t b
upper_met (Excluded b) t = ltb t b
upper_met Unbounded t = true

abbrev pub range_of : Bound → Bound → TimeRange
range_of lower upper = record { lower = lower; upper = upper }

abbrev pub in_range : TimeRange → ℕ → Bool
in_range r t = lower_met r.lower t && upper_met r.upper t

-- Shifting adds to each present bound and stops at 4294967295.
abbrev pub later_time : ℕ → ℕ → ℕ
later_time t d = min (t + d) 4294967295

abbrev pub shifted_bound : Bound → ℕ → Bound
shifted_bound (Included b) d = Included (later_time b d)
shifted_bound (Excluded b) d = Excluded (later_time b d)
shifted_bound Unbounded d = Unbounded

abbrev pub shifted_range : TimeRange → ℕ → TimeRange
shifted_range r d = range_of (shifted_bound r.lower d) (shifted_bound r.upper d)
