-- What a sound table says of groups of limits, in the forms that the functions on them ask for.
use Prim.Native.Nat.{ℕ, ◌<◌}
use mathlib.Core.List.{List}
use native.Mathlib.Omega.{arith}
use Rattle.graph_tables.specs.Sizes.{group_room, limit_room}
use Rattle.graph_tables.specs.Words.{Words, location_count, transition_count, invariant_count, limit_count, invariant_group, clock_of}
use Rattle.graph_tables.specs.Sound.{BoundsFit, LimitsSound, Sound}

pub limit_known_lem : {t : List ℕ} {g n i : ℕ} → Sound t → g < group_room → LimitsSound t g n → i < n
    → Words t × (g < group_room) × (i < limit_room) × BoundsFit t g i × (clock_of t g i < limit_room)
limit_known_lem {i = i} s l limits h =
    (s.words, l, omega (arith, limits.few), limits.fit i h, omega (arith, limits.clock i h, s.counts.clocks))

pub limits_of_transition : {t : List ℕ} {k : ℕ} → Sound t → k < transition_count t
    → Sound t × (k < group_room) × LimitsSound t k (limit_count t k)
limits_of_transition {k = k} s l = (s, omega (arith, s.counts.transitions), (s.transition k l).limits)

pub invariants_of_location : {t : List ℕ} {l : ℕ} → Sound t → l < location_count t
    → Sound t × (invariant_group l < group_room) × LimitsSound t (invariant_group l) (invariant_count t l)
invariants_of_location {l = l} s h = (s, omega (arith, s.counts.locations), s.invariants l h)
