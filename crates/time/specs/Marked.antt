-- Marked examples of time ranges.
use Rattle.std.specs.Prelude.{false}
use Rattle.laws.specs.Examples.{Examples, end, gives}
use Rattle.time.specs.Time.{range_of, in_range}
use Rattle.time.specs.declared.Bound.TheVariants.{Excluded, Unbounded}

abbrev pub examples : Examples
examples =
    -- W7 lower bound excluded 3 at time 3: outside
    gives (in_range (range_of (Excluded 3) Unbounded) 3) false
    end
