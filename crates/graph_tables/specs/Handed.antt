-- Lists that are handed to building calls: what stands at a place of one.
use Rattle.std.specs.Prelude.{ℕ, get_or, replicate}
use Rattle.time.specs.declared.Bound.TheVariants.{Included}
use Rattle.time.specs.declared.TimeRange.{TimeRange}
use Rattle.graph_tables.specs.Sizes.{limit_room}
use Rattle.graph_tables.specs.declared.handed.Limit.{Limit}
use Rattle.graph_tables.specs.declared.handed.Limits.{Limits}
use Rattle.graph_tables.specs.declared.handed.Vars.{Vars}

-- what stands past the end, and in the slots of an empty list
abbrev pub blank_limit : Limit
blank_limit = record { clock = record { 0 = 0 }; range = record { lower = Included 0; upper = Included 0 } }

abbrev pub no_limits : Limits
no_limits = record { limits = replicate limit_room blank_limit; count = 0 }

-- the clock of limit i, and the times at which it may stand
abbrev pub handed_clock : Limits → ℕ → ℕ
handed_clock l i = (get_or l.limits i blank_limit).clock.0

abbrev pub handed_range : Limits → ℕ → TimeRange
handed_range l i = (get_or l.limits i blank_limit).range

-- variable i
abbrev pub handed_var : Vars → ℕ → ℕ
handed_var v i = (get_or v.vars i (record { 0 = 0 })).0
