-- How much a queue holds (docs/RULES.md, 'Systems', Ceiling).
use Rattle.std.specs.Prelude.{ℕ, ◌+◌, ◌-◌, ◌*◌, ◌/◌, Bool, cond, eqb, leb}
use Rattle.queues.specs.Layout.{slot_room}
use Rattle.queues.specs.Queues.{slots_for}
use Rattle.system_tables.specs.declared.ids.ChannelCapacity.{ChannelCapacity}
use Rattle.system_tables.specs.declared.ids.ChannelCapacity.TheVariants.{Bounded, Unbounded, Sink}

-- n divided by d, rounded up
abbrev pub rounded_up : ℕ → ℕ → ℕ
rounded_up n d = (n + (d - 1)) / d

-- a queue is filled by whole messages while fewer slots than its bound are taken, so it ends at the bound rounded up to
-- whole messages; without a bound there is room for 64; a sink stores nothing
abbrev pub filled_to : ℕ → ChannelCapacity → ℕ
filled_to slots (Bounded n) = slots * rounded_up n slots
filled_to slots Unbounded = slot_room
filled_to slots Sink = 0

-- the most slots that are ever taken: none where a message takes none
unfoldable pub ceiling : ℕ → ChannelCapacity → ℕ
ceiling width capacity = cond (eqb (slots_for width) 0) 0 (filled_to (slots_for width) capacity)

-- there is room for as much: else 31
unfoldable pub has_room : ℕ → ChannelCapacity → Bool
has_room width capacity = leb (ceiling width capacity) slot_room
