-- What the tests of a system's table say of its parts.
use Prim.Native.Nat.{ℕ, ◌≤◌, ◌<◌}
use mathlib.Core.Path.{◌≡◌}
use mathlib.Core.Bool.{Bool, true}
use mathlib.Core.List.{List}
use borrow.Author.Tests.{ltb-true, leb-true, eq-eqb}
use Rattle.laws.specs.Below.{all_below}
use Rattle.laws.proofs.BelowLaws.{and_first, and_rest, all_at}
use Rattle.graph_tables.specs.Sizes.{message_room}
use Rattle.graph_tables.specs.Sound.{Sound}
use Rattle.graph_tables.proofs.SoundLaws.{sound}
use Rattle.system_tables.specs.Sizes.{graph_room, channel_room}
use Rattle.system_tables.specs.Words.{graph_count, channel_count, width_of, graph_part}
use Rattle.system_tables.specs.Formed.{system_counted, graph_formed, capacity_formed, channel_formed}
use Rattle.system_tables.specs.Sound.{BoundFits}

-- counts
pub few_graphs : (t : List ℕ) → system_counted t ≡ true → graph_count t ≤ graph_room
unfolding system_counted
few_graphs t h = leb-true _ _ (and_first _ _ h)

pub few_channels : (t : List ℕ) → system_counted t ≡ true → channel_count t ≤ channel_room
unfolding system_counted
few_channels t h = leb-true _ _ (and_rest _ _ h)

-- graphs
pub graphs_sound : (t : List ℕ) (building : Bool) (n : ℕ) → all_below n (graph_formed t building) ≡ true
    → (g : ℕ) → g < n → Sound (graph_part t g)
unfolding graph_formed
graphs_sound t building n h g l = sound (graph_part t g) building (all_at (graph_formed t building) n g h l)

-- channels
pub bound_fits : (t : List ℕ) (q : ℕ) → capacity_formed t q ≡ true → BoundFits t q
unfolding capacity_formed
bound_fits t q h e = ltb-true _ _ (rw (eq-eqb _ _ e) at h)

pub channel_narrow : (t : List ℕ) (q : ℕ) → channel_formed t q ≡ true → width_of t q ≤ message_room
unfolding channel_formed
channel_narrow t q h = leb-true _ _ (and_first _ _ h)

pub channel_width : (t : List ℕ) (n q : ℕ) → all_below n (channel_formed t) ≡ true → q < n → width_of t q ≤ message_room
channel_width t n q h l = channel_narrow t q (all_at (channel_formed t) n q h l)
