-- What the inner functions say of expressions in a table. No public call speaks of it.
use Rattle.std.specs.Prelude.{ℕ, ◌+◌, Bool, cond, List, leb, take, drop}
use Rattle.laws.specs.Below.{◌and◌, all_below, sum_below}
use Rattle.grammar.specs.Inner.{known_in}
use Rattle.graph_tables.specs.Sizes.{item_room, draw_room}
use Rattle.graph_tables.specs.Words.{kinds_of}

-- n words from a place on as an expression, where there is room for them: its kind and its draws as one number
unfoldable pub known_at : List ℕ → ℕ → ℕ → ℕ
known_at t n from = cond (leb n item_room) (known_in (kinds_of t) (take n (drop from t))) 3

-- the draws of what is well formed; more than there is room for, of what is not
abbrev pub draws_if : Bool → ℕ → ℕ
draws_if formed draws = cond formed draws (draw_room + 1)

-- all are well formed, and there is room for their draws together
abbrev pub all_within : ℕ → (ℕ → Bool) → (ℕ → ℕ) → Bool
all_within n formed draws = all_below n formed and leb (sum_below n draws) draw_room
