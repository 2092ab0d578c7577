-- What a run may do next, as one list: action, process, post, ascending in that order (docs/RULES.md, 'Listing').
use Rattle.std.specs.Prelude.{ℕ, zero, suc, ◌*◌, ◌≡◌, Bool, cond, List, [], ◌∷◌, ◌++◌, length, get_or}
use Rattle.laws.specs.Below.{◌and◌}
use Rattle.grammar.specs.declared.values.Slot.{Slot}
use Rattle.graph_tables.specs.Sizes.{variable_room, clock_room, plain_kind}
use Rattle.graph_tables.specs.Words.{action_count, transition_count, key_of, post_of, epsilon}
use Rattle.graph_tables.specs.Sound.{Sound}
use Rattle.graph_tables.specs.declared.answers.Entry.{Entry}
use Rattle.run_steps.specs.Steps.{passes_of, is_kind, clocks_after, leaves_by}
use Rattle.run_steps.specs.Waiting.{PlacesKnown, shared_of}
use Rattle.run_steps.specs.declared.inner.listing.Sought.{Sought}
use Rattle.run_steps.specs.declared.inner.listing.Sought.TheVariants.{Found, Left}

-- what seeking asks for: a table that is sound, words for every variable and clock that there may be, and known places
abbrev pub Lent : List ℕ → List ℕ → List ℕ → List ℕ → Type 0
Lent t vars clocks places = Sound t × (length vars ≡ 2 * variable_room) × (length clocks ≡ clock_room) × PlacesKnown t places

-- entry k of a list, or how far past the end k is
abbrev pub seek : List Entry → ℕ → Sought
seek [] k = Left k
seek (e ∷ es) zero = Found e
seek (e ∷ es) (suc k) = seek es k

-- the lists of every number below a bound, one after the other
unfoldable pub join_below : ℕ → (ℕ → List Entry) → List Entry
join_below zero f = []
join_below (suc n) f = join_below n f ++ f n

-- the clocks on which the invariants of post-locations are read: with a plain action's resets done; nothing else resets
abbrev pub clocks_by : List ℕ → ℕ → List ℕ → List ℕ
clocks_by t a clocks = cond (is_kind t a plain_kind) (clocks_after t a clocks) clocks

-- transition k leaves a location by the action, and passes
unfoldable pub opens_by : List ℕ → List Slot → List ℕ → ℕ → ℕ → ℕ → Bool
opens_by t vars clocks pre action k = leaves_by t pre action k and passes_of t vars clocks (clocks_by t action clocks) k

abbrev pub entry_of : List ℕ → ℕ → ℕ → ℕ → Entry
entry_of t action p k = record { action = record { 0 = action }; process = p; post = post_of (key_of t k) }

-- process p at a location: an entry for each transition that passes, so that a post may stand there twice
abbrev pub process_entries : List ℕ → List Slot → List ℕ → ℕ → ℕ → ℕ → List Entry
process_entries t vars clocks pre action p =
    join_below (transition_count t) (λ k. cond (opens_by t vars clocks pre action k) (entry_of t action p k ∷ []) [])

-- the first n processes, each at its place
abbrev pub action_entries : List ℕ → List Slot → List ℕ → List ℕ → ℕ → ℕ → List Entry
action_entries t vars clocks places n action = join_below n (λ p. process_entries t vars clocks (get_or places p 0) action p)

-- an action counts if every one of n processes has it at its location
unfoldable pub shared_entries : List ℕ → List Slot → List ℕ → List ℕ → ℕ → ℕ → List Entry
shared_entries t vars clocks places n action = cond (shared_of t places n action) (action_entries t vars clocks places n action) []

-- the table's actions, and last the reserved one
abbrev pub listing_of : List ℕ → List Slot → List ℕ → List ℕ → ℕ → List Entry
listing_of t vars clocks places n =
    join_below (action_count t) (shared_entries t vars clocks places n) ++ shared_entries t vars clocks places n epsilon
