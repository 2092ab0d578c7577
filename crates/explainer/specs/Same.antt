-- Whether the lent tables are the built ones (docs/RULES.md, 'Why a step answered 8'): every used word. No other is looked at.
use Rattle.std.specs.Prelude.{ℕ, ◌*◌, Bool, List, eqb, length, get_or, take, drop}
use Rattle.laws.specs.Below.{◌and◌, all_below}
use Rattle.graph_tables.specs.Layout.{limit_width, group_start}
use Rattle.graph_tables.specs.Words.{location_count, transition_count, invariant_count, guard_length, guard_items, limit_count, invariant_group}
use Rattle.system_tables.specs.Words.{graph_count, graph_part}
use Rattle.explainer.specs.Layout.{all_guards, all_limits, guard_at, group_at}

-- n words from a place on
abbrev pub part : List ℕ → ℕ → ℕ → List ℕ
part xs from n = take n (drop from xs)

-- two lists of a length have the same words
unfoldable pub word_same : List ℕ → List ℕ → ℕ → Bool
word_same xs ys i = eqb (get_or xs i 0) (get_or ys i 0)

unfoldable pub all_same : List ℕ → List ℕ → Bool
all_same xs ys = all_below (length xs) (word_same xs ys)

-- ---- of the graph with the words t, which has number g: the guard of transition k, and the n limits of a group
unfoldable pub guard_same : List ℕ → List ℕ → ℕ → ℕ → Bool
guard_same t guards g k = all_same (part guards (guard_at g k) (guard_length t k)) (guard_items t k)

unfoldable pub limits_same : List ℕ → List ℕ → ℕ → ℕ → ℕ → Bool
limits_same t limits g group n = all_same (part limits (group_at g group) (limit_width * n)) (part t (group_start group) (limit_width * n))

unfoldable pub transition_same : List ℕ → List ℕ → List ℕ → ℕ → ℕ → Bool
transition_same t guards limits g k = guard_same t guards g k and limits_same t limits g k (limit_count t k)

unfoldable pub location_same : List ℕ → List ℕ → ℕ → ℕ → Bool
location_same t limits g l = limits_same t limits g (invariant_group l) (invariant_count t l)

-- ---- of a system: graph g, and all
unfoldable pub graph_same : List ℕ → List ℕ → List ℕ → ℕ → Bool
graph_same t guards limits g =
    all_below (transition_count (graph_part t g)) (transition_same (graph_part t g) guards limits g)
    and all_below (location_count (graph_part t g)) (location_same (graph_part t g) limits g)

unfoldable pub tables_same : List ℕ → List ℕ → List ℕ → Bool
tables_same t guards limits =
    eqb (length guards) all_guards and eqb (length limits) all_limits and all_below (graph_count t) (graph_same t guards limits)
