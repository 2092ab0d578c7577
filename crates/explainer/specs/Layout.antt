-- Where words stand in the two tables that are lent to the explainer (docs/LAYOUT.md, 'The tables of the explainer'): of each graph the
-- region of its guards' items, and the region of its limits, one graph after the other.
use Rattle.std.specs.Prelude.{ℕ, ◌+◌, ◌*◌}
use Rattle.graph_tables.specs.Sizes.{item_room}
use Rattle.graph_tables.specs.Layout.{group_width, limit_width}

-- ---- the region of one graph, and all words of each table
abbrev pub guard_words : ℕ
guard_words = 8192

abbrev pub limit_words : ℕ
limit_words = 3840

abbrev pub all_guards : ℕ
all_guards = 65536

abbrev pub all_limits : ℕ
all_limits = 30720

-- ---- the items of the guard of transition k, the limits of a group, and limit i of it
abbrev pub guard_at : ℕ → ℕ → ℕ
guard_at g k = guard_words * g + item_room * k

abbrev pub group_at : ℕ → ℕ → ℕ
group_at g group = limit_words * g + group_width * group

abbrev pub limit_at : ℕ → ℕ → ℕ → ℕ
limit_at g group i = group_at g group + limit_width * i
