-- What the listing of a system lists: the rows of each graph that may be taken and that their channels let through.
use Rattle.std.specs.Prelude.{ℕ, ◌<◌, ◌≡◌, Bool, true, cond, List, [], ◌∷◌, get_or, Ok, Some}
use Rattle.graph_tables.specs.declared.answers.Entry.{Entry}
use Rattle.run_steps.specs.Rows.{Row, entry_for, Open, Then, Before, AtMost}
use Rattle.system_tables.specs.Words.{graph_part}
use Rattle.channel_system.specs.Steps.{locations_of, run_of, spoken_by}
use Rattle.channel_system.specs.Listing.{listed_as, possible_on, Possible}

-- what a list has that a test keeps
abbrev pub kept : {A : Type 0} → (A → Bool) → List A → List A
kept keep [] = []
kept keep (x ∷ xs) = cond (keep x) (x ∷ kept keep xs) (kept keep xs)

-- the channel of an entry's action lets it be listed
abbrev pub let_through : List ℕ → List ℕ → ℕ → Entry → Bool
let_through t s g e = listed_as t s (spoken_by t g e.action.0)

-- a row of graph g may be taken, and its channel lets it be listed
pub record OpenOn (t s : List ℕ) (g : ℕ) (r : Row) : Type 0 where
  pub row : Open (graph_part t g) (run_of s g).vars (run_of s g).times (run_of s g).places (run_of s g).processes r
  pub channel : listed_as t s (spoken_by t g r.action) ≡ true

-- a row of one of the graphs
pub record SystemRow : Type 0 where
  pub graph : ℕ
  pub row : Row

pub record OpenIn (t s : List ℕ) (n : ℕ) (r : SystemRow) : Type 0 where
  pub known : r.graph < n
  pub row : OpenOn t s r.graph r.row

abbrev pub possible_for : List ℕ → SystemRow → Possible
possible_for t r = record { graph = r.graph; entry = entry_for (graph_part t r.graph) r.row }

-- rows by graph, then as in the graph's own list
abbrev pub Earlier : SystemRow → SystemRow → Type 0
Earlier r s = Then r.graph s.graph (Before r.row s.row)

-- entries by graph, then as in the graph's own list: by action, process and post
abbrev pub NotAfter : Possible → Possible → Type 0
NotAfter p q = Then p.graph q.graph (AtMost p.entry q.entry)

-- ---- a step, in the list
-- for each process of graph g its list has an entry: the action, the process, and its post
abbrev pub AllListed : List ℕ → List ℕ → ℕ → ℕ → List ℕ → Type 0
AllListed t s g a posts =
    (p : ℕ) → p < (run_of s g).processes
    → (k : ℕ) × (possible_on t s g k ≡ Ok (Some (record { action = record { 0 = a }; process = p; post = get_or (locations_of posts) p 0 })))
