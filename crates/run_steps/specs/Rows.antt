-- What a listing lists: the transitions that may be taken, in their order (docs/RULES.md, 'Listing').
use Rattle.std.specs.Prelude.{ℕ, ◌<◌, ◌≤◌, ◌≡◌, true, ◌⊎◌, get_or}
use mathlib.Core.List.{List, [], ◌∷◌, map, Memᴰ}
use Rattle.grammar.specs.declared.values.Slot.{Slot}
use Rattle.graph_tables.specs.Words.{transition_count, key_of, pre_of, action_of}
use Rattle.graph_tables.specs.declared.answers.Entry.{Entry}
use Rattle.run_steps.specs.Steps.{passes_of}
use Rattle.run_steps.specs.Listing.{clocks_by, entry_of}

-- a row: a process takes a transition by an action
pub record Row : Type 0 where
  pub action : ℕ
  pub process : ℕ
  pub transition : ℕ

abbrev pub entry_for : List ℕ → Row → Entry
entry_for t r = entry_of t r.action r.process r.transition

-- a location has an action: some transition leaves it by the action
pub record Has (t : List ℕ) (place action : ℕ) : Type 0 where
  pub transition : ℕ
  pub known : transition < transition_count t
  pub pre : pre_of (key_of t transition) ≡ place
  pub by : action_of (key_of t transition) ≡ action

-- A row is open: its transition leaves its process's location by its action, which every process's location has, and it passes.
pub record Open (t : List ℕ) (vars : List Slot) (clocks places : List ℕ) (n : ℕ) (r : Row) : Type 0 where
  pub process : r.process < n
  pub known : r.transition < transition_count t
  pub pre : pre_of (key_of t r.transition) ≡ get_or places r.process 0
  pub by : action_of (key_of t r.transition) ≡ r.action
  pub shared : (q : ℕ) → q < n → Has t (get_or places q 0) r.action
  pub passes : passes_of t vars clocks (clocks_by t r.action clocks) r.transition ≡ true

-- the one number is below the other, or they are the same and the rest holds
abbrev pub Then : ℕ → ℕ → Type 0 → Type 0
Then a b Rest = (a < b) ⊎ ((a ≡ b) × Rest)

-- rows by action, then process, then transition; entries by action, then process, then post
abbrev pub Before : Row → Row → Type 0
Before r s = Then r.action s.action (Then r.process s.process (r.transition < s.transition))

abbrev pub AtMost : Entry → Entry → Type 0
AtMost d e = Then d.action.0 e.action.0 (Then d.process e.process (d.post ≤ e.post))

-- ---- lists of which the members are known
-- each member stands before every later one
abbrev pub Ascending : {A : Type 0} → (A → A → Type 0) → List A → Type 0
Ascending {A} Before [] = Unit {0}
Ascending {A} Before (x ∷ xs) = ((y : A) → Memᴰ y xs → Before x y) × Ascending Before xs

-- A list is the image of rows in order, and these are exactly the ones of which P holds.
pub record Catalog {A B : Type 0} (Before : A → A → Type 0) (image : A → B) (P : A → Type 0) (list : List B) : Type 0 where
  pub rows : List A
  pub entries : list ≡ map image rows
  pub only : (r : A) → Memᴰ r rows → P r
  pub every : (r : A) → P r → Memᴰ r rows
  pub ascending : Ascending Before rows
