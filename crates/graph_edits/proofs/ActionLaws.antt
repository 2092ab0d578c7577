-- What the code of resets and messages relies on.
use mathlib.Core.Path.{◌≡◌, ap}
use mathlib.Core.List.{List}
use Prim.Native.Nat.{ℕ, ◌+◌, ◌*◌, ◌<◌, ◌≤◌}
use native.Mathlib.Omega.{arith}
use lib.ListN.{get_or}
use Rattle.graph_tables.specs.Layout.{actions_cell, reset_cell}
use Rattle.graph_tables.specs.Sizes.{action_room, message_room}
use Rattle.graph_tables.specs.Words.{Words, action_count, reset_at}
use Rattle.graph_tables.specs.declared.handed.Vars.{Vars}
use Rattle.graph_edits.specs.Rows.{number_at, place_of}
use Rattle.graph_edits.specs.Edits.{with_expressions, with_targets}
use Rattle.graph_edits.proofs.PlaceLaws.{place_same}
use Rattle.graph_edits.proofs.ExpressionLaws.{apart_row, Short, message, targets_other}

-- a place among rows of one word is a place among resets
pub reset_row : (t : List ℕ) (a n clock : ℕ) → place_of (number_at t (reset_cell a 0) 1) n clock ≡ place_of (reset_at t a) n clock
reset_row t a n clock = place_same (number_at t (reset_cell a 0) 1) (reset_at t a) n clock (λ i h. ap (λ (j : ℕ). get_or t j 0) (one i))
  where
    one : (i : ℕ) → reset_cell a 0 + 1 * i ≡ reset_cell a i
    one i = omega arith

-- a message leaves as many words and as many actions
pub expressions_kept : (t : List ℕ) (a : ℕ) (m : ℕ → List ℕ) (n : ℕ) → Words t → a < action_room → n ≤ message_room → Short m n
    → Words (with_expressions t a m n) × (action_count (with_expressions t a m n) ≡ action_count t)
expressions_kept t a m n w h l k =
    let r = message t a m n w h l k in
    (r.words, r.other actions_cell (λ i q. apart_row a i actions_cell (omega arith) (λ e. absurd (omega arith))))

-- targets leave as many actions
pub targets_actions : (t : List ℕ) (a : ℕ) (v : Vars) (n : ℕ) → action_count (with_targets t a v n) ≡ action_count t
targets_actions t a v n = targets_other t a v n actions_cell (λ i l e. absurd (omega arith))
