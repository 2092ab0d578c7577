-- Parts of lists, and lists with the same words.
use Prim.Native.Nat.{ℕ, ◌+◌, ◌*◌, ◌<◌, ◌≤◌}
use mathlib.Core.Path.{◌≡◌, refl, sym, ap, ◌∙◌}
use mathlib.Core.Bool.{Bool, true, false}
use Rattle.std.specs.Bool.{Decides}
use mathlib.Core.List.{List}
use native.Mathlib.Omega.{arith}
use borrow.Author.Tests.{eqb-true, eq-eqb}
use lib.ListN.{length, get_or, drop, length-drop}
use lib.Seq.{length-take-le, ext_get_or}
use Rattle.laws.proofs.BelowLaws.{all_at, all_from}
use Rattle.graph_tables.specs.Sizes.{transition_room, group_room, limit_room, item_room}
use Rattle.graph_tables.specs.Layout.{limit_width, group_start, guard_slot}
use Rattle.graph_tables.specs.Words.{Words}
use Rattle.system_tables.specs.Sizes.{graph_room}
use Rattle.explainer.specs.Layout.{all_guards, all_limits, guard_at, group_at}
use Rattle.explainer.specs.Same.{part, word_same, all_same}

pub part_length : (xs : List ℕ) (from n : ℕ) → from + n ≤ length xs → length (part xs from n) ≡ n
part_length xs from n h = length-take-le n (drop from xs) (rw (length-drop from xs) (omega arith))

-- ---- the parts that are compared, of the lent tables and of the built one
pub guard_lent : (guards : List ℕ) (g k n : ℕ) → length guards ≡ all_guards → g < graph_room → k < transition_room → n ≤ item_room
    → length (part guards (guard_at g k) n) ≡ n
guard_lent guards g k n e a b c = part_length guards (guard_at g k) n (omega arith)

pub guard_built : (t : List ℕ) (k n : ℕ) → Words t → k < transition_room → n ≤ item_room → length (part t (guard_slot k) n) ≡ n
guard_built t k n e b c = part_length t (guard_slot k) n (omega arith)

pub group_lent : (limits : List ℕ) (g group n : ℕ) → length limits ≡ all_limits → g < graph_room → group < group_room → n ≤ limit_room
    → length (part limits (group_at g group) (limit_width * n)) ≡ limit_width * n
group_lent limits g group n e a b c = part_length limits (group_at g group) (limit_width * n) (omega arith)

pub group_built : (t : List ℕ) (group n : ℕ) → Words t → group < group_room → n ≤ limit_room
    → length (part t (group_start group) (limit_width * n)) ≡ limit_width * n
group_built t group n e b c = part_length t (group_start group) (limit_width * n) (omega arith)

-- ---- lists of a length with the same words are equal
pub same_lists : (xs ys : List ℕ) → length xs ≡ length ys → all_same xs ys ≡ true → xs ≡ ys
unfolding all_same word_same
same_lists xs ys e h = ext_get_or 0 xs ys e (λ i l. eqb-true _ _ (all_at (word_same xs ys) (length xs) i h l))

pub lists_same : (xs ys : List ℕ) → xs ≡ ys → all_same xs ys ≡ true
unfolding all_same word_same
lists_same xs ys e = all_from (word_same xs ys) (length xs) (λ i l. eq-eqb _ _ (ap (λ (zs : List ℕ). get_or zs i 0) e))

-- what tells whether two lists of a length are equal tells whether they have the same words
pub same_decides : (xs ys : List ℕ) → length xs ≡ length ys → (r : Bool) → Decides r (xs ≡ ys) → r ≡ all_same xs ys
same_decides xs ys e true d = sym (lists_same xs ys (d.0 refl))
same_decides xs ys e false d = by (all_same xs ys) refl
  where
    by : (b : Bool) → all_same xs ys ≡ b → false ≡ all_same xs ys
    by true h = d.1 (same_lists xs ys e h) ∙ sym h
    by false h = sym h
