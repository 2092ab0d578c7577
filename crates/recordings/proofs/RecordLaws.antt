-- What a record says, by its kind.
use Prim.Native.Nat.{ℕ, ◌≤◌}
use mathlib.Core.Path.{◌≡◌, refl}
use mathlib.Core.Bool.{Bool, true, false, cond}
use mathlib.Core.List.{List}
use borrow.Author.Tests.{leb-true, eq-eqb, ne_eqb}
use lib.Dec.{eqb}
use Rattle.laws.proofs.BelowLaws.{and_first, and_rest}
use Rattle.recordings.specs.Layout.{step_kind, post_room}
use Rattle.recordings.specs.Numbers.{row}
use Rattle.recordings.specs.Records.{step, wait, recorded_in, kind_in, graph_in, post_count_in, amount_in, post_in, word_in, answer_in}
use Rattle.recordings.specs.Records.{entry_of, good_step, good_kind, good_record}

either_answer : (b : Bool) (g a : ℕ) (ps : List ℕ) (w d x : ℕ) → recorded_in (cond b (step g a ps w x) (wait d x)) ≡ x
either_answer true g a ps w d x = refl
either_answer false g a ps w d x = refl

module _ (r : List ℕ) where
  -- the recorded answer, of either kind
  pub recorded_in_lem : recorded_in (entry_of r) ≡ answer_in r
  unfolding entry_of
  recorded_in_lem = either_answer (eqb (kind_in r) step_kind) _ _ _ _ _ _

  pub step_entry : kind_in r ≡ step_kind
      → entry_of r ≡ step (graph_in r) (amount_in r) (row (post_in r) 0 (post_count_in r)) (word_in r) (answer_in r)
  unfolding entry_of
  step_entry e = rw (eq-eqb _ _ e) refl

  pub wait_entry : (kind_in r ≡ step_kind → ⊥) → entry_of r ≡ wait (amount_in r) (answer_in r)
  unfolding entry_of
  wait_entry n = rw (ne_eqb _ _ n) refl

  -- a good step has at most four posts
  pub few_posts_lem : good_record r ≡ true → kind_in r ≡ step_kind → post_count_in r ≤ post_room
  unfolding good_record good_kind good_step
  few_posts_lem h e = leb-true _ _ (and_first _ _ (rw (eq-eqb _ _ e) at (and_rest _ _ (and_rest _ _ h))))
