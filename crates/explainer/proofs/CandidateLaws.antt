-- Candidates by their keys: the first of a process is the first transition of one key.
use Prim.Native.Nat.{ℕ, ◌<◌}
use mathlib.Core.Path.{◌≡◌, refl, ap}
use mathlib.Core.Bool.{Bool, true, false, not}
use mathlib.Core.List.{List}
use borrow.Author.Tests.{eqb-true, eq-eqb}
use Rattle.laws.proofs.BelowLaws.{and_first, and_rest, and_both}
use Rattle.graph_tables.specs.Words.{transition_count, key_of, pre_of, action_of, post_of}
use Rattle.run_steps.specs.Steps.{leaves_by}
use Rattle.run_steps.proofs.KeyLaws.{parts_same}
use Rattle.explainer.specs.Cause.{candidate_of, other_than}
use Rattle.explainer.specs.Facts.{Candidate}

pub untrue : (b : Bool) → (b ≡ true → ⊥) → b ≡ false
untrue true h = absurd (h refl)
untrue false h = refl

-- ---- the test, and the facts
module _ (t : List ℕ) (pre action post k : ℕ) where
  pub candidate : k < transition_count t → candidate_of t pre action post k ≡ true → Candidate t pre action post k
  unfolding candidate_of leaves_by
  candidate l h =
      let c = and_first _ _ h in
      record {
        known = l;
        from = eqb-true _ _ (and_first _ _ c);
        by = eqb-true _ _ (and_rest _ _ c);
        to = eqb-true _ _ (and_rest _ _ h);
      }

  pub tested : Candidate t pre action post k → candidate_of t pre action post k ≡ true
  unfolding candidate_of leaves_by
  tested h = and_both (and_both (eq-eqb _ _ h.from) (eq-eqb _ _ h.by)) (eq-eqb _ _ h.to)

-- ---- by the key
module _ (t : List ℕ) (key k : ℕ) where
  key_yes : key_of t k ≡ key → candidate_of t (pre_of key) (action_of key) (post_of key) k ≡ true
  unfolding candidate_of leaves_by
  key_yes e = and_both (and_both (eq-eqb _ _ (ap pre_of e)) (eq-eqb _ _ (ap action_of e))) (eq-eqb _ _ (ap post_of e))

  key_no : (key_of t k ≡ key → ⊥) → candidate_of t (pre_of key) (action_of key) (post_of key) k ≡ false
  unfolding candidate_of leaves_by
  key_no h =
      untrue _
      (λ e.
      let c = and_first _ _ e in
      h (parts_same (key_of t k) key (eqb-true _ _ (and_first _ _ c)) (eqb-true _ _ (and_rest _ _ c)) (eqb-true _ _ (and_rest _ _ e))))

  pub other_yes : key_of t k ≡ key → other_than t (pre_of key) (action_of key) (post_of key) k ≡ false
  unfolding other_than
  other_yes e = ap not (key_yes e)

  pub other_no : (key_of t k ≡ key → ⊥) → other_than t (pre_of key) (action_of key) (post_of key) k ≡ true
  unfolding other_than
  other_no h = ap not (key_no h)
