-- Laws for calls that build.
use Rattle.graph_tables.specs.Answers.{Answer, admitted}
use Rattle.std.specs.Prelude.{Ok, Err, ⊤}
use Prim.Native.Nat.{ℕ}
use mathlib.Core.Path.{◌≡◌, refl}
use mathlib.Core.Bool.{Bool, true}
use mathlib.Core.List.{List}
use borrow.Author.Tests.{eqb-true}
use Rattle.laws.proofs.BelowLaws.{and_first, and_rest}
use Rattle.graph_tables.specs.Words.{Words}
use Rattle.graph_tables.specs.Formed.{well_formed}
use Rattle.graph_tables.specs.Sound.{Counted}
use Rattle.graph_tables.proofs.FormedLaws.{counted}
use Rattle.graph_tables.specs.declared.refusals.Refusal.{Refusal}
use Rattle.graph_builder.specs.Building.{Outcome, refused_with, placed_at, not_done, done_with, done_if, placed_if}

-- an answer and a table that are one outcome's
-- ---- what is so of an outcome that refuses, and of one that is accepted, is so of the call's
-- a call that asks a check
pub done_if_lem : (P : Outcome (Answer ⊤) → Type 0) (c : Answer ⊤) (t u : List ℕ) → ((r : Refusal) → P (not_done r t))
    → (c ≡ admitted → P (done_with u)) → P (done_if c t u)
done_if_lem P (Ok _) t u h k = k refl
done_if_lem P (Err r) t u h k = h r

pub placed_if_lem : (P : Outcome (Answer ℕ) → Type 0) (c : Answer ⊤) (t : List ℕ) (n : ℕ) (u : List ℕ) → ((r : Refusal) → P (refused_with r t))
    → (c ≡ admitted → P (placed_at n u)) → P (placed_if c t n u)
placed_if_lem P (Ok _) t n u h k = k refl
placed_if_lem P (Err r) t n u h k = h r

-- ---- what a well-formed table has
pub words_of : (t : List ℕ) (b : Bool) → well_formed t b ≡ true → Words t
unfolding well_formed
words_of t b h = eqb-true _ _ (and_first _ _ h)

pub counted_of : (t : List ℕ) (b : Bool) → well_formed t b ≡ true → Counted t
unfolding well_formed
counted_of t b h = counted t (and_first _ _ (and_rest _ _ h))
