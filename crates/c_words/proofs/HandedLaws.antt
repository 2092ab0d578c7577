-- Laws of arguments that are read.
use Prim.Native.Nat.{ℕ, zero, suc, ◌+◌}
use mathlib.Core.Path.{◌≡◌, refl, ap}
use mathlib.Core.Bool.{Bool}
use mathlib.Core.List.{List}
use lib.ListN.{get_or, length}
use lib.Dec.{leb}
use Rattle.laws.specs.Below.{all_below}
use Rattle.std.proofs.Math.Nat.{zero-add}
use Rattle.c_words.specs.Handed.{kind_known, kinds_known}

below_same : (p q : ℕ → Bool) (n : ℕ) → ((i : ℕ) → p i ≡ q i) → all_below n p ≡ all_below n q
unfolding all_below
below_same p q zero same = refl
below_same p q (suc n) same = rw (same n, below_same p q n same) refl

pub kinds_same : (ks : List ℕ) → all_below (length ks) (λ i. leb (get_or ks (0 + i) 0) 1) ≡ kinds_known ks
unfolding kinds_known kind_known
kinds_same ks = below_same _ _ (length ks) (λ i. ap (λ k. leb (get_or ks k 0) 1) (zero-add i))
