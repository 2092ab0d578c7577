-- The promise of the public call determines every word that it tells and every word of the part that it hands back: any two ends that it
-- permits agree in them. `Post` is the contract that stands in the code, as the prover reads it, so a weaker one breaks this file.
use Prim.Native.Nat.{ℕ}
use mathlib.Core.Path.{◌≡◌, sym, ap, ◌∙◌}
use mathlib.Core.List.{List}
use contract.Lifetimes.{Lfts}
use denote.Triple.Clauses.{Lasts, at_exit}
use borrow.Fn.Kinds.{Dens, res_t, ended_of}
use Rattle.explainer.proofs.why.why.Kinds.{ps, r}
use Rattle.explainer.proofs.why.why.Reads.{Post}

pub why : (κs : Lfts 5) (a : Dens κs ps) (x y : (res_t r κs).Denot) (v w : Lasts (ended_of 5 ps r) κs a)
    → Post κs a x (at_exit (ended_of 5 ps r) κs a v) → Post κs a y (at_exit (ended_of 5 ps r) κs a w) → (x.now ≡ y.now) × (v ≡ w)
why κs a x y v w p q =
    (p.1 ∙ sym q.1, ap (λ (l : List ℕ). (v.0, (v.1.0, (v.1.1.0, (v.1.1.1.0, (v.1.1.1.1.0, (v.1.1.1.1.1.0, (v.1.1.1.1.1.1.0, (v.1.1.1.1.1.1.1.0, (l, v.1.1.1.1.1.1.1.1.1)))))))))) (p.0 ∙ sym q.0))
