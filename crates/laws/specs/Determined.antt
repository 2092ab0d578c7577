-- A promise that determines what a call gives.
use Rattle.std.specs.Prelude.{ℕ, ◌≡◌, List}
use contract.Lifetimes.{Lfts}
use denote.Triple.Clauses.{Lasts, at_exit}
use borrow.Fn.Kinds.{ParamKind, ResultKind, Dens, res_t, ended_of, Out}

-- Any two ends of a call that its promise permits, from the same arguments, are one: the answers x and y, and what is left in lent
-- memory, v and w.
abbrev pub Determined : {n : ℕ} (ps : List (ParamKind n)) (r : ResultKind n) → Out n ps r → Type 0
Determined {n} ps r promise =
    (κs : Lfts n) (a : Dens κs ps) (x y : (res_t r κs).Denot) (v w : Lasts (ended_of n ps r) κs a)
    → promise κs a x (at_exit (ended_of n ps r) κs a v) → promise κs a y (at_exit (ended_of n ps r) κs a w) → (x ≡ y) × (v ≡ w)
