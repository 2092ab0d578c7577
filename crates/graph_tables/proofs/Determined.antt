-- Each public call's promise determines its answer: any two answers that it permits are equal. `Post` is the contract that stands in
-- the code, as the prover reads it, so a weaker one breaks this file.
use mathlib.Core.Path.{refl, sym, ◌∙◌}
use Rattle.laws.specs.Determined.{Determined}
use Rattle.graph_tables.proofs as calls

pub number :
    Determined calls.refusals.Refusal.number.Kinds.ps calls.refusals.Refusal.number.Kinds.r
    calls.refusals.Refusal.number.Reads.Post
number κs a x y v w p q = (p ∙ sym q, refl)

pub well_formed_lem : Determined calls.formed.well_formed.Kinds.ps calls.formed.well_formed.Kinds.r calls.formed.well_formed.Reads.Post
well_formed_lem κs a x y v w p q = (p ∙ sym q, refl)

pub no_limits_lem : Determined calls.handed.Limits.none.Kinds.ps calls.handed.Limits.none.Kinds.r calls.handed.Limits.none.Reads.Post
no_limits_lem κs a x y v w p q = (p ∙ sym q, refl)
