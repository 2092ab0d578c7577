-- Each public call's promise determines its answer: any two answers that it permits are equal. `Post` is the contract that stands in
-- the code, as the prover reads it, so a weaker one breaks this file.
use mathlib.Core.Path.{refl, sym, ◌∙◌}
use Rattle.laws.specs.Determined.{Determined}
use Rattle.system_tables.proofs as calls

pub system_formed_lem : Determined calls.formed.system_formed.Kinds.ps calls.formed.system_formed.Kinds.r calls.formed.system_formed.Reads.Post
system_formed_lem κs a x y v w p q = (p ∙ sym q, refl)
