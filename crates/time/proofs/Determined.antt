-- Each public call's promise determines its answer: any two answers that it permits are equal. `Post` is the contract that stands in
-- the code, as the prover reads it, so a weaker one breaks this file.
use mathlib.Core.Path.{refl, sym, ◌∙◌}
use Rattle.laws.specs.Determined.{Determined}
use Rattle.time.proofs.Bound
use Rattle.time.proofs.TimeRange

pub lower_met_lem : Determined Bound.lower_met.Kinds.ps Bound.lower_met.Kinds.r Bound.lower_met.Reads.Post
lower_met_lem κs a x y v w p q = (p ∙ sym q, refl)

pub upper_met_lem : Determined Bound.upper_met.Kinds.ps Bound.upper_met.Kinds.r Bound.upper_met.Reads.Post
upper_met_lem κs a x y v w p q = (p ∙ sym q, refl)

pub new : Determined TimeRange.new.Kinds.ps TimeRange.new.Kinds.r TimeRange.new.Reads.Post
new κs a x y v w p q = (p ∙ sym q, refl)

pub range : Determined TimeRange.range.Kinds.ps TimeRange.range.Kinds.r TimeRange.range.Reads.Post
range κs a x y v w p q = (p ∙ sym q, refl)

pub range_inclusive : Determined TimeRange.range_inclusive.Kinds.ps TimeRange.range_inclusive.Kinds.r TimeRange.range_inclusive.Reads.Post
range_inclusive κs a x y v w p q = (p ∙ sym q, refl)

pub range_from : Determined TimeRange.range_from.Kinds.ps TimeRange.range_from.Kinds.r TimeRange.range_from.Reads.Post
range_from κs a x y v w p q = (p ∙ sym q, refl)

pub range_to : Determined TimeRange.range_to.Kinds.ps TimeRange.range_to.Kinds.r TimeRange.range_to.Reads.Post
range_to κs a x y v w p q = (p ∙ sym q, refl)

pub range_to_inclusive :
    Determined TimeRange.range_to_inclusive.Kinds.ps TimeRange.range_to_inclusive.Kinds.r
    TimeRange.range_to_inclusive.Reads.Post
range_to_inclusive κs a x y v w p q = (p ∙ sym q, refl)

pub range_full : Determined TimeRange.range_full.Kinds.ps TimeRange.range_full.Kinds.r TimeRange.range_full.Reads.Post
range_full κs a x y v w p q = (p ∙ sym q, refl)

pub start_bound : Determined TimeRange.start_bound.Kinds.ps TimeRange.start_bound.Kinds.r TimeRange.start_bound.Reads.Post
start_bound κs a x y v w p q = (p ∙ sym q, refl)

pub end_bound : Determined TimeRange.end_bound.Kinds.ps TimeRange.end_bound.Kinds.r TimeRange.end_bound.Reads.Post
end_bound κs a x y v w p q = (p ∙ sym q, refl)

pub contains : Determined TimeRange.contains.Kinds.ps TimeRange.contains.Kinds.r TimeRange.contains.Reads.Post
contains κs a x y v w p q = (p ∙ sym q, refl)

pub shift : Determined TimeRange.shift.Kinds.ps TimeRange.shift.Kinds.r TimeRange.shift.Reads.Post
shift κs a x y v w p q = (p ∙ sym q, refl)
