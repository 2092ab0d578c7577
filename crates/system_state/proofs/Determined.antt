-- The promise of each function that other crates call determines its answer and every word that it leaves: any two ends that it permits
-- are equal. `Post` is the contract that stands in the code, as the prover reads it, so a weaker one breaks this file.
use Prim.Native.Nat.{ℕ}
use mathlib.Core.Path.{refl, sym, ap, ◌∙◌}
use Rattle.laws.specs.Determined.{Determined}
use mathlib.Core.List.{List}
use Rattle.system_state.proofs as calls

pub time_of_lem : Determined calls.inner.words.time_of.Kinds.ps calls.inner.words.time_of.Kinds.r calls.inner.words.time_of.Reads.Post
time_of_lem κs a x y v w p q = (p ∙ sym q, refl)

pub set_time : Determined calls.inner.words.set_time.Kinds.ps calls.inner.words.set_time.Kinds.r calls.inner.words.set_time.Reads.Post
set_time κs a x y v w p q = (refl, ap (λ (t : List ℕ). (t, v.1)) (p ∙ sym q))

pub run_start_lem : Determined calls.inner.words.run_start.Kinds.ps calls.inner.words.run_start.Kinds.r calls.inner.words.run_start.Reads.Post
run_start_lem κs a x y v w p q = (p ∙ sym q, refl)

pub queue_start_lem : Determined calls.inner.words.queue_start.Kinds.ps calls.inner.words.queue_start.Kinds.r calls.inner.words.queue_start.Reads.Post
queue_start_lem κs a x y v w p q = (p ∙ sym q, refl)

pub ceiling_at_lem : Determined calls.inner.fits.ceiling_at.Kinds.ps calls.inner.fits.ceiling_at.Kinds.r calls.inner.fits.ceiling_at.Reads.Post
ceiling_at_lem κs a x y v w p q = (p ∙ sym q, refl)

pub state_fits_lem : Determined calls.inner.fits.state_fits.Kinds.ps calls.inner.fits.state_fits.Kinds.r calls.inner.fits.state_fits.Reads.Post
state_fits_lem κs a x y v w p q = (p ∙ sym q, refl)

pub fresh_state_lem :
    Determined calls.inner.fresh.fresh_state.Kinds.ps calls.inner.fresh.fresh_state.Kinds.r
    calls.inner.fresh.fresh_state.Reads.Post
fresh_state_lem κs a x y v w p q = (refl, ap (λ (s : List ℕ). (v.0, (s, v.1.1))) (p ∙ sym q))
