-- The promise of each function that other crates call determines its answer and every word that it leaves: any two ends that it permits
-- are equal. `Post` is the contract that stands in the code, as the prover reads it, so a weaker one breaks this file.
use Rattle.std.proofs.Common.{ℕ, List, sym, refl, ap, ◌∙◌}
use Rattle.laws.specs.Determined.{Determined}
use Rattle.queues.proofs as calls

pub stored : Determined calls.inner.ring.stored.Kinds.ps calls.inner.ring.stored.Kinds.r calls.inner.ring.stored.Reads.Post
stored κs a x y v w p q = (p ∙ sym q, refl)

pub value_at_lem : Determined calls.inner.ring.value_at.Kinds.ps calls.inner.ring.value_at.Kinds.r calls.inner.ring.value_at.Reads.Post
value_at_lem κs a x y v w p q = (p ∙ sym q, refl)

pub push : Determined calls.inner.ring.push.Kinds.ps calls.inner.ring.push.Kinds.r calls.inner.ring.push.Reads.Post
push κs a x y v w p q = (refl, ap (λ (t : List ℕ). (t, v.1)) (p.0 ∙ sym q.0))

pub drop_front : Determined calls.inner.ring.drop_front.Kinds.ps calls.inner.ring.drop_front.Kinds.r calls.inner.ring.drop_front.Reads.Post
drop_front κs a x y v w p q = (refl, ap (λ (t : List ℕ). (t, v.1)) (p ∙ sym q))

pub empty : Determined calls.inner.ring.empty.Kinds.ps calls.inner.ring.empty.Kinds.r calls.inner.ring.empty.Reads.Post
empty κs a x y v w p q = (refl, ap (λ (t : List ℕ). (t, v.1)) (p ∙ sym q))

pub slots_for_lem : Determined calls.inner.ring.slots_for.Kinds.ps calls.inner.ring.slots_for.Kinds.r calls.inner.ring.slots_for.Reads.Post
slots_for_lem κs a x y v w p q = (p ∙ sym q, refl)

pub push_all : Determined calls.inner.ring.push_all.Kinds.ps calls.inner.ring.push_all.Kinds.r calls.inner.ring.push_all.Reads.Post
push_all κs a x y v w p q = (refl, ap (λ (t : List ℕ). (t, v.1)) (p.0 ∙ sym q.0))

pub first_values :
    Determined calls.inner.ring.first_values.Kinds.ps calls.inner.ring.first_values.Kinds.r
    calls.inner.ring.first_values.Reads.Post
first_values κs a x y v w p q = (p ∙ sym q, refl)

pub queue_fits_lem : Determined calls.inner.fits.queue_fits.Kinds.ps calls.inner.fits.queue_fits.Kinds.r calls.inner.fits.queue_fits.Reads.Post
queue_fits_lem κs a x y v w p q = (p ∙ sym q, refl)
