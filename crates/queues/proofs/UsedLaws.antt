-- Words of free places are not read: they change neither the list that a queue is nor what the test says of it.
use Rattle.std.proofs.Common.{◌≡◌, ℕ, zero, suc, ◌<◌, Bool, List, refl, ap, ◌∙◌, arith}
use Rattle.laws.specs.Below.{all_below}
use Rattle.grammar.specs.declared.values.Slot.{Slot}
use Rattle.queues.specs.Queues.{stored_of, slot_at, list_of, queue_of, SameUsed}
use Rattle.queues.specs.Fits.{slot_fits, counts_fit, queue_fits}

list_same : (f g : ℕ → Slot) (n : ℕ) → ((i : ℕ) → i < n → f i ≡ g i) → list_of f n ≡ list_of g n
unfolding list_of
list_same f g zero h = refl
list_same f g (suc n) h = cc (list_same f g n (λ i l. h i (omega arith)), h n (omega arith))

all_same_lem : (p r : ℕ → Bool) (n : ℕ) → ((i : ℕ) → i < n → p i ≡ r i) → all_below n p ≡ all_below n r
unfolding all_below
all_same_lem p r zero h = refl
all_same_lem p r (suc n) h = cc (all_same_lem p r n (λ i l. h i (omega arith)), h n (omega arith))

module _ (q r : List ℕ) (same : SameUsed q r) where
  pub used_stored : stored_of q ≡ stored_of r
  unfolding stored_of
  used_stored = rw (same.read, same.write)

  slot_same : (i : ℕ) → i < stored_of q → slot_at q i ≡ slot_at r i
  slot_same i l = rw (same.kind i l, same.payload i l)

  pub used_queue : queue_of q ≡ queue_of r
  unfolding queue_of
  used_queue = list_same (slot_at q) (slot_at r) (stored_of q) slot_same ∙ ap (list_of (slot_at r)) used_stored

  module _ (kinds : List ℕ) where
    fits_same : (i : ℕ) → i < stored_of q → slot_fits q kinds i ≡ slot_fits r kinds i
    unfolding slot_fits
    fits_same i l = rw (same.kind i l, same.payload i l)

    counts_same_lem : counts_fit q ≡ counts_fit r
    unfolding counts_fit
    counts_same_lem = rw (same.read, same.write)

    pub used_fits : (ceiling : ℕ) → queue_fits q kinds ceiling ≡ queue_fits r kinds ceiling
    unfolding queue_fits
    used_fits ceiling =
        let each = all_same_lem (slot_fits q kinds) (slot_fits r kinds) (stored_of q) fits_same in
        rw (counts_same_lem, each, used_stored)
