use Rattle.std.proofs.Common.{◌≡◌, ℕ, true, leb, length, ap, ◌∙◌, arith, le-leb}
use borrow.Author.Tests.{lt-leb}
use Rattle.laws.specs.Below.{all_below}
use Rattle.laws.proofs.BelowLaws.{and_yes, and_no}
use Rattle.laws.proofs.Tests.{held, failed}
use Rattle.queues.specs.Queues.{stored_of}
use Rattle.queues.specs.Fits.{whole_messages, slot_fits, counts_fit, queue_fits}
use Rattle.queues.proofs.FitLaws.{fits_counted, whole_true, whole_wide}
use Rattle.queues.proofs.inner.fits.queue_fits.Goals as goal
use Rattle.queues.proofs.inner.fits.queue_fits.Goals.{Else-ceiling-n, Else-not-counts_fit, Else-not-whole_messages}

-- what is known once the counts, the ceiling and the whole messages are found
counts : (c : Else-not-counts_fit) → counts_fit c.args.q.now ≡ true
counts c = held c.counts_fit.ensures c.if-not-counts_fit.false

low : (c : Else-ceiling-n) →
    let a = c.args in
    leb (stored_of a.q.now) a.ceiling ≡ true
low c =
    let a = c.args in
    le-leb (stored_of a.q.now) a.ceiling (omega (arith, c.stored-n.ensures))

whole : (c : Else-not-whole_messages) →
    whole_messages (length c.args.kinds.now) (stored_of c.args.q.now) ≡ true
whole c = rw c.stored-n.ensures at (held c.whole_messages.ensures c.if-not-whole_messages.false)

pub returns-then-not-counts_fit : goal.returns-then-not-counts_fit
unfolding queue_fits
returns-then-not-counts_fit c = and_no _ (failed c.counts_fit.ensures c.if-not-counts_fit.true)

pub stored-n-requires : goal.stored-n-requires
stored-n-requires c = fits_counted _ c.requires (counts (goal.at.stored-n-requires c).Else-not-counts_fit)

pub returns-then-ceiling-n : goal.returns-then-ceiling-n
unfolding queue_fits
returns-then-ceiling-n c =
    let a = c.args in
    and_yes (counts (goal.at.returns-then-ceiling-n c).Else-not-counts_fit)
    (and_no _ (lt-leb (stored_of a.q.now) a.ceiling (omega (arith, c.stored-n.ensures))))

pub returns-then-not-whole_messages : goal.returns-then-not-whole_messages
unfolding queue_fits
returns-then-not-whole_messages c =
    let e = c.stored-n.ensures in
    and_yes (counts (goal.at.returns-then-not-whole_messages c).Else-not-counts_fit)
    (and_yes (low (goal.at.returns-then-not-whole_messages c).Else-ceiling-n) (and_no _ (rw e at (failed c.whole_messages.ensures c.if-not-whole_messages.true))))

pub slots_fit-requires : goal.slots_fit-requires
slots_fit-requires c =
    let e = c.stored-n.ensures in (
      fits_counted _ c.requires (counts (goal.at.slots_fit-requires c).Else-not-counts_fit),
      omega arith,
      λ h. whole_wide _ _ (whole_true _ _ (whole (goal.at.slots_fit-requires c).Else-not-whole_messages)) (omega arith),
    )

pub returns : goal.returns
unfolding queue_fits
returns c =
    and_yes (counts (goal.at.returns c).Else-not-counts_fit)
    (and_yes (low (goal.at.returns c).Else-ceiling-n)
    (and_yes (whole (goal.at.returns c).Else-not-whole_messages)
    (c.slots_fit.ensures ∙ ap (λ (n : ℕ). all_below n (slot_fits c.args.q.now c.args.kinds.now)) c.stored-n.ensures)))
