use Rattle.std.proofs.Common.{refl, le-ltb, lt-ltb}
use Rattle.laws.proofs.BelowLaws.{and_yes, and_no}
use Rattle.queues.specs.Fits.{counts_fit}
use Rattle.queues.proofs.inner.fits.counts_fit.Goals as goal

pub returns-then-q-ge-WORD32 : goal.returns-then-q-ge-WORD32
unfolding counts_fit
returns-then-q-ge-WORD32 c = and_no _ (le-ltb _ _ c.if-q-ge-WORD32.true)

pub returns : goal.returns
unfolding counts_fit
returns c = and_yes (lt-ltb _ _ c.if-q-ge-WORD32.false) refl
