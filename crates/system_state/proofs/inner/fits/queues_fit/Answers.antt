use borrow.Author.Rules.{rules}
use Rattle.std.proofs.lemmas.Iterator.{serves_from_Range}
use Rattle.system_state.specs.Fits.{queue_fits_at}
use Rattle.laws.proofs.Chains.{all_in_range}
use Rattle.system_state.proofs.inner.fits.queues_fit.Goals as goal

pub all-requires-clause-callable : goal.all-requires-clause-callable
all-requires-clause-callable c =
    serves_from_Range (λ x b k. search rules) (λ q l h. let known = rw c.channel_count.ensures at h in search rules)

pub returns : goal.returns
returns c =
    rw c.channel_count.ensures at (all_in_range (queue_fits_at c.args.t.now c.args.s.now) c.channel_count.result c.all.ensures.ran (λ x b t k. search rules))
