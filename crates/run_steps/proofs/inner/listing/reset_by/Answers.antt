use mathlib.Core.Path.{sym, ◌∙◌}
use native.Mathlib.Omega.{arith}
use Rattle.run_steps.proofs.ListingLaws.{clocks_by_unknown, clocks_by_known}
use Rattle.run_steps.proofs.inner.listing.reset_by.Goals as goal

pub returns-then-action_count-a : goal.returns-then-action_count-a
returns-then-action_count-a c =
    sym (clocks_by_unknown c.args.t.now _ _ (rw c.action_count.ensures at c.if-action_count-a.true))

pub reset-requires : goal.reset-requires
reset-requires c =
    (c.requires.0, rw c.action_count.ensures at c.if-action_count-a.false, omega (arith, c.requires.0.counts.clocks, c.requires.1))

pub returns : goal.returns
returns c =
    c.reset.ensures ∙ sym (clocks_by_known c.args.t.now _ c.requires.0 _ (rw c.action_count.ensures at c.if-action_count-a.false))
