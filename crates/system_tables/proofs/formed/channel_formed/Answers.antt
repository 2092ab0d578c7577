use borrow.Author.Tests.{le-leb, lt-leb}
use Rattle.laws.proofs.BelowLaws.{and_yes, and_no}
use Rattle.laws.proofs.Tests.{held, failed}
use Rattle.system_tables.specs.Formed.{channel_kind_formed, channel_formed}
use Rattle.system_tables.proofs.FormedLaws.{bound_fits}
use borrow.Author.Rules.{rules}
use Rattle.laws.proofs.Chains.{all_in_range}
use Rattle.system_tables.proofs.formed.channel_formed.Goals as goal

pub returns-then-w-gt-MESSAGE : goal.returns-then-w-gt-MESSAGE
unfolding channel_formed
returns-then-w-gt-MESSAGE c = and_no _ (lt-leb _ _ (rw c.width_of-w.ensures at c.if-w-gt-MESSAGE.true))

pub returns-then-not-all : goal.returns-then-not-all
unfolding channel_formed
returns-then-not-all c =
    and_yes (le-leb _ _ (rw c.width_of-w.ensures at c.if-w-gt-MESSAGE.false))
    (and_no _ (rw c.width_of-w.ensures at (failed (all_in_range (channel_kind_formed c.args.t.now c.args.q) c.width_of-w.result c.all.ensures.ran (λ x b t k. search rules)) c.if-not-all.true)))

pub returns-then-not-capacity_formed : goal.returns-then-not-capacity_formed
unfolding channel_formed
returns-then-not-capacity_formed c =
    and_yes (le-leb _ _ (rw c.width_of-w.ensures at c.if-w-gt-MESSAGE.false))
    (and_yes (rw c.width_of-w.ensures at (held (all_in_range (channel_kind_formed c.args.t.now c.args.q) c.width_of-w.result c.all.ensures.ran (λ x b t k. search rules)) c.if-not-all.false))
    (and_no _ (failed c.capacity_formed.ensures c.if-not-capacity_formed.true)))

pub capacity_of-requires : goal.capacity_of-requires
capacity_of-requires c =
    (c.requires.0, c.requires.1, bound_fits _ _ (held c.capacity_formed.ensures c.if-not-capacity_formed.false))

pub returns : goal.returns
unfolding channel_formed
returns c =
    and_yes (le-leb _ _ (rw c.width_of-w.ensures at c.if-w-gt-MESSAGE.false))
    (and_yes (rw c.width_of-w.ensures at (held (all_in_range (channel_kind_formed c.args.t.now c.args.q) c.width_of-w.result c.all.ensures.ran (λ x b t k. search rules)) c.if-not-all.false))
    (and_yes (held c.capacity_formed.ensures c.if-not-capacity_formed.false)
    (rw (c.capacity_of.ensures, c.width_of-w.ensures) at c.has_room.ensures)))
