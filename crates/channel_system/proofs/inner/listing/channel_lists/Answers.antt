use borrow.Author.Rules.{rules}
use Rattle.channel_system.proofs.inner.listing.channel_lists.Goals as goal

pub stored-stored-requires : goal.stored-stored-requires
stored-stored-requires c =
    rw c.queue_at.ensures (c.requires.1.queue c.args.q c.requires.2).formed.counted

pub capacity_of-capacity-requires : goal.capacity_of-capacity-requires
capacity_of-capacity-requires c =
    (c.requires.0.words, search rules, (c.requires.0.channel c.args.q c.requires.2).bound)

pub returns : goal.returns
returns c =
    rw (c.capacity_of-capacity.ensures, c.stored-stored.ensures, c.queue_at.ensures) at c.list_test.ensures
