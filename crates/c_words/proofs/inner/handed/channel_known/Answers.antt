use Rattle.std.proofs.Common.{rules}
use Rattle.laws.specs.Below.{◌and◌}
use Rattle.c_words.specs.Handed.{channel_known}
use Rattle.c_words.proofs.inner.handed.channel_known.Goals as goal

pub returns-then-kinds_known : goal.returns-then-kinds_known
unfolding channel_known ◌and◌
returns-then-kinds_known c = search rules

pub returns-else-kinds_known : goal.returns-else-kinds_known
unfolding channel_known ◌and◌
returns-else-kinds_known c = search rules
