use Rattle.std.proofs.Common.{rules}
use Rattle.laws.specs.Below.{◌and◌}
use Rattle.c_words.specs.Handed.{limit_known}
use Rattle.c_words.proofs.inner.handed.limit_known.Goals as goal

pub returns-then-bound_known : goal.returns-then-bound_known
unfolding limit_known ◌and◌
returns-then-bound_known c = search rules

pub returns-else-bound_known : goal.returns-else-bound_known
unfolding limit_known ◌and◌
returns-else-bound_known c = search rules
