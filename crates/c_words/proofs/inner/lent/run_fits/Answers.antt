use Rattle.std.proofs.Common.{rules}
use Rattle.laws.specs.Below.{◌and◌}
use Rattle.c_words.specs.Lent.{run_fits}
use Rattle.c_words.proofs.inner.lent.run_fits.Goals as goal

pub returns-then-r-eq-WORDS : goal.returns-then-r-eq-WORDS
unfolding run_fits ◌and◌
returns-then-r-eq-WORDS c = search rules

pub returns-else-r-eq-WORDS : goal.returns-else-r-eq-WORDS
unfolding run_fits ◌and◌
returns-else-r-eq-WORDS c = search rules
