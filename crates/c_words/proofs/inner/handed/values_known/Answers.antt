use Rattle.std.proofs.Common.{rules}
use Rattle.laws.specs.Below.{◌and◌}
use Rattle.std.proofs.lemmas.Bool.{eq-eqb}
use Rattle.laws.proofs.BelowLaws.{and_yes}
use Rattle.laws.proofs.Chains.{all_in_range}
use Rattle.c_words.specs.Handed.{values_known}
use Rattle.c_words.proofs.inner.handed.values_known.Goals as goal

pub returns-then-ws-eq0 : goal.returns-then-ws-eq0
unfolding values_known
returns-then-ws-eq0 c = and_yes (eq-eqb _ _ c.if-ws-eq0.true) (all_in_range _ _ c.all.ensures.ran (λ x b t k. search rules))

pub returns-else-ws-eq0 : goal.returns-else-ws-eq0
unfolding values_known ◌and◌
returns-else-ws-eq0 c = search rules
