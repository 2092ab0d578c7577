use mathlib.Core.Path.{◌∙◌}
use Rattle.grammar.specs.Inner.{held_of}
use Rattle.grammar.proofs.HeldLaws.{nothing, no_boolean}
use Rattle.grammar.proofs.inner.evaluation.not.Goals as goal

pub returns-in-4294967296 : goal.returns-in-4294967296
unfolding held_of
returns-in-4294967296 c = rw c.in-4294967296.is

pub returns-in-4294967297 : goal.returns-in-4294967297
unfolding held_of
returns-in-4294967297 c = rw c.in-4294967297.is

pub returns-in_default : goal.returns-in_default
returns-in_default c = nothing ∙ no_boolean _ c.in_default.in_default-own.rest
