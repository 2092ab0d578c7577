use mathlib.Core.Path.{refl, ap, ◌∙◌}
use native.Mathlib.Omega.{arith}
use native.Mathlib.Numerals.{add-one}
use borrow.Author.Rules.{rules}
use Rattle.program_graph.specs.Running.{start_places}
use Rattle.program_graph.proofs.inner.fresh.start_places.Goals as goal

pub loop-p-init : goal.loop-p-init
unfolding start_places
loop-p-init c = (search rules, refl)

pub place_at-requires : goal.place_at-requires
place_at-requires c = (c.requires.0.words, omega (arith, c.requires.0.counts.processes))

pub overflow_cast-places : goal.overflow_cast-places
overflow_cast-places c =
    omega (arith, c.requires.0.counts.locations, (c.requires.0.process c.loop-p.p (omega arith)).place)

pub bounds-places-p : goal.bounds-places-p
bounds-places-p c = omega (arith, c.requires.0.counts.processes)

pub loop-p-preserved : goal.loop-p-preserved
unfolding start_places
loop-p-preserved c = (omega arith, rw add-one (cc))

pub returns : goal.returns
returns c = c.loop-p.invariant.1 ∙ ap (start_places _) (omega arith)
