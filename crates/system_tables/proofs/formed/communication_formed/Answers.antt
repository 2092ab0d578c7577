use native.Mathlib.Omega.{arith}
use Rattle.system_tables.specs.Formed.{communication_formed}
use Rattle.system_tables.proofs.formed.communication_formed.Goals as goal

pub communication_at-w-requires : goal.communication_at-w-requires
communication_at-w-requires c = let p = c.requires in (p.0.0, p.1, omega (arith, p.2.0.counts.actions, p.2.1))

pub communication_fits-requires : goal.communication_fits-requires
communication_fits-requires c =
    let p = c.requires in
    (p.0, (rw c.graph_at.ensures p.2.0, rw c.graph_at.ensures p.2.1))

pub returns : goal.returns
unfolding communication_formed
returns c =
    rw (c.communication_at-w.ensures, c.graph_at.ensures) at c.communication_fits.ensures
