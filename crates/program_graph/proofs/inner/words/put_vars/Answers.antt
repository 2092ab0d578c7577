use mathlib.Core.Path.{◌≡◌, refl}
use native.Mathlib.Omega.{arith}
use lib.ListN.{length}
use Rattle.program_graph.proofs.StoredLaws.{stored_none, stored_more}
use Rattle.graph_tables.specs.Sizes.{variable_room}
use borrow.Author.Rules.{rules}
use Rattle.program_graph.proofs.inner.words.put_vars.Goals as goal

pub loop-v-init : goal.loop-v-init
loop-v-init c = (search rules, stored_none _ _ c.requires.0)

pub put-requires : goal.put-requires
put-requires c = omega (arith, c.requires.1, c.loop-v.invariant.1.used.words)

pub loop-v-preserved : goal.loop-v-preserved
loop-v-preserved c = (
  omega arith,
  stored_more c.loop-v.ws c.args.vars c.loop-v.v _ (omega (arith, c.requires.1)) c.put.ensures.1 refl
      c.loop-v.invariant.1 c.put.ensures.0,
)

pub returns : goal.returns
returns c =
    let e : c.loop-v.v ≡ c.args.n = omega arith in
    let size : length c.args.vars ≡ variable_room = search rules in
    (rw (← e) c.loop-v.invariant.1, size)
