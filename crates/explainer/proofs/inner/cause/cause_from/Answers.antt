use Prim.Native.Nat.{◌<◌}
use borrow.Author.Tests.{le-ltb, lt-ltb}
use Rattle.laws.proofs.Ladder.{passed, stopped}
use Rattle.graph_tables.specs.Words.{transition_count}
use Rattle.program_graph.proofs.WordLaws.{vars_length, times_length}
use Rattle.explainer.specs.Cause.{cause_from}
use Rattle.explainer.proofs.inner.cause.cause_from.Goals as goal
use Rattle.explainer.proofs.inner.cause.cause_from.Goals.{Else-transition_count-k}

-- there is such a transition
known : (e : Else-transition_count-k) → e.args.k < transition_count e.args.t.now
known e = rw e.transition_count.ensures at e.if-transition_count-k.false

pub returns-then-transition_count-k : goal.returns-then-transition_count-k
unfolding cause_from
returns-then-transition_count-k c = stopped _ _ (le-ltb _ _ (rw c.transition_count.ensures at c.if-transition_count-k.true))

pub failing-failing-requires : goal.failing-failing-requires
failing-failing-requires c =
    (c.requires.0, known (goal.at.failing-failing-requires c).Else-transition_count-k, vars_length c.args.r.now c.requires.1, times_length c.args.r.now c.requires.1, c.requires.2)

pub number-requires : goal.number-requires
number-requires c =
    (c.requires.0, known (goal.at.number-requires c).Else-transition_count-k, times_length c.args.r.now c.requires.1, c.requires.2)

pub returns : goal.returns
unfolding cause_from
returns c =
    passed _ (lt-ltb _ _ (known (goal.at.returns c).Else-transition_count-k)) (rw (c.number.ensures, c.failing-failing.ensures))
