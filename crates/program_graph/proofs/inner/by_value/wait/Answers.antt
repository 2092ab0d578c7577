use mathlib.Core.Path.{refl, ap, ◌∙◌}
use native.Mathlib.Omega.{arith}
use Rattle.program_graph.specs.declared.record.ProgramGraphRun.{ProgramGraphRun}
use Rattle.program_graph.proofs.LeaveLaws.{variables_same}
use Rattle.program_graph.proofs.ValueLaws.{stored_run, waited_small, waited_back}
use Rattle.program_graph.proofs.inner.by_value.wait.Goals as goal

pub store-requires : goal.store-requires
store-requires c =
    (refl, omega (arith, variables_same c.args.t.now c.args.run.now c.requires.1, c.requires.0.counts.variables))

pub wait_on-answer-requires : goal.wait_on-answer-requires
wait_on-answer-requires c =
    (c.requires.0, stored_run c.args.t.now c.args.run.now c.store.new.r c.requires.0 c.requires.1 c.store.ensures)

pub load-requires : goal.load-requires
load-requires c =
    let did = c.wait_on-answer.ensures in
    let small =
    waited_small c.args.t.now c.args.run.now c.store.new.r c.requires.0 c.requires.1 c.store.ensures _
    c.args.delta _ did in (
      did.1.words,
      omega (arith, variables_same c.args.t.now c.args.run.now c.requires.1, c.requires.0.counts.variables),
      small.0,
      small.1,
    )

pub returns : goal.returns
returns c =
    ap (λ (y : ProgramGraphRun). record { answer = c.wait_on-answer.result; run = y }) c.load.ensures
    ∙ waited_back c.args.t.now c.args.run.now c.store.new.r c.requires.0 c.requires.1 c.store.ensures _ c.args.delta _
    c.wait_on-answer.ensures
