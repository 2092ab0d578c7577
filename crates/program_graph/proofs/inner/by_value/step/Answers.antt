use mathlib.Core.Path.{refl, ap, ◌∙◌}
use native.Mathlib.Omega.{arith}
use Rattle.program_graph.specs.declared.record.ProgramGraphRun.{ProgramGraphRun}
use Rattle.program_graph.proofs.LeaveLaws.{variables_same}
use Rattle.program_graph.proofs.ValueLaws.{stored_run, stepped_small, stepped_back}
use Rattle.program_graph.proofs.inner.by_value.step.Goals as goal

pub store-requires : goal.store-requires
store-requires c =
    (refl, omega (arith, variables_same c.args.t.now c.args.run.now c.requires.1, c.requires.0.counts.variables))

pub step-answer-requires : goal.step-answer-requires
step-answer-requires c =
    (c.requires.0, stored_run c.args.t.now c.args.run.now c.store.new.r c.requires.0 c.requires.1 c.store.ensures)

pub load-requires : goal.load-requires
load-requires c =
    let did = c.step-answer.ensures in
    let small =
    stepped_small c.args.t.now c.args.run.now c.store.new.r c.requires.0 c.requires.1 c.store.ensures c.args.action
    c.args.posts.now _ c.args.word _ did in (
      did.1.words,
      omega (arith, variables_same c.args.t.now c.args.run.now c.requires.1, c.requires.0.counts.variables),
      small.0,
      small.1,
    )

pub returns : goal.returns
returns c =
    ap (λ (y : ProgramGraphRun). record { answer = c.step-answer.result; run = y }) c.load.ensures
    ∙ stepped_back c.args.t.now c.args.run.now c.store.new.r c.requires.0 c.requires.1 c.store.ensures c.args.action
    c.args.posts.now _ c.args.word _ c.step-answer.ensures
