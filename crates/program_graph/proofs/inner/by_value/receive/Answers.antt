use mathlib.Core.Path.{refl, ap, ◌∙◌}
use native.Mathlib.Omega.{arith}
use Rattle.program_graph.specs.declared.record.ProgramGraphRun.{ProgramGraphRun}
use Rattle.program_graph.proofs.LeaveLaws.{variables_same}
use Rattle.program_graph.proofs.ValueLaws.{stored_run, received_small, received_back}
use Rattle.program_graph.proofs.inner.by_value.receive.Goals as goal

pub store-requires : goal.store-requires
store-requires c =
    (refl, omega (arith, variables_same c.args.t.now c.args.run.now c.requires.1, c.requires.0.counts.variables))

pub receive_on-answer-requires : goal.receive_on-answer-requires
receive_on-answer-requires c =
    (c.requires.0, stored_run c.args.t.now c.args.run.now c.store.new.r c.requires.0 c.requires.1 c.store.ensures)

pub load-requires : goal.load-requires
load-requires c =
    let did = c.receive_on-answer.ensures in
    let small =
    received_small c.args.t.now c.args.run.now c.store.new.r c.requires.0 c.requires.1 c.store.ensures c.args.action
    c.args.posts.now _ c.args.message _ did in (
      did.1.words,
      omega (arith, variables_same c.args.t.now c.args.run.now c.requires.1, c.requires.0.counts.variables),
      small.0,
      small.1,
    )

pub returns : goal.returns
returns c =
    ap (λ (y : ProgramGraphRun). record { answer = c.receive_on-answer.result; run = y }) c.load.ensures
    ∙ received_back c.args.t.now c.args.run.now c.store.new.r c.requires.0 c.requires.1 c.store.ensures c.args.action
    c.args.posts.now _ c.args.message _ c.receive_on-answer.ensures
