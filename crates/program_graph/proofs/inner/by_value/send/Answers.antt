use mathlib.Core.Path.{refl, ap, ◌∙◌}
use native.Mathlib.Omega.{arith}
use Rattle.program_graph.specs.Outcomes.{sent}
use Rattle.program_graph.specs.declared.record.ProgramGraphRun.{ProgramGraphRun}
use Rattle.program_graph.proofs.LeaveLaws.{variables_same}
use Rattle.program_graph.proofs.ValueLaws.{stored_run, sent_small, sent_back}
use Rattle.program_graph.proofs.inner.by_value.send.Goals as goal

pub store-requires : goal.store-requires
store-requires c =
    (refl, omega (arith, variables_same c.args.t.now c.args.run.now c.requires.1, c.requires.0.counts.variables))

pub send_on-said-requires : goal.send_on-said-requires
send_on-said-requires c =
    (c.requires.0, stored_run c.args.t.now c.args.run.now c.store.new.r c.requires.0 c.requires.1 c.store.ensures)

pub load-requires : goal.load-requires
load-requires c =
    let did = c.send_on-said.ensures in
    let small =
    sent_small c.args.t.now c.args.run.now c.store.new.r c.requires.0 c.requires.1 c.store.ensures c.args.action
    c.args.posts.now _ c.args.word _ did in (
      did.words.words,
      omega (arith, variables_same c.args.t.now c.args.run.now c.requires.1, c.requires.0.counts.variables),
      small.0,
      small.1,
    )

pub returns : goal.returns
returns c =
    ap (λ (y : ProgramGraphRun). sent c.send_on-said.result y)
    c.load.ensures
    ∙ sent_back c.args.t.now c.args.run.now c.store.new.r c.requires.0 c.requires.1 c.store.ensures c.args.action
    c.args.posts.now _ c.args.word _ c.send_on-said.ensures
