use mathlib.Core.Path.{◌≡◌, sym, ◌∙◌}
use Rattle.graph_tables.specs.Answers.{answer_number}
use Rattle.program_graph.specs.Running.{step_of}
use Rattle.system_tables.specs.Words.{graph_part}
use Rattle.channel_system.specs.Steps.{run_of}
use Rattle.channel_system.proofs.RunLaws.{small, part_sound, part_run}
use Rattle.explainer.specs.Facts.{Asked}
use Rattle.explainer.specs.Why.{unsatisfied, graph_why}
use Rattle.explainer.proofs.EightLaws.{eight_asked}
use Rattle.explainer.proofs.CauseTheorems.{cause_real, real_stands}
use Rattle.explainer.proofs.WhyLaws.{why_other, why_eight}
use Rattle.explainer.proofs.inner.found.on_graph.Goals as goal
use Rattle.explainer.proofs.inner.found.on_graph.Goals.{After-step_number-number, Else-number}

pub graph_at-graph-requires : goal.graph_at-graph-requires
graph_at-graph-requires c = (c.requires.table.words, small c.requires)

pub run_at-run-requires : goal.run_at-run-requires
run_at-run-requires c = (c.requires.state.words, small c.requires)

pub step_number-number-requires : goal.step_number-number-requires
step_number-number-requires c =
    rw (c.run_at-run.ensures, c.graph_at-graph.ensures) (part_sound c.requires, part_run c.requires)

-- what the graph's own step answers
answers : (c : After-step_number-number)
    → c.step_number-number.result
    ≡ answer_number
    (step_of (graph_part c.args.t.now c.args.g) (run_of c.args.s.now c.args.g) c.args.a c.args.posts.now
    c.args.word).answer
answers c = c.step_number-number.ensures ∙ rw (c.run_at-run.ensures, c.graph_at-graph.ensures)

pub returns-then-number : goal.returns-then-number
unfolding graph_why
returns-then-number c =
    c.answered.ensures
    ∙ rw (answers (goal.at.returns-then-number c).After-step_number-number) (why_other _ _ (λ e. c.if-number.true (answers (goal.at.returns-then-number c).After-step_number-number ∙ e ∙ sym c.number.ensures)))

-- it is 8
eight : (c : Else-number) → c.step_number-number.result ≡ unsatisfied
eight c = c.if-number.false ∙ c.number.ensures

asked_so : (c : After-step_number-number)
    → c.step_number-number.result ≡ unsatisfied
    → Asked (graph_part c.args.t.now c.args.g) (run_of c.args.s.now c.args.g) c.args.a c.args.posts.now
asked_so c e =
    eight_asked (graph_part c.args.t.now c.args.g) (part_sound c.requires) (run_of c.args.s.now c.args.g) c.args.posts.now
    c.args.a c.args.word (sym (answers c) ∙ e)

pub cause-cause-requires : goal.cause-cause-requires
cause-cause-requires c =
    rw (c.run_at-run.ensures, c.graph_at-graph.ensures) (part_sound c.requires, part_run c.requires, asked_so (goal.at.cause-cause-requires c).After-step_number-number (eight (goal.at.cause-cause-requires c).Else-number))

pub place_of-requires : goal.place_of-requires
place_of-requires c =
    rw (c.cause-cause.ensures, c.run_at-run.ensures, c.graph_at-graph.ensures)
    (part_sound c.requires, small c.requires, real_stands (cause_real _ _ _ _ (asked_so (goal.at.place_of-requires c).After-step_number-number (eight (goal.at.place_of-requires c).Else-number))))

pub returns : goal.returns
unfolding graph_why
returns c =
    rw (c.place_of.ensures, c.cause-cause.ensures, c.run_at-run.ensures, c.graph_at-graph.ensures, eight (goal.at.returns c).Else-number)
    (why_eight _ _ (sym (answers (goal.at.returns c).After-step_number-number) ∙ eight (goal.at.returns c).Else-number))
