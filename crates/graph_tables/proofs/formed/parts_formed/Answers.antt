use borrow.Author.Rules.{rules}
use mathlib.Core.Path.{◌≡◌, sym, ◌∙◌}
use mathlib.Core.Bool.{true}
use Rattle.laws.specs.Below.{all_below}
use Rattle.laws.proofs.BelowLaws.{and_yes, and_no}
use Rattle.std.proofs.iter.Serving.{serving}
use Rattle.laws.proofs.Chains.{all_in_range}
use Rattle.graph_tables.specs.Words.{variable_count, location_count, action_count, process_count}
use Rattle.graph_tables.specs.Formed.{parts_formed, variable_formed, location_formed, process_formed, action_formed}
use Rattle.graph_tables.specs.Sound.{KindsFit}
use Rattle.graph_tables.proofs.FormedLaws.{kinds_fit}
use Rattle.graph_tables.proofs.formed.parts_formed.Goals as goal
use Rattle.graph_tables.proofs.formed.parts_formed.Goals.{After-all, After-all-2, After-all-3, After-all-4}

-- what each scan says
variables : (d : After-all) → all_below (variable_count d.args.t.now) (variable_formed d.args.t.now) ≡ d.all.result
variables d =
    let t = d.args.t.now in
    sym (rw (← d.variable_count.ensures) (all_in_range (variable_formed t) d.variable_count.result d.all.ensures.ran (λ x b s k. search rules)))

locations : (d : After-all-2) → all_below (location_count d.args.t.now) (location_formed d.args.t.now) ≡ d.all-2.result
locations d =
    let t = d.args.t.now in
    sym (rw (← d.location_count.ensures) (all_in_range (location_formed t) d.location_count.result d.all-2.ensures.ran (λ x b s k. search rules)))

processes : (d : After-all-3) → all_below (process_count d.args.t.now) (process_formed d.args.t.now) ≡ d.all-3.result
processes d =
    let t = d.args.t.now in
    sym (rw (← d.process_count.ensures) (all_in_range (process_formed t) d.process_count.result d.all-3.ensures.ran (λ x b s k. search rules)))

actions : (d : After-all-4) → all_below (action_count d.args.t.now) (action_formed d.args.t.now) ≡ d.all-4.result
actions d =
    let t = d.args.t.now in
    sym (rw (← d.action_count.ensures) (all_in_range (action_formed t) d.action_count.result d.all-4.ensures.ran (λ x b s k. search rules)))

pub returns-then-not-all : goal.returns-then-not-all
unfolding parts_formed
returns-then-not-all c = and_no _ (variables (goal.at.returns-then-not-all c).After-all ∙ c.if-not-all.true)

pub returns-then-not-all-2 : goal.returns-then-not-all-2
unfolding parts_formed
returns-then-not-all-2 c =
    let at = goal.at.returns-then-not-all-2 c in
    and_yes (variables at.After-all ∙ c.if-not-all.false) (and_no _ (locations at.After-all-2 ∙ c.if-not-all-2.true))

pub all-requires-3-clause-callable : goal.all-requires-3-clause-callable
all-requires-3-clause-callable c =
    let at = goal.at.all-requires-3-clause-callable c in
    let known : all_below (location_count c.args.t.now) (location_formed c.args.t.now) ≡ true = locations at.After-all-2 ∙ c.if-not-all-2.false in
    grind serving

pub returns-then-not-all-3 : goal.returns-then-not-all-3
unfolding parts_formed
returns-then-not-all-3 c =
    let at = goal.at.returns-then-not-all-3 c in
    and_yes (variables at.After-all ∙ c.if-not-all.false)
    (and_yes (locations at.After-all-2 ∙ c.if-not-all-2.false) (and_no _ (processes at.After-all-3 ∙ c.if-not-all-3.true)))

pub all-requires-4-clause-callable : goal.all-requires-4-clause-callable
all-requires-4-clause-callable c =
    let at = goal.at.all-requires-4-clause-callable c in
    let fit : KindsFit c.args.t.now = kinds_fit c.args.t.now (variables at.After-all ∙ c.if-not-all.false) in
    grind serving

pub returns-then-not-all-4 : goal.returns-then-not-all-4
unfolding parts_formed
returns-then-not-all-4 c =
    let at = goal.at.returns-then-not-all-4 c in
    and_yes (variables at.After-all ∙ c.if-not-all.false)
    (and_yes (locations at.After-all-2 ∙ c.if-not-all-2.false)
    (and_yes (processes at.After-all-3 ∙ c.if-not-all-3.false) (and_no _ (actions at.After-all-4 ∙ c.if-not-all-4.true))))

pub all-requires-5-clause-callable : goal.all-requires-5-clause-callable
all-requires-5-clause-callable c =
    let at = goal.at.all-requires-5-clause-callable c in
    let fit : KindsFit c.args.t.now = kinds_fit c.args.t.now (variables at.After-all ∙ c.if-not-all.false) in
    grind serving

pub returns : goal.returns
unfolding parts_formed
returns c =
    let at = goal.at.returns c in
    and_yes (variables at.After-all ∙ c.if-not-all.false)
    (and_yes (locations at.After-all-2 ∙ c.if-not-all-2.false)
    (and_yes (processes at.After-all-3 ∙ c.if-not-all-3.false)
    (and_yes (actions at.After-all-4 ∙ c.if-not-all-4.false)
    (rw (← c.transition_count.ensures) (all_in_range _ _ c.all-5.ensures.ran (λ x b s k. search rules))))))
