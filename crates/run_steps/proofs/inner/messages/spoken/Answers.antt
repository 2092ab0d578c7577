use Prim.Native.Nat.{ℕ, ◌+◌, ◌≤◌, ◌<◌}
use mathlib.Core.Path.{◌≡◌, refl, sym, ap, ◌∙◌}
use mathlib.Core.List.{List}
use native.Mathlib.Omega.{arith}
use borrow.Author.Rules.{rules}
use Rattle.grammar.specs.Slots.{slots_of}
use Rattle.grammar.specs.declared.values.Slot.{Slot}
use Rattle.std.specs.Prelude.{Option}
use Rattle.grammar.specs.declared.values.Val.{Val}
use Rattle.graph_tables.specs.Words.{effect_count}
use Rattle.graph_tables.specs.declared.handed.Message.{Message}
use Rattle.run_steps.specs.Messages.{no_message, voiced, spoken_below, spoken_of}
use Rattle.run_steps.specs.declared.inner.messages.Speech.{Speech}
use Rattle.run_steps.proofs.StepLaws.{evaluated_anew}
use Rattle.run_steps.proofs.MessageLaws.{spoken_turn, spoken_stop}
use Rattle.run_steps.proofs.inner.messages.spoken.Invariants.{saying}
use Rattle.run_steps.proofs.inner.messages.spoken.Goals as goal
use Rattle.run_steps.proofs.inner.messages.spoken.Goals.{After-evaluate_on-evaluation}

pub effect_count-e-end-requires : goal.effect_count-e-end-requires
effect_count-e-end-requires c = (c.requires.0.words, omega (arith, c.requires.0.counts.actions))

pub loop-e-init : goal.loop-e-init
unfolding spoken_below
loop-e-init c = (search rules, refl)

pub effect_items-requires : goal.effect_items-requires
effect_items-requires c =
    let a = c.requires.0.action _ c.requires.1 in (
      c.requires.0.words,
      omega (arith, c.requires.0.counts.actions),
      omega (arith, a.few),
      ((a.send c.requires.2).expression
          c.loop-e.e (omega arith)).short,
    )

-- the values that the loop begins with are blank
begun : (t : List ℕ) (a : ℕ) (vars : List Slot) (word : ℕ) (m : Message) → m ≡ no_message
    → spoken_below t a vars (saying m.values word) (effect_count t a) ≡ spoken_of t a vars word
begun t a vars word m e = ap (λ (m : Message). spoken_below t a vars (saying m.values word) (effect_count t a)) e

-- what the expression at hand makes of those before it
module _ (c : After-evaluate_on-evaluation) where
  abbrev o : After-evaluate_on-evaluation
  o = c

  abbrev t : List ℕ
  t = o.args.t.now

  abbrev a : ℕ
  a = o.args.a

  abbrev vars : List Slot
  vars = slots_of o.args.vars.now

  abbrev s : Speech
  s = saying c.no_message-none.result.values o.args.word

  abbrev now : Speech
  now = saying c.loop-e.values c.loop-e.left

  abbrev e : ℕ
  e = c.loop-e.e

  few : e < effect_count t a
  few = omega (arith, c.loop-e-test.true, c.effect_count-e-end.ensures)

  turned : {z : Option Val} → c.evaluate_on-evaluation.result.value ≡ z
      → spoken_below t a vars s (e + 1) ≡ voiced now e z c.evaluate_on-evaluation.result.rest
  turned {z} q =
      let i = c.loop-e.invariant.1 in
      spoken_turn t a vars s e c.evaluate_on-evaluation.result (sym (ap (λ (r : Speech). r.fits) i))
      (evaluated_anew c.evaluate_on-evaluation.ensures c.effect_items.ensures refl (ap (λ (r : Speech). r.word) i)) q
      ∙ ap (λ (r : Speech). voiced r e z c.evaluate_on-evaluation.result.rest) (sym i)

pub returns-in_default : goal.returns-in_default
returns-in_default c =
    let q = turned (goal.at.returns-in_default c).After-evaluate_on-evaluation c.in_default.is in
    let more : e (goal.at.returns-in_default c).After-evaluate_on-evaluation + 1 ≤ effect_count (t (goal.at.returns-in_default c).After-evaluate_on-evaluation) (a (goal.at.returns-in_default c).After-evaluate_on-evaluation) = omega (arith, few (goal.at.returns-in_default c).After-evaluate_on-evaluation) in
    sym (spoken_stop (t (goal.at.returns-in_default c).After-evaluate_on-evaluation) (a (goal.at.returns-in_default c).After-evaluate_on-evaluation) (vars (goal.at.returns-in_default c).After-evaluate_on-evaluation) (s (goal.at.returns-in_default c).After-evaluate_on-evaluation) (effect_count (t (goal.at.returns-in_default c).After-evaluate_on-evaluation) (a (goal.at.returns-in_default c).After-evaluate_on-evaluation)) (e (goal.at.returns-in_default c).After-evaluate_on-evaluation + 1) more (ap (λ (r : Speech). r.fits) q) ∙ q)
    ∙ begun (t (goal.at.returns-in_default c).After-evaluate_on-evaluation) (a (goal.at.returns-in_default c).After-evaluate_on-evaluation) (vars (goal.at.returns-in_default c).After-evaluate_on-evaluation) (o (goal.at.returns-in_default c).After-evaluate_on-evaluation).args.word _ c.no_message-none.ensures

pub bounds-values-e : goal.bounds-values-e
bounds-values-e c =
    omega (arith, few (goal.at.bounds-values-e c).After-evaluate_on-evaluation, (((o (goal.at.bounds-values-e c).After-evaluate_on-evaluation).requires.0.action _ (o (goal.at.bounds-values-e c).After-evaluate_on-evaluation).requires.1).send (o (goal.at.bounds-values-e c).After-evaluate_on-evaluation).requires.2).few)

pub loop-e-preserved : goal.loop-e-preserved
loop-e-preserved c = (omega arith, sym (turned (goal.at.loop-e-preserved c).After-evaluate_on-evaluation c.in-Some.is))

pub returns : goal.returns
returns c =
    let t = c.args.t.now in
    let vars = slots_of c.args.vars.now in
    let n : c.loop-e.e ≡ effect_count t c.args.a = omega (arith, c.effect_count-e-end.ensures) in
    c.loop-e.invariant.1
    ∙ ap (spoken_below t c.args.a vars (saying c.no_message-none.result.values c.args.word)) n
    ∙ begun t c.args.a vars c.args.word _ c.no_message-none.ensures
