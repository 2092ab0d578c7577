use Prim.Native.Nat.{ℕ, ◌+◌, ◌≤◌, ◌<◌}
use mathlib.Core.Path.{◌≡◌, refl, sym, ap, subst, ◌∙◌}
use mathlib.Core.List.{List}
use native.Mathlib.Omega.{arith}
use borrow.Author.Rules.{rules}
use Rattle.grammar.specs.Slots.{slots_of}
use Rattle.grammar.specs.declared.values.Slot.{Slot}
use Rattle.std.specs.Prelude.{Option}
use Rattle.grammar.specs.declared.values.Val.{Val}
use Rattle.graph_tables.specs.Words.{variable_count, effect_count, effect_var}
use Rattle.run_steps.specs.Steps.{Effected, assigned, unchanged, effects_below}
use Rattle.run_steps.specs.Inner.{VarsLeft}
use Rattle.run_steps.proofs.StepLaws.{evaluated_anew, effects_turn, effects_stop}
use Rattle.run_steps.proofs.VarLaws.{vars_same, vars_more}
use Rattle.run_steps.proofs.inner.effects.run_effects.Goals as goal
use Rattle.run_steps.proofs.inner.effects.run_effects.Goals.{After-evaluate_on-evaluation}

pub effect_count-e-end-requires : goal.effect_count-e-end-requires
effect_count-e-end-requires c = (c.requires.0.words, omega (arith, c.requires.0.counts.actions))

pub loop-e-init : goal.loop-e-init
unfolding effects_below
loop-e-init c = (search rules, refl, refl, vars_same _ _)

pub effect_items-requires : goal.effect_items-requires
effect_items-requires c =
    let a = c.requires.0.action _ c.requires.1 in (
      c.requires.0.words,
      omega (arith, c.requires.0.counts.actions),
      omega (arith, a.few),
      ((a.plain c.requires.2).effect c.loop-e.e
          (omega arith)).expression.short,
    )

pub evaluate_on-evaluation-requires : goal.evaluate_on-evaluation-requires
evaluate_on-evaluation-requires c =
    c.loop-e.invariant.3.words ∙ c.requires.3

-- what the effect at hand makes of those before it
module _ (c : After-evaluate_on-evaluation) where
  abbrev o : After-evaluate_on-evaluation
  o = c

  abbrev t : List ℕ
  t = o.args.t.now

  abbrev a : ℕ
  a = o.args.a

  abbrev s : Effected
  s = unchanged (slots_of o.args.vars.now) o.args.word

  abbrev e : ℕ
  e = c.loop-e.e

  few : e < effect_count t a
  few = omega (arith, c.loop-e-test.true, c.effect_count-e-end.ensures)

  known : effect_var t a e < variable_count t
  known = (((o.requires.0.action _ o.requires.1).plain o.requires.2).effect e few).var

  turned : {z : Option Val} → c.evaluate_on-evaluation.result.value ≡ z
      → effects_below t a s (e + 1) ≡ assigned (effects_below t a s e) (effect_var t a e) z c.evaluate_on-evaluation.result.rest
  turned q =
      let i = c.loop-e.invariant in
      effects_turn t a s e c.evaluate_on-evaluation.result i.1
      (evaluated_anew c.evaluate_on-evaluation.ensures c.effect_items.ensures i.3.slots i.2) q

pub returns-in_default : goal.returns-in_default
returns-in_default c =
    let l = c.loop-e in
    let q = turned (goal.at.returns-in_default c).After-evaluate_on-evaluation c.in_default.is in
    let more : e (goal.at.returns-in_default c).After-evaluate_on-evaluation + 1 ≤ effect_count (t (goal.at.returns-in_default c).After-evaluate_on-evaluation) (a (goal.at.returns-in_default c).After-evaluate_on-evaluation) = omega (arith, few (goal.at.returns-in_default c).After-evaluate_on-evaluation) in
    let z = effects_stop (t (goal.at.returns-in_default c).After-evaluate_on-evaluation) (a (goal.at.returns-in_default c).After-evaluate_on-evaluation) (s (goal.at.returns-in_default c).After-evaluate_on-evaluation) (effect_count (t (goal.at.returns-in_default c).After-evaluate_on-evaluation) (a (goal.at.returns-in_default c).After-evaluate_on-evaluation)) (e (goal.at.returns-in_default c).After-evaluate_on-evaluation + 1) more (ap (λ (r : Effected). r.fits) q) ∙ q in (
      sym (ap (λ (r : Effected). r.fits) z),
      subst (λ (ss : List Slot). VarsLeft (variable_count (t (goal.at.returns-in_default c).After-evaluate_on-evaluation)) (o (goal.at.returns-in_default c).After-evaluate_on-evaluation).args.vars.now l.vars ss)
          (sym (ap (λ (r : Effected). r.vars) z)) l.invariant.3,
    )

pub effect_var-requires : goal.effect_var-requires
effect_var-requires c =
    let s = o (goal.at.effect_var-requires c).After-evaluate_on-evaluation in
    (s.requires.0.words, omega (arith, s.requires.0.counts.actions), omega (arith, (s.requires.0.action _ s.requires.1).few))

pub put-requires : goal.put-requires
put-requires c =
    omega (
      arith,
      c.effect_var.ensures,
      (o (goal.at.put-requires c).After-evaluate_on-evaluation).requires.0.counts.variables,
      known (goal.at.put-requires c).After-evaluate_on-evaluation,
      c.loop-e.invariant.3.words,
      (o (goal.at.put-requires c).After-evaluate_on-evaluation).requires.3,
    )

pub loop-e-preserved : goal.loop-e-preserved
loop-e-preserved c =
    let l = c.loop-e in
    let q = turned (goal.at.loop-e-preserved c).After-evaluate_on-evaluation c.in-Some.is in
    let u = c.effect_var.ensures in (
      omega arith,
      ap (λ (r : Effected). r.fits) q ∙ l.invariant.1,
      sym (ap (λ (r : Effected). r.word) q),
      vars_more l.vars (variable_count (t (goal.at.loop-e-preserved c).After-evaluate_on-evaluation)) c.effect_var.result _ (l.invariant.3.words ∙ (o (goal.at.loop-e-preserved c).After-evaluate_on-evaluation).requires.3) (omega (arith, u, known (goal.at.loop-e-preserved c).After-evaluate_on-evaluation))
          (o (goal.at.loop-e-preserved c).After-evaluate_on-evaluation).requires.0.counts.variables c.put.ensures.1 l.invariant.3 c.put.ensures.0 (ap (λ (r : Effected). r.vars) q ∙ rw u),
    )

pub returns : goal.returns
returns c =
    let l = c.loop-e in
    let n : l.e ≡ effect_count c.args.t.now c.args.a = omega (arith, c.effect_count-e-end.ensures) in
    (sym (rw n at l.invariant.1), rw n at l.invariant.3)
