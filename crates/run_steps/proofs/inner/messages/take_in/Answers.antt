use Prim.Native.Nat.{ℕ, ◌+◌, ◌<◌}
use mathlib.Core.Path.{◌≡◌, refl, ◌∙◌}
use native.Mathlib.Omega.{arith}
use native.Mathlib.Numerals.{add-one}
use lib.ListN.{set, get_or, length-set}
use borrow.Author.Rules.{rules}
use mathlib.Core.List.{List}
use Rattle.grammar.specs.Evaluation.{blank}
use Rattle.grammar.specs.declared.values.Slot.{Slot}
use Rattle.graph_tables.specs.Words.{variable_count, effect_count, effect_var}
use Rattle.graph_tables.specs.declared.handed.Message.{Message}
use Rattle.run_steps.specs.Messages.{taken_below}
use Rattle.run_steps.proofs.VarLaws.{vars_same, vars_more}
use Rattle.run_steps.proofs.inner.messages.take_in.Goals as goal
use Rattle.run_steps.proofs.inner.messages.take_in.Goals.{After-effect_var}

pub effect_count-e-end-requires : goal.effect_count-e-end-requires
effect_count-e-end-requires c = (c.requires.0.words, omega (arith, c.requires.0.counts.actions))

pub loop-e-init : goal.loop-e-init
unfolding taken_below
loop-e-init c = (search rules, refl, λ m h. vars_same _ _)

pub bounds-values-e : goal.bounds-values-e
bounds-values-e c =
    omega (arith, c.effect_count-e-end.ensures, ((c.requires.0.action _ c.requires.1).receive c.requires.2).few)

pub effect_var-requires : goal.effect_var-requires
effect_var-requires c =
    (c.requires.0.words, omega (arith, c.requires.0.counts.actions), omega (arith, (c.requires.0.action _ c.requires.1).few))

-- the variable that takes the value at hand
known : (c : After-effect_var)
    → c.effect_var.result < variable_count c.args.t.now
known c =
    omega (
      arith,
      c.effect_var.ensures,
      ((c.requires.0.action _ c.requires.1).receive c.requires.2).var
          c.loop-e.e (omega arith),
    )

pub put-requires : goal.put-requires
put-requires c =
    omega (arith, known (goal.at.put-requires c).After-effect_var, c.requires.0.counts.variables, c.loop-e.invariant.1, c.requires.3)

-- one more value, where v is the variable that takes it and ws are the message's values
taken_more : (t : List ℕ) (a : ℕ) (m : Message) (vars : List Slot) (n : ℕ) {v : ℕ} {ws : List Slot} → v ≡ effect_var t a n → ws ≡ m.values →
    taken_below t a m vars (n + 1) ≡ set (taken_below t a m vars n) v (record { value = (get_or ws n blank).value })
unfolding taken_below
taken_more t a m vars n e h = rw (add-one, e, h) refl

pub loop-e-preserved : goal.loop-e-preserved
loop-e-preserved c =
    let l = c.loop-e in (
      omega arith,
      rw c.put.ensures.0 (simp length-set l.invariant.1),
      λ m h.
          vars_more l.vars (variable_count c.args.t.now) c.effect_var.result _ (l.invariant.1 ∙ c.requires.3) (known (goal.at.loop-e-preserved c).After-effect_var)
          c.requires.0.counts.variables c.put.ensures.1 (l.invariant.2 m h) c.put.ensures.0
          (taken_more c.args.t.now c.args.a m _ l.e c.effect_var.ensures h),
    )

pub returns : goal.returns
returns c =
    let l = c.loop-e in
    let n : l.e ≡ effect_count c.args.t.now c.args.a = omega (arith, c.effect_count-e-end.ensures) in
    rw n at (l.invariant.2 c.args.message refl)
