use mathlib.Core.Path.{◌≡◌, sym, ap, ◌∙◌}
use Rattle.std.specs.Prelude.{Option}
use Rattle.grammar.specs.declared.values.Val.{Val}
use Rattle.grammar.specs.declared.evaluation.Evaluation.{Evaluation}
use Rattle.run_steps.specs.Steps.{is_true, satisfied}
use Rattle.run_steps.proofs.inner.candidates.is_satisfied.Goals as goal

-- r is what the call gave, e what its contract says, a the answer that the code found in r
told : {r e : Evaluation} {a : Option Val} → r.value ≡ a → r ≡ e → satisfied a ≡ satisfied e.value
told found given = ap satisfied (sym found ∙ ap (λ (x : Evaluation). x.value) given)

pub returns-in_default : goal.returns-in_default
returns-in_default c = told c.in_default.is c.evaluate_on-evaluation.ensures

pub returns-in_default-value : goal.returns-in_default-value
returns-in_default-value c =
    ap is_true (sym c.in_default-value.is) ∙ told c.in-Some.is c.evaluate_on-evaluation.ensures

pub returns : goal.returns
returns c =
    ap is_true (sym c.in-Boolean.is) ∙ told c.in-Some.is c.evaluate_on-evaluation.ensures
