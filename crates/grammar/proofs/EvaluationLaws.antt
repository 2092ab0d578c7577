-- The ways an evaluation ends.
use Prim.Native.Nat.{ℕ, ◌/◌, ◌^◌}
use mathlib.Core.Path.{◌≡◌, refl, sym, ap, ◌∙◌}
use mathlib.Core.Bool.{Bool, true, false}
use mathlib.Core.List.{List, []}
use lib.Dec.{leb}
use Rattle.laws.specs.Ladder.{unless}
use Rattle.laws.proofs.Ladder.{passed, stopped}
use Rattle.grammar.specs.Items.{deepest}
use Rattle.grammar.specs.Draws.{draws_of}
use Rattle.grammar.specs.Run.{Ran, gives, stuck, run_of}
use Rattle.grammar.specs.Evaluation.{value_steps, result_of, value_of, evaluation_of}
use Rattle.grammar.specs.declared.values.Slot.{Slot}
use Rattle.std.specs.Prelude.{Option, None}
use Rattle.grammar.specs.declared.values.Val.{Val}
use Rattle.grammar.specs.declared.evaluation.Evaluation.{Evaluation}

no_value : (t : Bool) → ◌≡◌ {A = Option Val} None (unless t None None)
unfolding unless
no_value true = refl
no_value false = refl

module _ (vars : List Slot) (word : ℕ) (ws : List ℕ) where
  -- a run that sticks has no value, however deep it is
  pub value_stuck : run_of (value_steps vars word ws) [] ≡ stuck → None ≡ value_of vars word ws
  unfolding value_of
  value_stuck e = no_value (leb (deepest ws 0) 16) ∙ ap (λ (r : Ran (Option Val)). unless (leb (deepest ws 0) 16) None (result_of r)) (sym e)

  pub value_deep : leb (deepest ws 0) 16 ≡ false → None ≡ value_of vars word ws
  unfolding value_of
  value_deep h = stopped None (result_of (run_of (value_steps vars word ws) [])) h

  pub value_given : {v : Option Val} → leb (deepest ws 0) 16 ≡ true → run_of (value_steps vars word ws) [] ≡ gives v → v ≡ value_of vars word ws
  unfolding value_of
  value_given h e = passed None h (ap result_of (sym e))

  -- the value and the rest together
  pub evaluated : {v : Option Val} {r : ℕ} → v ≡ value_of vars word ws → r ≡ word / 2 ^ draws_of ws
      → ◌≡◌ {A = Evaluation} (record { value = v; rest = r }) (evaluation_of vars word ws)
  unfolding evaluation_of
  evaluated e f = rw (e, f)
