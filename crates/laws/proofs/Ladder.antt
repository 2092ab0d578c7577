-- Laws of a ladder of refusals, of which each `return` of the code knows the first few rungs.
use mathlib.Core.Path.{◌≡◌, refl, sym, ap, ◌∙◌}
use mathlib.Core.Bool.{Bool, true, false}
use Rattle.laws.specs.Ladder.{unless}

pub passed : {A : Type 0} {ok : Bool} (refusal : A) {r rest : A} → ok ≡ true → r ≡ rest → r ≡ unless ok refusal rest
unfolding unless
passed {ok = ok} refusal {r} {rest} e k = k ∙ ap (λ (b : Bool). unless b refusal rest) (sym e)

pub stopped : {A : Type 0} {ok : Bool} (refusal rest : A) → ok ≡ false → refusal ≡ unless ok refusal rest
unfolding unless
stopped refusal rest e = ap (λ (b : Bool). unless b refusal rest) (sym e)

-- what is so of the refusal, and of the rest where the test holds, is so of the rung
pub rung : {A : Type 0} (P : A → Type 0) (b : Bool) (refusal rest : A) → P refusal → (b ≡ true → P rest) → P (unless b refusal rest)
unfolding unless
rung P true refusal rest h k = k refl
rung P false refusal rest h k = h
