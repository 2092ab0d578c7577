-- Answers by their numbers: an accepted one is no refusal.
use Rattle.std.specs.Prelude.{Ok, Err, ⊤}
use Prim.Native.Nat.{ℕ}
use mathlib.Core.Path.{◌≡◌, refl, ap}
use mathlib.Core.Bool.{Bool}
use Rattle.laws.specs.Ladder.{unless}
use Rattle.laws.proofs.Ladder.{rung}
use Rattle.graph_tables.specs.Answers.{Answer, admitted, answer_number}
use Rattle.graph_tables.specs.declared.refusals.Refusal.{Refusal}
use Rattle.graph_tables.proofs.NumberLaws.{above_ok}
use Rattle.program_graph.specs.Facts.{Accepted, Not}
use Rattle.program_graph.specs.declared.record.ProgramGraphRun.{ProgramGraphRun}

pub accepted_ok : Accepted admitted
accepted_ok = record { number = refl }

pub is_ok : {d : Answer ⊤} → d ≡ admitted → Accepted d
is_ok e = record { number = ap answer_number e }

pub not_ok : {P : Type 0} {r : Refusal} → Accepted (Err r) → P
not_ok {r = r} e = absurd (above_ok r e.number)

-- an answer accepts or it does not
pub answered : {P : Type 0} (d : Answer ⊤) → (Accepted d → P) → ((Accepted d → ⊥) → P) → P
answered (Ok _) f g = f accepted_ok
answered (Err r) f g = g not_ok

-- a number that neither the refusal of a rung nor the rest answers, the rung does not answer
pub skip : {A : Type 0} (answer : A → Answer ⊤) (n : ℕ) (b : Bool) (x rest : A) → Not n (answer x) → Not n (answer rest)
    → Not n (answer (unless b x rest))
skip answer n b x rest h k = rung (λ s. Not n (answer s)) b x rest h (λ e. k)

-- what comes back of a call that is not accepted is the run that was handed in
abbrev pub Returns : {A : Type 0} → (A → Answer ⊤) → (A → ProgramGraphRun) → ProgramGraphRun → A → Type 0
Returns answer after run s = (Accepted (answer s) → ⊥) → after s ≡ run
