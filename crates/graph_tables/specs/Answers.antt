-- What calls answer, and the number of each answer: 0 for ok, else the refusal's.
use Rattle.std.specs.Prelude.{ℕ, Ok, Err, ⊤}
use Rattle.std.specs.declared.result.Result.{Result}
use Rattle.graph_tables.specs.Refusals.{number_of}
use Rattle.graph_tables.specs.declared.refusals.Refusal.{Refusal}

-- what was asked for, or a refusal
abbrev pub Answer : Type 0 → Type 0
Answer A = Result A Refusal

abbrev pub answer_number : {A : Type 0} → Answer A → ℕ
answer_number (Ok x) = 0
answer_number (Err r) = number_of r

-- nothing was asked for, and the call is accepted
abbrev pub admitted : Answer ⊤
admitted = Ok tt
