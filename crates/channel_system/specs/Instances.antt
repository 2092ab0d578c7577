-- A new instance of a system: the answer, and the state afterwards (docs/RULES.md, 'Bad state' and 'Systems').
use Rattle.std.specs.Prelude.{ℕ, false, List, eqb, length, ⊤}
use Rattle.graph_tables.specs.Answers.{Answer, admitted}
use Rattle.laws.specs.Ladder.{unless}
use Rattle.graph_checks.specs.Checks.{refused_by}
use Rattle.system_tables.specs.Formed.{system_formed}
use Rattle.system_state.specs.Layout.{state_words}
use Rattle.system_state.specs.Fresh.{fresh_state}

pub record Made : Type 0 where
  pub answer : Answer ⊤
  pub state : List ℕ

-- 32 unless the table can be run and there are the words of a state
unfoldable pub new_instance_of : List ℕ → List ℕ → Made
new_instance_of t s =
    unless (system_formed t false) (record { answer = refused_by 32; state = s })
    (unless (eqb (length s) state_words) (record { answer = refused_by 32; state = s })
    (record { answer = admitted; state = fresh_state t s }))
