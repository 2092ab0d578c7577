-- What a call leaves: its number, the table, run or state that it may change, and the lent result.
use Rattle.std.specs.Prelude.{ℕ, ◌≡◌, Bool, true, List, [], leb, length, ⊤}
use Rattle.graph_tables.specs.Answers.{Answer}
use Rattle.laws.specs.Ladder.{unless}
use Rattle.graph_builder.specs.Building.{Outcome}
use Rattle.c_words.specs.Told.{Told, put, number_words, placed_told, done_told}

pub record Given : Type 0 where
  pub number : ℕ
  pub memory : List ℕ
  pub out : List ℕ

-- numbers behind those of the rules
abbrev pub short : ℕ
short = 35

abbrev pub malformed : ℕ
malformed = 36

-- nothing at all is written
abbrev pub nothing : ℕ → List ℕ → List ℕ → Given
nothing n m out = record { number = n; memory = m; out = out }

-- the memory m is what a call leaves, the words that it tells stand at the front of the result
abbrev pub telling : Told → List ℕ → List ℕ → Given
telling a m out = record { number = a.number; memory = m; out = put a.words out }

-- 35 unless the result has room for n words, then 36 unless the arguments are such, then the call's own answer and the memory after it
unfoldable pub answering : ℕ → Bool → List ℕ → List ℕ → Told → List ℕ → Given
answering n known m out a after =
    unless (leb n (length out)) (nothing short m out) (unless known (nothing malformed m out) (telling a after out))

-- ---- by what is lent: a table and a result; a table alone; a result alone
abbrev pub placing : Bool → List ℕ → List ℕ → Outcome (Answer ℕ) → Given
placing known t out o = answering number_words known t out (placed_told o.answer) o.table

abbrev pub doing : Bool → List ℕ → Outcome (Answer ⊤) → Given
doing known t o = answering 0 known t [] (done_told o.answer) o.table

abbrev pub reading : ℕ → List ℕ → Told → Given
reading n out a = answering n true [] out a []

-- ---- a call's number and lent memory are those of a definition
abbrev pub Gives : ℕ → List ℕ → List ℕ → Given → Type 0
Gives r m out g = (r ≡ g.number) × (m ≡ g.memory) × (out ≡ g.out)

abbrev pub Does : ℕ → List ℕ → Given → Type 0
Does r m g = (r ≡ g.number) × (m ≡ g.memory)

abbrev pub Tells : ℕ → List ℕ → Given → Type 0
Tells r out g = (r ≡ g.number) × (out ≡ g.out)
