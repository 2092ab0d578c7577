-- Running and building calls one after the other, whatever they answer: a run goes on while its table grows.
use Rattle.std.specs.Prelude.{ℕ, ◌+◌, Bool, true, false, not, cond, List, [], ◌∷◌, eqb, get_or}
use Rattle.laws.specs.Below.{◌and◌}
use Rattle.graph_tables.specs.Answers.{Answer, answer_number}
use Rattle.graph_builder.specs.Building.{new_var_of, new_clock_of, new_process_of, new_initial_of}
use Rattle.graph_builder.specs.Chains.{Call, new_var, new_clock, new_action, new_process, add_reset, add_effect, new_send, new_receive}
use Rattle.graph_builder.specs.Chains.{new_timed_location, new_initial_location, add_transition, after, Fits}
use Rattle.program_graph.specs.Running.{fits_table, new_run_of}
use Rattle.program_graph.specs.RunChains.{RunCall, answer_to, run_after, is_accepted, delta_of, reset_by}
use Rattle.program_graph.specs.declared.record.ProgramGraphRun.{ProgramGraphRun}

-- a member of a chain: a call on the run, or one that builds
pub data Member : Type 0 where
  runs : RunCall → Member
  builds : Call → Member

-- a table and a run
pub record Stage : Type 0 where
  pub table : List ℕ
  pub run : ProgramGraphRun

-- a table and a fresh run of it
abbrev pub fresh : List ℕ → Stage
fresh t = record { table = t; run = (new_run_of t).run }

-- the run is one of the table's ('Bad state')
abbrev pub fitting : Stage → Bool
fitting s = fits_table s.table s.run

-- both after a member: the one leaves the table, the other the run
abbrev pub next : Stage → Member → Stage
next s (runs call) = record { table = s.table; run = run_after s.table s.run call }
next s (builds call) = record { table = after s.table call; run = s.run }

-- both after a chain
abbrev pub next_all : Stage → List Member → Stage
next_all s [] = s
next_all s (m ∷ ms) = next_all (next s m) ms

-- handed integers and times have 32 bits
abbrev pub MembersFit : List Member → Type 0
MembersFit [] = Unit {0}
MembersFit (runs call ∷ ms) = MembersFit ms
MembersFit (builds call ∷ ms) = Fits call × MembersFit ms

-- ---- what a run cannot follow: a process, a variable or a clock more
abbrev pub is_placed : Answer ℕ → Bool
is_placed p = eqb (answer_number p) 0

-- a building call adds one: it is of these four, and accepted
abbrev pub widens : List ℕ → Call → Bool
widens t (new_var v) = is_placed (new_var_of t v).answer
widens t new_clock = is_placed (new_clock_of t).answer
widens t new_action = false
widens t (new_process l) = is_accepted (new_process_of t l).answer
widens t (add_reset a clock) = false
widens t (add_effect a v ws) = false
widens t (new_send m count) = false
widens t (new_receive v) = false
widens t (new_timed_location l) = false
widens t (new_initial_location l) = is_placed (new_initial_of t l).answer
widens t (add_transition pre a post guarded ws l) = false

-- a member adds one; no running call does
abbrev pub adds : Stage → Member → Bool
adds s (runs call) = false
adds s (builds call) = widens s.table call

-- no member of a chain adds one
abbrev pub adds_none : Stage → List Member → Bool
adds_none s [] = true
adds_none s (m ∷ ms) = not (adds s m) and adds_none (next s m) ms

-- ---- clocks
-- the time of clock c
abbrev pub time_in : Stage → ℕ → ℕ
time_in s c = get_or s.run.times c 0

-- the time that a member takes: the delta of an accepted wait
abbrev pub takes : Stage → Member → ℕ
takes s (runs call) = cond (is_accepted (answer_to s.table s.run call)) (delta_of call) 0
takes s (builds call) = 0

-- the sum of the accepted waits of a chain
abbrev pub takes_all : Stage → List Member → ℕ
takes_all s [] = 0
takes_all s (m ∷ ms) = takes s m + takes_all (next s m) ms

-- a member is an accepted step that resets clock c by the table as it stands at that step
abbrev pub resets : ℕ → Stage → Member → Bool
resets c s (runs call) = is_accepted (answer_to s.table s.run call) and reset_by s.table c call
resets c s (builds call) = false

-- no member of a chain does
abbrev pub resets_none : ℕ → Stage → List Member → Bool
resets_none c s [] = true
resets_none c s (m ∷ ms) = not (resets c s m) and resets_none c (next s m) ms
