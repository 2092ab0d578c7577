-- What holds of a run while its table grows, over chains of running and building calls.
use Prim.Native.Nat.{ℕ, ◌+◌, ◌<◌}
use mathlib.Core.Path.{◌≡◌, refl, sym, ap, subst, ◌∙◌}
use mathlib.Core.Logic.{◌≢◌}
use mathlib.Core.Bool.{Bool, true, false, not, cond}
use mathlib.Core.List.{List, [], ◌∷◌, ◌++◌}
use native.Mathlib.Omega.{arith}
use Rattle.laws.specs.Below.{◌and◌}
use Rattle.laws.proofs.BelowLaws.{and_first, and_rest, and_both}
use Rattle.laws.proofs.Tests.{never}
use Rattle.graph_tables.specs.Words.{clock_count, action_count}
use Rattle.graph_tables.specs.Answers.{answer_number}
use Rattle.graph_tables.specs.Formed.{well_formed}
use Rattle.graph_builder.specs.Building.{add_reset_of}
use Rattle.graph_builder.specs.Chains.{Call, add_reset, answer_of, Fits}
use Rattle.graph_builder.proofs.Theorems.{none_fewer, stays_formed, call_known as building-known}
use Rattle.program_graph.specs.Facts.{Sized, Not}
use Rattle.program_graph.specs.RunChains.{RunCall, transition, answer_to, run_after, is_accepted, resets_clock}
use Rattle.program_graph.specs.GrowingChains.{Member, runs, builds, Stage, fresh, fitting, next, next_all, MembersFit}
use Rattle.program_graph.specs.GrowingChains.{widens, adds_none, time_in, takes, takes_all, resets_none}
use Rattle.program_graph.specs.declared.record.ProgramGraphRun.{ProgramGraphRun}
use Rattle.program_graph.proofs.RunLaws.{table_formed}
use Rattle.program_graph.proofs.RunKept.{fresh_fits}
use Rattle.program_graph.proofs.RunChains.{call_keeps, call_known, call_clock, zero_clock}
use Rattle.program_graph.proofs.ClockTheorems.{one_call}
use Rattle.program_graph.proofs.GrowingCounts.{total, counts_rise}
use Rattle.program_graph.proofs.GrowingMembers.{for_building, bad_answer, bad_returns, sized_call, build_keeps}
use Rattle.program_graph.proofs.GrowingMembers.{run_total, total_same, outgrown, total_grows}
use Rattle.program_graph.proofs.GrowingResets.{reset_kept, reset_added}

-- ---- chains in two parts
pub next_both : (s : Stage) (first second : List Member) → next_all s (first ++ second) ≡ next_all (next_all s first) second
next_both s [] second = refl
next_both s (m ∷ ms) second = next_both (next s m) ms second

pub fit_first : (first second : List Member) → MembersFit (first ++ second) → MembersFit first
fit_first [] second fit = tt
fit_first (runs call ∷ ms) second fit = fit_first ms second fit
fit_first (builds call ∷ ms) second fit = (fit.0, fit_first ms second fit.1)

pub fit_second : (first second : List Member) → MembersFit (first ++ second) → MembersFit second
fit_second [] second fit = fit
fit_second (runs call ∷ ms) second fit = fit_second ms second fit
fit_second (builds call ∷ ms) second fit = fit_second ms second fit.1

none_first : (s : Stage) (first second : List Member) → adds_none s (first ++ second) ≡ true → adds_none s first ≡ true
none_first s [] second n = refl
none_first s (m ∷ ms) second n = and_both (and_first _ _ n) (none_first (next s m) ms second (and_rest _ _ n))

-- the table is well formed for building throughout
formed_all : (s : Stage) (ms : List Member) → MembersFit ms → well_formed s.table true ≡ true
    → well_formed (next_all s ms).table true ≡ true
formed_all s [] fit h = h
formed_all s (runs call ∷ ms) fit h = formed_all (next s (runs call)) ms fit h
formed_all s (builds call ∷ ms) fit h = formed_all (next s (builds call)) ms fit.1 (stays_formed s.table call fit.0 h)

-- After every chain no building call answers 32.
pub growing_builds : (s : Stage) → well_formed s.table true ≡ true → (ms : List Member) → MembersFit ms
    → (call : Call) → answer_of (next_all s ms).table call ≢ 32
growing_builds s h ms fit call = building-known (next_all s ms).table call (formed_all s ms fit h)

-- ---- the run and the table
-- once a table has outgrown the run it stays so
stays_outgrown : (s : Stage) (ms : List Member) → MembersFit ms → well_formed s.table true ≡ true → run_total s.run < total s.table
    → fitting (next_all s ms) ≡ false
stays_outgrown s [] fit h l = outgrown s.table s.run l
stays_outgrown s (runs call ∷ ms) fit h l =
    let same : run_after s.table s.run call ≡ s.run = bad_returns s.table s.run call (outgrown s.table s.run l) in
    stays_outgrown (next s (runs call)) ms fit h (subst (λ (r : ProgramGraphRun). run_total r < total s.table) (sym same) l)
stays_outgrown s (builds call ∷ ms) fit h l =
    stays_outgrown (next s (builds call)) ms fit.1 (stays_formed s.table call fit.0 h)
    (omega (arith, l, total_grows s.table call fit.0))

-- After a chain the run is one of its table's exactly when no accepted member added a process, a variable or a clock.
pub fits_exactly : (s : Stage) → fitting s ≡ true → Sized s.run → (ms : List Member) → MembersFit ms
    → fitting (next_all s ms) ≡ adds_none s ms
unfolding ◌and◌
fits_exactly s f z [] fit = f
fits_exactly s f z (runs call ∷ ms) fit =
    let k = call_keeps s.table s.run call f z in
    fits_exactly (next s (runs call)) k.0 k.1 ms fit
fits_exactly s f z (builds call ∷ ms) fit =
    by (widens s.table call) refl (λ e. fits_exactly (next s (builds call)) e z ms fit.1)
  where
    formed : well_formed s.table true ≡ true
    formed = for_building s.table (table_formed s.table s.run f)

    grown : Stage
    grown = next s (builds call)

    by : (b : Bool) → widens s.table call ≡ b → (fitting grown ≡ true → fitting (next_all grown ms) ≡ adds_none grown ms)
        → fitting (next_all grown ms) ≡ (not b and adds_none grown ms)
    by true e k =
        stays_outgrown grown ms fit.1 (stays_formed s.table call fit.0 formed)
        (omega (arith, total_same s.table s.run f, counts_rise s.table call fit.0 e))
    by false e k = k (build_keeps s.table s.run call fit.0 f e)

module _ (s : Stage) (f : fitting s ≡ true) (z : Sized s.run) where
  -- After a chain that added none no running call answers 32,
  pub growing_known : (ms : List Member) → MembersFit ms → adds_none s ms ≡ true
      → (call : RunCall) → Not 32 (answer_to (next_all s ms).table (next_all s ms).run call)
  growing_known ms fit n call = call_known (next_all s ms).table (next_all s ms).run call (fits_exactly s f z ms fit ∙ n)

  -- and after one that added one every running call does.
  pub growing_bad : (ms : List Member) → MembersFit ms → adds_none s ms ≡ false
      → (call : RunCall) → answer_number (answer_to (next_all s ms).table (next_all s ms).run call) ≡ 32
  growing_bad ms fit n call = bad_answer (next_all s ms).table (next_all s ms).run call (fits_exactly s f z ms fit ∙ n)

  -- So no running call of a chain that adds none answers 32.
  pub never_bad : (first : List Member) (call : RunCall) (second : List Member) → MembersFit (first ++ (runs call ∷ second))
      → adds_none s (first ++ (runs call ∷ second)) ≡ true → Not 32 (answer_to (next_all s first).table (next_all s first).run call)
  never_bad first call second fit n =
      growing_known first (fit_first first (runs call ∷ second) fit) (none_first s first (runs call ∷ second) n) call

-- ---- clocks
-- what a clock's time asks, and every member keeps
record Timed (c : ℕ) (s : Stage) : Type 0 where
  formed : well_formed s.table true ≡ true
  sized : Sized s.run
  known : c < clock_count s.table

timed_run : (c : ℕ) (s : Stage) (call : RunCall) → Timed c s → Timed c (next s (runs call))
timed_run c s call t = record { formed = t.formed; sized = sized_call s.table s.run call t.sized; known = t.known }

timed_build : (c : ℕ) (s : Stage) (call : Call) → Fits call → Timed c s → Timed c (next s (builds call))
timed_build c s call fit t = record {
  formed = stays_formed s.table call fit t.formed;
  sized = t.sized;
  known = omega (arith, t.known, none_fewer s.table call fit);
}

timed_all : (c : ℕ) (s : Stage) (ms : List Member) → MembersFit ms → Timed c s → Timed c (next_all s ms)
timed_all c s [] fit t = t
timed_all c s (runs call ∷ ms) fit t = timed_all c (next s (runs call)) ms fit (timed_run c s call t)
timed_all c s (builds call ∷ ms) fit t = timed_all c (next s (builds call)) ms fit.1 (timed_build c s call fit.0 t)

-- a test that is not so together with one that is
not_both : (a b : Bool) → not (a and b) ≡ true → a ≡ true → b ≡ false
unfolding ◌and◌
not_both true true n e = never n
not_both true false n e = refl
not_both false b n e = never e

-- while nothing resets it a clock goes on by the accepted waits
goes_on : (c : ℕ) (s : Stage) (ms : List Member) → MembersFit ms → Timed c s → resets_none c s ms ≡ true
    → time_in (next_all s ms) c ≡ time_in s c + takes_all s ms
goes_on c s [] fit t n = omega arith
goes_on c s (runs call ∷ ms) fit t n =
    let one : time_in (next s (runs call)) c ≡ time_in s c + takes s (runs call) =
    call_clock s.table s.run call c t.sized t.known
    ∙ one_call s.table c (is_accepted (answer_to s.table s.run call)) call (time_in s c) (not_both _ _ (and_first _ _ n))
    in
    omega (arith, one, goes_on c (next s (runs call)) ms fit (timed_run c s call t) (and_rest _ _ n))
goes_on c s (builds call ∷ ms) fit t n =
    omega (arith, goes_on c (next s (builds call)) ms fit.1 (timed_build c s call fit.0 t) (and_rest _ _ n))

-- an accepted step that resets the clock leaves it at 0
reset_step : (c : ℕ) (s : Stage) → Timed c s → (a : ℕ) (posts : List ℕ) (word : ℕ)
    → is_accepted (answer_to s.table s.run (transition a posts word)) ≡ true → resets_clock s.table a c ≡ true
    → time_in (next s (runs (transition a posts word))) c ≡ 0
reset_step c s t a posts word e r =
    call_clock s.table s.run (transition a posts word) c t.sized t.known
    ∙ ap (λ (b : Bool). cond b (cond (resets_clock s.table a c) 0 (time_in s c)) (time_in s c)) e
    ∙ ap (λ (b : Bool). cond b 0 (time_in s c)) r

-- On a well-formed table, for a clock that it has:
module _ (s : Stage) (formed : well_formed s.table true ≡ true) (z : Sized s.run) (c : ℕ) (known : c < clock_count s.table) where
  start : Timed c s
  start = record { formed = formed; sized = z; known = known }

  -- A clock reads what it did at a split of the chain, and the accepted waits behind it, if no accepted step behind it resets the
  -- clock by the table as it stands at that step.
  pub clock_goes_on : (first second : List Member) → MembersFit (first ++ second) → resets_none c (next_all s first) second ≡ true
      → time_in (next_all s (first ++ second)) c ≡ time_in (next_all s first) c + takes_all (next_all s first) second
  clock_goes_on first second fit n =
      ap (λ (x : Stage). time_in x c) (next_both s first second)
      ∙ goes_on c (next_all s first) second (fit_second first second fit) (timed_all c s first (fit_first first second fit) start) n

  -- After an accepted step that resets the clock by the table as it stands then, and a chain in which none does, it reads the accepted
  -- waits of that chain; so right after the step it reads 0.
  pub clock_since_reset : (first : List Member) (a : ℕ) (posts : List ℕ) (word : ℕ) (second : List Member)
      → MembersFit (first ++ (runs (transition a posts word) ∷ second))
      → is_accepted (answer_to (next_all s first).table (next_all s first).run (transition a posts word)) ≡ true
      → resets_clock (next_all s first).table a c ≡ true
      → resets_none c (next (next_all s first) (runs (transition a posts word))) second ≡ true
      → time_in (next_all s (first ++ (runs (transition a posts word) ∷ second))) c
      ≡ takes_all (next (next_all s first) (runs (transition a posts word))) second
  clock_since_reset first a posts word second fit e r n =
      let step : Member = runs (transition a posts word) in
      let at : Timed c (next_all s first) = timed_all c s first (fit_first first (step ∷ second) fit) start in
      ap (λ (x : Stage). time_in x c) (next_both s first (step ∷ second))
      ∙ goes_on c (next (next_all s first) step) second (fit_second first (step ∷ second) fit)
      (timed_run c (next_all s first) (transition a posts word) at) n
      ∙ omega (arith, reset_step c (next_all s first) at a posts word e r)

-- ---- a reset that is added
-- what an action resets it resets after every chain
resets_on_lem : (a c : ℕ) (s : Stage) (ms : List Member) → MembersFit ms → well_formed s.table true ≡ true → a < action_count s.table
    → resets_clock s.table a c ≡ true → resets_clock (next_all s ms).table a c ≡ true
resets_on_lem a c s [] fit h l r = r
resets_on_lem a c s (runs call ∷ ms) fit h l r = resets_on_lem a c (next s (runs call)) ms fit h l r
resets_on_lem a c s (builds call ∷ ms) fit h l r =
    resets_on_lem a c (next s (builds call)) ms fit.1 (stays_formed s.table call fit.0 h)
    (omega (arith, l, none_fewer s.table call fit.0)) (reset_kept s.table a c h call fit.0 l r)

-- A reset that is added in between counts from then on: on every later table its action resets the clock.
pub added_reset : (s : Stage) → well_formed s.table true ≡ true → (c : ℕ) (first : List Member) (a : ℕ) (second : List Member)
    → MembersFit (first ++ (builds (add_reset a c) ∷ second)) → is_accepted (add_reset_of (next_all s first).table a c).answer ≡ true
    → resets_clock (next_all s (first ++ (builds (add_reset a c) ∷ second))).table a c ≡ true
added_reset s h c first a second fit e =
    let add : Member = builds (add_reset a c) in
    let at : Stage = next_all s first in
    let formed : well_formed at.table true ≡ true = formed_all s first (fit_first first (add ∷ second) fit) h in
    let r = reset_added at.table a c formed e in
    subst (λ (x : Stage). resets_clock x.table a c ≡ true) (sym (next_both s first (add ∷ second)))
    (resets_on_lem a c (next at add) second (fit_second first (add ∷ second) fit).1 (stays_formed at.table (add_reset a c) tt formed)
    (omega (arith, r.0, none_fewer at.table (add_reset a c) tt)) r.1)

-- ---- from a fresh run of a well-formed table
module _ (t : List ℕ) (formed : well_formed t false ≡ true) (ms : List Member) (fit : MembersFit ms) where
  pub fresh_exactly : fitting (next_all (fresh t) ms) ≡ adds_none (fresh t) ms
  fresh_exactly = let q = fresh_fits t formed in fits_exactly (fresh t) q.0 q.1 ms fit

  pub fresh_builds : (call : Call) → answer_of (next_all (fresh t) ms).table call ≢ 32
  fresh_builds = growing_builds (fresh t) (for_building t formed) ms fit

  -- If nothing resets it, a clock reads the sum of the accepted waits.
  pub fresh_clock : (c : ℕ) → c < clock_count t → resets_none c (fresh t) ms ≡ true → time_in (next_all (fresh t) ms) c ≡ takes_all (fresh t) ms
  fresh_clock c known n =
      clock_goes_on (fresh t) (for_building t formed) (fresh_fits t formed).1 c known [] ms fit n ∙ omega (arith, zero_clock t formed c)
