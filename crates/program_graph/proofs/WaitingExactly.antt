-- When a run is waiting, and when the listing for one process is refused: exactly when.
use Rattle.graph_tables.specs.Answers.{Answer}
use Rattle.graph_tables.specs.declared.answers.Entry.{Entry}
use Rattle.std.specs.declared.option.Option.{Option}
use Rattle.std.specs.Prelude.{Ok, Err}
use Prim.Native.Nat.{ℕ}
use mathlib.Core.Path.{◌≡◌, refl, sym, ap}
use mathlib.Core.Bool.{Bool, true, false, not, ◌||◌}
use mathlib.Core.List.{List}
use mathlib.Core.Logic.{◌↔◌, ◌⊎◌, inl, inr, ⊎_elim}
use native.Mathlib.Omega.{arith}
use borrow.Author.Tests.{eqb-true, eq-eqb, ne_eqb, not-true}
use Rattle.laws.specs.Ladder.{unless}
use Rattle.laws.proofs.Ladder.{passed, stopped}
use Rattle.laws.proofs.BelowLaws.{and_first, and_rest, and_both, all_at, all_from}
use Rattle.laws.proofs.Tests.{never}
use Rattle.graph_tables.specs.Refusals.{refusal}
use Rattle.graph_tables.specs.Words.{transition_count}
use Rattle.run_steps.specs.Waiting.{lower_unmet, upper_holds, due_of, coming_of, awaited_of, process_waits, waiting_of}
use Rattle.run_steps.proofs.AnyLaws.{either, any_some, any_found}
use Rattle.run_steps.proofs.ListingTheorems.{shared_by}
use Rattle.program_graph.specs.Facts.{Due, Awaited}
use Rattle.program_graph.specs.Running.{fits_table, wait_open, can_wait_of, is_waiting_of}
use Rattle.program_graph.specs.Transitions.{possible_of, nosync_of}
use Rattle.program_graph.specs.declared.record.ProgramGraphRun.{ProgramGraphRun}

-- ---- tests
one_of : (a b : Bool) → (a ≡ true) ⊎ (b ≡ true) → (a || b) ≡ true
one_of true b h = refl
one_of false b h = ⊎_elim (λ (e : false ≡ true). never e) (λ (e : b ≡ true). e) h

-- ---- bounds that will be met
module _ (t : List ℕ) (g n : ℕ) (clocks : List ℕ) where
  due_so : due_of t g n clocks ≡ true → Due t g n clocks
  unfolding due_of lower_unmet upper_holds
  due_so h =
      let s = any_some (lower_unmet t g clocks) n (and_first _ _ h) in
      record {
        limit = s.0;
        within = s.1;
        unmet = not-true _ s.2;
        not_passed = λ i l. all_at (upper_holds t g clocks) n i (and_rest _ _ h) l;
      }

  due_from : Due t g n clocks → due_of t g n clocks ≡ true
  unfolding due_of lower_unmet upper_holds
  due_from d =
      and_both (any_found (lower_unmet t g clocks) n d.limit d.within (ap not d.unmet))
      (all_from (upper_holds t g clocks) n d.not_passed)

-- ---- some transition will be open later
module _ (t clocks places : List ℕ) (n : ℕ) where
  pub waiting_exactly : (waiting_of t clocks places n ≡ true) ↔ Awaited t clocks places n
  unfolding waiting_of process_waits awaited_of coming_of
  waiting_exactly = (so, from)
    where
      so : waiting_of t clocks places n ≡ true → Awaited t clocks places n
      so h =
          let p = any_some (process_waits t clocks places n) n h in
          let k = any_some (awaited_of t clocks places n p.0) (transition_count t) p.2 in
          let c = and_rest _ _ k.2 in
          record {
            process = p.0;
            transition = k.0;
            here = p.1;
            known = k.1;
            from = eqb-true _ _ (and_first _ _ k.2);
            coming = ⊎_elim (λ e. inl (due_so _ _ _ _ e)) (λ e. inr (due_so _ _ _ _ e)) (either _ _ (and_first _ _ c));
            shared = (shared_by t places n _).0 (and_rest _ _ c);
          }

      from : Awaited t clocks places n → waiting_of t clocks places n ≡ true
      from a =
          any_found (process_waits t clocks places n) n a.process a.here
          (any_found (awaited_of t clocks places n a.process) (transition_count t) a.transition a.known
          (and_both (eq-eqb _ _ a.from)
          (and_both (one_of _ _ (⊎_elim (λ d. inl (due_from _ _ _ _ d)) (λ d. inr (due_from _ _ _ _ d)) a.coming))
          ((shared_by t places n _).1 a.shared))))

-- an answer that something holds
held_so : (f b : Bool) → (unless f (Err (refusal 32)) (Ok b) ≡ Ok true) ↔ ((f ≡ true) × (b ≡ true))
unfolding unless
held_so true true = (λ e. (refl, refl), λ q. refl)
held_so true false = (λ e. let z : ◌≡◌ {A = ℕ} 0 1 = cc in absurd (omega arith), λ q. never q.1)
held_so false b = (λ e. let z : ◌≡◌ {A = ℕ} 0 1 = cc in absurd (omega arith), λ q. never q.0)

module _ (t : List ℕ) (run : ProgramGraphRun) where
  -- `is_waiting` says yes exactly when a wait of 1 would be accepted and some transition will be open later: one from a process's location,
  -- by an action that every process's location has, some of whose bounds are not met yet and none passed.
  pub is_waiting_exactly : (is_waiting_of t run ≡ Ok true)
      ↔ ((can_wait_of t run 1 ≡ Ok true) × Awaited t run.times run.places run.processes)
  unfolding is_waiting_of can_wait_of
  is_waiting_exactly = (
    λ h.
        let q = (held_so (fits_table t run) _).0 h in
        let w = (waiting_exactly t run.times run.places run.processes).0 (and_rest _ _ q.1) in
        ((held_so (fits_table t run) (wait_open t run 1)).1 (q.0, and_first _ _ q.1), w),
    λ h.
        let q = (held_so (fits_table t run) (wait_open t run 1)).0 h.0 in
        (held_so (fits_table t run) _).1 (q.0, and_both q.1 ((waiting_exactly t run.times run.places run.processes).1 h.1)),
  )

  -- ---- the listing for one process
  -- With one process it lists what the other listing does.
  pub one_process : (k : ℕ) → run.processes ≡ 1 → nosync_of t run k ≡ possible_of t run k
  unfolding nosync_of possible_of
  one_process k e =
      ap (λ (rest : Answer (Option Entry)). unless (fits_table t run) (Err (refusal 32)) rest)
      (sym (passed (Err (refusal 16)) (eq-eqb _ _ e) refl))

  -- With any other number it refuses with 16.
  pub not_one_process : (k : ℕ) → fits_table t run ≡ true → (run.processes ≡ 1 → ⊥) → nosync_of t run k ≡ Err (refusal 16)
  unfolding nosync_of
  not_one_process k f n = sym (passed (Err (refusal 32)) f (stopped (Err (refusal 16)) _ (ne_eqb _ _ n)))
