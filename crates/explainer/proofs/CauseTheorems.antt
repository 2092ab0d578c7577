-- The cause of an 8 is the real one, on the words of one graph and on a run.
use Prim.Native.Nat.{ℕ, ◌+◌, ◌<◌, ◌≤◌}
use mathlib.Core.Path.{◌≡◌, refl, sym, ◌∙◌}
use mathlib.Core.Bool.{Bool, true, false}
use mathlib.Core.List.{List}
use mathlib.Core.Logic.{◌⊎◌, inl, inr, ⊎_elim}
use native.Mathlib.Omega.{arith}
use native.Mathlib.Nat.{eq-or-lt_of_le}
use borrow.Author.Tests.{ltb-true, ltb-false, not-true, not-false}
use lib.Dec.{ltb}
use lib.ListN.{get_or}
use Rattle.laws.specs.Ladder.{unless}
use Rattle.laws.proofs.Tests.{never}
use Rattle.laws.proofs.BelowLaws.{and_first, and_rest, and_both, all_at, all_from}
use Rattle.laws.proofs.Copies.{one_more}
use Rattle.graph_tables.specs.Words.{transition_count, invariant_count, key_of, limit_count, post_of, invariant_group}
use Rattle.run_steps.specs.Steps.{limit_holds, limits_hold, invariants_hold, passes_of, failing_of, leads_of, process_ready, ready_of}
use Rattle.run_steps.specs.Steps.{nothing_fails}
use Rattle.run_steps.specs.Listing.{clocks_by}
use Rattle.run_steps.proofs.LowestLaws.{lowest_says, lowest_all}
use Rattle.run_steps.proofs.AnyLaws.{any_found}
use Rattle.program_graph.specs.Facts.{Passing}
use Rattle.program_graph.specs.declared.record.ProgramGraphRun.{ProgramGraphRun}
use Rattle.program_graph.proofs.RunReady.{ready_exactly}
use Rattle.explainer.specs.Cause.{ready_in, unready_of, candidate_of, other_than, first_of, no_candidate, failed_at, cause_from, cause_of}
use Rattle.explainer.specs.Facts.{Asked, Standing, Candidate, FirstCandidate, Fails, Real}
use Rattle.explainer.specs.declared.causes.Cause.{Cause}
use Rattle.explainer.proofs.CandidateLaws.{candidate, tested}
use Rattle.explainer.proofs.FailureLaws.{failing_says, first_outside, number_limit, number_invariant}

-- ---- the process
module _ (t : List ℕ) (run : ProgramGraphRun) (a : ℕ) (posts : List ℕ) (h : Asked t run a posts) where
  abbrev p : ℕ
  p = unready_of t run a posts

  abbrev after : List ℕ
  after = clocks_by t a run.times

  pub process_there : p < run.processes
  process_there =
      let low = (lowest_says (ready_in t run a posts) run.processes).low in
      ⊎_elim
      (λ (e : p ≡ run.processes). never (sym h.unready ∙ lowest_all (ready_in t run a posts) run.processes e))
      (λ (m : p < run.processes). m)
      (eq-or-lt_of_le low)

  process_unready : ready_in t run a posts p ≡ false
  process_unready = (lowest_says (ready_in t run a posts) run.processes).fails process_there

  -- the processes below are ready, so each has a candidate that passes
  abbrev Led : ℕ → Type 0
  Led q = (k : ℕ) × Passing t run.vars run.times after (get_or run.places q 0) a (get_or posts q 0) k

  lower_ready : ready_of t run.vars run.times after run.places p a posts ≡ true
  unfolding ready_of
  lower_ready = all_from (ready_in t run a posts) p (lowest_says (ready_in t run a posts) run.processes).holds

  lower_led : (q : ℕ) → q < p → Led q
  lower_led = (ready_exactly t run.vars run.times after run.places p a posts).0 lower_ready

  -- this one has none: else all up to it would be ready
  not_led : Led p → ⊥
  unfolding ready_of
  not_led led =
      let all = (ready_exactly t run.vars run.times after run.places (p + 1) a posts).1
      (one_more Led p lower_led led) in
      let ready = all_at (ready_in t run a posts) (p + 1) p all (omega arith) in
      absurd (never (sym process_unready ∙ ready))

-- ---- the transition: what fails of the first candidate of a process that is not ready
module _ (t : List ℕ) (run : ProgramGraphRun) (after : List ℕ) where
  -- what is named fails, or nothing does
  fails : (q k : ℕ) → Fails t run after (failed_at t run after q k)
      ⊎ (passes_of t run.vars run.times after k ≡ true)
  unfolding passes_of invariants_hold limits_hold limit_holds
  fails q k =
      let f = failing_of t run.vars run.times after k in
      ⊎_elim
      (λ w. inl (inl w))
      (⊎_elim
      (λ w. inl (inr (inl (
        w.0,
        w.1,
        rw (number_limit t run.times after k f w.0)
            (first_outside t k (limit_count t k) run.times w.2),
      ))))
      (⊎_elim
      (λ w. inl (inr (inr (
        w.0,
        w.1,
        λ i l. all_at (limit_holds t k run.times) (limit_count t k) i w.2 l,
        rw (number_invariant t run.times after k f w.0)
            (first_outside t (invariant_group (post_of (key_of t k))) (invariant_count t (post_of (key_of t k))) after w.3),
      ))))
      (λ w. inr (and_both w.1 (and_both w.2 w.3)))))
      (failing_says t run.vars run.times after k)

-- ---- the candidates of a process, by the first of them
module _ (t : List ℕ) (pre action post : ℕ) where
  abbrev first : ℕ
  first = first_of t pre action post

  none_below : (j : ℕ) → j < first → Candidate t pre action post j → ⊥
  unfolding other_than
  none_below j l c =
      let other = (lowest_says (other_than t pre action post) (transition_count t)).holds j l in
      never (sym (not-true _ other) ∙ tested t pre action post j c)

  pub no_candidate_lem : transition_count t ≤ first → (j : ℕ) → Candidate t pre action post j → ⊥
  no_candidate_lem l j c = none_below j (omega (arith, c.known)) c

  is_candidate : first < transition_count t → candidate_of t pre action post first ≡ true
  unfolding other_than
  is_candidate l = not-false _ ((lowest_says (other_than t pre action post) (transition_count t)).fails l)

  pub first_candidate : first < transition_count t → FirstCandidate t pre action post first
  first_candidate l = record { candidate = candidate t pre action post first l (is_candidate l); none_before = none_below }

-- ---- the theorem
module _ (t : List ℕ) (run : ProgramGraphRun) (a : ℕ) (posts : List ℕ) (h : Asked t run a posts) where
  abbrev q : ℕ
  q = unready_of t run a posts

  abbrev k : ℕ
  k = first_of t (get_or run.places q 0) a (get_or posts q 0)

  abbrev then : List ℕ
  then = clocks_by t a run.times

  -- the first candidate of a process that is not ready does not pass
  not_passing : k < transition_count t → passes_of t run.vars run.times then k ≡ true → ⊥
  unfolding process_ready leads_of candidate_of
  not_passing l e =
      let c = is_candidate t (get_or run.places q 0) a (get_or posts q 0) l in
      let led = any_found (leads_of t run.vars run.times then (get_or run.places q 0) a (get_or posts q 0)) (transition_count t) k l
      (and_both (and_first _ _ c) (and_both (and_rest _ _ c) e)) in
      never (sym (process_unready t run a posts h) ∙ led)

  -- The cause names the lowest process that has no candidate that passes, its first candidate, and what fails of it.
  pub cause_real : Real t run a posts (cause_of t run a posts)
  unfolding cause_of cause_from unless
  cause_real = by (ltb k (transition_count t)) refl
    where
      by : (b : Bool) → ltb k (transition_count t) ≡ b
          → Real t run a posts (unless b (record { process = q; transition = 0; failing = no_candidate; number = 0 }) (failed_at t run then q k))
      by true e =
          let l : k < transition_count t = ltb-true _ _ e in
          record {
            process = process_there t run a posts h;
            lower = lower_led t run a posts h;
            none = λ j passing. not_led t run a posts h (j, passing);
            what = inr (
              first_candidate t (get_or run.places q 0) a (get_or posts q 0) l,
              ⊎_elim (λ f. f) (λ e. absurd (not_passing l e)) (fails t run then q k),
            );
          }
      by false e =
          record {
            process = process_there t run a posts h;
            lower = lower_led t run a posts h;
            none = λ j passing. not_led t run a posts h (j, passing);
            what = inl (refl, no_candidate_lem t (get_or run.places q 0) a (get_or posts q 0) (ltb-false _ _ e));
          }

-- ---- so what it names is there
module _ {t : List ℕ} {run : ProgramGraphRun} {a : ℕ} {posts : List ℕ} {c : Cause} where
  pub real_stands : Real t run a posts c → Standing t c
  real_stands r =
      ⊎_elim
      (λ n.
      record {
        guard = λ e. absurd (omega (arith, n.0));
        limit = λ e. absurd (omega (arith, n.0));
        invariant = λ e. absurd (omega (arith, n.0));
      })
      (λ n.
      let known = n.0.candidate.known in
      ⊎_elim
      (λ w.
      record {
        guard = λ e. known;
        limit = λ e. absurd (omega (arith, w.0));
        invariant = λ e. absurd (omega (arith, w.0));
      })
      (⊎_elim
      (λ w.
      record {
        guard = λ e. known;
        limit = λ e. (known, w.2.there);
        invariant = λ e. absurd (omega (arith, w.0));
      })
      (λ w.
      record {
        guard = λ e. known;
        limit = λ e. absurd (omega (arith, w.0));
        invariant = λ e. (known, w.3.there);
      }))
      n.1)
      r.what

  -- something is named
  pub real_names : Real t run a posts c → c.failing ≡ nothing_fails → ⊥
  real_names r e =
      ⊎_elim
      (λ n. omega (arith, n.0))
      (λ n. ⊎_elim (λ w. omega (arith, w.0)) (⊎_elim (λ w. omega (arith, w.0)) (λ w. omega (arith, w.0))) n.1)
      r.what
