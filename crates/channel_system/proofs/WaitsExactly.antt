-- When a wait of a system is accepted, and when it answers each number; when it can wait, and when it is waiting: exactly when.
use Rattle.channel_system.specs.declared.answers.WaitError.{WaitError}
use Rattle.std.specs.declared.result.Result.{Result}
use Rattle.std.specs.Prelude.{Ok, Err, ⊤}
use Prim.Native.Nat.{ℕ, zero, suc, ◌+◌, ◌<◌, ◌≤◌}
use mathlib.Core.Path.{◌≡◌, refl, sym, ap, subst, ◌∙◌}
use mathlib.Core.Bool.{Bool, true, false, cond}
use mathlib.Core.List.{List}
use mathlib.Core.Logic.{◌↔◌, ◌⊎◌, inl, inr, ⊎_elim}
use native.Mathlib.Nat.{eq-or-lt_of_le, le_of_suc-le-suc}
use native.Mathlib.Omega.{arith}
use borrow.Author.Tests.{leb-true, leb-false, le-leb, lt-ltb, le-ltb}
use lib.Dec.{leb, ltb}
use lib.ListN.{get_or}
use Rattle.laws.specs.Ladder.{unless}
use Rattle.laws.specs.Below.{◌and◌, all_below, any_below}
use Rattle.laws.proofs.Ladder.{passed}
use Rattle.laws.proofs.Tests.{never}
use Rattle.laws.proofs.BelowLaws.{and_first, and_rest, and_both, all_at, all_from, all_fails}
use Rattle.graph_tables.specs.Sizes.{last_time}
use Rattle.graph_tables.specs.Words.{clock_count, process_count}
use Rattle.graph_tables.specs.Refusals.{refusal, number_of}
use Rattle.run_steps.specs.Steps.{clock_fits, shifted_below, place_holds}
use Rattle.run_steps.proofs.AnyLaws.{any_some, any_found}
use Rattle.run_steps.proofs.StepLaws.{clock_fits_lem, fits_at}
use Rattle.program_graph.specs.Running as graph
use Rattle.program_graph.specs.Running.{waits_on}
use Rattle.program_graph.proofs.RunLaws.{same_processes, same_clocks}
use Rattle.program_graph.proofs.RunReady.{invariant_at, invariants_from, through}
use Rattle.program_graph.proofs.WaitingExactly.{waiting_exactly}
use Rattle.system_tables.specs.Words.{graph_count, graph_part}
use Rattle.system_tables.specs.Sound.{SystemSound}
use Rattle.system_state.specs.Words.{time_in}
use Rattle.system_state.specs.Fits.{StateSound}
use Rattle.channel_system.specs.Steps.{system_fits, run_of}
use Rattle.run_steps.specs.Lowest.{lowest}
use Rattle.channel_system.specs.Waits.{clocks_fit, graph_holds, all_fit, Passed, refused_wait, passed_of, wait_of, can_wait_of}
use Rattle.channel_system.specs.Waits.{later_state, wait_open, graph_waits, system_waits, is_waiting_of}
use Rattle.channel_system.specs.Waiting.{InTime, ClockLate, TooLate, HoldsAfter, Lowest, SomeAwaited}
use Rattle.channel_system.proofs.RungLaws.{rung_on, rung_here, rung_last, rung_none, both_so, not_so, all_missing}

-- ---- the lowest number at which a test fails
-- what it is: a number that fails and below which all hold, or none fails
abbrev IsLowest : ℕ → (ℕ → Bool) → ℕ → Type 0
IsLowest n p k =
    ((k < n) × ((p k ≡ false) × ((f : ℕ) → f < k → p f ≡ true))) ⊎ ((k ≡ n) × ((f : ℕ) → f < n → p f ≡ true))

one_more : (n : ℕ) (p : ℕ → Bool) (k : ℕ) → IsLowest n p k → IsLowest (suc n) p (cond (ltb k n) k (cond (p n) (suc n) n))
one_more n p k (inl x) =
    subst (λ (b : Bool). IsLowest (suc n) p (cond b k (cond (p n) (suc n) n))) (sym (lt-ltb k n x.0))
    (let l = x.0 in inl (omega arith, x.1))
one_more n p k (inr x) =
    let e = x.0 in
    subst (λ (b : Bool). IsLowest (suc n) p (cond b k (cond (p n) (suc n) n))) (sym (le-ltb k n (omega arith))) (by (p n) refl)
  where
    by : (b : Bool) → p n ≡ b → IsLowest (suc n) p (cond b (suc n) n)
    by true e =
        inr (
          refl,
          λ f l. ⊎_elim (λ (q : f ≡ n). ap p q ∙ e) (λ (m : f < n). x.1 f m) (eq-or-lt_of_le (le_of_suc-le-suc l)),
        )
    by false e = inl (omega arith, (e, x.1))

lowest_is : (n : ℕ) (p : ℕ → Bool) → IsLowest n p (lowest n p)
unfolding lowest
lowest_is zero p = inr (refl, λ f l. absurd (omega arith))
lowest_is (suc n) p = one_more n p (lowest n p) (lowest_is n p)

-- there is one such number
same_lowest : (p : ℕ → Bool) (j k : ℕ) → p j ≡ false → ((f : ℕ) → f < j → p f ≡ true) → p k ≡ false → ((f : ℕ) → f < k → p f ≡ true)
    → j ≡ k
same_lowest p j k a x b y = by (leb j k) refl (leb k j) refl
  where
    by : (u : Bool) → leb j k ≡ u → (v : Bool) → leb k j ≡ v → j ≡ k
    by true e true f = let l : j ≤ k = leb-true j k e in let m : k ≤ j = leb-true k j f in omega arith
    by false e v f = never (sym b ∙ x k (leb-false _ _ e))
    by true e false f = never (sym a ∙ y j (leb-false _ _ f))

-- ---- the tests in plain logic
module _ (t s : List ℕ) (delta : ℕ) where
  clocks_so : (g : ℕ)
      → (clocks_fit s delta g ≡ true) ↔ ((c : ℕ) → c < (run_of s g).clocks → get_or (run_of s g).times c 0 + delta ≤ last_time)
  unfolding clocks_fit
  clocks_so g = (
    λ h c l. fits_at (run_of s g).times delta (run_of s g).clocks c h l,
    λ f. all_from (clock_fits (run_of s g).times delta) (run_of s g).clocks (λ c l. clock_fits_lem (run_of s g).times delta c (f c l)),
  )

  fits_so : (all_fit t s delta ≡ true) ↔ InTime t s delta
  unfolding all_fit
  fits_so = (
    λ h.
        record {
          time = leb-true _ _ (and_first _ _ h);
          clocks = λ g l. (clocks_so g).0 (all_at (clocks_fit s delta) (graph_count t) g (and_rest _ _ h) l);
        },
    λ i. and_both (le-leb _ _ i.time) (all_from (clocks_fit s delta) (graph_count t) (λ g l. (clocks_so g).1 (i.clocks g l))),
  )

  clock_late : (g : ℕ) → g < graph_count t → clocks_fit s delta g ≡ false → ClockLate t s delta
  unfolding clocks_fit clock_fits
  clock_late g l h =
      let x = all_missing (clock_fits (run_of s g).times delta) (run_of s g).clocks h in
      record { graph = g; known = l; clock = x.0; used = x.1; late = leb-false _ _ x.2 }

  late_from : TooLate t s delta → all_fit t s delta ≡ false
  late_from (inl l) = (not_so _ fits_so).1 (λ i. let m = i.time in omega arith)
  late_from (inr x) =
      (not_so _ fits_so).1
      (λ i. let m = i.clocks x.graph x.known x.clock x.used in let l = x.late in omega arith)

  late_so : (all_fit t s delta ≡ false) ↔ TooLate t s delta
  unfolding all_fit ◌and◌
  late_so = (λ h. by (leb (time_in s + delta) last_time) refl h, late_from)
    where
      by : (b : Bool) → leb (time_in s + delta) last_time ≡ b → (b and all_below (graph_count t) (clocks_fit s delta)) ≡ false
          → TooLate t s delta
      by true e k = let x = all_missing (clocks_fit s delta) (graph_count t) k in inr (clock_late x.0 x.1 x.2)
      by false e k = inl (leb-false _ _ e)

  holds_so : (g : ℕ) → (graph_holds t s delta g ≡ true) ↔ HoldsAfter t s delta g
  unfolding graph_holds place_holds
  holds_so g =
      let run = run_of s g in
      let moved = shifted_below run.times delta run.clocks in (
        λ h p l. invariant_at (graph_part t g) moved (get_or run.places p 0)
            (all_at (place_holds (graph_part t g) run.places moved) run.processes p h l),
        λ f. all_from (place_holds (graph_part t g) run.places moved) run.processes
            (λ p l. invariants_from (graph_part t g) moved (get_or run.places p 0) (f p l)),
      )

  all_hold_so : (all_below (graph_count t) (graph_holds t s delta) ≡ true) ↔ ((g : ℕ) → g < graph_count t → HoldsAfter t s delta g)
  all_hold_so = (
    λ h g l. (holds_so g).0 (all_at (graph_holds t s delta) (graph_count t) g h l),
    λ f. all_from (graph_holds t s delta) (graph_count t) (λ g l. (holds_so g).1 (f g l)),
  )

-- ---- answers that are not the same
abbrev number_in : Result ⊤ WaitError → ℕ
number_in (Ok _) = 0
number_in (Err (WaitError.Invariant g)) = 9
number_in (Err (WaitError.Refused r)) = number_of r

abbrev graph_in : Result ⊤ WaitError → ℕ
graph_in (Ok _) = 0
graph_in (Err (WaitError.Invariant g)) = g.0
graph_in (Err (WaitError.Refused r)) = 0

other : {w v : Result ⊤ WaitError} → (number_in w ≡ number_in v → ⊥) → w ≡ v → ⊥
other f e = f (ap number_in e)

-- ---- a wait
module _ (t s : List ℕ) (delta : ℕ) where
  abbrev Told : Result ⊤ WaitError → Passed → Type 0
  Told w x = x.answer ≡ w

  -- A wait answers 26 exactly when the time or a clock of some graph would pass the last time.
  pub wait_26 : ((passed_of t s delta).answer ≡ Err (WaitError.Refused (refusal 26))) ↔ TooLate t s delta
  unfolding passed_of
  wait_26 =
      through
      (rung_here (Told (Err (WaitError.Refused (refusal 26)))) (all_fit t s delta) (refused_wait (Err (WaitError.Refused (refusal 26))) s) _ refl
      (rung_none (Told (Err (WaitError.Refused (refusal 26)))) (all_below (graph_count t) (graph_holds t s delta)) (refused_wait _ s) _
      (other (λ e. omega arith)) (other (λ e. omega arith))))
      (late_so t s delta)

  -- the graph that is named, where not all hold
  named_so : (g : ℕ) → (all_below (graph_count t) (graph_holds t s delta) ≡ false) × (lowest (graph_count t) (graph_holds t s delta) ≡ g)
      → Lowest t s delta g
  named_so g p = by (lowest_is (graph_count t) (graph_holds t s delta))
    where
      k : ℕ
      k = lowest (graph_count t) (graph_holds t s delta)

      by : IsLowest (graph_count t) (graph_holds t s delta) k → Lowest t s delta g
      by (inl x) =
          subst (Lowest t s delta) p.1
          (record {
            known = x.0;
            objects = (not_so _ (holds_so t s delta k)).0 x.1.0;
            before = λ f l. (holds_so t s delta f).0 (x.1.1 f l);
          })
      by (inr x) = never (sym p.0 ∙ all_from (graph_holds t s delta) (graph_count t) x.1)

  so_named : (g : ℕ) → Lowest t s delta g
      → (all_below (graph_count t) (graph_holds t s delta) ≡ false) × (lowest (graph_count t) (graph_holds t s delta) ≡ g)
  so_named g w = (fails, by (lowest_is (graph_count t) (graph_holds t s delta)))
    where
      here : graph_holds t s delta g ≡ false
      here = (not_so _ (holds_so t s delta g)).1 w.objects

      fails : all_below (graph_count t) (graph_holds t s delta) ≡ false
      fails = all_fails (graph_holds t s delta) (graph_count t) g w.known here

      by : IsLowest (graph_count t) (graph_holds t s delta) (lowest (graph_count t) (graph_holds t s delta))
          → lowest (graph_count t) (graph_holds t s delta) ≡ g
      by (inl x) =
          same_lowest (graph_holds t s delta) _ g x.1.0 x.1.1 here (λ f l. (holds_so t s delta f).1 (w.before f l))
      by (inr x) = never (sym here ∙ x.1 g w.known)

  -- what is answered where the time and the clocks may go on
  objects_so : (g : ℕ) (b : Bool) (k : ℕ) (u v : List ℕ)
      → ((unless b (refused_wait (Err (WaitError.Invariant (record { 0 = k }))) u) (record { answer = Ok tt; state = v })).answer
      ≡ Err (WaitError.Invariant (record { 0 = g })))
      ↔ ((b ≡ false) × (k ≡ g))
  unfolding unless
  objects_so g true k u v = (λ e. absurd (other (λ x. omega arith) e), λ p. never (sym p.0))
  objects_so g false k u v = (λ e. (refl, ap graph_in e), λ p. ap (λ (n : ℕ). Err (WaitError.Invariant (record { 0 = n }))) p.1)

  -- It answers 9 with graph g exactly when neither would, and graph g is the lowest whose invariants do not hold at the end.
  pub wait_9 : (g : ℕ)
      → ((passed_of t s delta).answer ≡ Err (WaitError.Invariant (record { 0 = g }))) ↔ (InTime t s delta × Lowest t s delta g)
  unfolding passed_of
  wait_9 g =
      through
      (rung_on (Told (Err (WaitError.Invariant (record { 0 = g })))) (all_fit t s delta) (refused_wait (Err (WaitError.Refused (refusal 26))) s) _
      (other (λ e. omega arith))
      (through
      (objects_so g (all_below (graph_count t) (graph_holds t s delta)) (lowest (graph_count t) (graph_holds t s delta)) s
      (later_state t s delta))
      (named_so g, so_named g)))
      (both_so (fits_so t s delta) (λ w. w, λ w. w))

  -- It is accepted exactly when neither would, and the invariants of every graph hold at the end.
  pub wait_accepted : ((passed_of t s delta).answer ≡ Ok tt)
      ↔ (InTime t s delta × ((g : ℕ) → g < graph_count t → HoldsAfter t s delta g))
  unfolding passed_of
  wait_accepted =
      through
      (rung_on (Told (Ok tt)) (all_fit t s delta) (refused_wait (Err (WaitError.Refused (refusal 26))) s) _ (other (λ e. omega arith))
      (rung_last (Told (Ok tt)) (all_below (graph_count t) (graph_holds t s delta)) (refused_wait _ s) _
      (other (λ e. omega arith)) refl))
      (both_so (fits_so t s delta) (all_hold_so t s delta))

  -- `wait` answers 32 exactly when table and state do not fit; where they do, it is this wait.
  pub wait_32 : ((wait_of t s delta).answer ≡ Err (WaitError.Refused (refusal 32))) ↔ (system_fits t s ≡ false)
  unfolding wait_of passed_of
  wait_32 =
      rung_here (Told (Err (WaitError.Refused (refusal 32)))) (system_fits t s) (refused_wait (Err (WaitError.Refused (refusal 32))) s) (passed_of t s delta)
      refl
      (rung_none (Told (Err (WaitError.Refused (refusal 32)))) (all_fit t s delta) (refused_wait (Err (WaitError.Refused (refusal 26))) s) _
      (other (λ e. omega arith))
      (rung_none (Told (Err (WaitError.Refused (refusal 32)))) (all_below (graph_count t) (graph_holds t s delta)) (refused_wait _ s) _
      (other (λ e. omega arith)) (other (λ e. omega arith))))

  pub wait_passes : system_fits t s ≡ true → wait_of t s delta ≡ passed_of t s delta
  unfolding wait_of
  wait_passes f = sym (passed (refused_wait (Err (WaitError.Refused (refusal 32))) s) f refl)

-- ---- asking
-- an answer that something holds, of three tests, and the ladder of the same three
asked : (f w h : Bool) (x : Result ⊤ WaitError) (s after : List ℕ) → (number_in x ≡ 0 → ⊥)
    → (unless f (Err (refusal 32)) (Ok (w and h)) ≡ Ok true)
    ↔ ((unless f (refused_wait (Err (WaitError.Refused (refusal 32))) s)
    (unless w (refused_wait (Err (WaitError.Refused (refusal 26))) s)
    (unless h (refused_wait x s) (record { answer = Ok tt; state = after })))).answer ≡ Ok tt)
unfolding unless ◌and◌
asked true true true x s after n = (λ e. refl, λ e. refl)
asked true true false x s after n = (λ e. let z : ◌≡◌ {A = ℕ} 0 1 = cc in absurd (omega arith), λ e. absurd (n (ap number_in e)))
asked true false h x s after n = (λ e. let z : ◌≡◌ {A = ℕ} 0 1 = cc in absurd (omega arith), λ e. absurd (other (λ y. omega arith) e))
asked false w h x s after n = (λ e. let z : ◌≡◌ {A = ℕ} 0 1 = cc in absurd (omega arith), λ e. absurd (other (λ y. omega arith) e))

-- `can_wait` says yes exactly when `wait` is accepted.
pub can_wait_exactly : (t s : List ℕ) (delta : ℕ) → (can_wait_of t s delta ≡ Ok true) ↔ ((wait_of t s delta).answer ≡ Ok tt)
unfolding can_wait_of wait_open wait_of passed_of
can_wait_exactly t s delta =
    asked (system_fits t s) (all_fit t s delta) (all_below (graph_count t) (graph_holds t s delta)) _ s (later_state t s delta)
    (λ e. omega arith)

held_so : (f b : Bool) → (unless f (Err (refusal 32)) (Ok b) ≡ Ok true) ↔ ((f ≡ true) × (b ≡ true))
unfolding unless
held_so true true = (λ e. (refl, refl), λ q. refl)
held_so true false = (λ e. let z : ◌≡◌ {A = ℕ} 0 1 = cc in absurd (omega arith), λ q. never q.1)
held_so false b = (λ e. let z : ◌≡◌ {A = ℕ} 0 1 = cc in absurd (omega arith), λ q. never q.0)

module _ (t s : List ℕ) where
  -- where a wait of 1 is open, it is so of each graph
  graph_open : wait_open t s 1 ≡ true → (g : ℕ) → g < graph_count t → graph.wait_open (graph_part t g) (run_of s g) 1 ≡ true
  unfolding wait_open all_fit clocks_fit graph_holds
  graph_open h g l =
      and_both (all_at (clocks_fit s 1) (graph_count t) g (and_rest _ _ (and_first _ _ h)) l)
      (all_at (graph_holds t s 1) (graph_count t) g (and_rest _ _ h) l)

  some_waits : wait_open t s 1 ≡ true → (any_below (graph_count t) (graph_waits t s) ≡ true) ↔ SomeAwaited t s
  unfolding graph_waits
  some_waits h = (
    λ k.
        let x = any_some (graph_waits t s) (graph_count t) k in
        let run = run_of s x.0 in
        record {
          graph = x.0;
          known = x.1;
          awaited = (waiting_exactly (graph_part t x.0) run.times run.places run.processes).0 (and_rest _ _ x.2);
        },
    λ w.
        let run = run_of s w.graph in
        any_found (graph_waits t s) (graph_count t) w.graph w.known
        (and_both (graph_open h w.graph w.known)
        ((waiting_exactly (graph_part t w.graph) run.times run.places run.processes).1 w.awaited)),
  )

  -- `is_waiting` says yes exactly when `can_wait(1)` does and in some graph a transition will be open later.
  pub is_waiting_exactly : (is_waiting_of t s ≡ Ok true) ↔ ((can_wait_of t s 1 ≡ Ok true) × SomeAwaited t s)
  unfolding is_waiting_of system_waits can_wait_of
  is_waiting_exactly = (
    λ h.
        let q = (held_so (system_fits t s) _).0 h in
        let o = and_first _ _ q.1 in
        ((held_so (system_fits t s) (wait_open t s 1)).1 (q.0, o), (some_waits o).0 (and_rest _ _ q.1)),
    λ p.
        let q = (held_so (system_fits t s) (wait_open t s 1)).0 p.0 in
        (held_so (system_fits t s) _).1 (q.0, and_both q.1 ((some_waits q.1).1 p.1)),
  )

  -- That is where `can_wait(1)` says yes, and `is_waiting` of some graph does.
  pub is_waiting_by_graph : (is_waiting_of t s ≡ Ok true)
      ↔ ((can_wait_of t s 1 ≡ Ok true) × ((g : ℕ) × (g < graph_count t) × (waits_on (graph_part t g) (run_of s g) ≡ true)))
  unfolding is_waiting_of system_waits can_wait_of graph_waits
  is_waiting_by_graph = (
    λ h.
        let q = (held_so (system_fits t s) _).0 h in (
          (held_so (system_fits t s) (wait_open t s 1)).1 (q.0, and_first _ _ q.1),
          any_some (graph_waits t s) (graph_count t) (and_rest _ _ q.1),
        ),
    λ p.
        let q = (held_so (system_fits t s) (wait_open t s 1)).0 p.0 in
        (held_so (system_fits t s) _).1 (q.0, and_both q.1 (any_found (graph_waits t s) (graph_count t) p.1.0 p.1.1 p.1.2)),
  )

-- ---- the clocks and processes of a run are those of its graph
module _ {t s : List ℕ} (sound : SystemSound t) (h : StateSound t s) (g : ℕ) (known : g < graph_count t) where
  pub graph_clocks : (run_of s g).clocks ≡ clock_count (graph_part t g)
  graph_clocks = same_clocks (graph_part t g) (run_of s g) (h.run g known).run.formed

  pub graph_processes : (run_of s g).processes ≡ process_count (graph_part t g)
  graph_processes = same_processes (graph_part t g) (run_of s g) (h.run g known).run.formed
