-- What holds of building a graph. Further: ExactTheorems (32 exactly where no calls build what is there).
use Rattle.std.specs.Prelude.{Ok, Err, ⊤}
use Prim.Native.Nat.{ℕ, zero, suc, ◌+◌, ◌<◌}
use mathlib.Core.Path.{◌≡◌, refl, sym, ap, subst, ◌∙◌}
use mathlib.Core.Logic.{◌≢◌, ◌↔◌}
use mathlib.Core.Bool.{Bool, true, false, cond}
use mathlib.Core.List.{List, [], ◌∷◌}
use native.Mathlib.Omega.{arith}
use borrow.Author.Tests.{eq-eqb, ne_eqb, ltb-true, lt-ltb}
use lib.Dec.{eqb, ltb}
use lib.ListN.{length}
use Rattle.laws.specs.Ladder.{unless}
use Rattle.laws.specs.Below.{◌and◌, all_below}
use Rattle.laws.proofs.Ladder.{rung}
use Rattle.laws.proofs.BelowLaws.{and_first, and_rest, and_both}
use Rattle.grammar.specs.declared.values.«Type».{«Type»}
use Rattle.grammar.specs.declared.values.«Type».TheVariants as Kind
use Rattle.graph_tables.specs.Layout.{table_words}
use Rattle.graph_tables.specs.Answers.{Answer, admitted, answer_number}
use Rattle.graph_tables.specs.Refusals.{refusal}
use Rattle.graph_tables.specs.Words.{Words, variable_count, process_count, transition_count, kind_at, key_of, pre_of, action_of, post_of, key_with}
use Rattle.graph_tables.specs.Formed.{well_formed, counts_formed, started_of, parts_formed}
use Rattle.graph_tables.proofs.SoundLaws.{sound}
use Rattle.graph_tables.proofs.KeptLaws.{apart, together}
use Rattle.graph_edits.specs.Lists.{list_of, Before}
use Rattle.graph_edits.proofs.KeyLaws.{key_back, key_order}
use Rattle.graph_checks.specs.Checks.{var_check, clock_check, action_check, process_check, reset_check, effect_check, send_check, receive_check}
use Rattle.graph_checks.specs.Checks.{location_check, initial_check, transition_check}
use Rattle.graph_checks.proofs.CheckLaws.{unless_on}
use Rattle.graph_builder.specs.Building.{Outcome, done_if, placed_if, empty_of, new_var_of, var_type_of, new_clock_of, new_action_of}
use Rattle.graph_builder.specs.Building.{new_process_of, build_of, add_reset_of, add_effect_of, new_send_of, new_receive_of, new_timed_location_of}
use Rattle.graph_builder.specs.Building.{new_initial_of, add_transition_of}
use Rattle.graph_builder.specs.Chains.{Call, new_var, new_clock, new_action, new_process, add_reset, add_effect, new_send}
use Rattle.graph_builder.specs.Chains.{new_receive, new_timed_location, new_initial_location, add_transition, after, answer_of, Fits}
use Rattle.graph_builder.specs.Chains.{after_all, AllFit}
use Rattle.graph_builder.specs.Reading.{graph_of, empty_graph, added, added_all}
use Rattle.graph_builder.proofs.BuildingLaws.{done_if_lem, placed_if_lem}
use Rattle.graph_builder.proofs.FormedCalls.{var_stays, clock_stays, action_stays, process_stays, reset_stays, effect_stays}
use Rattle.graph_builder.proofs.FormedCalls.{send_stays, receive_stays, timed_location_stays, initial_stays, transition_stays}
use Rattle.graph_builder.proofs.ReadingLaws.{done_reads, placed_reads, var_reads, clock_reads, process_reads, action_reads}
use Rattle.graph_builder.proofs.ReadingLaws.{send_reads, receive_reads, location_reads, initial_reads, reset_reads, effect_reads}
use Rattle.graph_builder.proofs.ReadingLaws.{transition_reads}
use Rattle.graph_builder.proofs.KeptParts.{Kept, kept_same, added_keeps, NoneFewer, counts_kept}
use Rattle.graph_builder.proofs.KnownChecks.{Known, var_known_lem, clock_known_lem, action_known_lem, process_known, location_known}
use Rattle.graph_builder.proofs.KnownChecks.{initial_known, reset_known, effect_known, send_known, receive_known, transition_known}

-- a table begins with its six counts
six_words : (P : List ℕ → Type 0)
    → ((a b c d e f : ℕ) (t : List ℕ) → Words (a ∷ b ∷ c ∷ d ∷ e ∷ f ∷ t) → P (a ∷ b ∷ c ∷ d ∷ e ∷ f ∷ t))
    → (t : List ℕ) → Words t → P t
six_words P k [] h = absurd (omega arith)
six_words P k (a ∷ []) h = absurd (omega arith)
six_words P k (a ∷ b ∷ []) h = absurd (omega arith)
six_words P k (a ∷ b ∷ c ∷ []) h = absurd (omega arith)
six_words P k (a ∷ b ∷ c ∷ d ∷ []) h = absurd (omega arith)
six_words P k (a ∷ b ∷ c ∷ d ∷ e ∷ []) h = absurd (omega arith)
six_words P k (a ∷ b ∷ c ∷ d ∷ e ∷ f ∷ t) h = k a b c d e f t h

-- The empty graph is well formed for building.
pub empty_formed : (t : List ℕ) → Words t → well_formed (empty_of t).table true ≡ true
unfolding empty_of unless well_formed counts_formed started_of parts_formed ◌and◌ all_below
empty_formed =
    six_words (λ (t : List ℕ). well_formed (empty_of t).table true ≡ true)
    (λ a b c d e f t h. let n : eqb (length (a ∷ b ∷ c ∷ d ∷ e ∷ f ∷ t)) table_words ≡ true = eq-eqb _ table_words h in rw (n, n))

-- It reads as a graph without parts.
pub empty_reads : (t : List ℕ) → Words t → graph_of (empty_of t).table ≡ empty_graph
unfolding empty_of unless list_of
empty_reads =
    six_words (λ (t : List ℕ). graph_of (empty_of t).table ≡ empty_graph)
    (λ a b c d e f t h. let n : eqb (length (a ∷ b ∷ c ∷ d ∷ e ∷ f ∷ t)) table_words ≡ true = eq-eqb _ table_words h in rw n)

-- An accepted call's table reads as the old graph with one part added in its place, and nothing else.
pub reads_as : (t : List ℕ) (c : Call) → Fits c → answer_of t c ≡ 0 → graph_of (after t c) ≡ added c (graph_of t)
unfolding new_var_of new_clock_of new_action_of new_process_of add_reset_of add_effect_of new_send_of new_receive_of new_timed_location_of new_initial_of add_transition_of
reads_as t (new_var v) fit e = placed_reads (var_check t) t _ _ _ (var_reads t v fit) e
reads_as t new_clock fit e = placed_reads (clock_check t) t _ _ _ (clock_reads t) e
reads_as t new_action fit e = placed_reads (action_check t) t _ _ _ (action_reads t) e
reads_as t (new_process l) fit e = done_reads (process_check t l) t _ _ (process_reads t l) e
reads_as t (add_reset a clock) fit e = done_reads (reset_check t a clock) t _ _ (reset_reads t a clock) e
reads_as t (add_effect a v ws) fit e = done_reads (effect_check t a v ws) t _ _ (effect_reads t a v ws) e
reads_as t (new_send m count) fit e = placed_reads (send_check t m count) t _ _ _ (send_reads t m count) e
reads_as t (new_receive v) fit e = placed_reads (receive_check t v) t _ _ _ (receive_reads t v) e
reads_as t (new_timed_location l) fit e = placed_reads (location_check t l) t _ _ _ (location_reads t l) e
reads_as t (new_initial_location l) fit e = placed_reads (initial_check t l) t _ _ _ (initial_reads t l) e
reads_as t (add_transition pre a post guarded ws l) fit e =
    done_reads (transition_check t pre a post guarded ws l) t _ _ (transition_reads t pre a post guarded ws l) e

-- an answer of a number above 0 is a refusal: it leaves every word
abbrev Untouched : {A : Type 0} → (A → ℕ) → List ℕ → Outcome A → Type 0
Untouched number t o = 0 < number o.answer → o.table ≡ t

done : (c : Answer ⊤) (t u : List ℕ) → Untouched answer_number t (done_if c t u)
done c t u = done_if_lem (Untouched answer_number t) c t u (λ q h. refl) (λ a h. absurd (omega arith))

placed : (c : Answer ⊤) (t : List ℕ) (n : ℕ) (u : List ℕ) → Untouched answer_number t (placed_if c t n u)
placed c t n u = placed_if_lem (Untouched answer_number t) c t n u (λ q h. refl) (λ a h. absurd (omega arith))

-- A refused call leaves every word.
pub refused_leaves : (t : List ℕ) (c : Call) → 0 < answer_of t c → after t c ≡ t
unfolding new_var_of new_clock_of new_action_of new_process_of add_reset_of add_effect_of new_send_of new_receive_of new_timed_location_of new_initial_of add_transition_of
refused_leaves t (new_var v) = placed (var_check t) t _ _
refused_leaves t new_clock = placed (clock_check t) t _ _
refused_leaves t new_action = placed (action_check t) t _ _
refused_leaves t (new_process l) = done (process_check t l) t _
refused_leaves t (add_reset a clock) = done (reset_check t a clock) t _
refused_leaves t (add_effect a v ws) = done (effect_check t a v ws) t _
refused_leaves t (new_send m count) = placed (send_check t m count) t _ _
refused_leaves t (new_receive v) = placed (receive_check t v) t _ _
refused_leaves t (new_timed_location l) = placed (location_check t l) t _ _
refused_leaves t (new_initial_location l) = placed (initial_check t l) t _ _
refused_leaves t (add_transition pre a post guarded ws l) = done (transition_check t pre a post guarded ws l) t _

-- so a call, whatever it answers, adds its part or nothing
reads_one : (t : List ℕ) (c : Call) → Fits c → graph_of (after t c) ≡ cond (eqb (answer_of t c) 0) (added c (graph_of t)) (graph_of t)
reads_one t c fit = by (answer_of t c) refl
  where
    by : (n : ℕ) → answer_of t c ≡ n → graph_of (after t c) ≡ cond (eqb n 0) (added c (graph_of t)) (graph_of t)
    by zero e = reads_as t c fit e
    by (suc n) e = rw (ne_eqb (suc n) 0 (omega arith)) (ap graph_of (refused_leaves t c (omega arith)))

-- A chain of calls adds what each accepted one does, in turn.
pub reads_all : (t : List ℕ) (calls : List Call) → AllFit calls → graph_of (after_all t calls) ≡ added_all t calls (graph_of t)
reads_all t [] fit = refl
reads_all t (c ∷ calls) fit = reads_all (after t c) calls fit.1 ∙ ap (added_all (after t c) calls) (reads_one t c fit.0)

-- Every building call leaves a well-formed table well formed, whatever it answers.
pub stays_formed : (t : List ℕ) (c : Call) → Fits c → well_formed t true ≡ true → well_formed (after t c) true ≡ true
stays_formed t (new_var v) fit h = var_stays t h v fit
stays_formed t new_clock fit h = clock_stays t h
stays_formed t new_action fit h = action_stays t h
stays_formed t (new_process l) fit h = process_stays t h l
stays_formed t (add_reset a clock) fit h = reset_stays t h a clock
stays_formed t (add_effect a v ws) fit h = effect_stays t h a v ws
stays_formed t (new_send m count) fit h = send_stays t h m count
stays_formed t (new_receive v) fit h = receive_stays t h v
stays_formed t (new_timed_location l) fit h = timed_location_stays t h l fit
stays_formed t (new_initial_location l) fit h = initial_stays t h l fit
stays_formed t (add_transition pre a post guarded ws l) fit h = transition_stays t h pre a post guarded ws l fit

-- So does every chain of them.
pub chain_stays_formed : (t : List ℕ) (calls : List Call) → AllFit calls
    → well_formed t true ≡ true → well_formed (after_all t calls) true ≡ true
chain_stays_formed t [] fit h = h
chain_stays_formed t (c ∷ calls) fit h = chain_stays_formed (after t c) calls fit.1 (stays_formed t c fit.0 h)

-- Transitions stand in the order of (pre, action, post): none is before the one in front of it.
pub in_order_lem : (t : List ℕ) → well_formed t true ≡ true → (k : ℕ) → k + 1 < transition_count t
    → Before (pre_of (key_of t (k + 1))) (action_of (key_of t (k + 1))) (post_of (key_of t (k + 1)))
    (pre_of (key_of t k)) (action_of (key_of t k)) (post_of (key_of t k)) → ⊥
in_order_lem t h k l b =
    let one = key_of t k in
    let next = key_of t (k + 1) in
    let less : key_with (pre_of next) (action_of next) (post_of next) < key_with (pre_of one) (action_of one) (post_of one) =
    (key_order (pre_of next) (action_of next) (post_of next) (pre_of one) (action_of one) (post_of one)
    (omega arith) (omega arith) (omega arith) (omega arith)).1 b
    in
    omega (arith, (sound t true h).ordered k l, rw (key_back next, key_back one) at less)

-- ---- a table is well formed for a run exactly when it is for building, and has a process
has_process : (t : List ℕ) → (well_formed t false ≡ true) ↔ ((well_formed t true ≡ true) × (0 < process_count t))
unfolding well_formed started_of
has_process t = (
  (λ h. (together t (apart t false h), ltb-true 0 (process_count t) (and_first _ _ (and_rest _ _ (and_rest _ _ h))))),
  (λ h.
      let k = h.0 in
      and_both (and_first _ _ k)
      (and_both (and_first _ _ (and_rest _ _ k))
      (and_both (lt-ltb 0 (process_count t) h.1) (and_rest _ _ (and_rest _ _ (and_rest _ _ k)))))),
)

-- `build` accepts exactly the tables that are well formed for a run.
pub build_exactly : (t : List ℕ) → (build_of t ≡ admitted) ↔ (well_formed t false ≡ true)
unfolding build_of unless
build_exactly t = (onto, back)
  where
    onto : build_of t ≡ admitted → well_formed t false ≡ true
    onto e =
        let a = unless_on _ _ _ e in
        (has_process t).1 (a.0, ltb-true _ _ (unless_on _ _ _ a.1).0)

    back : well_formed t false ≡ true → build_of t ≡ admitted
    back h =
        let k = (has_process t).0 h in
        rw (k.0, lt-ltb 0 (process_count t) k.1)

-- Whatever a call answers, variables, clocks, locations and processes are there after it as they were, under their numbers, and actions
-- have the resets that they had.
pub parts_stay : (t : List ℕ) (c : Call) → Fits c → Kept (graph_of t) (graph_of (after t c))
parts_stay t c fit = by (answer_of t c) refl
  where
    by : (n : ℕ) → answer_of t c ≡ n → Kept (graph_of t) (graph_of (after t c))
    by zero e = subst (Kept (graph_of t)) (sym (reads_as t c fit e)) (added_keeps c (graph_of t))
    by (suc n) e = rw (refused_leaves t c (omega arith)) (kept_same (graph_of t))

-- so there are as many or more of them
pub none_fewer : (t : List ℕ) (c : Call) → Fits c → NoneFewer t (after t c)
none_fewer t c fit = counts_kept t (after t c) (parts_stay t c fit)

-- A table that is well formed for a run stays so under every call, whatever it answers.
pub stays_runnable : (t : List ℕ) (c : Call) → Fits c → well_formed t false ≡ true → well_formed (after t c) false ≡ true
stays_runnable t c fit h =
    let k = (has_process t).0 h in
    (has_process (after t c)).1 (stays_formed t c fit k.0, omega (arith, k.1, none_fewer t c fit))

pub chain_stays_runnable : (t : List ℕ) (calls : List Call) → AllFit calls
    → well_formed t false ≡ true → well_formed (after_all t calls) false ≡ true
chain_stays_runnable t [] fit h = h
chain_stays_runnable t (c ∷ calls) fit h = chain_stays_runnable (after t c) calls fit.1 (stays_runnable t c fit.0 h)

-- ---- 32
known_done : (c : Answer ⊤) (t u : List ℕ) → Known c → answer_number (done_if c t u).answer ≢ 32
known_done (Ok _) t u h = h
known_done (Err r) t u h = h

pub known_placed : (c : Answer ⊤) (t : List ℕ) (n : ℕ) (u : List ℕ) → Known c → answer_number (placed_if c t n u).answer ≢ 32
known_placed (Ok _) t n u h = h
known_placed (Err r) t n u h = h

-- On a well-formed table no call answers 32.
pub call_known : (t : List ℕ) (c : Call) → well_formed t true ≡ true → answer_of t c ≢ 32
unfolding new_var_of new_clock_of new_action_of new_process_of add_reset_of add_effect_of new_send_of new_receive_of new_timed_location_of new_initial_of add_transition_of
call_known t (new_var v) h = known_placed (var_check t) t _ _ (var_known_lem t h)
call_known t new_clock h = known_placed (clock_check t) t _ _ (clock_known_lem t h)
call_known t new_action h = known_placed (action_check t) t _ _ (action_known_lem t h)
call_known t (new_process l) h = known_done (process_check t l) t _ (process_known t h l)
call_known t (add_reset a clock) h = known_done (reset_check t a clock) t _ (reset_known t h a clock)
call_known t (add_effect a v ws) h = known_done (effect_check t a v ws) t _ (effect_known t h a v ws)
call_known t (new_send m count) h = known_placed (send_check t m count) t _ _ (send_known t h m count)
call_known t (new_receive v) h = known_placed (receive_check t v) t _ _ (receive_known t h v)
call_known t (new_timed_location l) h = known_placed (location_check t l) t _ _ (location_known t h l)
call_known t (new_initial_location l) h = known_placed (initial_check t l) t _ _ (initial_known t h l)
call_known t (add_transition pre a post guarded ws l) h =
    known_done (transition_check t pre a post guarded ws l) t _ (transition_known t h pre a post guarded ws l)

pub build_known : (t : List ℕ) → well_formed t true ≡ true → answer_number (build_of t) ≢ 32
unfolding build_of unless
build_known t h = rw h (rung Known (ltb 0 (process_count t)) (Err (refusal 29)) admitted (omega arith) (λ e. omega arith))

pub kind_known_lem : (t : List ℕ) (v : ℕ) → well_formed t true ≡ true → answer_number (var_type_of t v) ≢ 32
unfolding var_type_of unless
kind_known_lem t v h =
    rw h
    (rung (λ (k : Answer «Type»). answer_number k ≢ 32) (ltb v (variable_count t)) (Err (refusal 4)) _ (omega arith)
    (λ e. by (eqb (kind_at t v) 0)))
  where
    by : (b : Bool) → answer_number (cond b (Ok Kind.Boolean) (Ok Kind.Integer)) ≢ 32
    by true = omega arith
    by false = omega arith

-- ---- a chain of calls from the empty graph
module _ (t : List ℕ) (words : Words t) (calls : List Call) (fit : AllFit calls) where
  abbrev built : List ℕ
  built = after_all (empty_of t).table calls

  pub chain_formed : well_formed built true ≡ true
  chain_formed = chain_stays_formed (empty_of t).table calls fit (empty_formed t words)

  -- It reads as what the accepted calls add, in turn, to a graph without parts.
  pub chain_reads : graph_of built ≡ added_all (empty_of t).table calls empty_graph
  chain_reads = reads_all (empty_of t).table calls fit ∙ ap (added_all (empty_of t).table calls) (empty_reads t words)

  -- No call after it answers 32: none that adds a part, no question for a variable's kind, nor `build`.
  pub chain_known : (c : Call) → answer_of built c ≢ 32
  chain_known c = call_known built c chain_formed

  pub chain_build_known : answer_number (build_of built) ≢ 32
  chain_build_known = build_known built chain_formed

  pub chain_kind_known : (v : ℕ) → answer_number (var_type_of built v) ≢ 32
  chain_kind_known v = kind_known_lem built v chain_formed

  -- What `build` accepts, and every chain of calls behind it, is well formed for a run.
  pub chain_runnable : (more : List Call) → AllFit more → build_of built ≡ admitted → well_formed (after_all built more) false ≡ true
  chain_runnable more also e = chain_stays_runnable built more also ((build_exactly built).0 e)
