-- 32 is the answer exactly where no chain of calls builds what is in the table.
use Rattle.std.specs.Prelude.{⊤}
use Prim.Native.Nat.{ℕ, ◌<◌}
use mathlib.Core.Path.{◌≡◌, refl, sym}
use mathlib.Core.Logic.{◌↔◌}
use mathlib.Core.Bool.{Bool, true, false}
use mathlib.Core.List.{List}
use borrow.Author.Tests.{lt-ltb}
use Rattle.laws.specs.Ladder.{unless}
use Rattle.graph_tables.specs.Answers.{Answer, answer_number}
use Rattle.graph_tables.specs.Words.{Words, variable_count, clock_count, location_count, action_count, process_count, transition_count}
use Rattle.graph_tables.specs.Formed.{well_formed}
use Rattle.graph_tables.specs.Sound.{Sound}
use Rattle.graph_tables.proofs.SoundLaws.{sound, started}
use Rattle.graph_tables.proofs.KeptLaws.{apart, together}
use Rattle.graph_edits.specs.Lists.{list_of}
use Rattle.graph_checks.specs.Checks.{on_table, var_check, clock_check, action_check, process_check, reset_check, effect_check, send_check}
use Rattle.graph_checks.specs.Checks.{receive_check, location_check, initial_check, transition_check}
use Rattle.graph_builder.specs.Building.{done_if, placed_if, empty_of, new_var_of, var_type_of, new_clock_of, new_action_of, new_process_of}
use Rattle.graph_builder.specs.Building.{build_of, add_reset_of, add_effect_of, new_send_of, new_receive_of, new_timed_location_of}
use Rattle.graph_builder.specs.Building.{new_initial_of, add_transition_of}
use Rattle.graph_builder.specs.Chains.{Call, new_var, new_clock, new_action, new_process, add_reset, add_effect, new_send}
use Rattle.graph_builder.specs.Chains.{new_receive, new_timed_location, new_initial_location, add_transition, answer_of, after_all}
use Rattle.graph_builder.specs.Chains.{AllFit}
use Rattle.graph_builder.specs.Reading.{graph_of, empty_graph}
use Rattle.graph_builder.specs.Built.{AllAccepted, each_of, variable_calls, clock_calls, location_calls, process_calls, action_calls}
use Rattle.graph_builder.specs.Built.{transition_calls, calls_of}
use Rattle.graph_builder.specs.Used.{BuiltBy, Buildable}
use Rattle.graph_builder.proofs.Theorems.{empty_formed, empty_reads, chain_stays_formed, build_exactly, call_known, build_known}
use Rattle.graph_builder.proofs.Theorems.{kind_known_lem}
use Rattle.graph_builder.proofs.ExactLaws.{Makes, makes_both}
use Rattle.graph_builder.proofs.ExactParts.{makes_variables, makes_clocks, makes_locations, makes_processes}
use Rattle.graph_builder.proofs.ExactActions.{makes_actions}
use Rattle.graph_builder.proofs.ExactTransitions.{makes_transitions}
use Rattle.graph_builder.proofs.ExactUsed.{used_formed}
use Rattle.graph_builder.proofs.ExactWords.{same_words}

-- region after region
makes_all : (t : List ℕ) → Sound t → Makes (calls_of t) empty_graph (graph_of t)
unfolding calls_of list_of
makes_all t s =
    makes_both (each_of (variable_calls t) (variable_count t)) _ _ _ _ (makes_variables t s)
    (makes_both (each_of clock_calls (clock_count t)) _ _ _ _ (makes_clocks t s)
    (makes_both (each_of (location_calls t) (location_count t)) _ _ _ _ (makes_locations t s)
    (makes_both (each_of (process_calls t) (process_count t)) _ _ _ _ (makes_processes t s)
    (makes_both (each_of (action_calls t) (action_count t)) (each_of (transition_calls t) (transition_count t)) _ _ _ (makes_actions t s)
    (makes_transitions t s)))))

-- ---- a well-formed table t, and the table that `new` leaves of any words s
module _ (s t : List ℕ) (words : Words s) (formed : well_formed t true ≡ true) where
  -- Its calls hand over what a program can; from the empty table each is accepted in its turn;
  pub calls_fit : AllFit (calls_of t)
  calls_fit = (makes_all t (sound t true formed)).fit

  pub calls_accepted : AllAccepted (empty_of s).table (calls_of t)
  calls_accepted = (makes_all t (sound t true formed)).accepted (empty_of s).table (empty_formed s words) (empty_reads s words)

  -- what they leave reads as the table does,
  pub calls_read : graph_of (after_all (empty_of s).table (calls_of t)) ≡ graph_of t
  calls_read = (makes_all t (sound t true formed)).makes (empty_of s).table (empty_formed s words) (empty_reads s words)

  -- and has its words.
  pub calls_build : BuiltBy s t (calls_of t)
  calls_build =
      let f = apart t true formed in
      let left = chain_stays_formed (empty_of s).table (calls_of t) calls_fit (empty_formed s words) in
      record {
        size = f.words;
        fit = calls_fit;
        accepted = calls_accepted;
        words = same_words (after_all (empty_of s).table (calls_of t)) t (apart _ true left) f (sym calls_read);
      }

module _ (s t : List ℕ) (words : Words s) where
  -- A table is well formed for building exactly when calls build what is in it,
  pub formed_exactly : (well_formed t true ≡ true) ↔ Buildable s t
  formed_exactly = ((λ h. (calls_of t, calls_build s t words h)), back)
    where
      back : Buildable s t → well_formed t true ≡ true
      back built =
          let b = built.1 in
          let left = chain_stays_formed (empty_of s).table built.0 b.fit (empty_formed s words) in
          together t (used_formed (after_all (empty_of s).table built.0) t (apart _ true left) b.size b.words)

  -- and for a run exactly when it has a process too.
  pub runnable_exactly : (well_formed t false ≡ true) ↔ (Buildable s t × (0 < process_count t))
  unfolding build_of unless
  runnable_exactly = (
    (λ h. (formed_exactly.0 (together t (apart t false h)), started t h)),
    (λ h. (build_exactly t).0 (rw (formed_exactly.1 h.0, lt-ltb 0 (process_count t) h.1))),
  )

-- ---- calls on a table that is not well formed
bad_done : (t : List ℕ) (rest : Answer ⊤) (u : List ℕ) → well_formed t true ≡ false → answer_number (done_if (on_table t rest) t u).answer ≡ 32
unfolding unless
bad_done t rest u bad = rw bad

bad_placed : (t : List ℕ) (rest : Answer ⊤) (n : ℕ) (u : List ℕ) → well_formed t true ≡ false
    → answer_number (placed_if (on_table t rest) t n u).answer ≡ 32
unfolding unless
bad_placed t rest n u bad = rw bad

bad_call : (t : List ℕ) (c : Call) → well_formed t true ≡ false → answer_of t c ≡ 32
unfolding new_var_of new_clock_of new_action_of new_process_of add_reset_of add_effect_of new_send_of new_receive_of new_timed_location_of new_initial_of add_transition_of
    var_check clock_check action_check process_check reset_check effect_check send_check receive_check location_check initial_check transition_check
bad_call t (new_var v) = bad_placed t _ _ _
bad_call t new_clock = bad_placed t _ _ _
bad_call t new_action = bad_placed t _ _ _
bad_call t (new_process l) = bad_done t _ _
bad_call t (add_reset a clock) = bad_done t _ _
bad_call t (add_effect a v ws) = bad_done t _ _
bad_call t (new_send m count) = bad_placed t _ _ _
bad_call t (new_receive v) = bad_placed t _ _ _
bad_call t (new_timed_location l) = bad_placed t _ _ _
bad_call t (new_initial_location l) = bad_placed t _ _ _
bad_call t (add_transition pre a post guarded ws l) = bad_done t _ _

module _ (s t : List ℕ) (words : Words s) where
  -- an answer that is 32 on every table that is not well formed, and on no other
  exactly : (answer : ℕ) → (well_formed t true ≡ true → answer ≡ 32 → ⊥) → (well_formed t true ≡ false → answer ≡ 32)
      → (answer ≡ 32) ↔ (Buildable s t → ⊥)
  exactly answer known bad = ((λ e built. known ((formed_exactly s t words).1 built) e), back)
    where
      by : (b : Bool) → well_formed t true ≡ b → (Buildable s t → ⊥) → answer ≡ 32
      by true e none = absurd (none ((formed_exactly s t words).0 e))
      by false e none = bad e

      back : (Buildable s t → ⊥) → answer ≡ 32
      back = by (well_formed t true) refl

  -- A building call answers 32 exactly when no calls build what is in the table; so does the question for a variable's kind, and `build`.
  pub call_32 : (c : Call) → (answer_of t c ≡ 32) ↔ (Buildable s t → ⊥)
  call_32 c = exactly (answer_of t c) (call_known t c) (bad_call t c)

  pub kind_32 : (v : ℕ) → (answer_number (var_type_of t v) ≡ 32) ↔ (Buildable s t → ⊥)
  unfolding var_type_of unless
  kind_32 v = exactly (answer_number (var_type_of t v)) (kind_known_lem t v) (λ bad. rw bad)

  pub build_32 : (answer_number (build_of t) ≡ 32) ↔ (Buildable s t → ⊥)
  unfolding build_of unless
  build_32 = exactly (answer_number (build_of t)) (build_known t) (λ bad. rw bad)
