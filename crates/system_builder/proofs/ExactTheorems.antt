-- 32 is the answer exactly where no chain of calls builds what is in the table of a system.
use Rattle.std.specs.Prelude.{Err, ⊤}
use Prim.Native.Nat.{ℕ}
use mathlib.Core.Path.{◌≡◌, refl, sym, ap, ◌∙◌}
use mathlib.Core.Logic.{◌↔◌}
use mathlib.Core.Bool.{Bool, true, false}
use mathlib.Core.List.{List}
use native.Mathlib.Omega.{arith}
use borrow.Author.Tests.{eq-eqb, lt-ltb}
use Rattle.laws.specs.Ladder.{unless}
use Rattle.laws.proofs.BelowLaws.{all_from}
use Rattle.graph_tables.specs.Refusals.{refusal}
use Rattle.graph_tables.specs.Answers.{Answer, answer_number}
use Rattle.graph_tables.specs.declared.refusals.Refusal.{Refusal}
use Rattle.graph_checks.specs.Checks.{refused_by}
use Rattle.graph_checks.proofs.CheckLaws.{then_stops}
use Rattle.graph_builder.specs.Building.{Outcome, placed_if}
use Rattle.system_tables.specs.Words.{SystemWords, graph_count, channel_count}
use Rattle.system_tables.specs.Formed.{system_formed}
use Rattle.system_tables.proofs.SoundLaws.{system_started}
use Rattle.system_tables.proofs.KeptLaws.{apart, together}
use Rattle.system_builder.specs.Systems.{on_system, no_members, empty_system_of, graph_check, new_graph_of, channel_check, new_channel_of}
use Rattle.system_builder.specs.Systems.{started, build_system_of, read_check, channel_in}
use Rattle.system_builder.specs.Graphs.{member_check, only_if, var_type_in}
use Rattle.system_builder.specs.Messages.{known_check, send_check_on, receive_check_on, new_send_on, new_receive_on, new_probe_on}
use Rattle.system_builder.specs.Chains.{OnGraph, new_var, new_clock, new_action, new_process, add_reset, add_effect, new_timed_location}
use Rattle.system_builder.specs.Chains.{new_initial_location, add_transition, new_send, new_receive, new_probe, answer_on}
use Rattle.system_builder.specs.Chains.{Call, new_graph, new_channel, call_on_graph, answer_of, after_all, AllFit}
use Rattle.system_builder.specs.Built.{AllAccepted, calls_of}
use Rattle.system_builder.specs.Used.{BuiltBy, Buildable, Startable}
use Rattle.system_builder.proofs.BuildTheorems.{no_graphs, no_channels, new_formed, all_started, for_a_run}
use Rattle.system_builder.proofs.KeptTheorems.{chain_keeps_formed}
use Rattle.system_builder.proofs.KnownCalls.{call_known, build_known, kind_known_lem, read_known}
use Rattle.system_builder.proofs.ExactUsed.{used_formed}
use Rattle.system_builder.proofs.ExactChains.{Has}
use Rattle.system_builder.proofs.ExactMembers.{Reached, makes_all}
use Rattle.system_builder.proofs.ExactWords.{has_words}

-- ---- the table that `new` leaves of s
module _ (s : List ℕ) (words : SystemWords s) where
  empty_table : (empty_system_of s).table ≡ no_members s
  unfolding empty_system_of unless
  empty_table = rw (eq-eqb _ _ words)

  empty_graphs : graph_count (empty_system_of s).table ≡ 0
  empty_graphs = ap graph_count empty_table ∙ no_graphs s words

  empty_has : (t : List ℕ) → Has t (empty_system_of s).table 0 0
  empty_has t = record {
    formed = new_formed s words;
    channels = ap channel_count empty_table ∙ no_channels s words;
    channel = λ q l. absurd (omega arith);
    graph = λ g l. absurd (omega arith);
  }

-- ---- a well-formed system t
module _ (s t : List ℕ) (words : SystemWords s) (formed : system_formed t true ≡ true) where
  all : Reached t (empty_system_of s).table (calls_of t) (channel_count t) (graph_count t)
  unfolding calls_of
  all = makes_all t formed (empty_system_of s).table (empty_has s words t) (empty_graphs s words)

  -- Its calls hand over what a program can; from the empty system each is accepted in its turn;
  pub calls_fit : AllFit (calls_of t)
  calls_fit = all.fit

  pub calls_accepted : AllAccepted (empty_system_of s).table (calls_of t)
  calls_accepted = all.accepted

  -- and what they leave has its words.
  pub calls_build : BuiltBy s t (calls_of t)
  calls_build = record {
    size = (apart t true formed).words;
    fit = calls_fit;
    accepted = calls_accepted;
    words = has_words t (after_all (empty_system_of s).table (calls_of t)) formed all.has all.count;
  }

module _ (s t : List ℕ) (words : SystemWords s) where
  -- A system is well formed for building exactly when calls build what is in it,
  pub formed_exactly : (system_formed t true ≡ true) ↔ Buildable s t
  formed_exactly = ((λ h. (calls_of t, calls_build s t words h)), back)
    where
      back : Buildable s t → system_formed t true ≡ true
      back built =
          let b = built.1 in
          let left = chain_keeps_formed (empty_system_of s).table built.0 b.fit (new_formed s words) in
          together t true (used_formed (after_all (empty_system_of s).table built.0) t (apart _ true left) b.size b.words)

  -- and for a run exactly when each of its graphs has a process too.
  pub runnable_exactly : (system_formed t false ≡ true) ↔ (Buildable s t × Startable t)
  unfolding started
  runnable_exactly = (
    (λ h. (formed_exactly.0 (all_started t h).0, system_started t h)),
    (λ h. for_a_run t (formed_exactly.1 h.0) (all_from (started t) (graph_count t) (λ g l. lt-ltb _ _ (h.1 g l)))),
  )

-- ---- calls on a table that is not a well-formed system
bad_placed : (t : List ℕ) (rest : Answer ⊤) (n : ℕ) (u : List ℕ) → system_formed t true ≡ false
    → answer_number (placed_if (on_system t rest) t n u).answer ≡ 32
unfolding unless
bad_placed t rest n u bad = rw bad

only_bad : {A : Type 0} (refuse : Refusal → A) (number : A → ℕ) → number (refuse (refusal 32)) ≡ 32 → (check : Answer ⊤) (t : List ℕ)
    (o : Outcome A) → check ≡ refused_by 32 → number (only_if refuse check t o).answer ≡ 32
only_bad refuse number e check t o bad = rw bad e

module _ (t : List ℕ) (g : ℕ) (bad : system_formed t true ≡ false) where
  bad_member : member_check t g ≡ refused_by 32
  unfolding member_check unless
  bad_member = rw bad

  bad_known : (q : ℕ) → known_check t g q ≡ refused_by 32
  unfolding known_check
  bad_known q = sym (then_stops _ bad_member)

  on_placed : (o : Outcome (Answer ℕ)) → answer_number (only_if Err (member_check t g) t o).answer ≡ 32
  on_placed o = only_bad Err answer_number refl (member_check t g) t o bad_member

  on_done : (o : Outcome (Answer ⊤)) → answer_number (only_if Err (member_check t g) t o).answer ≡ 32
  on_done o = only_bad Err answer_number refl (member_check t g) t o bad_member

  bad_on : (c : OnGraph) → answer_on t g c ≡ 32
  unfolding new_send_on new_receive_on new_probe_on send_check_on receive_check_on
  bad_on (new_var v) = on_placed _
  bad_on new_clock = on_placed _
  bad_on new_action = on_placed _
  bad_on (new_process l) = on_done _
  bad_on (add_reset a clock) = on_done _
  bad_on (add_effect a v ws) = on_done _
  bad_on (new_timed_location l) = on_placed _
  bad_on (new_initial_location l) = on_placed _
  bad_on (add_transition pre a post guarded ws l) = on_done _
  bad_on (new_send q m count) =
      only_bad Err answer_number refl (send_check_on t g q.0 m count) t _ (sym (then_stops _ (bad_known q.0)))
  bad_on (new_receive q v) =
      only_bad Err answer_number refl (receive_check_on t g q.0 v) t _ (sym (then_stops _ (bad_known q.0)))
  bad_on (new_probe k q) = only_bad Err answer_number refl (known_check t g q.0) t _ (bad_known q.0)

bad_call : (t : List ℕ) (c : Call) → system_formed t true ≡ false → answer_of t c ≡ 32
unfolding new_graph_of new_channel_of graph_check channel_check
bad_call t new_graph bad = bad_placed t _ _ _ bad
bad_call t (new_channel k c) bad = bad_placed t _ _ _ bad
bad_call t (call_on_graph g c) bad = bad_on t g bad c

-- an answer that is 32 where a test fails, and nowhere else
exactly : {B : Type 0} (test : Bool) → (test ≡ true) ↔ B → (answer : ℕ) → (test ≡ true → answer ≡ 32 → ⊥) → (test ≡ false → answer ≡ 32)
    → (answer ≡ 32) ↔ (B → ⊥)
exactly {B} test so answer known bad = ((λ e b. known (so.1 b) e), by test refl)
  where
    by : (b : Bool) → test ≡ b → (B → ⊥) → answer ≡ 32
    by true e none = absurd (none (so.0 e))
    by false e none = bad e

module _ (s t : List ℕ) (words : SystemWords s) where
  -- A building call answers 32 exactly when no calls build what is in the table; so does the question for the kind of a variable, and `build`.
  pub call_32 : (c : Call) → (answer_of t c ≡ 32) ↔ (Buildable s t → ⊥)
  call_32 c = exactly (system_formed t true) (formed_exactly s t words) (answer_of t c) (λ h. call_known t h c) (bad_call t c)

  pub kind_32 : (g v : ℕ) → (answer_number (var_type_in t g v) ≡ 32) ↔ (Buildable s t → ⊥)
  unfolding var_type_in
  kind_32 g v =
      exactly (system_formed t true) (formed_exactly s t words) (answer_number (var_type_in t g v)) (λ h. kind_known_lem t h g v)
      (λ bad. rw (bad_member t g bad))

  pub build_32 : (answer_number (build_system_of t) ≡ 32) ↔ (Buildable s t → ⊥)
  unfolding build_system_of unless
  build_32 =
      exactly (system_formed t true) (formed_exactly s t words) (answer_number (build_system_of t)) (build_known t) (λ bad. rw bad)

  -- A read of a channel answers 32 exactly when none build it, or some graph has no process.
  pub channel_32 : (q : ℕ) → (answer_number (channel_in t q).answer ≡ 32) ↔ (Buildable s t × Startable t → ⊥)
  unfolding channel_in read_check unless
  channel_32 q =
      exactly (system_formed t false) (runnable_exactly s t words) (answer_number (channel_in t q).answer) (read_known t q) (λ bad. rw bad)
