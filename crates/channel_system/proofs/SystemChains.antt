-- Any calls, one after the other, from a fresh state of a table that can be run: the state is one of the table's throughout, and no call
-- answers 32.
use Rattle.grammar.specs.declared.values.Val.{Val}
use Rattle.channel_system.specs.declared.answers.WaitError.TheVariants as WaitError
use Rattle.std.specs.declared.option.Option.{Option}
use Rattle.std.specs.Prelude.{Err}
use Prim.Native.Nat.{ℕ, zero, suc}
use mathlib.Core.Path.{◌≡◌, refl, sym, subst}
use mathlib.Core.Bool.{Bool, true, false}
use mathlib.Core.List.{List, [], ◌∷◌}
use native.Mathlib.Omega.{arith}
use lib.Dec.{ltb}
use Rattle.laws.specs.Ladder.{unless}
use Rattle.laws.proofs.Ladder.{passed, rung}
use Rattle.graph_tables.specs.Refusals.{refusal}
use Rattle.graph_tables.specs.Answers.{Answer, answer_number}
use Rattle.run_steps.specs.Listing.{seek}
use Rattle.run_steps.specs.declared.inner.listing.Sought.{Sought}
use Rattle.run_steps.specs.declared.inner.listing.Sought.TheVariants.{Found, Left}
use Rattle.graph_checks.specs.Checks.{refused_by}
use Rattle.program_graph.specs.Running.{no_run}
use Rattle.program_graph.specs.Transitions.{entry_or_end}
use Rattle.program_graph.proofs.RunLaws.{either_way}
use Rattle.queues.specs.Queues.{stored_of}
use Rattle.system_tables.specs.Words.{graph_count}
use Rattle.system_tables.specs.Sound.{SystemSound}
use Rattle.system_tables.specs.Formed.{system_formed}
use Rattle.system_tables.proofs.SoundLaws.{system_sound}
use Rattle.system_state.specs.Words.{StateWords, queue_part}
use Rattle.system_state.specs.Fits.{StateSound}
use Rattle.system_state.specs.Fresh.{fresh_state}
use Rattle.system_state.proofs.FreshLaws.{fresh_sound}
use Rattle.channel_system.specs.Steps.{system_fits, Moved, refused_step, moved_of, transition_of}
use Rattle.channel_system.specs.Waits.{Passed, refused_wait, passed_of, wait_of, can_wait_of, is_waiting_of}
use Rattle.channel_system.specs.Listing.{listed_on, Possible, listed_below, entry_at, possible_of, possible_on, nosync_on}
use Rattle.channel_system.specs.Told.{waited_number}
use Rattle.channel_system.specs.Readers.{now_of, length_of, queued_at, queued_of, graph_run_of}
use Rattle.channel_system.specs.Chains.{Reading, can_wait, is_waiting, possible_transitions, possible_transitions_pg}
use Rattle.channel_system.specs.Chains.{nosync_possible_transitions_pg, time, program_graph, queue_length, queue_value}
use Rattle.channel_system.specs.Chains.{Call, transition, wait, read}
use Rattle.channel_system.specs.Chains.{reading_number, answer_to, state_after, state_after_all}
use Rattle.channel_system.specs.Readers.{GraphRun}
use Rattle.channel_system.proofs.FittingLaws.{sound_pass}
use Rattle.channel_system.proofs.StepCases.{step_cases}
use Rattle.channel_system.proofs.WaitCases.{wait_cases}
use Rattle.channel_system.proofs.SoundCalls.{moved_sound}
use Rattle.channel_system.proofs.WaitTheorems.{passed_sound}
use Rattle.channel_system.proofs.CallTheorems.{step_refused, wait_refused}

-- A call that is not accepted leaves every word of the state, whatever table and state are handed in.
pub call_refused : (t s : List ℕ) (call : Call) → (answer_to t s call ≡ 0 → ⊥) → state_after t s call ≡ s
call_refused t s (transition g o a posts word) n = (step_refused t s g o a posts word (λ e. n e.number)).0
call_refused t s (wait delta) n = wait_refused t s delta n
call_refused t s (read r) n = refl

-- ---- an entry of a listing is no refusal
sought_known : (x : Sought) → answer_number (entry_or_end x) ≡ 32 → ⊥
sought_known (Found e) h = omega arith
sought_known (Left k) h = omega arith

entry_known : (ps : List Possible) (k : ℕ) → answer_number (entry_at ps k) ≡ 32 → ⊥
entry_known [] k h = omega arith
entry_known (p ∷ ps) zero h = omega arith
entry_known (p ∷ ps) (suc k) h = entry_known ps k h

queued_known : (queue : List ℕ) (k : ℕ) → answer_number (queued_at queue k) ≡ 32 → ⊥
queued_known queue k =
    either_way (λ (x : Answer (Option Val)). answer_number x ≡ 32 → ⊥) (ltb k (stored_of queue)) _ _ (λ f e. omega arith) (λ f e. omega arith)

-- a number that neither side of a rung has
neither : {A : Type 0} (number : A → ℕ) (b : Bool) (x rest : A) → (number x ≡ 32 → ⊥) → (number rest ≡ 32 → ⊥)
    → number (unless b x rest) ≡ 32 → ⊥
neither number b x rest h k = rung (λ y. number y ≡ 32 → ⊥) b x rest h (λ e. k)

-- past the first rung
past_first : {A : Type 0} (number : A → ℕ) {b : Bool} (x rest : A) → b ≡ true → (number rest ≡ 32 → ⊥)
    → number (unless b x rest) ≡ 32 → ⊥
past_first number x rest e h = subst (λ y. number y ≡ 32 → ⊥) (passed x e refl) h

-- ---- a table that can be run, and a state of it
module _ (t : List ℕ) (formed : system_formed t false ≡ true) where
  pub formed_sound : SystemSound t
  formed_sound = system_sound t false formed

  module _ (s : List ℕ) (h : StateSound t s) where
    abbrev fits : system_fits t s ≡ true
    fits = sound_pass t s formed h

    -- a public step is the step, and a public wait the wait
    pub step_inner : (g o a : ℕ) (posts : List ℕ) (word : ℕ) → transition_of t s g o a posts word ≡ moved_of t s g o a posts word
    unfolding transition_of
    step_inner g o a posts word = sym (passed (refused_step 32 g s) fits refl)

    pub wait_inner : (delta : ℕ) → wait_of t s delta ≡ passed_of t s delta
    unfolding wait_of
    wait_inner delta = sym (passed (refused_wait (Err (WaitError.Refused (refusal 32))) s) fits refl)

    -- Every call leaves a state of the table, whatever it answers.
    pub call_sound : (call : Call) → StateSound t (state_after t s call)
    call_sound (transition g o a posts word) =
        subst (λ (m : Moved). StateSound t m.state) (sym (step_inner g o a posts word)) (moved_sound formed_sound h g o a posts word)
    call_sound (wait delta) =
        subst (λ (p : Passed). StateSound t p.state) (sym (wait_inner delta)) (passed_sound t s delta formed_sound h)
    call_sound (read r) = h

    reading_known : (r : Reading) → reading_number t s r ≡ 32 → ⊥
    unfolding can_wait_of is_waiting_of possible_of possible_on nosync_on now_of graph_run_of length_of queued_of
    reading_known (can_wait delta) = past_first answer_number _ _ fits (λ e. omega arith)
    reading_known is_waiting = past_first answer_number _ _ fits (λ e. omega arith)
    reading_known (possible_transitions k) = past_first answer_number _ _ fits (entry_known (listed_below t s (graph_count t)) k)
    reading_known (possible_transitions_pg g k) =
        past_first answer_number _ _ fits
        (neither answer_number _ (Err (refusal 17)) _ (λ e. omega arith) (sought_known (seek (listed_on t s g) k)))
    reading_known (nosync_possible_transitions_pg g k) =
        past_first answer_number _ _ fits
        (neither answer_number _ (Err (refusal 17)) _ (λ e. omega arith)
        (neither answer_number _ (Err (refusal 16)) _ (λ e. omega arith) (sought_known (seek (listed_on t s g) k))))
    reading_known time = past_first answer_number _ _ fits (λ e. omega arith)
    reading_known (program_graph g) =
        past_first (λ (x : GraphRun). answer_number x.answer) _ _ fits
        (neither (λ (x : GraphRun). answer_number x.answer) _ (record { answer = refused_by 17; run = no_run }) _ (λ e. omega arith)
        (λ e. omega arith))
    reading_known (queue_length q) =
        past_first answer_number _ _ fits
        (neither answer_number _ (Err (refusal 30)) _ (λ e. omega arith) (λ e. omega arith))
    reading_known (queue_value q k) =
        past_first answer_number _ _ fits
        (neither answer_number _ (Err (refusal 30)) _ (λ e. omega arith) (queued_known (queue_part s q) k))

    -- No call answers 32.
    pub call_known : (call : Call) → answer_to t s call ≡ 32 → ⊥
    call_known (transition g o a posts word) =
        subst (λ (m : Moved). answer_number m.told.answer ≡ 32 → ⊥) (sym (step_inner g o a posts word))
        (step_cases t s g a posts word (λ (m : Moved). answer_number m.told.answer ≡ 32 → ⊥)
        (record {
          refusal = λ r n. n;
          plain = λ f e. omega arith;
          send = λ q f e. omega arith;
          receive = λ q f e. omega arith;
          probe = λ m q f e. omega arith;
        })
        formed_sound o)
    call_known (wait delta) =
        subst (λ (p : Passed). waited_number p.answer ≡ 32 → ⊥) (sym (wait_inner delta))
        (wait_cases (λ (p : Passed). waited_number p.answer ≡ 32 → ⊥) t s delta (λ e. omega arith) (λ g e. omega arith)
        (λ f e. omega arith))
    call_known (read r) = reading_known r

  -- what every call keeps of a state of the table, every chain keeps
  pub chain_keeps : (P : List ℕ → Type 0) → ((s : List ℕ) → StateSound t s → P s → (call : Call) → P (state_after t s call))
      → (s : List ℕ) → StateSound t s → P s → (calls : List Call) → P (state_after_all t s calls)
  chain_keeps P one s h p [] = p
  chain_keeps P one s h p (call ∷ calls) =
      chain_keeps P one (state_after t s call) (call_sound s h call) (one s h p call) calls

  -- Every chain of calls leaves a state of the table.
  pub chain_sound : (s : List ℕ) → StateSound t s → (calls : List Call) → StateSound t (state_after_all t s calls)
  chain_sound s h calls = chain_keeps (StateSound t) (λ u k p call. call_sound u k call) s h h calls

  -- ---- from a fresh state
  module _ (s : List ℕ) (words : StateWords s) where
    abbrev fresh : List ℕ
    fresh = fresh_state t s

    pub fresh_is_sound : StateSound t (fresh_state t s)
    fresh_is_sound = fresh_sound t formed_sound s words

    -- From a fresh state, after any calls with any arguments, the state is one of the table's: it is what the test behind 32 asks for.
    pub chain_state : (calls : List Call) → StateSound t (state_after_all t (fresh_state t s) calls)
    chain_state calls = chain_sound fresh fresh_is_sound calls

    pub chain_fits : (calls : List Call) → system_fits t (state_after_all t (fresh_state t s) calls) ≡ true
    chain_fits calls = sound_pass t (state_after_all t fresh calls) formed (chain_state calls)

    -- From a fresh state, after any calls with any arguments, no call answers 32.
    pub chain_known : (calls : List Call) (call : Call) → answer_to t (state_after_all t (fresh_state t s) calls) call ≡ 32 → ⊥
    chain_known calls call = call_known (state_after_all t fresh calls) (chain_state calls) call
