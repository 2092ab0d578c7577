-- From a fresh state, after any calls, the time is the sum of the accepted waits, and every clock of every graph is the sum of the
-- accepted waits since the last accepted step that resets it.
use Rattle.std.specs.Prelude.{⊤}
use Prim.Native.Nat.{ℕ, ◌+◌, ◌<◌}
use mathlib.Core.Path.{◌≡◌, refl, sym, ap, subst, ◌∙◌}
use mathlib.Core.Bool.{Bool, true, false, cond}
use mathlib.Core.List.{List, [], ◌∷◌, ◌++◌}
use native.Mathlib.Decide.{ℕ_discrete}
use native.Mathlib.Omega.{arith}
use lib.Dec.{eqb}
use lib.ListN.{get_or}
use borrow.Author.Tests.{eq-eqb, ne_eqb}
use Rattle.laws.specs.Below.{◌and◌}
use Rattle.laws.proofs.BelowLaws.{and_no, and_false}
use Rattle.graph_tables.specs.Refusals.{number_of}
use Rattle.graph_tables.specs.Answers.{Answer, admitted, answer_number}
use Rattle.graph_tables.specs.Words.{clock_count}
use Rattle.graph_tables.proofs.NumberLaws.{above_ok}
use Rattle.program_graph.specs.declared.record.ProgramGraphRun.{ProgramGraphRun}
use Rattle.program_graph.specs.Outcomes.{RunOutcome, Sent}
use Rattle.program_graph.specs.Inner.{run_at}
use Rattle.program_graph.specs.Running.{later}
use Rattle.program_graph.specs.RunChains as graph
use Rattle.program_graph.proofs.RunChains as graphs
use Rattle.program_graph.proofs.RunLaws.{left_over}
use Rattle.system_tables.specs.declared.ids.Message.{Message}
use Rattle.system_tables.specs.declared.ids.Communication.{Communication}
use Rattle.system_tables.specs.declared.ids.Communication.TheVariants.{On}
use Rattle.system_tables.specs.Words.{graph_count, graph_part}
use Rattle.system_tables.specs.Sound.{SystemSound}
use Rattle.system_tables.specs.Formed.{system_formed}
use Rattle.system_state.specs.Words.{StateWords, time_in}
use Rattle.system_state.specs.Fits.{StateSound}
use Rattle.system_state.specs.Fresh.{fresh_state}
use Rattle.system_state.proofs.FreshParts.{fresh_state_time, fresh_state_clock}
use Rattle.channel_system.specs.Steps.{locations_of, run_of, oldest_in, Moved, spoken_by}
use Rattle.channel_system.specs.Waits.{Passed}
use Rattle.channel_system.specs.Told.{waited_number}
use Rattle.channel_system.specs.Chains.{Call, transition, wait, read, answer_to, is_accepted, state_after, state_after_all, delta_of}
use Rattle.channel_system.specs.Chains.{accepted_waits, resets_on, reset_by, time_on, since_reset, NoReset}
use Rattle.channel_system.proofs.StepCases.{stepped_on, sent_on, received_on, PlainFound, step_cases}
use Rattle.channel_system.proofs.WaitCases.{WaitFound, graph_fits, wait_leaves, wait_cases}
use Rattle.channel_system.proofs.SoundCalls.{RunLeft, plain_run, probe_run, send_run, receive_run}
use Rattle.channel_system.proofs.CallTheorems.{step_time}
use Rattle.channel_system.proofs.SystemChains.{formed_sound, step_inner, wait_inner, call_sound, chain_sound, fresh_is_sound}
use Rattle.channel_system.proofs.GraphSide.{run_sized, step_as_lem, send_as, receive_as, wait_as}

-- a call that takes no time
no_time : (b : Bool) (n : ℕ) → n ≡ n + cond b 0 0
no_time true n = omega arith
no_time false n = omega arith

-- ---- the time
module _ (t : List ℕ) (formed : system_formed t false ≡ true) where
  call_time : (s : List ℕ) → StateSound t s → (call : Call)
      → time_in (state_after t s call) ≡ time_in s + cond (is_accepted (answer_to t s call)) (delta_of call) 0
  call_time s h (transition g o a posts word) =
      step_time t s g o a posts word ∙ no_time (is_accepted (answer_to t s (transition g o a posts word))) (time_in s)
  call_time s h (wait delta) =
      let P : Passed → Type 0 = λ p. time_in p.state ≡ time_in s + cond (is_accepted (waited_number p.answer)) delta 0 in
      subst P (sym (wait_inner t formed s h delta))
      (wait_cases P t s delta (omega arith) (λ g. omega arith) (λ f. (wait_leaves (formed_sound t formed) h f).time))
  call_time s h (read r) = no_time (is_accepted (answer_to t s (read r))) (time_in s)

  many_times : (s : List ℕ) → StateSound t s → (calls : List Call)
      → time_in (state_after_all t s calls) ≡ time_in s + accepted_waits t s calls
  many_times s h [] = omega arith
  many_times s h (call ∷ calls) =
      many_times (state_after t s call) (call_sound t formed s h call) calls ∙ omega (arith, call_time s h call)

-- ---- a clock
-- clock c of graph g
abbrev clock : List ℕ → ℕ → ℕ → ℕ
clock s g c = get_or (run_of s g).times c 0

-- nothing is reset
unreset : (b : Bool) (x : ℕ) → b ≡ false → x ≡ cond b 0 (x + 0)
unreset b x e = left_over 0 e (omega arith)

module _ (t : List ℕ) (formed : system_formed t false ≡ true) (s : List ℕ) (h : StateSound t s) where
  abbrev sound : SystemSound t
  sound = formed_sound t formed

  -- ---- what the graph's own calls make of it
  module _ (g c : ℕ) (l : g < graph_count t) (k : c < clock_count (graph_part t g)) where
    abbrev G : List ℕ
    G = graph_part t g

    abbrev x : ℕ
    x = clock s g c

    module _ (a : ℕ) (posts : List ℕ) (word : ℕ) where
      step_clock : (stepped_on t s g a posts word).answer ≡ admitted
          → get_or (stepped_on t s g a posts word).run.times c 0 ≡ cond (graph.resets_clock G a c) 0 x
      step_clock e =
          subst
          (λ (y : RunOutcome). get_or y.run.times c 0 ≡ cond (graph.is_accepted y.answer) (cond (graph.resets_clock G a c) 0 x) x)
          (step_as_lem t formed s h g l a (locations_of posts) word)
          (graphs.call_clock G (run_of s g) (graph.transition a (locations_of posts) word) c (run_sized t formed s h g l) k)
          ∙ ap (λ (d : Answer ⊤). cond (graph.is_accepted d) (cond (graph.resets_clock G a c) 0 x) x) e

      send_clock : (sent_on t s g a posts word).answer ≡ admitted → get_or (sent_on t s g a posts word).run.times c 0 ≡ x
      send_clock e =
          subst (λ (y : Sent). get_or y.run.times c 0 ≡ cond (graph.is_accepted y.answer) x x)
          (send_as t formed s h g l a (locations_of posts) word)
          (graphs.call_clock G (run_of s g) (graph.send a (locations_of posts) word) c (run_sized t formed s h g l) k)
          ∙ ap (λ (d : Answer ⊤). cond (graph.is_accepted d) x x) e

      receive_clock : (q : ℕ) → (received_on t s g a posts word q).answer ≡ admitted
          → get_or (received_on t s g a posts word q).run.times c 0 ≡ x
      receive_clock q e =
          subst (λ (y : RunOutcome). get_or y.run.times c 0 ≡ cond (graph.is_accepted y.answer) x x)
          (receive_as t formed s h g l a (locations_of posts) (oldest_in t s q))
          (graphs.call_clock G (run_of s g) (graph.receive a (locations_of posts) (oldest_in t s q)) c (run_sized t formed s h g l) k)
          ∙ ap (λ (d : Answer ⊤). cond (graph.is_accepted d) x x) e

    wait_clock : (delta : ℕ) → WaitFound t s delta → get_or (later (run_of s g) delta).times c 0 ≡ x + delta
    wait_clock delta f =
        subst (λ (y : RunOutcome). get_or y.run.times c 0 ≡ cond (graph.is_accepted y.answer) (x + delta) x)
        (wait_as t formed s h g l delta (graph_fits sound h f g l) (f.holds g l))
        (graphs.call_clock G (run_of s g) (graph.wait delta) c (run_sized t formed s h g l) k)

  -- ---- what a step of graph f by action a makes of clock c of graph g
  module _ (f a : ℕ) where
    abbrev resets : ℕ → ℕ → Bool
    resets g c = eqb f g and resets_on t g c a (spoken_by t g a)

    abbrev Goes : List ℕ → ℕ → ℕ → Type 0
    Goes u g c = clock u g c ≡ cond (resets g c) 0 (clock s g c + 0)

    -- of another graph
    elsewhere : {run : ProgramGraphRun} {u : List ℕ} → RunLeft t s f run u → (g c : ℕ) → g < graph_count t → (f ≡ g → ⊥) → Goes u g c
    elsewhere left g c l other =
        ap (λ (r : List ℕ). get_or (run_at r).times c 0) (left.other g (omega (arith, sound.graphs)) (λ e. other (sym e)))
        ∙ unreset (resets g c) (clock s g c) (sym (and_no (resets_on t g c a (spoken_by t g a)) (ne_eqb f g other)))

    -- of the same, where its own call gives the clock as it should
    goes : {run : ProgramGraphRun} {u : List ℕ} → RunLeft t s f run u
        → ((c : ℕ) → f < graph_count t → c < clock_count (graph_part t f) → get_or run.times c 0 ≡ cond (resets f c) 0 (clock s f c + 0))
        → (g c : ℕ) → g < graph_count t → c < clock_count (graph_part t g) → Dec (f ≡ g) → Goes u g c
    goes {run} {u} left here g c l k (yes e) =
        subst (λ (n : ℕ). n < graph_count t → c < clock_count (graph_part t n) → Goes u n c) e
        (λ m j. ap (λ (r : ProgramGraphRun). get_or r.times c 0) left.reads ∙ here c m j) l k
    goes left here g c l k (no other) = elsewhere left g c l other

    -- a plain step resets what its action does
    plain_here : (posts : List ℕ) (word : ℕ) → PlainFound t s f a posts word → (c : ℕ) → f < graph_count t → c < clock_count (graph_part t f)
        → get_or (stepped_on t s f a posts word).run.times c 0 ≡ cond (resets f c) 0 (clock s f c + 0)
    unfolding ◌and◌
    plain_here posts word found c l k =
        let z : clock s f c ≡ clock s f c + 0 = omega arith in
        let same : resets f c ≡ graph.resets_clock (graph_part t f) a c =
        ap (λ (b : Bool). b and resets_on t f c a (spoken_by t f a)) (eq-eqb f f refl)
        ∙ ap (λ (w : Communication). resets_on t f c a w) found.spoken in
        step_clock f c l k a posts word found.answer
        ∙ ap (λ (n : ℕ). cond (graph.resets_clock (graph_part t f) a c) 0 n) z
        ∙ ap (λ (b : Bool). cond b 0 (clock s f c + 0)) (sym same)

    -- a communication resets nothing
    talk_here : (m : Message) (q : ℕ) → spoken_by t f a ≡ On m (record { 0 = q }) → (c y : ℕ) → y ≡ clock s f c
        → y ≡ cond (resets f c) 0 (clock s f c + 0)
    talk_here m q spoken c y e =
        e
        ∙ unreset (resets f c) (clock s f c)
        (ap (λ (w : Communication). eqb f f and resets_on t f c a w) spoken ∙ and_false (eqb f f))

  -- ---- one call
  module _ (g c : ℕ) (l : g < graph_count t) (k : c < clock_count (graph_part t g)) where
    idle : (b : Bool) → clock s g c ≡ cond b (clock s g c + 0) (clock s g c)
    idle true = omega arith
    idle false = refl

    call_clock : (call : Call)
        → clock (state_after t s call) g c ≡ cond (is_accepted (answer_to t s call)) (time_on t g c call (clock s g c)) (clock s g c)
    call_clock (transition f o a posts word) =
        let P : Moved → Type 0 =
        λ m. clock m.state g c
        ≡ cond (is_accepted (answer_number m.told.answer)) (cond (resets f a g c) 0 (clock s g c + 0)) (clock s g c) in
        subst P (sym (step_inner t formed s h f o a posts word))
        (step_cases t s f a posts word P
        (record {
          refusal = λ r n. left_over _ (ne_eqb (number_of r) 0 (above_ok r)) refl;
          plain = λ e. goes f a (plain_run sound h f a posts word e) (plain_here f a posts word e) g c l k (ℕ_discrete f g);
          send = λ q e. goes f a (send_run sound h f a posts word q e)
              (λ d m j. talk_here f a _ q e.found.spoken d _ (send_clock f d m j a posts word e.answer)) g c l k (ℕ_discrete f g);
          receive = λ q e. goes f a (receive_run sound h f a posts word q e)
              (λ d m j. talk_here f a _ q e.found.spoken d _ (receive_clock f d m j a posts word q e.answer))
              g c l k (ℕ_discrete f g);
          probe = λ n q e. goes f a (probe_run sound h f a posts word n q e)
              (λ d m j. talk_here f a n q e.found.spoken d _ (send_clock f d m j a posts word e.answer)) g c l k (ℕ_discrete f g);
        })
        sound o)
    call_clock (wait delta) =
        let P : Passed → Type 0 =
        λ p. clock p.state g c ≡ cond (is_accepted (waited_number p.answer)) (clock s g c + delta) (clock s g c) in
        subst P (sym (wait_inner t formed s h delta))
        (wait_cases P t s delta refl (λ n. refl)
        (λ f. ap (λ (r : ProgramGraphRun). get_or r.times c 0) ((wait_leaves sound h f).run g l)
        ∙ wait_clock g c l k delta f))
    call_clock (read r) = idle (is_accepted (answer_to t s (read r)))

-- ---- chains
module _ (t : List ℕ) (g c : ℕ) where
  -- one accepted call that does not reset the clock takes its time
  moves_on : (b : Bool) (call : Call) (x : ℕ) → (b ≡ true → reset_by t g c call ≡ false)
      → cond b (time_on t g c call x) x ≡ x + cond b (delta_of call) 0
  moves_on true call x n = ap (λ (r : Bool). cond r 0 (x + delta_of call)) (n refl)
  moves_on false call x n = omega arith

  -- While nothing resets it a clock goes on by the accepted waits.
  pub goes_on : (s : List ℕ) (calls : List Call) (x : ℕ) → NoReset t g c s calls → since_reset t g c s calls x ≡ x + accepted_waits t s calls
  goes_on s [] x n = omega arith
  goes_on s (call ∷ calls) x n =
      goes_on (state_after t s call) calls (cond (is_accepted (answer_to t s call)) (time_on t g c call x) x) n.1
      ∙ omega (arith, moves_on (is_accepted (answer_to t s call)) call x n.0)

  -- a chain in two parts
  since_both : (s : List ℕ) (first second : List Call) (x : ℕ)
      → since_reset t g c s (first ++ second) x ≡ since_reset t g c (state_after_all t s first) second (since_reset t g c s first x)
  since_both s [] second x = refl
  since_both s (call ∷ calls) second x =
      since_both (state_after t s call) calls second (cond (is_accepted (answer_to t s call)) (time_on t g c call x) x)

  -- an accepted call that resets the clock
  from_zero : (s : List ℕ) (call : Call) (calls : List Call) (x : ℕ) → is_accepted (answer_to t s call) ≡ true → reset_by t g c call ≡ true
      → since_reset t g c s (call ∷ calls) x ≡ since_reset t g c (state_after t s call) calls 0
  from_zero s call calls x e r =
      ap (λ (b : Bool). since_reset t g c (state_after t s call) calls (cond b (cond (reset_by t g c call) 0 (x + delta_of call)) x)) e
      ∙ ap (λ (b : Bool). since_reset t g c (state_after t s call) calls (cond b 0 (x + delta_of call))) r

  many_clocks : system_formed t false ≡ true → g < graph_count t → c < clock_count (graph_part t g) → (s : List ℕ) → StateSound t s
      → (calls : List Call) → clock (state_after_all t s calls) g c ≡ since_reset t g c s calls (clock s g c)
  many_clocks formed l k s h [] = refl
  many_clocks formed l k s h (call ∷ calls) =
      many_clocks formed l k (state_after t s call) (call_sound t formed s h call) calls
      ∙ ap (λ (x : ℕ). since_reset t g c (state_after t s call) calls x) (call_clock t formed s h g c l k call)

-- the state after a chain in two parts
state_both : (t s : List ℕ) (first second : List Call)
    → state_after_all t s (first ++ second) ≡ state_after_all t (state_after_all t s first) second
state_both t s [] second = refl
state_both t s (call ∷ calls) second = state_both t (state_after t s call) calls second

-- ---- from a fresh state
module _ (t : List ℕ) (formed : system_formed t false ≡ true) (s : List ℕ) (words : StateWords s) where
  abbrev fresh : List ℕ
  fresh = fresh_state t s

  abbrev fresh_ok : StateSound t fresh
  fresh_ok = fresh_is_sound t formed s words

  -- From a fresh state, after any calls, the time is the sum of the accepted waits.
  pub chain_time : (calls : List Call) → time_in (state_after_all t (fresh_state t s) calls) ≡ accepted_waits t (fresh_state t s) calls
  chain_time calls = many_times t formed fresh fresh_ok calls ∙ omega (arith, fresh_state_time t (formed_sound t formed) s words)

  module _ (g : ℕ) (graph_known : g < graph_count t) (c : ℕ) (known : c < clock_count (graph_part t g)) where
    -- Each clock of each graph reads the sum of the accepted waits since its last accepted reset.
    pub chain_clocks : (calls : List Call)
        → get_or (run_of (state_after_all t (fresh_state t s) calls) g).times c 0 ≡ since_reset t g c (fresh_state t s) calls 0
    chain_clocks calls =
        many_clocks t g c formed graph_known known fresh fresh_ok calls
        ∙ ap (λ (x : ℕ). since_reset t g c fresh calls x) (fresh_state_clock t (formed_sound t formed) s words g graph_known c known)

    -- If nothing resets it, a clock reads the sum of all accepted waits.
    pub never_reset : (calls : List Call) → NoReset t g c (fresh_state t s) calls
        → get_or (run_of (state_after_all t (fresh_state t s) calls) g).times c 0 ≡ accepted_waits t (fresh_state t s) calls
    never_reset calls n = chain_clocks calls ∙ goes_on t g c fresh calls 0 n ∙ omega arith

    -- After an accepted call that resets it, and calls of which none does, it reads the sum of their accepted waits: 0 if there are none.
    pub since_its_reset : (first : List Call) (call : Call) (second : List Call)
        → is_accepted (answer_to t (state_after_all t (fresh_state t s) first) call) ≡ true → reset_by t g c call ≡ true
        → NoReset t g c (state_after t (state_after_all t (fresh_state t s) first) call) second
        → get_or (run_of (state_after_all t (fresh_state t s) (first ++ (call ∷ second))) g).times c 0
        ≡ accepted_waits t (state_after t (state_after_all t (fresh_state t s) first) call) second
    since_its_reset first call second e r n =
        chain_clocks (first ++ (call ∷ second))
        ∙ since_both t g c fresh first (call ∷ second) 0
        ∙ from_zero t g c (state_after_all t fresh first) call second (since_reset t g c fresh first 0) e r
        ∙ goes_on t g c (state_after t (state_after_all t fresh first) call) second 0 n
        ∙ omega arith

    -- Right after an accepted call that resets it, it reads 0.
    pub zero_at_reset : (first : List Call) (call : Call)
        → is_accepted (answer_to t (state_after_all t (fresh_state t s) first) call) ≡ true → reset_by t g c call ≡ true
        → get_or (run_of (state_after_all t (fresh_state t s) (first ++ (call ∷ []))) g).times c 0 ≡ 0
    zero_at_reset first call e r = since_its_reset first call [] e r tt

    -- Through calls of which none resets it, it goes on by the sum of their accepted waits.
    pub goes_on_through : (first second : List Call) → NoReset t g c (state_after_all t (fresh_state t s) first) second
        → get_or (run_of (state_after_all t (fresh_state t s) (first ++ second)) g).times c 0
        ≡ get_or (run_of (state_after_all t (fresh_state t s) first) g).times c 0
        + accepted_waits t (state_after_all t (fresh_state t s) first) second
    goes_on_through first second n =
        let split = state_after_all t fresh first in
        ap (λ (u : List ℕ). clock u g c) (state_both t fresh first second)
        ∙ many_clocks t g c formed graph_known known split (chain_sound t formed fresh fresh_ok first) second
        ∙ goes_on t g c split second (clock split g c) n
