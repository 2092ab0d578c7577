-- A call on a run by value is the call on its words: what was put there, and what comes back over the run.
use Rattle.graph_tables.specs.Answers.{Answer}
use Rattle.std.specs.Prelude.{⊤}
use Prim.Native.Nat.{ℕ, ◌<◌}
use mathlib.Core.Path.{◌≡◌, ap, ◌∙◌}
use mathlib.Core.Bool.{true}
use mathlib.Core.List.{List}
use native.Mathlib.Omega.{arith}
use lib.ListN.{length}
use lib.Dec.{eqb}
use Rattle.laws.proofs.BelowLaws.{and_first, and_rest, and_both, all_kept}
use Rattle.grammar.specs.Values.{kind_of, kind_word}
use Rattle.grammar.specs.Slots.{slots_of}
use Rattle.grammar.specs.declared.values.Slot.{Slot}
use Rattle.grammar.proofs.SlotLaws.{slots_length}
use Rattle.graph_tables.specs.Sizes.{variable_room}
use Rattle.graph_tables.specs.Words.{variable_count, kind_at}
use Rattle.graph_tables.specs.RunWords.{places_in, vars_in, clocks_in}
use Rattle.graph_tables.specs.Sound.{Sound}
use Rattle.graph_tables.specs.declared.handed.Message.{Message}
use Rattle.run_steps.proofs.AgreeLaws.{Agree, listing_agree}
use Rattle.program_graph.specs.Running.{var_fits, counts_same, run_formed, step_of, waited_of, wait_open, waits_on}
use Rattle.program_graph.specs.Messaging.{sent_of, received_of}
use Rattle.program_graph.specs.Transitions.{listed}
use Rattle.program_graph.specs.Inner.{run_at, RunOf, DidCall, DidSend, Small, with_vars, over, Stored}
use Rattle.program_graph.specs.declared.record.ProgramGraphRun.{ProgramGraphRun}
use Rattle.program_graph.specs.Outcomes.{RunOutcome, Sent, accepts, values_said, sent}
use Rattle.program_graph.proofs.WordLaws.{vars_length}
use Rattle.program_graph.proofs.LeaveLaws.{variables_same}
use Rattle.program_graph.proofs.OverLaws.{step_same, wait_same, send_same, receive_same}
use Rattle.program_graph.proofs.SmallLaws.{SmallRun, step_small, wait_small, send_small, receive_small}

-- ---- outcomes from their parts
outcome_is : (s : RunOutcome) (d : Answer ⊤) (x : ProgramGraphRun) → d ≡ s.answer → x ≡ s.run → record { answer = d; run = x } ≡ s
outcome_is s d x e f =
    ap (λ (y : Answer ⊤). record { answer = y; run = x }) e ∙ ap (λ (y : ProgramGraphRun). record { answer = s.answer; run = y }) f

sent_is : (s : Sent) (d : Answer ⊤) (m : Message) (x : ProgramGraphRun) → d ≡ s.answer → m ≡ s.message → x ≡ s.run
    → record { answer = d; message = m; run = x } ≡ s
sent_is s d m x e g f =
    ap (λ (y : Answer ⊤). record { answer = y; message = m; run = x }) e
    ∙ ap (λ (y : Message). record { answer = s.answer; message = y; run = x }) g
    ∙ ap (λ (y : ProgramGraphRun). record { answer = s.answer; message = s.message; run = y }) f

module _ (t : List ℕ) (run : ProgramGraphRun) (r : List ℕ) (sound : Sound t) (formed : run_formed t run ≡ true) (s : Stored r run) where
  abbrev vs : List Slot
  vs = slots_of (vars_in r)

  count : run.variables ≡ variable_count t
  count = variables_same t run formed

  -- the variables in words are the run's, as far as the table has them
  pub same : Agree (variable_count t) vs run.vars
  same v l = s.vars.values v (omega (arith, count))

  pub size : length vs ≡ variable_room
  size = slots_length (vars_in r) variable_room (vars_length r s.words)

  kind_kept : (v : ℕ) → v < run.variables → var_fits t run.vars v ≡ true → var_fits t vs v ≡ true
  unfolding var_fits
  kind_kept v l h = ap (λ (x : Slot). eqb (kind_word (kind_of x.value)) (kind_at t v)) (s.vars.values v l) ∙ h

  with_formed : run_formed t (with_vars run vs) ≡ true
  unfolding run_formed counts_same
  with_formed =
      and_both (and_first _ _ formed)
      (and_both (and_first _ _ (and_rest _ _ formed)) (all_kept _ _ run.variables kind_kept (and_rest _ _ (and_rest _ _ formed))))

  -- the words are those of a run of the table
  pub stored_run : RunOf t r
  stored_run =
      record {
        words = s.words;
        formed = ap (run_formed t) s.reads ∙ with_formed;
        used = rw (← count) s.vars.used;
      }

  stored_small : SmallRun (run_at r)
  stored_small =
      record {
        places = rw (ap (λ (x : ProgramGraphRun). x.places) s.reads) s.places;
        times = rw (ap (λ (x : ProgramGraphRun). x.times) s.reads) s.times;
      }

  -- ---- what is read back can be: places and times of 32 bits
  reads_small : (after : List ℕ) (x : ProgramGraphRun) → run_at after ≡ x → SmallRun x → Small (places_in after) × Small (clocks_in after)
  reads_small after x e h =
      (rw (ap (λ (y : ProgramGraphRun). y.places) e) h.places, rw (ap (λ (y : ProgramGraphRun). y.times) e) h.times)

  -- ---- one call
  module _ (a : ℕ) (posts : List ℕ) (after : List ℕ) where
    pub stepped_small : (word : ℕ) (d : Answer ⊤) → DidCall t r d after (step_of t (run_at r) a posts word)
        → Small (places_in after) × Small (clocks_in after)
    stepped_small word d did = reads_small after _ did.1.reads (step_small t (run_at r) sound stored_small a posts word)

    pub stepped_back : (word : ℕ) (d : Answer ⊤) → DidCall t r d after (step_of t (run_at r) a posts word)
        → record { answer = d; run = over run (run_at after) } ≡ step_of t run a posts word
    stepped_back word d did =
        let x = ap (λ (y : ProgramGraphRun). step_of t y a posts word) s.reads in
        let e = step_same t run vs sound formed same s.sized size a posts word in
        let answer = did.0 ∙ ap (λ (y : RunOutcome). y.answer) x ∙ e.answer in
        let back = ap (over run) (did.1.reads ∙ ap (λ (y : RunOutcome). y.run) x) ∙ e.back in
        outcome_is (step_of t run a posts word) d _ answer back

    pub sent_small : (word : ℕ) (d : Answer Message) → DidSend t r d after (sent_of t (run_at r) a posts word)
        → Small (places_in after) × Small (clocks_in after)
    sent_small word d did = reads_small after _ did.words.reads (send_small t (run_at r) sound stored_small a posts word)

    pub sent_back : (word : ℕ) (d : Answer Message) → DidSend t r d after (sent_of t (run_at r) a posts word)
        → sent d (over run (run_at after)) ≡ sent_of t run a posts word
    sent_back word d did =
        let x = ap (λ (y : ProgramGraphRun). sent_of t y a posts word) s.reads in
        let e = send_same t run vs sound formed same s.sized size a posts word in
        let answer = did.answer ∙ ap (λ (y : Sent). y.answer) x ∙ e.rest.answer in
        let message = did.message ∙ ap (λ (y : Sent). y.message) x ∙ e.message in
        let back = ap (over run) (did.words.reads ∙ ap (λ (y : Sent). y.run) x) ∙ e.rest.back in
        sent_is (sent_of t run a posts word) (accepts d) (values_said d) _ answer message back

    pub received_small : (m : Message) (d : Answer ⊤) → DidCall t r d after (received_of t (run_at r) a posts m)
        → Small (places_in after) × Small (clocks_in after)
    received_small m d did = reads_small after _ did.1.reads (receive_small t (run_at r) sound stored_small a posts m)

    pub received_back : (m : Message) (d : Answer ⊤) → DidCall t r d after (received_of t (run_at r) a posts m)
        → record { answer = d; run = over run (run_at after) } ≡ received_of t run a posts m
    received_back m d did =
        let x = ap (λ (y : ProgramGraphRun). received_of t y a posts m) s.reads in
        let e = receive_same t run vs sound formed same s.sized size a posts m in
        let answer = did.0 ∙ ap (λ (y : RunOutcome). y.answer) x ∙ e.answer in
        let back = ap (over run) (did.1.reads ∙ ap (λ (y : RunOutcome). y.run) x) ∙ e.back in
        outcome_is (received_of t run a posts m) d _ answer back

  pub waited_small : (after : List ℕ) (delta : ℕ) (d : Answer ⊤) → DidCall t r d after (waited_of t (run_at r) delta)
      → Small (places_in after) × Small (clocks_in after)
  waited_small after delta d did = reads_small after _ did.1.reads (wait_small t (run_at r) sound stored_small delta)

  pub waited_back : (after : List ℕ) (delta : ℕ) (d : Answer ⊤) → DidCall t r d after (waited_of t (run_at r) delta)
      → record { answer = d; run = over run (run_at after) } ≡ waited_of t run delta
  waited_back after delta d did =
      let x = ap (λ (y : ProgramGraphRun). waited_of t y delta) s.reads in
      let e = wait_same t run vs sound formed same s.sized size delta in
      let answer = did.0 ∙ ap (λ (y : RunOutcome). y.answer) x ∙ e.answer in
      let back = ap (over run) (did.1.reads ∙ ap (λ (y : RunOutcome). y.run) x) ∙ e.back in
      outcome_is (waited_of t run delta) d _ answer back

  -- ---- what is asked of it
  pub can_wait_back : (delta : ℕ) → wait_open t (run_at r) delta ≡ wait_open t run delta
  can_wait_back delta = ap (λ (x : ProgramGraphRun). wait_open t x delta) s.reads

  pub is_waiting_back : waits_on t (run_at r) ≡ waits_on t run
  is_waiting_back = ap (waits_on t) s.reads

  pub listed_back : listed t (run_at r) ≡ listed t run
  listed_back = ap (listed t) s.reads ∙ listing_agree t sound vs run.vars same run.times run.places run.processes
