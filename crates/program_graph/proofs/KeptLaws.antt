-- What a call leaves in the words of a run is again a run of the table, with no clock past the last time.
use Prim.Native.Nat.{ℕ, zero, suc, ◌<◌, ◌≤◌}
use mathlib.Core.Path.{◌≡◌, sym, subst}
use mathlib.Core.Bool.{true}
use mathlib.Core.List.{List}
use native.Mathlib.Omega.{arith}
use lib.Dec.{eqb, ltb}
use lib.ListN.{length, get_or}
use borrow.Author.Tests.{eqb-true, ltb-true}
use Rattle.laws.specs.Below.{all_below}
use Rattle.laws.proofs.Ladder.{rung}
use Rattle.laws.proofs.BelowLaws.{and_first, and_rest, and_both, all_at, all_from, all_kept}
use Rattle.grammar.specs.Slots.{slots_of}
use Rattle.grammar.specs.declared.values.Slot.{Slot}
use Rattle.grammar.proofs.SlotLaws.{slots_length}
use Rattle.graph_tables.specs.Sizes.{variable_room, plain_kind, last_time}
use Rattle.graph_tables.specs.Words.{variable_count, clock_count, location_count, action_count, action_kind, reset_at, reset_count, effect_count}
use Rattle.graph_tables.specs.Words.{epsilon}
use Rattle.graph_tables.specs.RunWords.{vars_in, clocks_in}
use Rattle.graph_tables.specs.Sound.{Sound}
use Rattle.graph_tables.specs.declared.handed.Message.{Message}
use Rattle.run_steps.specs.Steps.{reset_below, clocks_after, effected_of, placed_below, post_known, clock_fits, shifted_below}
use Rattle.run_steps.specs.Messages.{taken_of}
use Rattle.run_steps.proofs.StepLaws.{set_keeps, post_known_lem, fits_at, shifted_at, placed_at}
use Rattle.run_steps.proofs.MessageLaws.{taken_fits}
use Rattle.program_graph.specs.Running.{place_known, var_fits, counts_same, run_formed, refused, ready_still, moved_to, autonomous_of}
use Rattle.program_graph.specs.Running.{plain_of, acted_of, step_of, wait_fits, later, waited_of}
use Rattle.program_graph.specs.Messaging.{refused_send, said_of, sent_of, heard_of, received_of}
use Rattle.program_graph.specs.Inner.{run_at, Leaves}
use Rattle.program_graph.specs.Fits.{RunKept}
use Rattle.program_graph.specs.declared.record.ProgramGraphRun.{ProgramGraphRun}
use Rattle.program_graph.specs.Outcomes.{RunOutcome, Sent}
use Rattle.program_graph.proofs.WordLaws.{places_length, vars_length, times_length}
use Rattle.program_graph.proofs.RunLaws.{same_variables, same_clocks, few_processes, few_clocks, either_way}
use Rattle.program_graph.proofs.RunReady.{ready_exactly}
use Rattle.program_graph.proofs.RunKept.{effects_keep}
use Rattle.program_graph.proofs.FitLaws.{leaves_kept}

-- ---- a run of the table whose first n clocks are at most the last time
abbrev InTime : ℕ → List ℕ → Type 0
InTime n times = (c : ℕ) → c < n → get_or times c 0 ≤ last_time

record Good (t : List ℕ) (run : ProgramGraphRun) : Type 0 where
  formed : run_formed t run ≡ true
  times : InTime (clock_count t) run.times

-- ---- clocks
-- resets keep them in time
reset_in_time : (t : List ℕ) (a : ℕ) (clocks : List ℕ) (m : ℕ) → InTime m clocks → (n : ℕ) → InTime m (reset_below t a clocks n)
unfolding reset_below
reset_in_time t a clocks m h zero = h
reset_in_time t a clocks m h (suc n) =
    λ c l. set_keeps (λ (x : ℕ). x ≤ last_time) 0 (reset_below t a clocks n) (reset_at t a n) 0 c (λ e. omega arith)
    (reset_in_time t a clocks m h n c l)

-- and so does a wait that fits
shifted_in_time : (clocks : List ℕ) (delta n : ℕ) → n ≤ length clocks → all_below n (clock_fits clocks delta) ≡ true
    → InTime n (shifted_below clocks delta n)
shifted_in_time clocks delta n room fits c l = rw (shifted_at clocks delta n c l room) (fits_at clocks delta n c fits l)

-- ---- what moves keep
module _ (t : List ℕ) (run : ProgramGraphRun) (sound : Sound t) (h : run_formed t run ≡ true)
    (room : run.processes ≤ length run.places) where
  -- every variable that the table has is of its kind
  vars_fit : all_below (variable_count t) (var_fits t run.vars) ≡ true
  unfolding run_formed
  vars_fit = subst (λ (n : ℕ). all_below n (var_fits t run.vars) ≡ true) (same_variables t run h) (and_rest _ _ (and_rest _ _ h))

  -- processes at known posts, and variables of their kinds
  moved_formed : (posts : List ℕ) (vars : List Slot) (clocks : List ℕ) → all_below (length posts) (post_known t posts) ≡ true
      → length posts ≡ run.processes → all_below (variable_count t) (var_fits t vars) ≡ true
      → run_formed t (moved_to run posts vars clocks) ≡ true
  unfolding run_formed counts_same place_known post_known
  moved_formed posts vars clocks known e v =
      let n = run.processes in
      let at : (p : ℕ) → p < n → place_known t (placed_below run.places posts n) p ≡ true =
      λ p l. subst (λ (x : ℕ). ltb x (location_count t) ≡ true) (sym (placed_at run.places posts n p l room))
      (all_at (post_known t posts) (length posts) p known (omega arith))
      in
      and_both (and_first _ _ h)
      (and_both (all_from (place_known t (placed_below run.places posts n)) n at)
      (subst (λ (m : ℕ). all_below m (var_fits t vars) ≡ true) (sym (same_variables t run h)) v))

  -- where processes are ready, their posts are known
  ready_known : (a : ℕ) (posts : List ℕ) → ready_still t run a posts ≡ true → length posts ≡ run.processes
      → all_below (length posts) (post_known t posts) ≡ true
  ready_known a posts r e =
      let each = (ready_exactly t run.vars run.times run.times run.places run.processes a posts).0 r in
      all_from (post_known t posts) (length posts) (λ p l.
      let k = each p (omega arith) in
      post_known_lem t posts p (subst (λ (x : ℕ). x < location_count t) k.1.to (sound.transition k.0 k.1.known).post))

-- ---- what calls keep, whatever they answer
module _ (t : List ℕ) (run : ProgramGraphRun) (sound : Sound t) (good : Good t run) (room : run.processes ≤ length run.places)
    (size : length run.vars ≡ variable_room) (long : run.clocks ≤ length run.times) where
  abbrev formed : run_formed t run ≡ true
  formed = good.formed

  abbrev fitting : all_below (variable_count t) (var_fits t run.vars) ≡ true
  fitting = vars_fit t run sound formed room

  abbrev Steps : RunOutcome → Type 0
  Steps s = Good t s.run

  -- a move that leaves variables and clocks
  moved : (posts : List ℕ) → all_below (length posts) (post_known t posts) ≡ true → length posts ≡ run.processes
      → Good t (moved_to run posts run.vars run.times)
  moved posts known e =
      record { formed = moved_formed t run sound formed room posts run.vars run.times known e fitting; times = good.times }

  -- a plain action's effects and resets
  acted : (a : ℕ) (posts : List ℕ) (word : ℕ) → a < action_count t → action_kind t a ≡ plain_kind
      → all_below (length posts) (post_known t posts) ≡ true → length posts ≡ run.processes
      → Good t (moved_to run posts (effected_of t a run.vars word).vars (clocks_after t a run.times))
  acted a posts word l k known e =
      record {
        formed = moved_formed t run sound formed room posts (effected_of t a run.vars word).vars (clocks_after t a run.times) known e
            (effects_keep t sound a l k run.vars word (effect_count t a) (omega arith) size fitting);
        times = reset_in_time t a run.times (clock_count t) good.times (reset_count t a);
      }

  step_good : (a : ℕ) (posts : List ℕ) (word : ℕ) → Good t (step_of t run a posts word).run
  unfolding step_of autonomous_of acted_of plain_of
  step_good a posts word =
      rung Steps _ (refused 7 run) _ good
      (λ e. rung Steps _ (refused 3 run) _ good
      (λ known. either_way Steps (eqb a epsilon) _ _
      (λ i. rung Steps _ (refused 8 run) _ good (λ r. moved posts known (eqb-true _ _ e)))
      (λ i. rung Steps _ (refused 1 run) _ good
      (λ l. rung Steps _ (refused 13 run) _ good
      (λ k. rung Steps _ (refused 8 run) _ good
      (λ r. rung Steps _ (refused 26 run) _ good
      (λ f. acted a posts word (ltb-true _ _ l) (eqb-true _ _ k) known (eqb-true _ _ e))))))))

  send_good : (a : ℕ) (posts : List ℕ) (word : ℕ) → Good t (sent_of t run a posts word).run
  unfolding sent_of said_of
  send_good a posts word =
      let P : Sent → Type 0 = λ s. Good t s.run in
      rung P _ (refused_send 14 run) _ good
      (λ n. rung P _ (refused_send 7 run) _ good
      (λ e. rung P _ (refused_send 8 run) _ good
      (λ r. rung P _ (refused_send 14 run) _ good
      (λ k. rung P _ (refused_send 26 run) _ good
      (λ f. moved posts (ready_known t run sound formed room a posts r (eqb-true _ _ e)) (eqb-true _ _ e))))))

  -- a receive whose values are of their kinds
  heard : (a : ℕ) (posts : List ℕ) (m : Message) → all_below (variable_count t) (var_fits t (taken_of t a m run.vars)) ≡ true
      → all_below (length posts) (post_known t posts) ≡ true → length posts ≡ run.processes
      → Good t (moved_to run posts (taken_of t a m run.vars) run.times)
  heard a posts m v known e =
      record {
        formed = moved_formed t run sound formed room posts (taken_of t a m run.vars) run.times known e v;
        times = good.times;
      }

  receive_good : (a : ℕ) (posts : List ℕ) (m : Message) → Good t (received_of t run a posts m).run
  unfolding received_of heard_of var_fits
  receive_good a posts m =
      let P : RunOutcome → Type 0 = λ s. Good t s.run in
      rung P _ (refused 15 run) _ good
      (λ n. rung P _ (refused 7 run) _ good
      (λ e. rung P _ (refused 8 run) _ good
      (λ r. rung P _ (refused 15 run) _ good
      (λ k. rung P _ (refused 5 run) _ good
      (λ f. heard a posts m
      (all_kept (var_fits t run.vars) (var_fits t (taken_of t a m run.vars)) (variable_count t)
      (λ i l g. taken_fits t a m run.vars i f g) fitting)
      (ready_known t run sound formed room a posts r (eqb-true _ _ e)) (eqb-true _ _ e))))))

  later_good : (delta : ℕ) → wait_fits run delta ≡ true → Good t (later run delta)
  unfolding run_formed counts_same
  later_good delta f =
      record {
        formed = formed;
        times = subst (λ (n : ℕ). InTime n (shifted_below run.times delta run.clocks)) (same_clocks t run formed)
            (shifted_in_time run.times delta run.clocks long f);
      }

  waited_good : (delta : ℕ) → Good t (waited_of t run delta).run
  unfolding waited_of
  waited_good delta =
      let P : RunOutcome → Type 0 = λ s. Good t s.run in
      rung P _ (refused 26 run) _ good
      (λ f. rung P _ (refused 9 run) _ good
      (λ h. later_good delta f))

-- ---- the words that a call leaves
module _ {t r : List ℕ} (sound : Sound t) (kept : RunKept t r) where
  abbrev words_formed : run_formed t (run_at r) ≡ true
  words_formed = kept.run.formed

  good : Good t (run_at r)
  good = record { formed = words_formed; times = kept.times }

  room : (run_at r).processes ≤ length (run_at r).places
  room = omega (arith, few_processes t (run_at r) sound words_formed, places_length r kept.run.words)

  size : length (slots_of (vars_in r)) ≡ variable_room
  size = slots_length (vars_in r) variable_room (vars_length r kept.run.words)

  long : (run_at r).clocks ≤ length (clocks_in r)
  long = omega (arith, few_clocks t (run_at r) sound words_formed, times_length r kept.run.words)

  module _ {after : List ℕ} where
    from_good : {run : ProgramGraphRun} → Good t run → Leaves t r run after → RunKept t after
    from_good g l = leaves_kept l g.formed g.times

    -- a refused call
    pub same_kept : Leaves t r (run_at r) after → RunKept t after
    same_kept l = from_good good l

    pub step_kept : (a : ℕ) (posts : List ℕ) (word : ℕ) → Leaves t r (step_of t (run_at r) a posts word).run after → RunKept t after
    step_kept a posts word l = from_good (step_good t (run_at r) sound good room size long a posts word) l

    pub send_kept : (a : ℕ) (posts : List ℕ) (word : ℕ) → Leaves t r (sent_of t (run_at r) a posts word).run after → RunKept t after
    send_kept a posts word l = from_good (send_good t (run_at r) sound good room size long a posts word) l

    pub receive_kept : (a : ℕ) (posts : List ℕ) (m : Message) → Leaves t r (received_of t (run_at r) a posts m).run after → RunKept t after
    receive_kept a posts m l = from_good (receive_good t (run_at r) sound good room size long a posts m) l

    -- a wait, and the clocks moved by one that fits
    pub waited_kept : (delta : ℕ) → Leaves t r (waited_of t (run_at r) delta).run after → RunKept t after
    waited_kept delta l = from_good (waited_good t (run_at r) sound good room size long delta) l

    pub wait_kept : (delta : ℕ) → wait_fits (run_at r) delta ≡ true → Leaves t r (later (run_at r) delta) after → RunKept t after
    wait_kept delta f l = from_good (later_good t (run_at r) sound good room size long delta f) l
