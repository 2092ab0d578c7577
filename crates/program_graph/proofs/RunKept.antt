-- Every call keeps a run one of its table's.
use Rattle.graph_tables.specs.Answers.{admitted}
use Rattle.std.specs.Prelude.{Err}
use Prim.Native.Nat.{ℕ, zero, suc, ◌<◌, ◌≤◌}
use mathlib.Core.Path.{◌≡◌, refl, sym, ap, subst, ◌∙◌}
use mathlib.Core.Bool.{Bool, true, false, cond}
use mathlib.Core.List.{List, [], ◌∷◌}
use mathlib.Core.Logic.{⊎_elim}
use native.Mathlib.Nat.{le_of_suc-le-suc, not-suc-le-zero, eq-or-lt_of_le}
use native.Mathlib.Decide.{ℕ_discrete}
use native.Mathlib.Omega.{arith}
use lib.Dec.{eqb, ltb}
use lib.ListN.{length, get_or, drop, set, length-set, get_or-eq_default}
use lib.Seq.{get_or-take, get_or-drop, get_or-set_same, get_or-set_other}
use borrow.Author.Tests.{eqb-true, eqb-false, eq-eqb, ltb-true, ltb-false, lt-ltb}
use Rattle.laws.specs.Ladder.{unless}
use Rattle.laws.specs.Below.{all_below}
use Rattle.laws.proofs.Ladder.{rung}
use Rattle.laws.proofs.BelowLaws.{and_first, and_rest, and_both, all_at, all_from, all_kept}
use Rattle.grammar.specs.Values.{kind_of, kind_word}
use Rattle.grammar.specs.Typing.{kinded_at, variable_kind}
use Rattle.grammar.specs.Bits.{from_bits}
use Rattle.grammar.specs.Evaluation.{blank, variable_of, evaluation_of}
use Rattle.grammar.specs.declared.values.«Type».{«Type» as Kind}
use Rattle.grammar.specs.declared.values.Val.{Val}
use Rattle.grammar.specs.declared.values.Val.TheVariants.{Boolean, Integer}
use Rattle.grammar.specs.declared.values.Slot.{Slot}
use Rattle.grammar.specs.declared.evaluation.Evaluation.{Evaluation}
use Rattle.std.specs.Prelude.{Option, Some, None}
use Rattle.grammar.proofs.Sound.{HasKind, Of, Fit}
use Rattle.grammar.proofs.Theorems.{typed_value}
use Rattle.graph_tables.specs.Sizes.{process_room, variable_room, clock_room, plain_kind}
use Rattle.graph_tables.specs.Layout.{table_words, kinds_start, kind_cell}
use Rattle.graph_tables.specs.Refusals.{refusal}
use Rattle.graph_tables.specs.Words.{variable_count, clock_count, location_count, action_count, process_count, kind_at, kinds_of, value_at, place_at}
use Rattle.graph_tables.specs.Words.{action_kind, reset_count, effect_count, effect_var, effect_items, epsilon}
use Rattle.graph_tables.specs.Formed.{well_formed}
use Rattle.graph_tables.specs.Sound.{Sound}
use Rattle.graph_tables.proofs.SoundLaws.{sound}
use Rattle.run_steps.specs.Steps.{clocks_after, Effected, assigned, unchanged, effects_below, effected_of, placed_below, post_known}
use Rattle.run_steps.proofs.AgreeLaws.{kinds_length}
use Rattle.run_steps.proofs.StepLaws.{post_known_lem, reset_length, shifted_length, placed_length, placed_at, next_keeps, effects_length}
use Rattle.run_steps.specs.Messages.{taken_of}
use Rattle.run_steps.proofs.MessageLaws.{taken_length, taken_fits}
use Rattle.graph_tables.specs.declared.handed.Message.{Message}
use Rattle.program_graph.specs.Facts.{Sized}
use Rattle.program_graph.specs.declared.record.ProgramGraphRun.{ProgramGraphRun}
use Rattle.program_graph.specs.Outcomes.{RunOutcome, Sent}
use Rattle.program_graph.specs.Messaging.{refused_send, said_of, sent_of, send_of, heard_of, received_of, receive_of}
use Rattle.program_graph.specs.Running.{refused, accepted, place_known, var_fits, counts_same, run_formed, fits_table}
use Rattle.program_graph.specs.Running.{ready_still, moved_to, autonomous_of, plain_of, acted_of, step_of, transition_of, wait_fits}
use Rattle.program_graph.specs.Running.{wait_holds, later, waited_of, wait_of, start_places, start_value, start_vars, fresh_run, no_run}
use Rattle.program_graph.specs.Running.{new_run_of}
use Rattle.program_graph.proofs.RunLaws.{table_formed, fitting, same_variables, few_processes, either_way}
use Rattle.program_graph.proofs.RunReady.{ready_exactly}

-- the variables of a run that is one of its table's fit the table
vars_fit : (t : List ℕ) (run : ProgramGraphRun) → run_formed t run ≡ true → all_below (variable_count t) (var_fits t run.vars) ≡ true
unfolding run_formed
vars_fit t run h = subst (λ (n : ℕ). all_below n (var_fits t run.vars) ≡ true) (same_variables t run h) (and_rest _ _ (and_rest _ _ h))

-- ---- variables of their kinds
-- a word that stands reads alike with any default
same_word : (l : List ℕ) (i d e : ℕ) → i < length l → get_or l i d ≡ get_or l i e
same_word [] i d e h = absurd (not-suc-le-zero h)
same_word (x ∷ xs) zero d e h = refl
same_word (x ∷ xs) (suc i) d e h = same_word xs i d e (le_of_suc-le-suc h)

-- a value has the kind that its own word stands for
own_kind : (v : Val) → Of (Some v) (kinded_at (kind_word (kind_of v)))
own_kind (Boolean b) = refl
own_kind (Integer n) = refl

-- Variables that fit the table have their kinds.
pub fit_vars : (t : List ℕ) (vars : List Slot) → Sound t → all_below (variable_count t) (var_fits t vars) ≡ true → Fit vars (kinds_of t)
unfolding Fit var_fits
fit_vars t vars s h = λ n. by n (ltb n (variable_count t)) refl
  where
    by : (n : ℕ) (b : Bool) → ltb n (variable_count t) ≡ b → Of (variable_of vars n) (variable_kind (kinds_of t) n)
    by n true e =
        let l : n < variable_count t = ltb-true _ _ e in
        let w : length t ≡ table_words = s.words in
        let f : variable_count t ≤ variable_room = s.counts.variables in
        let k : get_or (kinds_of t) n 2 ≡ kind_at t n
        = get_or-take (variable_count t) (drop kinds_start t) n 2 l ∙ get_or-drop kinds_start t n 2 ∙ same_word t (kind_cell n) 2 0 (omega arith) in
        let x : kind_word (kind_of (get_or vars n blank).value) ≡ get_or (kinds_of t) n 2
        = eqb-true _ _ (all_at (var_fits t vars) (variable_count t) n h l) ∙ sym k in
        let q : variable_of vars n ≡ Some (get_or vars n blank).value
        = ap (λ (b : Bool). cond b (Some (get_or vars n blank).value) None) (lt-ltb n variable_room (omega arith)) in
        subst (λ (v : Option Val). Of v (variable_kind (kinds_of t) n)) (sym q)
        (subst (λ (m : ℕ). Of (Some (get_or vars n blank).value) (kinded_at m)) x (own_kind (get_or vars n blank).value))
    by n false e =
        let q : get_or (kinds_of t) n 2 ≡ 2
        = get_or-eq_default (kinds_of t) 2 (omega (arith, kinds_length t s, ltb-false n (variable_count t) e)) in
        subst (λ (m : ℕ). Of (variable_of vars n) (kinded_at m)) (sym q) tt

-- The variables of a run that is one of its table's have their kinds.
pub fit : (t : List ℕ) (run : ProgramGraphRun) → Sound t → run_formed t run ≡ true → Fit run.vars (kinds_of t)
fit t run s h = fit_vars t run.vars s (vars_fit t run h)

-- ---- effects
-- a store of a value of its variable's kind keeps every variable fitting
set_fits : (t : List ℕ) (vars : List Slot) (v : ℕ) (x : Val) (n : ℕ) → kind_word (kind_of x) ≡ kind_at t v → v < length vars
    → all_below n (var_fits t vars) ≡ true → all_below n (var_fits t (set vars v (record { value = x }))) ≡ true
unfolding var_fits
set_fits t vars v x n e l h = all_kept (var_fits t vars) (var_fits t (set vars v (record { value = x }))) n (λ i m. by i (ℕ_discrete i v)) h
  where
    by : (i : ℕ) → Dec (i ≡ v) → var_fits t vars i ≡ true → var_fits t (set vars v (record { value = x })) i ≡ true
    by i (yes q) k =
        subst (λ (j : ℕ). var_fits t (set vars v (record { value = x })) j ≡ true) (sym q)
        (eq-eqb _ _ (ap (λ (s : Slot). kind_word (kind_of s.value)) (get_or-set_same vars v (record { value = x }) blank l) ∙ e))
    by i (no q) k =
        subst (λ (s : Slot). eqb (kind_word (kind_of s.value)) (kind_at t i) ≡ true)
        (sym (get_or-set_other vars v i (record { value = x }) blank q)) k

-- one effect whose value has its variable's kind
assigned_fits : (t : List ℕ) (s : Effected) (v : ℕ) (e : Option Val) (rest n : ℕ) (k : Kind) → HasKind e k → kind_word k ≡ kind_at t v
    → v < length s.vars
    → all_below n (var_fits t s.vars) ≡ true → all_below n (var_fits t (assigned s v e rest).vars) ≡ true
assigned_fits t s v (Some x) rest n k q e l h = set_fits t s.vars v x n (ap kind_word q ∙ e) l h
assigned_fits t s v None rest n k q e l h = h

module _ (t : List ℕ) (sound : Sound t) (a : ℕ) (known : a < action_count t) (plain : action_kind t a ≡ plain_kind) where
  -- The effects of a plain action keep every variable of its kind.
  pub effects_keep : (vars : List Slot) (word n : ℕ) → n ≤ effect_count t a → length vars ≡ variable_room
      → all_below (variable_count t) (var_fits t vars) ≡ true
      → all_below (variable_count t) (var_fits t (effects_below t a (unchanged vars word) n).vars) ≡ true
  unfolding effects_below evaluation_of
  effects_keep vars word zero m z h = h
  effects_keep vars word (suc n) m z h =
      let start : Effected = unchanged vars word in
      let s : Effected = effects_below t a start n in
      let turn : Evaluation = evaluation_of s.vars s.word (effect_items t a n) in
      let before : all_below (variable_count t) (var_fits t s.vars) ≡ true = effects_keep vars word n (omega arith) z h in
      let e = ((sound.action a known).plain plain).effect n m in
      let x = e.expression in
      next_keeps (λ (r : Effected). all_below (variable_count t) (var_fits t r.vars) ≡ true) s (effect_var t a n) (effect_items t a n)
      (assigned_fits t s (effect_var t a n) turn.value turn.rest (variable_count t) x.kind
      (typed_value s.vars (kinds_of t) (fit_vars t s.vars sound before) (effect_items t a n) x.kind x.typed s.word) e.same
      (omega (arith, e.var, sound.counts.variables, effects_length t a start n, z)) before)
      before

-- ---- a wait
-- A wait keeps a run one of its table's, whatever it answers.
pub wait_keeps : (t : List ℕ) (run : ProgramGraphRun) (delta : ℕ) → fits_table t run ≡ true → Sized run
    → (fits_table t (wait_of t run delta).run ≡ true) × Sized (wait_of t run delta).run
unfolding wait_of waited_of fits_table run_formed counts_same
wait_keeps t run delta h z =
    let P : RunOutcome → Type 0 = λ s. (fits_table t s.run ≡ true) × Sized s.run in
    rung P (fits_table t run) (refused 32 run) _ (h, z)
    (λ e. rung P (wait_fits run delta) (refused 26 run) _ (h, z)
    (λ e. rung P (wait_holds t run delta) (refused 9 run) (accepted (later run delta)) (h, z)
    (λ e. (h, record { places = z.places; vars = z.vars; times = shifted_length run.times delta run.clocks ∙ z.times }))))

-- ---- a step
-- one of the table's, its arrays of their sizes
abbrev Kept : List ℕ → ProgramGraphRun → Type 0
Kept t run = (run_formed t run ≡ true) × Sized run

-- a run that is kept fits the table that the run before did
from_kept : (t : List ℕ) (run after : ProgramGraphRun) → fits_table t run ≡ true → (Sound t → run_formed t run ≡ true → Kept t after)
    → (fits_table t after ≡ true) × Sized after
unfolding fits_table
from_kept t run after f k =
    let q = k (fitting t run f).0 (fitting t run f).1 in
    (and_both (table_formed t run f) q.0, q.1)

-- a run whose processes moved to known posts, and whose variables fit
moved_kept : (t : List ℕ) (run : ProgramGraphRun) (posts : List ℕ) (vars : List Slot) (clocks : List ℕ) → Sound t → run_formed t run ≡ true
    → Sized run
    → all_below (length posts) (post_known t posts) ≡ true → length posts ≡ run.processes
    → all_below (variable_count t) (var_fits t vars) ≡ true → length vars ≡ variable_room → length clocks ≡ clock_room
    → Kept t (moved_to run posts vars clocks)
unfolding run_formed counts_same place_known post_known
moved_kept t run posts vars clocks s h z known e v vz cz =
    let n : ℕ = run.processes in
    let room : n ≤ length run.places = omega (arith, few_processes t run s h, z.places) in
    let at : (p : ℕ) → p < n → place_known t (placed_below run.places posts n) p ≡ true
    = λ p l. subst (λ (x : ℕ). ltb x (location_count t) ≡ true) (sym (placed_at run.places posts n p l room))
    (all_at (post_known t posts) (length posts) p known (omega arith)) in (
      and_both (and_first _ _ h)
          (and_both (all_from (place_known t (placed_below run.places posts n)) n at)
          (subst (λ (m : ℕ). all_below m (var_fits t vars) ≡ true) (sym (same_variables t run h)) v)),
      record { places = placed_length run.places posts n ∙ z.places; vars = vz; times = cz },
    )

-- a step by EPSILON keeps a run one of its table's, whatever it answers
autonomous_keeps : (t : List ℕ) (run : ProgramGraphRun) (posts : List ℕ) → Sound t → run_formed t run ≡ true → Sized run
    → all_below (length posts) (post_known t posts) ≡ true → length posts ≡ run.processes
    → (run_formed t (autonomous_of t run posts).run ≡ true) × Sized (autonomous_of t run posts).run
unfolding autonomous_of
autonomous_keeps t run posts s h z known e =
    rung (λ (x : RunOutcome). Kept t x.run) _ (refused 8 run) _ (h, z)
    (λ q. moved_kept t run posts run.vars run.times s h z known e (vars_fit t run h) z.vars z.times)

-- so does a step by a plain action
plain_keeps : (t : List ℕ) (run : ProgramGraphRun) (a : ℕ) (posts : List ℕ) (word : ℕ) → Sound t → run_formed t run ≡ true → Sized run
    → a < action_count t → action_kind t a ≡ plain_kind → all_below (length posts) (post_known t posts) ≡ true → length posts ≡ run.processes
    → (run_formed t (plain_of t run a posts word).run ≡ true) × Sized (plain_of t run a posts word).run
unfolding plain_of
plain_keeps t run a posts word s h z l k known e =
    let P : RunOutcome → Type 0 = λ x. Kept t x.run in
    rung P _ (refused 8 run) _ (h, z)
    (λ q. rung P _ (refused 26 run) _ (h, z)
    (λ r. moved_kept t run posts (effected_of t a run.vars word).vars (clocks_after t a run.times) s h z known e
    (effects_keep t s a l k run.vars word (effect_count t a) (omega arith) z.vars (vars_fit t run h))
    (effects_length t a _ (effect_count t a) ∙ z.vars) (reset_length t a run.times (reset_count t a) ∙ z.times)))

-- A step keeps a run one of its table's, whatever it answers.
pub transition_keeps : (t : List ℕ) (run : ProgramGraphRun) (a : ℕ) (posts : List ℕ) (word : ℕ) → fits_table t run ≡ true → Sized run
    → (fits_table t (transition_of t run a posts word).run ≡ true) × Sized (transition_of t run a posts word).run
unfolding transition_of step_of acted_of
transition_keeps t run a posts word f z =
    from_kept t run (transition_of t run a posts word).run f (λ s h.
    let P : RunOutcome → Type 0 = λ x. Kept t x.run in
    rung P _ (refused 32 run) _ (h, z)
    (λ q. rung P _ (refused 7 run) _ (h, z)
    (λ e. rung P _ (refused 3 run) _ (h, z)
    (λ known. either_way P (eqb a epsilon) _ _ (λ i. autonomous_keeps t run posts s h z known (eqb-true _ _ e))
    (λ i. rung P _ (refused 1 run) _ (h, z)
    (λ l. rung P _ (refused 13 run) _ (h, z)
    (λ k. plain_keeps t run a posts word s h z (ltb-true _ _ l) (eqb-true _ _ k) known (eqb-true _ _ e))))))))

-- ---- a send and a receive
-- where processes are ready, their posts are known
ready_known : (t : List ℕ) (run : ProgramGraphRun) (a : ℕ) (posts : List ℕ) → Sound t → ready_still t run a posts ≡ true
    → length posts ≡ run.processes
    → all_below (length posts) (post_known t posts) ≡ true
ready_known t run a posts s r e =
    let each = (ready_exactly t run.vars run.times run.times run.places run.processes a posts).0 r in
    all_from (post_known t posts) (length posts) (λ p l.
    let k = each p (omega arith) in
    post_known_lem t posts p (subst (λ (x : ℕ). x < location_count t) k.1.to (s.transition k.0 k.1.known).post))

-- A send keeps a run one of its table's, whatever it answers.
pub send_keeps : (t : List ℕ) (run : ProgramGraphRun) (a : ℕ) (posts : List ℕ) (word : ℕ) → fits_table t run ≡ true → Sized run
    → (fits_table t (send_of t run a posts word).run ≡ true) × Sized (send_of t run a posts word).run
unfolding send_of sent_of said_of
send_keeps t run a posts word f z =
    from_kept t run (send_of t run a posts word).run f (λ s h.
    let P : Sent → Type 0 = λ x. Kept t x.run in
    rung P _ (refused_send 32 run) _ (h, z)
    (λ q. rung P _ (refused_send 14 run) _ (h, z)
    (λ n. rung P _ (refused_send 7 run) _ (h, z)
    (λ e. rung P _ (refused_send 8 run) _ (h, z)
    (λ r. rung P _ (refused_send 14 run) _ (h, z)
    (λ k. rung P _ (refused_send 26 run) _ (h, z)
    (λ v. moved_kept t run posts run.vars run.times s h z (ready_known t run a posts s r (eqb-true _ _ e)) (eqb-true _ _ e)
    (vars_fit t run h) z.vars z.times)))))))

-- So does a receive.
pub receive_keeps : (t : List ℕ) (run : ProgramGraphRun) (a : ℕ) (posts : List ℕ) (m : Message) → fits_table t run ≡ true → Sized run
    → (fits_table t (receive_of t run a posts m).run ≡ true) × Sized (receive_of t run a posts m).run
unfolding receive_of received_of heard_of var_fits
receive_keeps t run a posts m f z =
    from_kept t run (receive_of t run a posts m).run f (λ s h.
    let P : RunOutcome → Type 0 = λ x. Kept t x.run in
    rung P _ (refused 32 run) _ (h, z)
    (λ q. rung P _ (refused 15 run) _ (h, z)
    (λ n. rung P _ (refused 7 run) _ (h, z)
    (λ e. rung P _ (refused 8 run) _ (h, z)
    (λ r. rung P _ (refused 15 run) _ (h, z)
    (λ k. rung P _ (refused 5 run) _ (h, z)
    (λ v. moved_kept t run posts (taken_of t a m run.vars) run.times s h z (ready_known t run a posts s r (eqb-true _ _ e))
    (eqb-true _ _ e)
    (all_kept (var_fits t run.vars) (var_fits t (taken_of t a m run.vars)) (variable_count t)
    (λ i l g. taken_fits t a m run.vars i v g) (vars_fit t run h))
    (taken_length t a m run.vars (effect_count t a) ∙ z.vars) z.times)))))))

-- ---- a fresh run
module _ (t : List ℕ) where
  start_length : (n : ℕ) → length (start_places t n) ≡ process_room
  unfolding start_places
  start_length zero = refl
  start_length (suc n) = length-set (start_places t n) n (place_at t n) ∙ start_length n

  -- each of the first n processes is where it starts
  pub start_at : (n p : ℕ) → p < n → n ≤ process_room → get_or (start_places t n) p 0 ≡ place_at t p
  unfolding start_places
  start_at zero p l h = absurd (not-suc-le-zero l)
  start_at (suc n) p l h =
      ⊎_elim
      (λ (e : p ≡ n). rw e (get_or-set_same (start_places t n) n (place_at t n) 0 (rw (start_length n) h)))
      (λ (m : p < n). get_or-set_other (start_places t n) n p (place_at t n) 0 (λ e. omega arith) ∙ start_at n p m (omega arith))
      (eq-or-lt_of_le (le_of_suc-le-suc l))

  values_length : (n : ℕ) → length (start_vars t n) ≡ variable_room
  unfolding start_vars
  values_length zero = refl
  values_length (suc n) = length-set (start_vars t n) n (record { value = start_value t n }) ∙ values_length n

  -- the value at which a variable starts has its kind
  start_kind : (v : ℕ) → kind_at t v < 2 → kind_word (kind_of (start_value t v)) ≡ kind_at t v
  start_kind v l = by (eqb (kind_at t v) 0) refl
    where
      by : (b : Bool) → eqb (kind_at t v) 0 ≡ b
          → kind_word (kind_of (cond b (Boolean (eqb (value_at t v) 1)) (Integer (from_bits (value_at t v))))) ≡ kind_at t v
      by true e = sym (eqb-true _ _ e)
      by false e = let n : kind_at t v ≡ 0 → ⊥ = eqb-false _ _ e in omega arith

  -- the first n variables fit
  values_fit : (n : ℕ) → n ≤ variable_room → ((v : ℕ) → v < n → kind_at t v < 2) → all_below n (var_fits t (start_vars t n)) ≡ true
  unfolding start_vars all_below var_fits
  values_fit zero l k = refl
  values_fit (suc n) l k =
      let m : n < length (start_vars t n) = rw (values_length n) l in
      let e : kind_word (kind_of (start_value t n)) ≡ kind_at t n = start_kind n (k n (omega arith)) in
      and_both (set_fits t (start_vars t n) n (start_value t n) n e m (values_fit n (omega arith) (λ v q. k v (omega arith))))
      (eq-eqb _ _ (ap (λ (s : Slot). kind_word (kind_of s.value))
      (get_or-set_same (start_vars t n) n (record { value = start_value t n }) blank m) ∙ e))

  -- A fresh run of a well-formed table is one of it.
  pub fresh_fits : well_formed t false ≡ true → (fits_table t (new_run_of t).run ≡ true) × Sized (new_run_of t).run
  unfolding new_run_of unless fits_table run_formed counts_same place_known
  fresh_fits h =
      let s : Sound t = sound t false h in
      let n : ℕ = process_count t in
      let few : n ≤ process_room = s.counts.processes in
      let at : (p : ℕ) → p < n → place_known t (start_places t n) p ≡ true
      = λ p l. lt-ltb (get_or (start_places t n) p 0) (location_count t) (rw (start_at n p l few) (s.process p l).place) in
      let counts : counts_same t (fresh_run t) ≡ true
      = and_both (eq-eqb n n refl) (and_both (eq-eqb (variable_count t) _ refl) (eq-eqb (clock_count t) _ refl)) in
      let values : all_below (variable_count t) (var_fits t (start_vars t (variable_count t))) ≡ true
      = values_fit (variable_count t) s.counts.variables (λ v l. (s.variable v l).kind) in
      let P : RunOutcome → Type 0 = λ x. (fits_table t x.run ≡ true) × Sized x.run in
      let none : RunOutcome = record { answer = Err (refusal 32); run = no_run } in
      subst (λ (b : Bool). P (unless b none (record { answer = admitted; run = fresh_run t }))) (sym h) (
        and_both h (and_both counts (and_both (all_from (place_known t (start_places t n)) n at) values)),
        record { places = start_length n; vars = values_length (variable_count t); times = refl },
      )
