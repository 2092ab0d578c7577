-- The words of a run that a graph's call leaves are read back as that run, for each of the graph's calls.
use Prim.Native.Nat.{ℕ, zero, suc, ◌+◌, ◌-◌, ◌*◌, ◌<◌, ◌≤◌}
use mathlib.Core.Path.{◌≡◌, refl, sym, ap, ◌∙◌}
use mathlib.Core.List.{List, [], ◌∷◌, ◌++◌}
use native.Mathlib.Decide.{dec_lt}
use native.Mathlib.Omega.{arith}
use lib.Dec.{eqb}
use lib.ListN.{length, get_or, take, drop, length-append, get_or-append}
use lib.Seq.{length-take-le, length_front, get_or-take, get_or-drop, get_or-append-add, drop-drop, take_at, drop_at, take_all, ext_get_or}
use Rattle.laws.proofs.Ladder.{rung}
use Rattle.grammar.specs.Evaluation.{blank, evaluation_of}
use Rattle.grammar.specs.Slots.{kind_in, payload_in, slots_of, words_in, FitVal}
use Rattle.grammar.specs.declared.values.Val.{Val}
use Rattle.grammar.specs.declared.values.Slot.{Slot}
use Rattle.std.specs.Prelude.{Option, Some, None}
use Rattle.grammar.proofs.SlotLaws.{slot_at, slots_length, words_length, kind_at_lem, payload_at, val_back}
use Rattle.grammar.proofs.FitLaws.{slots_fit, FitEvaluated, evaluation_fits}
use Rattle.graph_tables.specs.Sizes.{process_room, variable_room, clock_room}
use Rattle.graph_tables.specs.Words.{variable_count, effect_count, effect_var, effect_items, reset_count, epsilon}
use Rattle.graph_tables.specs.RunWords.{RunWords, vars_in}
use Rattle.graph_tables.specs.Sound.{Sound}
use Rattle.graph_tables.specs.Messages.{message_count}
use Rattle.graph_tables.specs.declared.handed.Message.{Message}
use Rattle.run_steps.specs.Inner.{VarWords}
use Rattle.run_steps.specs.Steps.{Effected, assigned, effects_below, unchanged, effected_of, clocks_after}
use Rattle.run_steps.specs.Messages.{taken_below, taken_of}
use Rattle.run_steps.proofs.StepLaws.{set_keeps, next_keeps, effects_length, reset_length, placed_length}
use Rattle.run_steps.proofs.MessageLaws.{taken_length}
use Rattle.program_graph.specs.Running.{moved_to, refused, autonomous_of, plain_of, acted_of, step_of}
use Rattle.program_graph.specs.Messaging.{refused_send, said_of, sent_of, heard_of, received_of}
use Rattle.program_graph.specs.Inner.{run_at, RunOf, Leaves, Parts, with_vars}
use Rattle.program_graph.specs.Written.{var_words_of, words_of}
use Rattle.program_graph.specs.declared.record.ProgramGraphRun.{ProgramGraphRun}
use Rattle.program_graph.specs.Outcomes.{RunOutcome, Sent}
use Rattle.program_graph.proofs.WordLaws.{places_length, vars_length, times_length, parts_run}
use Rattle.program_graph.proofs.LeaveLaws.{variables_same}
use Rattle.program_graph.proofs.RunLaws.{either_way}
use Rattle.program_graph.proofs.SpareLaws.{Spare, step_spare, send_spare, receive_spare}

-- ---- the words of the first n values, over the words that were there: they stand for the values
module _ (n : ℕ) (few : n ≤ variable_room) (ws : List ℕ) (size : length ws ≡ 2 * variable_room) (vars : List Slot)
    (long : length vars ≡ variable_room) (held : (v : ℕ) → FitVal (get_or vars v blank).value)
    (spare : (v : ℕ) → n ≤ v → get_or vars v blank ≡ get_or (slots_of ws) v blank) where
  abbrev front : List ℕ
  front = words_in (take n vars)

  abbrev new : List ℕ
  new = front ++ drop (2 * n) ws

  taken : length (take n vars) ≡ n
  taken = length-take-le n vars (omega (arith, long))

  front_length : length front ≡ 2 * n
  front_length = words_length (take n vars) ∙ ap (λ (k : ℕ). 2 * k) taken

  new_length : length new ≡ 2 * variable_room
  new_length = length_front ws front (2 * n) (front_length ∙ sym (length-take-le (2 * n) ws (omega (arith, size)))) ∙ size

  kind_new : (v : ℕ) → v < n → get_or new (2 * v) 0 ≡ kind_in (get_or vars v blank).value
  kind_new v l =
      get_or-append front (drop (2 * n) ws) 0 (2 * v) (omega (arith, front_length))
      ∙ kind_at_lem (take n vars) v (omega (arith, taken))
      ∙ ap (λ (s : Slot). kind_in s.value) (get_or-take n vars v blank l)

  payload_new : (v : ℕ) → v < n → get_or new (2 * v + 1) 0 ≡ payload_in (get_or vars v blank).value
  payload_new v l =
      get_or-append front (drop (2 * n) ws) 0 (2 * v + 1) (omega (arith, front_length))
      ∙ payload_at (take n vars) v (omega (arith, taken))
      ∙ ap (λ (s : Slot). payload_in s.value) (get_or-take n vars v blank l)

  word_past : (i : ℕ) → 2 * n ≤ i → get_or new i 0 ≡ get_or ws i 0
  word_past i l =
      let e : i ≡ length front + (i - 2 * n) = omega (arith, front_length) in
      let f : 2 * n + (i - 2 * n) ≡ i = omega arith in
      ap (λ (k : ℕ). get_or new k 0) e
      ∙ get_or-append-add front (drop (2 * n) ws) (i - 2 * n) 0
      ∙ get_or-drop (2 * n) ws (i - 2 * n) 0
      ∙ ap (λ (k : ℕ). get_or ws k 0) f

  slot_new : (v : ℕ) → v < variable_room → Dec (v < n) → get_or (slots_of new) v blank ≡ get_or vars v blank
  slot_new v l (yes m) =
      slot_at new v (omega (arith, new_length))
      ∙ ap (λ (x : Val). record { value = x })
      (cc (kind_new v m, payload_new v m) ∙ val_back (get_or vars v blank).value (held v))
  slot_new v l (no m) =
      slot_at new v (omega (arith, new_length))
      ∙ ap (λ (x : Val). record { value = x }) (cc (word_past (2 * v) (omega arith), word_past (2 * v + 1) (omega arith)))
      ∙ sym (slot_at ws v (omega (arith, size)))
      ∙ sym (spare v (omega arith))

  slots_new : slots_of new ≡ vars
  slots_new =
      ext_get_or blank (slots_of new) vars (slots_length new variable_room new_length ∙ sym long)
      (λ v l. slot_new v (omega (arith, slots_length new variable_room new_length)) (dec_lt v n))

  used_new : VarWords new n
  used_new =
      record {
        words = new_length;
        kind = λ v l. kind_new v l ∙ ap (λ (ss : List Slot). kind_in (get_or ss v blank).value) (sym slots_new);
        payload = λ v l. payload_new v l ∙ ap (λ (ss : List Slot). payload_in (get_or ss v blank).value) (sym slots_new);
      }

  spare_new : drop (2 * n) new ≡ drop (2 * n) ws
  spare_new = drop_at front (drop (2 * n) ws) (2 * n) front_length

-- ---- a run that the words r can take: its parts have their sizes, its values are such as a program holds, and the variables that the
-- table does not have are those that stood there
record Takes (t r : List ℕ) (run : ProgramGraphRun) : Type 0 where
  places : length run.places ≡ process_room
  vars : length run.vars ≡ variable_room
  times : length run.times ≡ clock_room
  held : (v : ℕ) → FitVal (get_or run.vars v blank).value
  spare : (v : ℕ) → variable_count t ≤ v → get_or run.vars v blank ≡ get_or (slots_of (vars_in r)) v blank

-- words laid out: counts, places, variables, times
laid_parts : (a b c : ℕ) (ps vs ts : List ℕ) → length ps ≡ process_room → length vs ≡ 2 * variable_room → length ts ≡ clock_room
    → Parts (a ∷ b ∷ c ∷ (ps ++ (vs ++ ts))) (a ∷ b ∷ c ∷ []) ps vs ts
laid_parts a b c ps vs ts p v q =
    let behind : drop process_room (ps ++ (vs ++ ts)) ≡ vs ++ ts = drop_at ps (vs ++ ts) process_room p in
    let last : drop (process_room + 2 * variable_room) (ps ++ (vs ++ ts)) ≡ ts =
    sym (drop-drop (2 * variable_room) process_room (ps ++ (vs ++ ts))) ∙ ap (drop (2 * variable_room)) behind
    ∙ drop_at vs ts (2 * variable_room) v in
    record {
      words = simp length-append (omega arith);
      counts = refl;
      places = take_at ps (vs ++ ts) process_room p;
      vars = ap (take (2 * variable_room)) behind ∙ take_at vs ts (2 * variable_room) v;
      times = ap (take clock_room) last ∙ take_all clock_room ts (omega arith);
    }

takes_leaves : {t r : List ℕ} {run : ProgramGraphRun} → Sound t → RunWords r → Takes t r run → Leaves t r run (words_of t r run)
unfolding words_of
takes_leaves {t} {r} {run} sound h f =
    let n = variable_count t in
    let few = sound.counts.variables in
    let size = vars_length r h in
    let vs = var_words_of t r run.vars in
    let long = new_length n few (vars_in r) size run.vars f.vars f.held f.spare in
    let p = laid_parts run.processes run.variables run.clocks run.places vs run.times f.places long f.times in
    record {
      words = p.words;
      reads = parts_run p ∙ ap (with_vars run) (slots_new n few (vars_in r) size run.vars f.vars f.held f.spare);
      used = rw p.vars (used_new n few (vars_in r) size run.vars f.vars f.held f.spare);
      spare = ap (drop (2 * n)) p.vars ∙ spare_new n few (vars_in r) size run.vars f.vars f.held f.spare;
    }

-- ---- values that a program holds
-- effects leave such
assigned_held : (s : Effected) (v : ℕ) (e : Option Val) (rest : ℕ) → FitEvaluated e → ((k : ℕ) → FitVal (get_or s.vars k blank).value)
    → (k : ℕ) → FitVal (get_or (assigned s v e rest).vars k blank).value
assigned_held s v (Some x) rest f h k =
    set_keeps (λ (y : Slot). FitVal y.value) blank s.vars v (record { value = x }) k (λ e. f) (h k)
assigned_held s v None rest f h k = h k

effects_held : (t : List ℕ) (a : ℕ) (s : Effected) → ((k : ℕ) → FitVal (get_or s.vars k blank).value) → (n k : ℕ)
    → FitVal (get_or (effects_below t a s n).vars k blank).value
unfolding effects_below
effects_held t a s h zero k = h k
effects_held t a s h (suc n) k =
    let q = effects_below t a s n in
    let y = evaluation_of q.vars q.word (effect_items t a n) in
    next_keeps (λ (r : Effected). FitVal (get_or r.vars k blank).value) q (effect_var t a n) (effect_items t a n)
    (assigned_held q (effect_var t a n) y.value y.rest
    (evaluation_fits q.vars (effects_held t a s h n) q.word (effect_items t a n))
    (effects_held t a s h n) k)
    (effects_held t a s h n k)

-- and so does a message of such
taken_held : (t : List ℕ) (a : ℕ) (m : Message) (vars : List Slot) → ((k : ℕ) → FitVal (get_or vars k blank).value) → (n : ℕ)
    → ((e : ℕ) → e < n → FitVal (get_or m.values e blank).value) → (k : ℕ) → FitVal (get_or (taken_below t a m vars n) k blank).value
unfolding taken_below
taken_held t a m vars h zero f k = h k
taken_held t a m vars h (suc n) f k =
    set_keeps (λ (y : Slot). FitVal y.value) blank (taken_below t a m vars n) (effect_var t a n) (get_or m.values n blank) k
    (λ e. f n (omega arith)) (taken_held t a m vars h n (λ e l. f e (omega arith)) k)

-- ---- each of the graph's calls
module _ {t r : List ℕ} (sound : Sound t) (h : RunOf t r) where
  abbrev words : RunWords r
  words = h.words

  abbrev run : ProgramGraphRun
  run = run_at r

  -- sizes and values; the variables that the table does not have are apart
  record Shaped (x : ProgramGraphRun) : Type 0 where
    places : length x.places ≡ process_room
    vars : length x.vars ≡ variable_room
    times : length x.times ≡ clock_room
    held : (v : ℕ) → FitVal (get_or x.vars v blank).value

  count : run.variables ≡ variable_count t
  count = variables_same t run h.formed

  shaped_leaves : {x : ProgramGraphRun} → Shaped x → Spare run x → Leaves t r x (words_of t r x)
  shaped_leaves f s =
      takes_leaves sound words
      (record {
        places = f.places;
        vars = f.vars;
        times = f.times;
        held = f.held;
        spare = λ v l. s.vars v (omega (arith, count));
      })

  size : length (slots_of (vars_in r)) ≡ variable_room
  size = slots_length (vars_in r) variable_room (vars_length r words)

  shaped : Shaped run
  shaped = record { places = places_length r words; vars = size; times = times_length r words; held = slots_fit (vars_in r) }

  moved : (posts : List ℕ) (vars : List Slot) (times : List ℕ) → length vars ≡ variable_room → length times ≡ clock_room
      → ((v : ℕ) → FitVal (get_or vars v blank).value) → Shaped (moved_to run posts vars times)
  moved posts vars times v c f =
      record {
        places = placed_length run.places posts run.processes ∙ places_length r words;
        vars = v;
        times = c;
        held = f;
      }

  still : (posts : List ℕ) → Shaped (moved_to run posts run.vars run.times)
  still posts = moved posts run.vars run.times size (times_length r words) (slots_fit (vars_in r))

  step_shaped : (a : ℕ) (posts : List ℕ) (word : ℕ) → Shaped (step_of t run a posts word).run
  unfolding step_of autonomous_of acted_of plain_of
  step_shaped a posts word =
      let P : RunOutcome → Type 0 = λ s. Shaped s.run in
      rung P _ (refused 7 run) _ shaped
      (λ e. rung P _ (refused 3 run) _ shaped
      (λ k. either_way P (eqb a epsilon) _ _
      (λ i. rung P _ (refused 8 run) _ shaped (λ g. still posts))
      (λ i. rung P _ (refused 1 run) _ shaped
      (λ l. rung P _ (refused 13 run) _ shaped
      (λ o. rung P _ (refused 8 run) _ shaped
      (λ g. rung P _ (refused 26 run) _ shaped
      (λ f. moved posts (effected_of t a run.vars word).vars (clocks_after t a run.times)
      (effects_length t a (unchanged run.vars word) (effect_count t a) ∙ size)
      (reset_length t a run.times (reset_count t a) ∙ times_length r words)
      (effects_held t a (unchanged run.vars word) (slots_fit (vars_in r)) (effect_count t a)))))))))

  send_shaped : (a : ℕ) (posts : List ℕ) (word : ℕ) → Shaped (sent_of t run a posts word).run
  unfolding sent_of said_of
  send_shaped a posts word =
      let P : Sent → Type 0 = λ s. Shaped s.run in
      rung P _ (refused_send 14 run) _ shaped
      (λ n. rung P _ (refused_send 7 run) _ shaped
      (λ e. rung P _ (refused_send 8 run) _ shaped
      (λ g. rung P _ (refused_send 14 run) _ shaped
      (λ k. rung P _ (refused_send 26 run) _ shaped (λ f. still posts)))))

  receive_shaped : (a : ℕ) (posts : List ℕ) (m : Message) → ((e : ℕ) → e < effect_count t a → FitVal (get_or m.values e blank).value)
      → Shaped (received_of t run a posts m).run
  unfolding received_of heard_of
  receive_shaped a posts m fit =
      let P : RunOutcome → Type 0 = λ s. Shaped s.run in
      rung P _ (refused 15 run) _ shaped
      (λ n. rung P _ (refused 7 run) _ shaped
      (λ e. rung P _ (refused 8 run) _ shaped
      (λ g. rung P _ (refused 15 run) _ shaped
      (λ k. rung P _ (refused 5 run) _ shaped
      (λ f. moved posts (taken_of t a m run.vars) run.times (taken_length t a m run.vars (effect_count t a) ∙ size)
      (times_length r words) (taken_held t a m run.vars (slots_fit (vars_in r)) (effect_count t a) fit))))))

  -- The words of the run after a step, a send, and a receive of values that a program holds stand for that run.
  pub step_words : (a : ℕ) (posts : List ℕ) (word : ℕ)
      → Leaves t r (step_of t (run_at r) a posts word).run (words_of t r (step_of t (run_at r) a posts word).run)
  step_words a posts word = shaped_leaves (step_shaped a posts word) (step_spare t run sound h.formed a posts word)

  pub send_words : (a : ℕ) (posts : List ℕ) (word : ℕ)
      → Leaves t r (sent_of t (run_at r) a posts word).run (words_of t r (sent_of t (run_at r) a posts word).run)
  send_words a posts word = shaped_leaves (send_shaped a posts word) (send_spare t run sound h.formed a posts word)

  pub receive_words : (a : ℕ) (posts : List ℕ) (m : Message)
      → ((e : ℕ) → e < message_count t a → FitVal (get_or m.values e blank).value)
      → Leaves t r (received_of t (run_at r) a posts m).run (words_of t r (received_of t (run_at r) a posts m).run)
  unfolding message_count
  receive_words a posts m fit = shaped_leaves (receive_shaped a posts m fit) (receive_spare t run sound h.formed a posts m)
