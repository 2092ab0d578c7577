-- Laws of a run in lent words: what its test says, and the words that a call leaves.
use Rattle.graph_tables.specs.Answers.{Answer}
use Rattle.graph_tables.specs.Words.{variable_count, clock_count}
use Rattle.std.specs.Prelude.{Ok, Err, ⊤}
use Prim.Native.Nat.{ℕ, ◌+◌, ◌*◌, ◌<◌, ◌≤◌}
use native.Mathlib.Omega.{arith}
use lib.Seq.{get_or-take, get_or-drop}
use mathlib.Core.Path.{◌≡◌, refl, sym, ap, ◌∙◌, subst}
use mathlib.Core.Bool.{true, false}
use mathlib.Core.List.{List}
use lib.ListN.{length, get_or, drop}
use borrow.Author.Tests.{eqb-true}
use Rattle.laws.proofs.Ladder.{passed}
use Rattle.laws.proofs.BelowLaws.{and_first, and_rest, and_both}
use Rattle.grammar.specs.Evaluation.{blank}
use Rattle.grammar.specs.Slots.{val_of, slots_of}
use Rattle.grammar.proofs.SlotLaws.{slots_at}
use Rattle.graph_tables.specs.Sizes.{process_room, variable_room, clock_room}
use Rattle.graph_tables.specs.RunWords.{RunWords, run_words, places_in, vars_in, clocks_in}
use Rattle.program_graph.proofs.WordLaws.{vars_length}
use Rattle.graph_tables.specs.Sound.{Sound}
use Rattle.graph_tables.specs.Formed.{well_formed}
use Rattle.graph_tables.specs.declared.handed.Message.{Message}
use Rattle.graph_tables.proofs.SoundLaws.{sound}
use Rattle.program_graph.specs.declared.record.ProgramGraphRun.{ProgramGraphRun}
use Rattle.program_graph.specs.Facts.{Accepted}
use Rattle.program_graph.specs.Outcomes.{accepts, values_said}
use Rattle.program_graph.specs.Inner.{run_at, RunOf, Leaves, DidCall, DidSend}
use Rattle.program_graph.specs.Running.{fits_table, step_of, transition_of, waited_of, wait_of}
use Rattle.program_graph.specs.Messaging.{sent_of, send_of, received_of, receive_of}
use Rattle.program_graph.proofs.RunTheorems.{transition_refused, wait_refused, send_refused, receive_refused}
use Rattle.program_graph.specs.Written.{words_of}
use Rattle.program_graph.proofs.AnswerLaws.{not_ok}
use Rattle.program_graph.proofs.FitLaws.{fits_kept}
use Rattle.program_graph.proofs.WrittenLaws.{leaves_words, words_back}
use Rattle.channel_system.specs.Steps.{left_by}
use Rattle.c_words.specs.Lent.{run_fits}

-- ---- the words of a run's parts
pub place_here : (r : List ℕ) (i : ℕ) → i < process_room → get_or (places_in r) i 0 ≡ get_or r (3 + i) 0
place_here r i h = get_or-take process_room (drop 3 r) i 0 h ∙ get_or-drop 3 r i 0

pub clock_here : (r : List ℕ) (c : ℕ) → c < clock_room → get_or (clocks_in r) c 0 ≡ get_or r (39 + c) 0
clock_here r c h = get_or-take clock_room (drop 39 r) c 0 h ∙ get_or-drop 39 r c 0

word_here : (r : List ℕ) (i : ℕ) → i < 2 * variable_room → get_or (vars_in r) i 0 ≡ get_or r (7 + i) 0
word_here r i h = get_or-take (2 * variable_room) (drop 7 r) i 0 h ∙ get_or-drop 7 r i 0

pub var_here : (r : List ℕ) → RunWords r → (v : ℕ) → v < variable_room
    → val_of (get_or r (7 + 2 * v) 0) (get_or r (7 + 2 * v + 1) 0) ≡ (get_or (slots_of (vars_in r)) v blank).value
var_here r words v h =
    let next : 7 + (2 * v + 1) ≡ 7 + 2 * v + 1 = omega arith in
    let kind = word_here r (2 * v) (omega arith) in
    let payload = word_here r (2 * v + 1) (omega arith) ∙ ap (λ (i : ℕ). get_or r i 0) next in
    sym (slots_at (vars_in r) v (omega (arith, vars_length r words)) ∙ rw (kind, payload))

module _ (t r : List ℕ) (fit : run_fits t r ≡ true) where
  formed : well_formed t false ≡ true
  unfolding run_fits
  formed = and_first _ _ fit

  pub table_sound : Sound t
  table_sound = sound t false formed

  pub words : RunWords r
  unfolding run_fits
  words = eqb-true (length r) run_words (and_first _ _ (and_rest _ _ fit))

  pub few_variables : variable_count t ≤ variable_room
  few_variables = table_sound.counts.variables

  pub few_clocks : clock_count t ≤ clock_room
  few_clocks = table_sound.counts.clocks

  pub run_of : RunOf t r
  unfolding run_fits
  run_of = (fits_kept t table_sound r words (and_rest _ _ (and_rest _ _ fit))).run

  -- the run that the words stand for passes the public test
  pub fits_table_lem : fits_table t (run_at r) ≡ true
  unfolding fits_table
  fits_table_lem = and_both formed run_of.formed

  -- a call leaves the words of its run; a refused one leaves every word
  pub left : (run : ProgramGraphRun) (after : List ℕ) → Leaves t r run after → (answer : Answer ⊤) → ((Accepted answer → ⊥) → run ≡ run_at r)
      → after ≡ left_by answer r (words_of t r run)
  left run after l (Ok _) back = leaves_words table_sound l
  left run after l (Err n) back =
      leaves_words table_sound l ∙ ap (words_of t r) (back not_ok) ∙ words_back table_sound run_of

  -- ---- each call that changes a run, where it fits: the public call goes as the one behind its test
  by_step : (a : ℕ) (posts : List ℕ) (word : ℕ) → step_of t (run_at r) a posts word ≡ transition_of t (run_at r) a posts word
  unfolding transition_of
  by_step a posts word = passed _ fits_table_lem refl

  pub transition_left : (a : ℕ) (posts : List ℕ) (word : ℕ) (d : Answer ⊤) (after : List ℕ)
      → DidCall t r d after (step_of t (run_at r) a posts word)
      → (d ≡ (transition_of t (run_at r) a posts word).answer)
      × (after ≡ left_by (transition_of t (run_at r) a posts word).answer r (words_of t r (transition_of t (run_at r) a posts word).run))
  transition_left a posts word d after did =
      let e : DidCall t r d after (transition_of t (run_at r) a posts word) = subst (DidCall t r d after) (by_step a posts word) did in
      (e.0, left _ after e.1 _ (transition_refused t (run_at r) a posts word))

  by_wait : (delta : ℕ) → waited_of t (run_at r) delta ≡ wait_of t (run_at r) delta
  unfolding wait_of
  by_wait delta = passed _ fits_table_lem refl

  pub wait_left : (delta : ℕ) (d : Answer ⊤) (after : List ℕ) → DidCall t r d after (waited_of t (run_at r) delta)
      → (d ≡ (wait_of t (run_at r) delta).answer)
      × (after ≡ left_by (wait_of t (run_at r) delta).answer r (words_of t r (wait_of t (run_at r) delta).run))
  wait_left delta d after did =
      let e : DidCall t r d after (wait_of t (run_at r) delta) = subst (DidCall t r d after) (by_wait delta) did in
      (e.0, left _ after e.1 _ (wait_refused t (run_at r) delta))

  by_receive : (a : ℕ) (posts : List ℕ) (m : Message) → received_of t (run_at r) a posts m ≡ receive_of t (run_at r) a posts m
  unfolding receive_of
  by_receive a posts m = passed _ fits_table_lem refl

  pub receive_left : (a : ℕ) (posts : List ℕ) (m : Message) (d : Answer ⊤) (after : List ℕ)
      → DidCall t r d after (received_of t (run_at r) a posts m)
      → (d ≡ (receive_of t (run_at r) a posts m).answer)
      × (after ≡ left_by (receive_of t (run_at r) a posts m).answer r (words_of t r (receive_of t (run_at r) a posts m).run))
  receive_left a posts m d after did =
      let e : DidCall t r d after (receive_of t (run_at r) a posts m) = subst (DidCall t r d after) (by_receive a posts m) did in
      (e.0, left _ after e.1 _ (receive_refused t (run_at r) a posts m))

  by_send : (a : ℕ) (posts : List ℕ) (word : ℕ) → sent_of t (run_at r) a posts word ≡ send_of t (run_at r) a posts word
  unfolding send_of
  by_send a posts word = passed _ fits_table_lem refl

  pub send_left : (a : ℕ) (posts : List ℕ) (word : ℕ) (said : Answer Message) (after : List ℕ)
      → DidSend t r said after (sent_of t (run_at r) a posts word)
      → (accepts said ≡ (send_of t (run_at r) a posts word).answer)
      × (values_said said ≡ (send_of t (run_at r) a posts word).message)
      × (after ≡ left_by (send_of t (run_at r) a posts word).answer r (words_of t r (send_of t (run_at r) a posts word).run))
  send_left a posts word said after did =
      let e : DidSend t r said after (send_of t (run_at r) a posts word) = subst (DidSend t r said after) (by_send a posts word) did in
      (e.answer, e.message, left _ after e.words _ (λ no. (send_refused t (run_at r) a posts word no).0))
