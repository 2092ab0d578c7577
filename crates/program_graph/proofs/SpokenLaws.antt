-- What the layer above relies on: a message that is sent is one of its action, and one of its action is taken; a send is refused for no
-- kind of action but its own, and so is a receive.
use Rattle.graph_tables.specs.Answers.{Answer}
use Rattle.std.specs.Prelude.{⊤}
use Prim.Native.Nat.{ℕ, zero, suc, ◌<◌}
use mathlib.Core.Path.{◌≡◌, refl, sym, ap, subst, ◌∙◌}
use mathlib.Core.Bool.{true, not}
use mathlib.Core.List.{List}
use native.Mathlib.Omega.{arith}
use lib.Dec.{eqb}
use lib.ListN.{length, get_or, replicate, length-replicate}
use borrow.Author.Tests.{eq-eqb, ne_eqb, lt-ltb}
use Rattle.laws.specs.Ladder.{unless}
use Rattle.laws.proofs.Ladder.{passed, rung}
use Rattle.laws.proofs.BelowLaws.{and_both, all_from}
use Rattle.grammar.specs.Values.{kind_of, kind_word}
use Rattle.grammar.specs.Evaluation.{blank, evaluation_of}
use Rattle.grammar.specs.Slots.{kind_in, FitVal}
use Rattle.grammar.specs.declared.values.«Type».{«Type» as Kind}
use Rattle.grammar.specs.declared.values.Slot.{Slot}
use Rattle.std.specs.Prelude.{Option, Some, None}
use Rattle.grammar.specs.declared.values.Val.{Val}
use Rattle.grammar.proofs.Sound.{HasKind}
use Rattle.grammar.proofs.Theorems.{typed_value}
use Rattle.grammar.proofs.FitLaws.{slots_fit, FitEvaluated, evaluation_fits}
use Rattle.graph_tables.specs.Sizes.{message_room, send_kind, receive_kind}
use Rattle.graph_tables.specs.Words.{action_count, kinds_of, effect_count, effect_items, epsilon}
use Rattle.graph_tables.specs.RunWords.{vars_in}
use Rattle.graph_tables.specs.Sound.{Sound}
use Rattle.graph_tables.specs.Messages.{is_plain, is_send, is_receive, message_count, value_kind}
use Rattle.graph_tables.specs.declared.handed.Message.{Message}
use Rattle.graph_tables.proofs.MessageLaws.{plain_kind_lem, send_kind_lem, receive_kind_lem, send_no_receive, received_kind, sent_kind}
use Rattle.run_steps.specs.Steps.{is_kind}
use Rattle.run_steps.specs.Messages.{voiced, spoken_next, spoken_below, unsaid, spoken_of, message_of, value_fits, message_fits}
use Rattle.run_steps.specs.declared.inner.messages.Speech.{Speech}
use Rattle.run_steps.proofs.StepLaws.{set_keeps}
use Rattle.program_graph.specs.Facts.{Accepted, Not}
use Rattle.program_graph.specs.Running.{refused, ready_still, autonomous_of, plain_of, acted_of, step_of}
use Rattle.program_graph.specs.Messaging.{refused_send, said_of, sent_of, heard_of, received_of}
use Rattle.program_graph.specs.Inner.{run_at, RunOf}
use Rattle.program_graph.specs.declared.record.ProgramGraphRun.{ProgramGraphRun}
use Rattle.program_graph.specs.Outcomes.{RunOutcome, Sent}
use Rattle.program_graph.proofs.SaidLaws.{turn, said}
use Rattle.program_graph.proofs.RunLaws.{of_kind, either_way}
use Rattle.program_graph.proofs.RunKept.{fit}
use Rattle.program_graph.proofs.AnswerLaws.{not_ok, skip}

-- ---- a message of action a: as many values as the action's message has, each of its kind
pub record MessageOf (t : List ℕ) (a : ℕ) (m : Message) : Type 0 where
  pub count : m.count ≡ message_count t a
  pub kind : (e : ℕ) → e < message_count t a → kind_in (get_or m.values e blank).value ≡ value_kind t a e

-- ---- what a send says
-- every value is such as a program holds: also a blank
module _ (t : List ℕ) (a : ℕ) (vars : List Slot) (fits : (n : ℕ) → FitVal (get_or vars n blank).value) where
  voiced_fits : (s : Speech) (n : ℕ) (e : Option Val) (rest : ℕ) → FitEvaluated e → ((k : ℕ) → FitVal (get_or s.values k blank).value)
      → (k : ℕ) → FitVal (get_or (voiced s n e rest).values k blank).value
  voiced_fits s n (Some x) rest f h k =
      set_keeps (λ (y : Slot). FitVal y.value) blank s.values n (record { value = x }) k (λ e. f) (h k)
  voiced_fits s n None rest f h k = h k

  spoken_fits : (s : Speech) → ((k : ℕ) → FitVal (get_or s.values k blank).value) → (n : ℕ)
      → (k : ℕ) → FitVal (get_or (spoken_below t a vars s n).values k blank).value
  unfolding spoken_below spoken_next
  spoken_fits s h zero k = h k
  spoken_fits s h (suc n) k =
      let before = spoken_below t a vars s n in
      let y = evaluation_of vars before.word (effect_items t a n) in
      either_way (λ (x : Speech). FitVal (get_or x.values k blank).value) before.fits (voiced before n y.value y.rest) before
      (λ e. voiced_fits before n y.value y.rest (evaluation_fits vars fits before.word (effect_items t a n)) (spoken_fits s h n) k)
      (λ e. spoken_fits s h n k)

blanks_fit : (n k : ℕ) → FitVal (get_or (replicate n blank) k blank).value
unfolding FitVal
blanks_fit zero k = tt
blanks_fit (suc n) zero = tt
blanks_fit (suc n) (suc k) = blanks_fit n k

-- a value of a kind, where there is one
known_kind : (e : Option Val) (k : Kind) (s : Slot) → HasKind e k → e ≡ Some s.value → kind_in s.value ≡ kind_word k
known_kind (Some x) k s h e = ap (λ (v : Option Val). kind_number v) (sym e) ∙ ap kind_word h
  where
    kind_number : Option Val → ℕ
    kind_number (Some v) = kind_word (kind_of v)
    kind_number None = 0
known_kind None k s h e = let z : ◌≡◌ {A = ℕ} 0 1 = cc in absurd (omega arith)

pub record Says (t : List ℕ) (a : ℕ) (m : Message) : Type 0 where
  pub message : MessageOf t a m
  pub fits : (e : ℕ) → FitVal (get_or m.values e blank).value

module _ {t r : List ℕ} (sound : Sound t) (h : RunOf t r) (a : ℕ) (posts : List ℕ) (word : ℕ) where
  abbrev run : ProgramGraphRun
  run = run_at r

  abbrev values : List Slot
  values = (spoken_of t a run.vars word).values

  values_fit : (e : ℕ) → FitVal (get_or values e blank).value
  values_fit =
      spoken_fits t a run.vars (slots_fit (vars_in r)) (unsaid word) (blanks_fit message_room) (effect_count t a)

  module _ (known : a < action_count t) (send : is_send t a ≡ true) (all : (spoken_of t a run.vars word).fits ≡ true) where
    values_kind : (e : ℕ) → e < message_count t a → kind_in (get_or values e blank).value ≡ value_kind t a e
    unfolding message_count evaluation_of
    values_kind e l =
        let few = ((sound.action a known).send (send_kind_lem t a send)).few in
        let x = sent_kind t sound a known e l (send_no_receive t a send) in
        let y = (said t a run.vars (unsaid word) (effect_count t a) all (omega (arith, length-replicate message_room blank))).1 e l in
        let left = (spoken_below t a run.vars (unsaid word) e).word in
        known_kind (turn t a run.vars (unsaid word) e).value x.0 (get_or values e blank)
        (typed_value run.vars (kinds_of t) (fit t run sound h.formed) (effect_items t a e) x.0 x.1.0 left) y
        ∙ sym x.1.1

    says : Says t a (message_of values (effect_count t a))
    unfolding message_count
    says = record { message = record { count = refl; kind = values_kind }; fits = values_fit }

  -- An accepted send says a message of its action, of values that a program holds.
  pub send_says : Accepted (sent_of t run a posts word).answer → Says t a (sent_of t run a posts word).message
  unfolding sent_of said_of is_send
  send_says =
      let P : Sent → Type 0 = λ s. Accepted s.answer → Says t a s.message in
      rung P _ (refused_send 14 run) _ not_ok
      (λ n. rung P _ (refused_send 7 run) _ not_ok
      (λ e. rung P _ (refused_send 8 run) _ not_ok
      (λ g. rung P _ (refused_send 14 run) _ not_ok
      (λ k. rung P _ (refused_send 26 run) _ not_ok
      (λ f o. says (of_kind t a send_kind k).0 (eq-eqb _ _ (of_kind t a send_kind k).1) f)))))

-- ---- what a receive takes
-- A message of a receive fits it.
pub message_fits_lem : {t : List ℕ} → Sound t → (a : ℕ) (m : Message) → a < action_count t → is_receive t a ≡ true → MessageOf t a m
    → message_fits t a m ≡ true
unfolding message_fits value_fits message_count
message_fits_lem {t} sound a m known receive f =
    and_both (eq-eqb _ _ f.count)
    (all_from (value_fits t a m) (effect_count t a) (λ e l.
    eq-eqb _ _ (f.kind e l ∙ received_kind t sound a known e l receive)))

-- ---- a known action is not the reserved one
module _ {t : List ℕ} (sound : Sound t) (run : ProgramGraphRun) (a : ℕ) (posts : List ℕ) (known : a < action_count t) where
  named : not (eqb a epsilon) ≡ true
  named = ap not (ne_eqb a epsilon (λ (e : a ≡ epsilon). omega (arith, sound.counts.actions)))

  -- A send of a known send: 7, 8, 26, and no 14.
  pub send_is : (word : ℕ) → is_send t a ≡ true
      → sent_of t run a posts word
      ≡ unless (eqb (length posts) run.processes) (refused_send 7 run)
      (unless (ready_still t run a posts) (refused_send 8 run) (said_of t run a posts word))
  unfolding sent_of
  send_is word send =
      let kind : is_kind t a send_kind ≡ true = and_both (lt-ltb _ _ known) (eq-eqb _ _ (send_kind_lem t a send)) in
      sym (passed (refused_send 14 run) named refl)
      ∙ ap (λ (s : Sent). unless (eqb (length posts) run.processes) (refused_send 7 run)
      (unless (ready_still t run a posts) (refused_send 8 run) s)) (sym (passed (refused_send 14 run) kind refl))

  pub send_not_14 : (word : ℕ) → is_send t a ≡ true → Not 14 (sent_of t run a posts word).answer
  unfolding said_of
  send_not_14 word send =
      rw (send_is word send)
      (skip (λ (s : Sent). s.answer) 14 _ (refused_send 7 run) _ (λ e. omega arith)
      (skip (λ (s : Sent). s.answer) 14 _ (refused_send 8 run) _ (λ e. omega arith)
      (skip (λ (s : Sent). s.answer) 14 _ (refused_send 26 run) _ (λ e. omega arith) (λ e. omega arith))))

  -- A receive of a known receive: 7, 8, 5, and no 15.
  pub receive_is : (m : Message) → is_receive t a ≡ true
      → received_of t run a posts m
      ≡ unless (eqb (length posts) run.processes) (refused 7 run)
      (unless (ready_still t run a posts) (refused 8 run) (heard_of t run a posts m))
  unfolding received_of
  receive_is m receive =
      let kind : is_kind t a receive_kind ≡ true = and_both (lt-ltb _ _ known) (eq-eqb _ _ (receive_kind_lem t a receive)) in
      sym (passed (refused 15 run) named refl)
      ∙ ap (λ (s : RunOutcome). unless (eqb (length posts) run.processes) (refused 7 run)
      (unless (ready_still t run a posts) (refused 8 run) s)) (sym (passed (refused 15 run) kind refl))

  pub receive_not_15 : (m : Message) → is_receive t a ≡ true → Not 15 (received_of t run a posts m).answer
  unfolding heard_of
  receive_not_15 m receive =
      rw (receive_is m receive)
      (skip (λ (s : RunOutcome). s.answer) 15 _ (refused 7 run) _ (λ e. omega arith)
      (skip (λ (s : RunOutcome). s.answer) 15 _ (refused 8 run) _ (λ e. omega arith)
      (skip (λ (s : RunOutcome). s.answer) 15 _ (refused 5 run) _ (λ e. omega arith) (λ e. omega arith))))

  -- A receive of a message that fits: no 5.
  heard_not_5 : (m : Message) → message_fits t a m ≡ true → Not 5 (heard_of t run a posts m).answer
  unfolding heard_of
  heard_not_5 m fits = subst (λ (s : RunOutcome). Not 5 s.answer) (passed (refused 5 run) fits refl) (λ e. omega arith)

  pub receive_not_5 : (m : Message) → is_receive t a ≡ true → MessageOf t a m → Not 5 (received_of t run a posts m).answer
  receive_not_5 m receive f =
      rw (receive_is m receive)
      (skip (λ (s : RunOutcome). s.answer) 5 _ (refused 7 run) _ (λ e. omega arith)
      (skip (λ (s : RunOutcome). s.answer) 5 _ (refused 8 run) _ (λ e. omega arith)
      (heard_not_5 m (message_fits_lem sound a m known receive f))))

  -- A step by a known plain action: no 1, no 13.
  acted_is : (word : ℕ) → is_plain t a ≡ true → acted_of t run a posts word ≡ plain_of t run a posts word
  unfolding acted_of
  acted_is word plain =
      sym (passed (refused 1 run) (lt-ltb a (action_count t) known) (passed (refused 13 run) (eq-eqb _ _ (plain_kind_lem t a plain)) refl))

  pub step_not_13 : (word : ℕ) → is_plain t a ≡ true → Not 13 (step_of t run a posts word).answer
  unfolding step_of autonomous_of plain_of
  step_not_13 word plain =
      let answer : RunOutcome → (Answer ⊤) = λ s. s.answer in
      skip answer 13 _ (refused 7 run) _ (λ e. omega arith)
      (skip answer 13 _ (refused 3 run) _ (λ e. omega arith)
      (either_way (λ (s : RunOutcome). Not 13 s.answer) (eqb a epsilon) _ _
      (λ i. skip answer 13 _ (refused 8 run) _ (λ e. omega arith) (λ e. omega arith))
      (λ i. rw (acted_is word plain)
      (skip answer 13 _ (refused 8 run) _ (λ e. omega arith)
      (skip answer 13 _ (refused 26 run) _ (λ e. omega arith) (λ e. omega arith))))))
