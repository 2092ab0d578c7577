-- A call of a graph's own, made on the graph in a system: it is accepted where the graph accepts it, leaves the graph as it does, and
-- the action that it adds has the communication that it is to have.
use Rattle.std.specs.Prelude.{Err, ⊤}
use Prim.Native.Nat.{ℕ, ◌+◌, ◌<◌, ◌≤◌}
use mathlib.Core.Path.{◌≡◌, refl, sym, ap, ◌∙◌}
use mathlib.Core.Bool.{true}
use mathlib.Core.List.{List, []}
use native.Mathlib.Omega.{arith}
use borrow.Author.Tests.{eq-eqb, lt-ltb, le-leb}
use Rattle.laws.specs.Below.{all_below, sum_below}
use Rattle.laws.specs.Ladder.{unless}
use Rattle.laws.proofs.BelowLaws.{all_from}
use Rattle.grammar.specs.Typing.{type_of, is_typed}
use Rattle.grammar.specs.declared.values.«Type».{«Type» as Kind}
use Rattle.grammar.specs.declared.typing.Typed.{Typed}
use Rattle.grammar.specs.declared.typing.Typed.TheVariants.{Known, IllTyped, TableFull, TooDeep}
use Rattle.graph_tables.specs.Sizes.{message_room, plain_kind, send_kind, receive_kind}
use Rattle.graph_tables.specs.Words.{action_count, kinds_of, action_kind}
use Rattle.graph_tables.specs.Formed.{well_formed}
use Rattle.graph_tables.specs.Handed.{handed_var}
use Rattle.graph_tables.specs.Messages.{message_count}
use Rattle.graph_tables.specs.Answers.{Answer, admitted, answer_number}
use Rattle.graph_tables.specs.declared.refusals.Refusal.{Refusal}
use Rattle.graph_tables.specs.declared.handed.Vars.{Vars}
use Rattle.graph_tables.proofs.MessageLaws.{plain_kind_lem, send_kind_lem, receive_kind_lem}
use Rattle.graph_edits.specs.Edits.{with_expressions}
use Rattle.graph_edits.specs.Lists.{list_of, plain, send, receive}
use Rattle.graph_checks.specs.Checks.{each_below, send_room, send_check, var_known}
use Rattle.graph_checks.proofs.CheckLaws.{then_on}
use Rattle.graph_builder.specs.Building.{Outcome, new_var_of, new_clock_of, new_action_of, new_process_of, add_reset_of, add_effect_of}
use Rattle.graph_builder.specs.Building.{new_timed_location_of, new_initial_of, add_transition_of, new_send_of}
use Rattle.graph_builder.specs.Chains as Own
use Rattle.system_tables.specs.Words.{graph_count, channel_count, width_of, graph_part, communication_at, communication_in, communication_word}
use Rattle.system_tables.specs.Formed.{system_formed}
use Rattle.system_tables.specs.Sound.{MessageSound, CommunicationSound}
use Rattle.system_tables.specs.declared.ids.Channel.{Channel}
use Rattle.system_tables.specs.declared.ids.Message.{Message}
use Rattle.system_tables.specs.declared.ids.Message.TheVariants.{Send, Receive, ProbeEmptyQueue, ProbeFullQueue}
use Rattle.system_tables.specs.declared.ids.Communication.{Communication}
use Rattle.system_tables.specs.declared.ids.Communication.TheVariants.{Plain, On}
use Rattle.system_tables.proofs.CommunicationLaws.{Says, plain_says, message_says, word_back}
use Rattle.system_tables.proofs.KeptLaws.{apart}
use Rattle.system_builder.specs.Graphs.{member_check, only_if, on_part, placed_on, telling}
use Rattle.system_builder.specs.Messages.{known_check, if_read, sent_typed, sent_fits, sent_check, send_check_on, send_part, new_send_on}
use Rattle.system_builder.specs.Messages.{received_fits, received_check, receive_check_on, receive_part, new_receive_on, no_values, new_probe_on}
use Rattle.system_builder.specs.Chains.{OnGraph, new_action}
use Rattle.system_builder.specs.Chains.{new_send, new_receive, new_probe, answer_on, Fits, IsProbe}
use Rattle.system_builder.specs.Chains.{own_call, Tells}
use Rattle.system_builder.specs.Built.{made_on, actions_after}
use Rattle.system_builder.proofs.ActionLaws.{part_formed}
use Rattle.system_builder.proofs.SameActions.{count_stays}
use Rattle.system_builder.proofs.NewActions.{new_kind, adds_plain, adds_send, adds_receive, is_kinded, sent_count, send_was, sent_word}
use Rattle.system_builder.proofs.NewActions.{taken_count, receive_was, taken_word}
use Rattle.system_builder.proofs.StaysLaws.{ChannelStays}

-- ---- how many actions there are
pub count_after : (G : List ℕ) (c : Own.Call) → Own.Fits c → Own.answer_of G c ≡ 0
    → action_count (Own.after G c) ≡ actions_after (action_count G) c
count_after G (Own.new_var v) fit ok = count_stays G (Own.new_var v) fit tt
count_after G Own.new_clock fit ok = count_stays G Own.new_clock fit tt
count_after G Own.new_action fit ok = (adds_plain G).more ok
count_after G (Own.new_process l) fit ok = count_stays G (Own.new_process l) fit tt
count_after G (Own.add_reset a clock) fit ok = count_stays G (Own.add_reset a clock) fit tt
count_after G (Own.add_effect a v ws) fit ok = count_stays G (Own.add_effect a v ws) fit tt
count_after G (Own.new_send m count) fit ok = (adds_send G m count).more ok
count_after G (Own.new_receive v) fit ok = (adds_receive G v).more ok
count_after G (Own.new_timed_location l) fit ok = count_stays G (Own.new_timed_location l) fit tt
count_after G (Own.new_initial_location l) fit ok = count_stays G (Own.new_initial_location l) fit tt
count_after G (Own.add_transition pre a post guarded ws l) fit ok = count_stays G (Own.add_transition pre a post guarded ws l) fit tt

-- ---- a probe is a send of no values, whatever they would have been
no_send : (G : List ℕ) (m : ℕ → List ℕ) → new_send_of G m 0 ≡ new_send_of G no_values 0
unfolding new_send_of send_check send_room each_below all_below sum_below with_expressions
no_send G m = refl

-- ---- a call that asks a check first, which is passed
only_ok : {A : Type 0} (refuse : Refusal → A) (number : A → ℕ) (check : Answer ⊤) (t : List ℕ) (o : Outcome A) → check ≡ admitted
    → number o.answer ≡ 0 → number (only_if refuse check t o).answer ≡ 0
only_ok refuse number check t o e k = rw e k

typed_known : (x : Typed) → is_typed x ≡ true → (k : Kind) × (x ≡ Known k)
typed_known (Known k) h = (k, refl)
typed_known IllTyped h = let z : ◌≡◌ {A = ℕ} 0 1 = cc in absurd (omega arith)
typed_known TableFull h = let z : ◌≡◌ {A = ℕ} 0 1 = cc in absurd (omega arith)
typed_known (TooDeep k) h = let z : ◌≡◌ {A = ℕ} 0 1 = cc in absurd (omega arith)

-- call d on graph g, where the graph makes call c of its own: no action, or one, which gets the communication that it has in t
pub data Telling (t u : List ℕ) (g : ℕ) (c : Own.Call) (d : OnGraph) : Type 0 where
  none : action_count (Own.after (graph_part u g) c) ≡ action_count (graph_part u g) → Telling t u g c d
  one : action_count (Own.after (graph_part u g) c) ≡ action_count (graph_part u g) + 1 → (m : Communication) → Tells d m
      → communication_word m ≡ communication_at t g (action_count (graph_part u g)) → Telling t u g c d

pub record Lifts (t u : List ℕ) (g : ℕ) (c : Own.Call) (d : OnGraph) : Type 0 where
  pub fit : Fits d
  pub ok : answer_on u g d ≡ 0
  pub same : Own.after (graph_part u g) (own_call d) ≡ Own.after (graph_part u g) c
  pub tells : Telling t u g c d

module _ (t u : List ℕ) (g : ℕ) (h : system_formed u true ≡ true) (there : g < graph_count u) (channels : channel_count u ≡ channel_count t)
    (channel : (q : ℕ) → q < channel_count t → ChannelStays t u q) where
  abbrev G : List ℕ
  G = graph_part u g

  abbrev next : ℕ
  next = action_count G

  -- the word of its communication
  abbrev w : ℕ
  w = communication_at t g next

  formed : well_formed G true ≡ true
  formed = part_formed u g (apart u true h) there

  -- ---- the checks of the system pass
  member_ok : member_check u g ≡ admitted
  unfolding member_check unless
  member_ok = rw (h, lt-ltb _ _ there)

  known_ok : (q : ℕ) → q < channel_count t → known_check u g q ≡ admitted
  unfolding known_check unless
  known_ok q l = sym (then_on member_ok (rw (lt-ltb q (channel_count u) (rw channels l))))

  sent_ok : (q : ℕ) (m : ℕ → List ℕ) (count : ℕ) → count ≤ message_room → all_below count (sent_typed G m) ≡ true → count ≡ width_of u q
      → all_below count (sent_fits u q G m) ≡ true → sent_check u q G m count ≡ admitted
  unfolding sent_check if_read unless
  sent_ok q m count few typed wide fits = rw (le-leb _ _ few, typed, eq-eqb _ _ wide, fits)

  taken_ok : (q : ℕ) (v : Vars) → v.count ≤ message_room → all_below v.count (var_known G v) ≡ true → v.count ≡ width_of u q
      → all_below v.count (received_fits u q G v) ≡ true → received_check u q G v ≡ admitted
  unfolding received_check if_read unless
  taken_ok q v few known wide fits = rw (le-leb _ _ few, known, eq-eqb _ _ wide, fits)

  -- ---- calls that add no action
  placed : (call : List ℕ → Outcome (Answer ℕ)) → answer_number (call G).answer ≡ 0 → answer_number (placed_on call u g).answer ≡ 0
  placed call = only_ok Err answer_number (member_check u g) u (on_part call u g) member_ok

  done : (call : List ℕ → Outcome (Answer ⊤)) → answer_number (call G).answer ≡ 0
      → answer_number (only_if Err (member_check u g) u (on_part call u g)).answer ≡ 0
  done call = only_ok Err answer_number (member_check u g) u (on_part call u g) member_ok

  -- ---- a plain action
  no_message_lem : (H : List ℕ) (a q : ℕ) (m : Message) → Says t q H a m → action_kind H a ≡ plain_kind → ⊥
  no_message_lem H a q Send x e = let z = send_kind_lem H a x.0 in omega (arith, z, e)
  no_message_lem H a q Receive x e = let z = receive_kind_lem H a x.0 in omega (arith, z, e)
  no_message_lem H a q ProbeEmptyQueue x e = let z = send_kind_lem H a x.send in omega (arith, z, e)
  no_message_lem H a q ProbeFullQueue x e = let z = send_kind_lem H a x.send in omega (arith, z, e)

  lifts_plain : Own.answer_of G Own.new_action ≡ 0 → CommunicationSound t w (Own.after G Own.new_action) next
      → Lifts t u g Own.new_action new_action
  lifts_plain ok s =
      record {
        fit = tt;
        ok = placed new_action_of ok;
        same = refl;
        tells = one ((adds_plain G).more ok) Plain refl (by (communication_in w) refl);
      }
    where
      by : (x : Communication) → communication_in w ≡ x → communication_word Plain ≡ w
      by Plain e = ap communication_word (sym e) ∙ word_back s
      by (On m q) e =
          absurd (no_message_lem (Own.after G Own.new_action) next q.0 m (message_says s m q e).1
          (new_kind G Own.new_action tt (plain [] []) (λ i. refl) ok formed))

  -- ---- a send, and a probe
  module _ (m : ℕ → List ℕ) (count : ℕ) (ok : Own.answer_of G (Own.new_send m count) ≡ 0)
      (s : CommunicationSound t w (Own.after G (Own.new_send m count)) next) where
    abbrev sent : List ℕ
    sent = Own.after G (Own.new_send m count)

    is_send_lem : action_kind sent next ≡ send_kind
    is_send_lem = new_kind G (Own.new_send m count) tt (send (list_of m count)) (λ i. refl) ok formed

    lifts_message : (q : Channel) → q.0 < channel_count t → MessageSound t q.0 sent next → communication_word (On Send q) ≡ w
        → Lifts t u g (Own.new_send m count) (new_send q m count)
    unfolding new_send_on send_check_on sent_typed sent_fits
    lifts_message q l x word =
        let c = channel q.0 l in
        let was = send_was t G formed q l m count ok in
        let wide : count ≡ width_of t q.0 = sym (sent_count t G formed q l m count ok) ∙ x.count in
        record {
          fit = tt;
          ok =
              only_ok Err answer_number (send_check_on u g q.0 m count) u (telling g (On Send q) (send_part u g m count))
              (sym (then_on (known_ok q.0 l)
              (sym (sent_ok q.0 m count was.few
              (all_from (sent_typed G m) count (λ e k. is_kinded (type_of (kinds_of G) (m e)) (was.expression e k).1))
              (wide ∙ sym c.width)
              (all_from (sent_fits u q.0 G m) count
              (λ e k.
              let known = typed_known (type_of (kinds_of G) (m e)) (was.expression e k).1 in
              let inside : e < width_of t q.0 = omega (arith, wide, k) in
              rw known.1
              (eq-eqb _ _
              (sym (sent_word t G formed q l m count ok e k known.0 known.1) ∙ x.kind e inside ∙ sym (c.kind e inside)))))))))
              ok;
          same = refl;
          tells = one ((adds_send G m count).more ok) (On Send q) refl word;
        }

    lifts_probe : (k : Message) → IsProbe k → (q : Channel) → q.0 < channel_count t → message_count sent next ≡ 0
        → communication_word (On k q) ≡ w → Lifts t u g (Own.new_send m count) (new_probe k q)
    unfolding new_probe_on
    lifts_probe k probe q l empty word =
        let none_sent : count ≡ 0 = sym (sent_count t G formed q l m count ok) ∙ empty in
        let alike : new_send_of G m count ≡ new_send_of G no_values 0 = ap (new_send_of G m) none_sent ∙ no_send G m in
        record {
          fit = probe;
          ok =
              only_ok Err answer_number (known_check u g q.0) u (telling g (On k q) (send_part u g no_values 0)) (known_ok q.0 l)
              (sym (ap (λ (o : Outcome (Answer ℕ)). answer_number o.answer) alike) ∙ ok);
          same = sym (ap (λ (o : Outcome (Answer ℕ)). o.table) alike);
          tells = one ((adds_send G m count).more ok) (On k q) refl word;
        }

    lifts_send : Lifts t u g (Own.new_send m count) (made_on (communication_in w) (Own.new_send m count))
    lifts_send = by (communication_in w) refl
      where
        word : (x : Communication) → communication_in w ≡ x → communication_word x ≡ w
        word x e = ap communication_word (sym e) ∙ word_back s

        by : (x : Communication) → communication_in w ≡ x → Lifts t u g (Own.new_send m count) (made_on x (Own.new_send m count))
        by Plain e = let z = plain_kind_lem sent next (plain_says s e) in absurd (omega (arith, z, is_send_lem))
        by (On Send q) e = let x = message_says s Send q e in lifts_message q x.0 x.1.1 (word (On Send q) e)
        by (On Receive q) e =
            let z = receive_kind_lem sent next (message_says s Receive q e).1.0 in absurd (omega (arith, z, is_send_lem))
        by (On ProbeEmptyQueue q) e =
            let x = message_says s ProbeEmptyQueue q e in
            lifts_probe ProbeEmptyQueue tt q x.0 x.1.none (word (On ProbeEmptyQueue q) e)
        by (On ProbeFullQueue q) e =
            let x = message_says s ProbeFullQueue q e in
            lifts_probe ProbeFullQueue tt q x.0 x.1.none (word (On ProbeFullQueue q) e)

  -- ---- a receive
  module _ (v : Vars) (ok : Own.answer_of G (Own.new_receive v) ≡ 0)
      (s : CommunicationSound t w (Own.after G (Own.new_receive v)) next) where
    abbrev taken : List ℕ
    taken = Own.after G (Own.new_receive v)

    is_receive_lem : action_kind taken next ≡ receive_kind
    is_receive_lem = new_kind G (Own.new_receive v) tt (receive (list_of (handed_var v) v.count)) (λ i. refl) ok formed

    lifts_taken : (q : Channel) → q.0 < channel_count t → MessageSound t q.0 taken next → communication_word (On Receive q) ≡ w
        → Lifts t u g (Own.new_receive v) (new_receive q v)
    unfolding new_receive_on receive_check_on var_known received_fits
    lifts_taken q l x word =
        let c = channel q.0 l in
        let was = receive_was t G formed q l v ok in
        let wide : v.count ≡ width_of t q.0 = sym (taken_count t G formed q l v ok) ∙ x.count in
        record {
          fit = tt;
          ok =
              only_ok Err answer_number (receive_check_on u g q.0 v) u (telling g (On Receive q) (receive_part u g v))
              (sym (then_on (known_ok q.0 l)
              (sym (taken_ok q.0 v was.few
              (all_from (var_known G v) v.count (λ e k. lt-ltb _ _ (was.var e k)))
              (wide ∙ sym c.width)
              (all_from (received_fits u q.0 G v) v.count
              (λ e k.
              let inside : e < width_of t q.0 = omega (arith, wide, k) in
              eq-eqb _ _ (sym (taken_word t G formed q l v ok e k) ∙ x.kind e inside ∙ sym (c.kind e inside))))))))
              ok;
          same = refl;
          tells = one ((adds_receive G v).more ok) (On Receive q) refl word;
        }

    lifts_receive : Lifts t u g (Own.new_receive v) (made_on (communication_in w) (Own.new_receive v))
    lifts_receive = by (communication_in w) refl
      where
        by : (x : Communication) → communication_in w ≡ x → Lifts t u g (Own.new_receive v) (made_on x (Own.new_receive v))
        by Plain e = let z = plain_kind_lem taken next (plain_says s e) in absurd (omega (arith, z, is_receive_lem))
        by (On Send q) e = let z = send_kind_lem taken next (message_says s Send q e).1.0 in absurd (omega (arith, z, is_receive_lem))
        by (On Receive q) e =
            let x = message_says s Receive q e in
            lifts_taken q x.0 x.1.1 (ap communication_word (sym e) ∙ word_back s)
        by (On ProbeEmptyQueue q) e =
            let z = send_kind_lem taken next (message_says s ProbeEmptyQueue q e).1.send in absurd (omega (arith, z, is_receive_lem))
        by (On ProbeFullQueue q) e =
            let z = send_kind_lem taken next (message_says s ProbeFullQueue q e).1.send in absurd (omega (arith, z, is_receive_lem))

  -- ---- every call
  pub lifts : (c : Own.Call) → Own.Fits c → Own.answer_of G c ≡ 0
      → (actions_after next c ≡ next + 1 → CommunicationSound t w (Own.after G c) next) → Lifts t u g c (made_on (communication_in w) c)
  lifts (Own.new_var v) fit ok s = record {
    fit = fit;
    ok = placed (λ (G : List ℕ). new_var_of G v) ok;
    same = refl;
    tells = none (count_after G (Own.new_var v) fit ok);
  }
  lifts Own.new_clock fit ok s = record {
    fit = fit;
    ok = placed new_clock_of ok;
    same = refl;
    tells = none (count_after G Own.new_clock fit ok);
  }
  lifts Own.new_action fit ok s = lifts_plain ok (s refl)
  lifts (Own.new_process l) fit ok s = record {
    fit = fit;
    ok = done (λ (G : List ℕ). new_process_of G l) ok;
    same = refl;
    tells = none (count_after G (Own.new_process l) fit ok);
  }
  lifts (Own.add_reset a clock) fit ok s = record {
    fit = fit;
    ok = done (λ (G : List ℕ). add_reset_of G a clock) ok;
    same = refl;
    tells = none (count_after G (Own.add_reset a clock) fit ok);
  }
  lifts (Own.add_effect a v ws) fit ok s = record {
    fit = fit;
    ok = done (λ (G : List ℕ). add_effect_of G a v ws) ok;
    same = refl;
    tells = none (count_after G (Own.add_effect a v ws) fit ok);
  }
  lifts (Own.new_send m count) fit ok s = lifts_send m count ok (s refl)
  lifts (Own.new_receive v) fit ok s = lifts_receive v ok (s refl)
  lifts (Own.new_timed_location l) fit ok s = record {
    fit = fit;
    ok = placed (λ (G : List ℕ). new_timed_location_of G l) ok;
    same = refl;
    tells = none (count_after G (Own.new_timed_location l) fit ok);
  }
  lifts (Own.new_initial_location l) fit ok s = record {
    fit = fit;
    ok = placed (λ (G : List ℕ). new_initial_of G l) ok;
    same = refl;
    tells = none (count_after G (Own.new_initial_location l) fit ok);
  }
  lifts (Own.add_transition pre a post guarded ws l) fit ok s = record {
    fit = fit;
    ok = done (λ (G : List ℕ). add_transition_of G pre a post guarded ws l) ok;
    same = refl;
    tells = none (count_after G (Own.add_transition pre a post guarded ws l) fit ok);
  }
