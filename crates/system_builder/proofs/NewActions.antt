-- The action that a building call of a graph adds, and the communication that fits it.
use Rattle.std.specs.Prelude.{Ok, Err, ⊤}
use Prim.Native.Nat.{ℕ, zero, suc, ◌+◌, ◌*◌, ◌≤◌, ◌<◌}
use mathlib.Core.Path.{◌≡◌, refl, sym, ap, ◌∙◌}
use mathlib.Core.Bool.{Bool, true, false}
use mathlib.Core.List.{List, [], ◌∷◌, ◌++◌}
use native.Mathlib.Omega.{arith}
use borrow.Author.Tests.{eq-eqb, ne_eqb, eqb-true, lt-ltb, le-leb}
use lib.Dec.{eqb, leb}
use lib.ListN.{length, get_or, drop, length-append}
use Rattle.laws.specs.Below.{all_below}
use Rattle.laws.proofs.BelowLaws.{and_both, all_at, all_from}
use Rattle.grammar.specs.Values.{kind_word}
use Rattle.grammar.specs.Typing.{type_of, kinded, kinded_as, is_typed}
use Rattle.grammar.specs.declared.values.«Type».{«Type» as Kind}
use Rattle.grammar.specs.declared.typing.Typed.{Typed}
use Rattle.grammar.specs.declared.typing.Typed.TheVariants.{Known, IllTyped, TableFull, TooDeep}
use Rattle.graph_tables.specs.Sizes.{message_room, send_kind, receive_kind}
use Rattle.graph_tables.specs.Words.{action_count, kind_at, kinds_of, action_kind, effect_var, effect_items}
use Rattle.graph_tables.specs.Formed.{well_formed}
use Rattle.graph_tables.specs.Handed.{handed_var}
use Rattle.graph_tables.specs.Messages.{is_plain, is_send, is_receive, message_count, value_kind}
use Rattle.graph_tables.specs.Answers.{Answer, admitted, answer_number}
use Rattle.graph_tables.specs.declared.handed.Vars.{Vars}
use Rattle.graph_tables.proofs.SoundLaws.{sound}
use Rattle.graph_tables.proofs.NumberLaws.{above_ok}
use Rattle.graph_tables.proofs.KeptLaws.{typed_grown}
use Rattle.graph_tables.proofs.MessageLaws.{send_no_receive}
use Rattle.graph_edits.specs.Lists.{list_of, expressions_of, targets_of, StoredAction, plain, send, receive, action_at, actions_of}
use Rattle.graph_edits.proofs.ListLaws.{list_length}
use Rattle.graph_edits.proofs.PartsKept.{send_at_lem, receive_at_lem}
use Rattle.graph_checks.specs.Checks.{action_check, send_check, receive_check, var_known}
use Rattle.graph_checks.proofs.CheckLaws.{unless_on}
use Rattle.graph_checks.proofs.ReadyActions.{SendReady, send_ready, ReceiveReady, receive_ready}
use Rattle.graph_builder.specs.Building.{Outcome, placed_if, new_action_of, new_send_of, new_receive_of}
use Rattle.graph_builder.specs.Chains.{Call, new_action, new_send, new_receive, after, answer_of, Fits}
use Rattle.graph_builder.specs.Reading.{Graph, graph_of, added}
use Rattle.graph_builder.proofs.Theorems.{reads_as, stays_formed}
use Rattle.system_tables.specs.Sizes.{no_communication, full_message}
use Rattle.system_tables.specs.Layout.{communication_span}
use Rattle.system_tables.specs.Words.{channel_count, width_of, channel_kind, message_part, channel_part, message_word, communication_word}
use Rattle.system_tables.specs.Formed.{value_fits, message_fits, send_fits, receive_fits, is_probe, probe_formed, message_formed}
use Rattle.system_tables.specs.Formed.{communication_fits}
use Rattle.system_tables.specs.declared.ids.Channel.{Channel}
use Rattle.system_tables.specs.declared.ids.Message.{Message}
use Rattle.system_tables.specs.declared.ids.Message.TheVariants.{Send, Receive, ProbeEmptyQueue, ProbeFullQueue}
use Rattle.system_tables.specs.declared.ids.Communication.TheVariants.{Plain, On}
use Rattle.system_tables.proofs.CeilingLaws.{few_messages}
use Rattle.system_builder.specs.Messages.{if_read, fit_check, sent_typed, sent_fits, sent_check, received_fits, received_check, no_values}
use Rattle.system_builder.specs.Chains.{IsProbe}
use Rattle.system_builder.proofs.ActionLaws.{placed_at}
use Rattle.system_builder.proofs.SameActions.{kind_in, expressions_in, targets_in, stored_kind, rows_count, rows_same, after_grown}

-- ---- the last entry of a list of rows
last_row : {A : Type 0} (f : ℕ → A) (m : ℕ) (xs : List A) (x : A) → list_of f m ≡ xs ++ (x ∷ []) → f (length xs) ≡ x
unfolding list_of
last_row f zero [] x e = let z : ◌≡◌ {A = ℕ} 0 1 = ap length e in absurd (omega arith)
last_row f zero (y ∷ xs) x e = let z : 0 ≡ suc (length (xs ++ (x ∷ []))) = ap length e in absurd (omega arith)
last_row f (suc m) [] x e = ap (λ (ys : List _). get_or ys 0 x) e
last_row f (suc m) (y ∷ xs) x e = last_row (λ (i : ℕ). f (suc i)) m xs x (ap (drop 1) e)

-- ---- an accepted call that puts action x behind the others
abbrev Puts : Call → StoredAction → Type 0
Puts c x = (g : Graph) → (added c g).actions ≡ g.actions ++ (x ∷ [])

module _ (G : List ℕ) (c : Call) (fit : Fits c) (x : StoredAction) (puts : Puts c x) (ok : answer_of G c ≡ 0) where
  actions_read : actions_of (after G c) ≡ actions_of G ++ (x ∷ [])
  actions_read = ap (λ (g : Graph). g.actions) (reads_as G c fit ok) ∙ puts (graph_of G)

  one_more : action_count (after G c) ≡ action_count G + 1
  one_more =
      sym (list_length (action_at (after G c)) (action_count (after G c)))
      ∙ ap length actions_read
      ∙ length-append (actions_of G) (x ∷ [])
      ∙ ap (λ (n : ℕ). n + 1) (list_length (action_at G) (action_count G))

  new_at : action_at (after G c) (action_count G) ≡ x
  new_at =
      ap (action_at (after G c)) (sym (list_length (action_at G) (action_count G)))
      ∙ last_row (action_at (after G c)) (action_count (after G c)) (actions_of G) x actions_read

  pub new_kind : well_formed G true ≡ true → action_kind (after G c) (action_count G) ≡ kind_in x
  new_kind h =
      sym (stored_kind (after G c) (action_count G)
      ((sound (after G c) true (stays_formed G c fit h)).action (action_count G) (omega (arith, one_more))).kind)
      ∙ ap kind_in new_at

-- ---- the calls that add an action: what each leaves and answers, and the number of the action
pub record AddsOne (G : List ℕ) (c : Call) (o : Outcome (Answer ℕ)) : Type 0 where
  pub table : after G c ≡ o.table
  pub number : answer_of G c ≡ answer_number o.answer
  pub place : (a : ℕ) → o.answer ≡ Ok a → a ≡ action_count G
  pub more : answer_of G c ≡ 0 → action_count o.table ≡ action_count G + 1

pub adds_plain : (G : List ℕ) → AddsOne G new_action (new_action_of G)
unfolding new_action_of
adds_plain G =
    record {
      table = refl;
      number = refl;
      place = λ a e. sym (placed_at (action_check G) _ _ _ a e).1;
      more = one_more G new_action tt (plain [] []) (λ i. refl);
    }

pub adds_send : (G : List ℕ) (m : ℕ → List ℕ) (count : ℕ) → AddsOne G (new_send m count) (new_send_of G m count)
unfolding new_send_of
adds_send G m count =
    record {
      table = refl;
      number = refl;
      place = λ a e. sym (placed_at (send_check G m count) _ _ _ a e).1;
      more = one_more G (new_send m count) tt (send (list_of m count)) (λ i. refl);
    }

pub adds_receive : (G : List ℕ) (v : Vars) → AddsOne G (new_receive v) (new_receive_of G v)
unfolding new_receive_of
adds_receive G v =
    record {
      table = refl;
      number = refl;
      place = λ a e. sym (placed_at (receive_check G v) _ _ _ a e).1;
      more = one_more G (new_receive v) tt (receive (list_of (handed_var v) v.count)) (λ i. refl);
    }

-- ---- a communication on a channel fits as its kind says
some_message : (m : Message) → 0 < message_word m
some_message Send = omega arith
some_message Receive = omega arith
some_message ProbeEmptyQueue = omega arith
some_message ProbeFullQueue = omega arith

on_fits : (t : List ℕ) (m : Message) (q : Channel) (H : List ℕ) (a : ℕ) → q.0 < channel_count t
    → message_formed t (message_word m) q.0 H a ≡ true → communication_fits t (communication_word (On m q)) H a ≡ true
unfolding communication_fits
on_fits t m q H a known h =
    let k = message_word m in
    let w = k + communication_span * q.0 in
    let low : 0 < k = some_message m in
    let few : k ≤ full_message = few_messages m in
    let other : eqb w no_communication ≡ false = ne_eqb w no_communication (λ e. omega arith) in
    let kind : message_part w ≡ k = omega arith in
    let channel : channel_part w ≡ q.0 = omega arith in
    rw (other, kind, channel) (and_both (lt-ltb _ _ known) h)

-- ---- a plain action
pub plain_fits : (t G : List ℕ) → well_formed G true ≡ true → answer_of G new_action ≡ 0
    → communication_fits t (communication_word Plain) (after G new_action) (action_count G) ≡ true
unfolding communication_fits is_plain
plain_fits t G h ok = eq-eqb _ _ (new_kind G new_action tt (plain [] []) (λ g. refl) ok h)

-- ---- a send
-- an expression that is typed, and of this kind
typed_kind : (w : ℕ) (x : Typed) → is_typed x ≡ true → kinded_as w x ≡ true → (k : Kind) × ((x ≡ Known k) × (kind_word k ≡ w))
typed_kind w (Known k) h e = (k, (refl, eqb-true _ _ e))
typed_kind w IllTyped h e = let z : ◌≡◌ {A = ℕ} 0 1 = cc in absurd (omega arith)
typed_kind w TableFull h e = let z : ◌≡◌ {A = ℕ} 0 1 = cc in absurd (omega arith)
typed_kind w (TooDeep k) h e = let z : ◌≡◌ {A = ℕ} 0 1 = cc in absurd (omega arith)

pub is_kinded : (x : Typed) → is_typed x ≡ true → kinded x ≡ true
is_kinded (Known k) h = refl
is_kinded IllTyped h = h
is_kinded TableFull h = h
is_kinded (TooDeep k) h = refl

-- what the check of a list has found
read_passed : (few each : Bool) (check : Answer ⊤) → few ≡ true → each ≡ true → if_read few each check ≡ admitted → check ≡ admitted
unfolding if_read
read_passed few each check e h k = rw (e, h) at k

fit_passed : (count width : ℕ) (fits : Bool) → fit_check count width fits ≡ admitted → (count ≡ width) × (fits ≡ true)
fit_passed count width fits e = let a = unless_on _ _ _ e in (eqb-true _ _ a.0, (unless_on _ _ _ a.1).0)

accepted : (c : Answer ⊤) (t : List ℕ) (n : ℕ) (u : List ℕ) → answer_number (placed_if c t n u).answer ≡ 0 → c ≡ admitted
accepted (Ok _) t n u e = refl
accepted (Err r) t n u e = absurd (above_ok r e)

module _ (t G : List ℕ) (h : well_formed G true ≡ true) (q : Channel) (known : q.0 < channel_count t) where
  module _ (m : ℕ → List ℕ) (count : ℕ) (ok : answer_of G (new_send m count) ≡ 0) where
    abbrev sent : List ℕ
    sent = after G (new_send m count)

    sent_kind : action_kind sent (action_count G) ≡ send_kind
    sent_kind = new_kind G (new_send m count) tt (send (list_of m count)) (λ g. refl) ok h

    sends : is_send sent (action_count G) ≡ true
    unfolding is_send
    sends = eq-eqb _ _ sent_kind

    sent_list : expressions_of sent (action_count G) ≡ list_of m count
    sent_list =
        sym (ap expressions_in (send_at_lem sent (action_count G) sent_kind))
        ∙ ap expressions_in (new_at G (new_send m count) tt (send (list_of m count)) (λ g. refl) ok)

    pub sent_count : message_count sent (action_count G) ≡ count
    unfolding message_count
    sent_count = rows_count m (effect_items sent (action_count G)) count _ sent_list

    pub send_was : SendReady G m count
    unfolding new_send_of
    send_was = send_ready G m count (accepted (send_check G m count) G _ _ ok)

    -- the kind of each of its values is that of the expression
    pub sent_word : (e : ℕ) → e < count → (k : Kind) → type_of (kinds_of G) (m e) ≡ Known k → value_kind sent (action_count G) e ≡ kind_word k
    unfolding value_kind
    sent_word e l k typed =
        let items : effect_items sent (action_count G) e ≡ m e = rows_same m (effect_items sent (action_count G)) count _ sent_list e l in
        rw (send_no_receive sent (action_count G) sends, items, typed_grown (after_grown G h (new_send m count) tt) (m e) k typed)

    -- the check of its values passed: they are those of the channel
    module _ (check : sent_check t q.0 G m count ≡ admitted) where
      sent_passed : (count ≡ width_of t q.0) × (all_below count (sent_fits t q.0 G m) ≡ true)
      unfolding sent_check sent_typed
      sent_passed =
          fit_passed _ _ _
          (read_passed (leb count message_room) (all_below count (sent_typed G m)) _ (le-leb _ _ send_was.few)
          (all_from (sent_typed G m) count (λ i l. is_kinded (type_of (kinds_of G) (m i)) (send_was.expression i l).1))
          check)

      sent_value : (e : ℕ) → e < count → value_kind sent (action_count G) e ≡ channel_kind t q.0 e
      unfolding sent_fits
      sent_value e l =
          let k = typed_kind (channel_kind t q.0 e) (type_of (kinds_of G) (m e)) (send_was.expression e l).1
          (all_at (sent_fits t q.0 G m) count e sent_passed.1 l)
          in
          sent_word e l k.0 k.1.0 ∙ k.1.1

      sent_message : message_fits t q.0 sent (action_count G) ≡ true
      unfolding message_fits value_fits
      sent_message =
          and_both (eq-eqb _ _ (sent_count ∙ sent_passed.0))
          (all_from (value_fits t q.0 sent (action_count G)) (width_of t q.0)
          (λ e l. eq-eqb _ _ (sent_value e (omega (arith, sent_passed.0)))))

      pub send_fits_lem : communication_fits t (communication_word (On Send q)) sent (action_count G) ≡ true
      unfolding message_formed send_fits
      send_fits_lem = on_fits t Send q sent (action_count G) known (and_both sends sent_message)

  -- ---- a receive
  module _ (v : Vars) (ok : answer_of G (new_receive v) ≡ 0) where
    abbrev taken : List ℕ
    taken = after G (new_receive v)

    taken_kind : action_kind taken (action_count G) ≡ receive_kind
    taken_kind = new_kind G (new_receive v) tt (receive (list_of (handed_var v) v.count)) (λ g. refl) ok h

    receives : is_receive taken (action_count G) ≡ true
    unfolding is_receive
    receives = eq-eqb _ _ taken_kind

    taken_list : targets_of taken (action_count G) ≡ list_of (handed_var v) v.count
    taken_list =
        sym (ap targets_in (receive_at_lem taken (action_count G) taken_kind))
        ∙ ap targets_in (new_at G (new_receive v) tt (receive (list_of (handed_var v) v.count)) (λ g. refl) ok)

    pub taken_count : message_count taken (action_count G) ≡ v.count
    unfolding message_count
    taken_count = rows_count (handed_var v) (effect_var taken (action_count G)) v.count _ taken_list

    pub receive_was : ReceiveReady G v
    unfolding new_receive_of
    receive_was = receive_ready G v (accepted (receive_check G v) G _ _ ok)

    -- the kind of each of its values is that of the variable
    pub taken_word : (e : ℕ) → e < v.count → value_kind taken (action_count G) e ≡ kind_at G (handed_var v e)
    unfolding value_kind
    taken_word e l =
        let var : effect_var taken (action_count G) e ≡ handed_var v e =
        rows_same (handed_var v) (effect_var taken (action_count G)) v.count _ taken_list e l
        in
        rw (receives, var) ((after_grown G h (new_receive v) tt).kinds (handed_var v e) (receive_was.var e l))

    -- the check of its variables passed: they are of the channel's kinds
    module _ (check : received_check t q.0 G v ≡ admitted) where
      taken_passed : (v.count ≡ width_of t q.0) × (all_below v.count (received_fits t q.0 G v) ≡ true)
      unfolding received_check var_known
      taken_passed =
          fit_passed _ _ _
          (read_passed (leb v.count message_room) (all_below v.count (var_known G v)) _ (le-leb _ _ receive_was.few)
          (all_from (var_known G v) v.count (λ i l. lt-ltb _ _ (receive_was.var i l)))
          check)

      taken_value : (e : ℕ) → e < v.count → value_kind taken (action_count G) e ≡ channel_kind t q.0 e
      unfolding received_fits
      taken_value e l = taken_word e l ∙ eqb-true _ _ (all_at (received_fits t q.0 G v) v.count e taken_passed.1 l)

      taken_message : message_fits t q.0 taken (action_count G) ≡ true
      unfolding message_fits value_fits
      taken_message =
          and_both (eq-eqb _ _ (taken_count ∙ taken_passed.0))
          (all_from (value_fits t q.0 taken (action_count G)) (width_of t q.0)
          (λ e l. eq-eqb _ _ (taken_value e (omega (arith, taken_passed.0)))))

      pub receive_fits_lem : communication_fits t (communication_word (On Receive q)) taken (action_count G) ≡ true
      unfolding message_formed receive_fits
      receive_fits_lem = on_fits t Receive q taken (action_count G) known (and_both receives taken_message)

  -- ---- a probe
  module _ (ok : answer_of G (new_send no_values 0) ≡ 0) where
    abbrev probing : List ℕ
    probing = after G (new_send no_values 0)

    pub probe_fits : (k : Message) → IsProbe k → communication_fits t (communication_word (On k q)) probing (action_count G) ≡ true
    unfolding message_formed probe_formed is_probe
    probe_fits Send p = absurd p
    probe_fits Receive p = absurd p
    probe_fits ProbeEmptyQueue p =
        on_fits t ProbeEmptyQueue q probing (action_count G) known
        (and_both refl (and_both (sends no_values 0 ok) (eq-eqb _ _ (sent_count no_values 0 ok))))
    probe_fits ProbeFullQueue p =
        on_fits t ProbeFullQueue q probing (action_count G) known
        (and_both refl (and_both (sends no_values 0 ok) (eq-eqb _ _ (sent_count no_values 0 ok))))
