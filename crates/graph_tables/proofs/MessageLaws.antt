-- What a sound table says of messages.
use Prim.Native.Nat.{ℕ, zero, suc, ◌≤◌, ◌<◌}
use mathlib.Core.Path.{◌≡◌, refl, sym, ap, ◌∙◌}
use mathlib.Core.Bool.{Bool, true, false, cond}
use mathlib.Core.List.{List}
use native.Mathlib.Omega.{arith}
use borrow.Author.Tests.{eqb-true, eqb-false, ne_eqb}
use Rattle.grammar.specs.Values.{kind_word}
use Rattle.grammar.specs.Typing.{type_of}
use Rattle.grammar.specs.declared.values.«Type».{«Type» as Kind}
use Rattle.grammar.specs.declared.typing.Typed.TheVariants.{Known}
use Rattle.graph_tables.specs.Layout.{action_row, action_width}
use Rattle.graph_tables.specs.Sizes.{action_room, variable_room, effect_room, message_room, item_room, plain_kind, send_kind, receive_kind}
use Rattle.graph_tables.specs.Words.{action_count, variable_count, kind_at, kinds_of, action_kind, effect_var, effect_length, effect_items}
use Rattle.graph_tables.specs.Sound.{Sound, ExpressionSound}
use Rattle.graph_tables.specs.Messages.{is_plain, is_send, is_receive, message_count, typed_word, value_kind}
use Rattle.graph_tables.proofs.KeptLaws.{Grown, Moved, ItemsKept, items_kept, typed_grown, kind_word_lem, count_word, var_word}
use Rattle.graph_tables.proofs.KeptLaws.{length_word}

-- an action is one of three
by_kind : {P : Type 0} (k : ℕ) → k ≤ receive_kind → (k ≡ plain_kind → P) → (k ≡ send_kind → P) → (k ≡ receive_kind → P) → P
by_kind zero l p s r = p refl
by_kind (suc zero) l p s r = s refl
by_kind (suc (suc zero)) l p s r = r refl
by_kind (suc (suc (suc k))) l p s r = absurd (omega arith)

module _ (t : List ℕ) (s : Sound t) (a : ℕ) (known : a < action_count t) where
  -- a message has room for its values
  pub few_values : is_plain t a ≡ false → message_count t a ≤ message_room
  unfolding is_plain message_count
  few_values h =
      let act = s.action a known in
      by_kind (action_kind t a) act.kind (λ e. absurd (eqb-false _ _ h e)) (λ e. (act.send e).few) (λ e. (act.receive e).few)

  module _ (e : ℕ) (one : e < message_count t a) where
    pub value_room : e < effect_room
    unfolding message_count
    value_room = omega (arith, (s.action a known).few)

    -- the variable that takes a value is known
    pub value_known_lem : is_receive t a ≡ true → effect_var t a e < variable_count t
    unfolding is_receive message_count
    value_known_lem h = ((s.action a known).receive (eqb-true _ _ h)).var e one

    pub value_var : is_receive t a ≡ true → effect_var t a e < variable_room
    value_var h = omega (arith, s.counts.variables, value_known_lem h)

    -- its expression has a kind, and few items
    value_typed : is_receive t a ≡ false → ExpressionSound t a e
    unfolding is_receive message_count
    value_typed h =
        let act = s.action a known in
        by_kind (action_kind t a) act.kind (λ q. ((act.plain q).effect e one).expression) (λ q. (act.send q).expression e one)
        (λ q. absurd (eqb-false _ _ h q))

    pub value_short : is_receive t a ≡ false → effect_length t a e ≤ item_room
    value_short h = (value_typed h).short

    -- its kind: of the variable that takes it, or of the expression
    pub received_kind : is_receive t a ≡ true → value_kind t a e ≡ kind_at t (effect_var t a e)
    unfolding value_kind
    received_kind h = rw h

    pub sent_kind : is_receive t a ≡ false
        → (k : Kind) × ((type_of (kinds_of t) (effect_items t a e) ≡ Known k) × (value_kind t a e ≡ kind_word k))
    unfolding value_kind
    sent_kind h = let x = value_typed h in (x.kind, (x.typed, rw (h, x.typed)))

-- ---- what an action is, by its kind; it is one thing
module _ (t : List ℕ) (a : ℕ) where
  pub plain_kind_lem : is_plain t a ≡ true → action_kind t a ≡ plain_kind
  unfolding is_plain
  plain_kind_lem h = eqb-true _ _ h

  pub send_kind_lem : is_send t a ≡ true → action_kind t a ≡ send_kind
  unfolding is_send
  send_kind_lem h = eqb-true _ _ h

  pub receive_kind_lem : is_receive t a ≡ true → action_kind t a ≡ receive_kind
  unfolding is_receive
  receive_kind_lem h = eqb-true _ _ h

  pub send_no_receive : is_send t a ≡ true → is_receive t a ≡ false
  unfolding is_receive
  send_no_receive h = let k = send_kind_lem h in ne_eqb (action_kind t a) receive_kind (λ (e : action_kind t a ≡ receive_kind). omega arith)

-- ---- an action of a table that has all that another has: it is of the same kind
module _ (t u : List ℕ) (a : ℕ) (same : action_kind u a ≡ action_kind t a) where
  pub plain_same : is_plain u a ≡ is_plain t a
  unfolding is_plain
  plain_same = rw same

  pub send_same : is_send u a ≡ is_send t a
  unfolding is_send
  send_same = rw same

  pub receive_same : is_receive u a ≡ is_receive t a
  unfolding is_receive
  receive_same = rw same

-- and its message has the same values
module _ {t u : List ℕ} (grown : Grown t u) (s : Sound t) (a : ℕ) (known : a < action_count t) (room : a < action_room)
    (row : Moved t u (action_row a) (action_row a) action_width) (items : (e : ℕ) → e < effect_room → ItemsKept t u a e) where
  pub count_kept : message_count u a ≡ message_count t a
  unfolding message_count
  count_kept = count_word grown a room row items

  pub value_kept : (e : ℕ) → e < message_count t a → value_kind u a e ≡ value_kind t a e
  unfolding value_kind
  value_kept e one = rw (receive_same t u a (kind_word_lem grown a room row items)) (by (is_receive t a) refl)
    where
      place : e < effect_room
      place = value_room t s a known e one

      sent : is_receive t a ≡ false → type_of (kinds_of u) (effect_items u a e) ≡ type_of (kinds_of t) (effect_items t a e)
      sent h =
          let x = value_typed t s a known e one h in
          let same : effect_items u a e ≡ effect_items t a e =
          items_kept grown a room e place (length_word grown a room row items e place) (items e place) x.short
          in
          rw same (typed_grown grown (effect_items t a e) x.kind x.typed ∙ sym x.typed)

      received : is_receive t a ≡ true → kind_at u (effect_var u a e) ≡ kind_at t (effect_var t a e)
      received h = rw (var_word grown a room row items e place) (grown.kinds (effect_var t a e) (value_known_lem t s a known e one h))

      by : (b : Bool) → is_receive t a ≡ b
          → cond b (kind_at u (effect_var u a e)) (typed_word (type_of (kinds_of u) (effect_items u a e)))
          ≡ cond b (kind_at t (effect_var t a e)) (typed_word (type_of (kinds_of t) (effect_items t a e)))
      by true h = received h
      by false h = ap typed_word (sent h)
