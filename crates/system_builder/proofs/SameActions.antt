-- Building calls of a graph leave its actions what they were to a system: a plain one is plain, a message has its values.
use Prim.Native.Nat.{ℕ, zero, suc, ◌≤◌, ◌<◌}
use mathlib.Core.Path.{◌≡◌, refl, sym, ap, subst, ◌∙◌}
use mathlib.Core.Bool.{true, false}
use mathlib.Core.List.{List, [], ◌∷◌}
use native.Mathlib.Omega.{arith}
use lib.ListN.{length}
use Rattle.grammar.specs.Values.{kind_of, kind_word}
use Rattle.grammar.specs.Slots.{val_of}
use Rattle.grammar.specs.declared.values.Val.{Val}
use Rattle.graph_tables.specs.Sizes.{plain_kind, send_kind, receive_kind}
use Rattle.graph_tables.specs.Words.{variable_count, action_count, kind_at, value_at, action_kind, effect_var, effect_items}
use Rattle.graph_tables.specs.Formed.{well_formed}
use Rattle.graph_tables.specs.Sound.{Sound}
use Rattle.graph_tables.specs.Messages.{is_send, is_receive, message_count, value_kind}
use Rattle.graph_tables.proofs.SoundLaws.{sound}
use Rattle.graph_tables.proofs.KeptLaws.{Grown, typed_grown}
use Rattle.graph_tables.proofs.MessageLaws.{value_known_lem, sent_kind, send_kind_lem, receive_kind_lem, send_no_receive}
use Rattle.graph_tables.proofs.MessageLaws.{plain_same, send_same, receive_same}
use Rattle.graph_edits.specs.Lists.{list_of, changed_at, expressions_of, targets_of, StoredAction, plain, send, receive, action_at, actions_of}
use Rattle.graph_edits.proofs.ListLaws.{list_length}
use Rattle.graph_edits.proofs.LimitLaws.{sides}
use Rattle.graph_edits.proofs.PartsKept.{plain_at, send_at_lem, receive_at_lem}
use Rattle.graph_builder.specs.Chains.{Call, new_var, new_clock, new_action, new_process, add_reset, add_effect, new_send, new_receive}
use Rattle.graph_builder.specs.Chains.{new_timed_location, new_initial_location, add_transition, after, answer_of, Fits}
use Rattle.graph_builder.specs.Reading.{Graph, graph_of, with_clock_reset, with_assignment, added}
use Rattle.graph_builder.proofs.KeptParts.{GoesOn, row_goes_on, goes_on_more, goes_on_same, goes_on_changed, Kept, counts_kept}
use Rattle.graph_builder.proofs.KeptParts.{variable_kept}
use Rattle.graph_builder.proofs.Theorems.{reads_as, refused_leaves, parts_stay, stays_formed}
use Rattle.system_tables.proofs.KeptLaws.{MessageSame, ActionSame}

-- ---- what an action may become: a plain one any other plain one, a message only itself
abbrev pub MessageStays : StoredAction → StoredAction → Type 0
MessageStays (plain resets effects) (plain r e) = Unit {0}
MessageStays (plain resets effects) (send x) = ⊥
MessageStays (plain resets effects) (receive x) = ⊥
MessageStays (send x) y = y ≡ send x
MessageStays (receive x) y = y ≡ receive x

same_message : (x : StoredAction) → MessageStays x x
same_message (plain resets effects) = tt
same_message (send x) = refl
same_message (receive x) = refl

with_reset_lem : (clock : ℕ) (x : StoredAction) → MessageStays x (with_clock_reset clock x)
with_reset_lem clock (plain resets effects) = tt
with_reset_lem clock (send x) = refl
with_reset_lem clock (receive x) = refl

with_effect_lem : (v : ℕ) (ws : List ℕ) (x : StoredAction) → MessageStays x (with_assignment v ws x)
with_effect_lem v ws (plain resets effects) = tt
with_effect_lem v ws (send x) = refl
with_effect_lem v ws (receive x) = refl

abbrev MessagesStay : List StoredAction → List StoredAction → Type 0
MessagesStay xs ys = GoesOn MessageStays xs ys

still : (xs : List StoredAction) → MessagesStay xs xs
still = goes_on_same MessageStays same_message

added_messages : (c : Call) (g : Graph) → MessagesStay g.actions (added c g).actions
added_messages (new_var v) g = still g.actions
added_messages new_clock g = still g.actions
added_messages new_action g = goes_on_more MessageStays same_message g.actions _
added_messages (new_process l) g = still g.actions
added_messages (add_reset a clock) g =
    goes_on_changed MessageStays same_message (with_clock_reset clock) (with_reset_lem clock) a g.actions
added_messages (add_effect a v ws) g =
    goes_on_changed MessageStays same_message (with_assignment v ws) (with_effect_lem v ws) a g.actions
added_messages (new_send m count) g = goes_on_more MessageStays same_message g.actions _
added_messages (new_receive v) g = goes_on_more MessageStays same_message g.actions _
added_messages (new_timed_location l) g = still g.actions
added_messages (new_initial_location l) g = still g.actions
added_messages (add_transition pre a post guarded ws l) g = still g.actions

messages_stay : (G : List ℕ) (c : Call) → Fits c → MessagesStay (actions_of G) (actions_of (after G c))
messages_stay G c fit = by (answer_of G c) refl
  where
    by : (n : ℕ) → answer_of G c ≡ n → MessagesStay (actions_of G) (actions_of (after G c))
    by zero e = subst (λ (h : Graph). MessagesStay (actions_of G) h.actions) (sym (reads_as G c fit e)) (added_messages c (graph_of G))
    by (suc n) e = rw (refused_leaves G c (omega arith)) (still (actions_of G))

-- ---- the calls that add no action
abbrev pub NoAction : Call → Type 0
NoAction (new_var v) = Unit {0}
NoAction new_clock = Unit {0}
NoAction new_action = ⊥
NoAction (new_process l) = Unit {0}
NoAction (add_reset a clock) = Unit {0}
NoAction (add_effect a v ws) = Unit {0}
NoAction (new_send m count) = ⊥
NoAction (new_receive v) = ⊥
NoAction (new_timed_location l) = Unit {0}
NoAction (new_initial_location l) = Unit {0}
NoAction (add_transition pre a post guarded ws l) = Unit {0}

changed_length : {A : Type 0} (a : ℕ) (f : A → A) (xs : List A) → length (changed_at a f xs) ≡ length xs
unfolding changed_at
changed_length a f [] = refl
changed_length zero f (x ∷ xs) = refl
changed_length (suc a) f (x ∷ xs) = ap suc (changed_length a f xs)

added_none : (c : Call) → NoAction c → (g : Graph) → length (added c g).actions ≡ length g.actions
added_none (new_var v) none g = refl
added_none new_clock none g = refl
added_none new_action none g = absurd none
added_none (new_process l) none g = refl
added_none (add_reset a clock) none g = changed_length a (with_clock_reset clock) g.actions
added_none (add_effect a v ws) none g = changed_length a (with_assignment v ws) g.actions
added_none (new_send m count) none g = absurd none
added_none (new_receive v) none g = absurd none
added_none (new_timed_location l) none g = refl
added_none (new_initial_location l) none g = refl
added_none (add_transition pre a post guarded ws l) none g = refl

-- leave as many as there were
pub count_stays : (G : List ℕ) (c : Call) → Fits c → NoAction c → action_count (after G c) ≡ action_count G
count_stays G c fit none = by (answer_of G c) refl
  where
    by : (n : ℕ) → answer_of G c ≡ n → action_count (after G c) ≡ action_count G
    by zero e =
        sym (list_length (action_at (after G c)) (action_count (after G c)))
        ∙ ap (λ (h : Graph). length h.actions) (reads_as G c fit e)
        ∙ added_none c none (graph_of G)
        ∙ list_length (action_at G) (action_count G)
    by (suc n) e = ap action_count (refused_leaves G c (omega arith))

-- ---- what an action is, as it is stored
abbrev pub kind_in : StoredAction → ℕ
kind_in (plain resets effects) = plain_kind
kind_in (send x) = send_kind
kind_in (receive x) = receive_kind

abbrev pub expressions_in : StoredAction → List (List ℕ)
expressions_in (plain resets effects) = []
expressions_in (send x) = x
expressions_in (receive x) = []

abbrev pub targets_in : StoredAction → List ℕ
targets_in (plain resets effects) = []
targets_in (send x) = []
targets_in (receive x) = x

pub stored_kind : (t : List ℕ) (a : ℕ) → action_kind t a ≤ receive_kind → kind_in (action_at t a) ≡ action_kind t a
stored_kind t a few =
    sides (action_kind t a) send_kind
    (λ m. let e : action_kind t a ≡ plain_kind = omega arith in ap kind_in (plain_at t a e) ∙ sym e)
    (λ e. ap kind_in (send_at_lem t a e) ∙ sym e)
    (λ m. let e : action_kind t a ≡ receive_kind = omega arith in ap kind_in (receive_at_lem t a e) ∙ sym e)

same_kind_lem : (x y : StoredAction) → MessageStays x y → kind_in y ≡ kind_in x
same_kind_lem (plain resets effects) (plain r e) h = refl
same_kind_lem (plain resets effects) (send x) h = absurd h
same_kind_lem (plain resets effects) (receive x) h = absurd h
same_kind_lem (send x) y h = ap kind_in h
same_kind_lem (receive x) y h = ap kind_in h

same_expressions : (x y : StoredAction) → MessageStays x y → kind_in x ≡ send_kind → expressions_in y ≡ expressions_in x
same_expressions (plain resets effects) y h e = absurd (omega arith)
same_expressions (send x) y h e = ap expressions_in h
same_expressions (receive x) y h e = absurd (omega arith)

same_targets : (x y : StoredAction) → MessageStays x y → kind_in x ≡ receive_kind → targets_in y ≡ targets_in x
same_targets (plain resets effects) y h e = absurd (omega arith)
same_targets (send x) y h e = absurd (omega arith)
same_targets (receive x) y h e = ap targets_in h

-- ---- lists that are equal: as many rows, and each the same
pub rows_count : {A : Type 0} (f h : ℕ → A) (n m : ℕ) → list_of h m ≡ list_of f n → m ≡ n
rows_count f h n m e = sym (list_length h m) ∙ ap length e ∙ list_length f n

abbrev Is : {A : Type 0} → A → A → Type 0
Is x y = y ≡ x

pub rows_same : {A : Type 0} (f h : ℕ → A) (n m : ℕ) → list_of h m ≡ list_of f n → (i : ℕ) → i < n → h i ≡ f i
rows_same f h n m e = row_goes_on Is f h n m (subst (GoesOn Is (list_of f n)) (sym e) (goes_on_same Is (λ x. refl) (list_of f n)))

-- ---- the kind of a variable is that of its value
kind_back : (kind payload : ℕ) → kind < 2 → kind_word (kind_of (val_of kind payload)) ≡ kind
unfolding val_of
kind_back zero payload l = refl
kind_back (suc zero) payload l = refl
kind_back (suc (suc kind)) payload l = absurd (omega arith)

-- ---- H is a table with all that G has
module _ (G H : List ℕ) (s : Sound G) (r : Sound H) (kept : Kept (graph_of G) (graph_of H)) where
  kinds_same : (v : ℕ) → v < variable_count G → kind_at H v ≡ kind_at G v
  kinds_same v l =
      let more : v < variable_count H = omega (arith, (counts_kept G H kept).0) in
      sym (kind_back (kind_at H v) (value_at H v) (r.variable v more).kind)
      ∙ ap (λ (x : Val). kind_word (kind_of x)) (variable_kept G H kept v l)
      ∙ kind_back (kind_at G v) (value_at G v) (s.variable v l).kind

  pub grown : Grown G H
  grown =
      let more = counts_kept G H kept in
      record {
        words = s.words;
        grown_words = r.words;
        variables = more.0;
        few = r.counts.variables;
        kinds = kinds_same;
        clocks = more.1;
        locations = more.2;
        actions = more.3;
      }

  -- and messages stay: each action is what it was
  module _ (messages : MessagesStay (actions_of G) (actions_of H)) (a : ℕ) (known : a < action_count G) where
    stays : MessageStays (action_at G a) (action_at H a)
    stays = row_goes_on MessageStays (action_at G) (action_at H) _ _ messages a known

    known_too : a < action_count H
    known_too = omega (arith, (counts_kept G H kept).3)

    kind_stays : action_kind H a ≡ action_kind G a
    kind_stays =
        sym (stored_kind H a (r.action a known_too).kind)
        ∙ same_kind_lem (action_at G a) (action_at H a) stays
        ∙ stored_kind G a (s.action a known).kind

    expressions_stay : action_kind G a ≡ send_kind → expressions_of H a ≡ expressions_of G a
    expressions_stay e =
        sym (ap expressions_in (send_at_lem H a (kind_stays ∙ e)))
        ∙ same_expressions (action_at G a) (action_at H a) stays (stored_kind G a (s.action a known).kind ∙ e)
        ∙ ap expressions_in (send_at_lem G a e)

    targets_stay : action_kind G a ≡ receive_kind → targets_of H a ≡ targets_of G a
    targets_stay e =
        sym (ap targets_in (receive_at_lem H a (kind_stays ∙ e)))
        ∙ same_targets (action_at G a) (action_at H a) stays (stored_kind G a (s.action a known).kind ∙ e)
        ∙ ap targets_in (receive_at_lem G a e)

    sent : is_send G a ≡ true → MessageSame G H a
    unfolding message_count value_kind
    sent h =
        let same = expressions_stay (send_kind_lem G a h) in
        let not : is_receive H a ≡ false = receive_same G H a kind_stays ∙ send_no_receive G a h in
        record {
          count = rows_count (effect_items G a) (effect_items H a) _ _ same;
          kind = λ e l.
              let x = sent_kind G s a known e l (send_no_receive G a h) in
              let items : effect_items H a e ≡ effect_items G a e = rows_same (effect_items G a) (effect_items H a) _ _ same e l in
              rw (not, items, typed_grown grown (effect_items G a e) x.0 x.1.0) (sym x.1.1);
        }

    received : is_receive G a ≡ true → MessageSame G H a
    unfolding message_count value_kind
    received h =
        let same = targets_stay (receive_kind_lem G a h) in
        let also : is_receive H a ≡ true = receive_same G H a kind_stays ∙ h in
        record {
          count = rows_count (effect_var G a) (effect_var H a) _ _ same;
          kind = λ e l.
              let var : effect_var H a e ≡ effect_var G a e = rows_same (effect_var G a) (effect_var H a) _ _ same e l in
              rw (also, var, h) (kinds_same (effect_var G a e) (value_known_lem G s a known e l h));
        }

    action_same : ActionSame G H a
    action_same =
        record {
          plain = plain_same G H a kind_stays;
          send = send_same G H a kind_stays;
          receive = receive_same G H a kind_stays;
          sent = sent;
          received = received;
        }

-- ---- after a building call
module _ (G : List ℕ) (h : well_formed G true ≡ true) (c : Call) (fit : Fits c) where
  pub after_grown : Grown G (after G c)
  after_grown = grown G (after G c) (sound G true h) (sound (after G c) true (stays_formed G c fit h)) (parts_stay G c fit)

  -- each action that the graph had is the same to a system
  pub after_same : (a : ℕ) → a < action_count G → ActionSame G (after G c) a
  after_same =
      action_same G (after G c) (sound G true h) (sound (after G c) true (stays_formed G c fit h)) (parts_stay G c fit)
      (messages_stay G c fit)
