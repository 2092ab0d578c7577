-- A well-formed table with an action more is well formed: a plain one, a send or a receive.
use Prim.Native.Nat.{ℕ, ◌+◌, ◌<◌, ◌≤◌}
use mathlib.Core.Path.{◌≡◌, refl, sym, ap, subst, ◌∙◌}
use mathlib.Core.Logic.{◌≢◌}
use mathlib.Core.Bool.{true}
use mathlib.Core.List.{List}
use native.Mathlib.Omega.{arith}
use borrow.Author.Tests.{le-leb, lt-ltb}
use lib.ListN.{length, get_or, set, length-set}
use lib.Seq.{get_or-set_same, get_or-set_other}
use Rattle.laws.specs.Below.{sum_below}
use Rattle.laws.proofs.BelowLaws.{and_both, all_none, all_from, sum_none, sum_same}
use Rattle.grammar.specs.Draws.{draws_of}
use Rattle.grammar.specs.Typing.{type_of, is_typed}
use Rattle.graph_tables.specs.Layout.{actions_cell, effects_start, action_width, vars_from, lengths_from, action_row, resets_cell, effects_cell}
use Rattle.graph_tables.specs.Layout.{var_cell, length_cell, effect_slot}
use Rattle.graph_tables.specs.Sizes.{action_room, draw_room, message_room, item_room, plain_kind, send_kind, receive_kind}
use Rattle.graph_tables.specs.declared.handed.Vars.{Vars}
use Rattle.graph_tables.specs.Handed.{handed_var}
use Rattle.graph_tables.specs.Words.{Words, variable_count, action_count, kinds_of, action_kind, reset_count, effect_count, effect_var}
use Rattle.graph_tables.specs.Words.{effect_length, effect_items}
use Rattle.graph_tables.specs.Formed.{resets_formed, effect_draws, plain_formed, expression_formed, send_formed, target_formed, receive_formed}
use Rattle.graph_tables.specs.Formed.{action_formed}
use Rattle.graph_tables.proofs.KeptLaws.{Formed, Grown, ItemsKept, items_moved, is_typed_grown}
use Rattle.graph_edits.specs.Edits.{action_put, with_action, with_expressions, with_send, with_targets, with_receive}
use Rattle.graph_edits.proofs.ExpressionLaws.{apart_row, apart_item, Message, message, targets_words, targets_other, targets_var}
use Rattle.graph_edits.proofs.GrownFormed.{Around, around_grown, around_formed}

-- ---- an action more, number n
module _ (x : List ℕ) (n kind count : ℕ) where
  abbrev x₁ : List ℕ
  x₁ = set x (action_row n) kind

  abbrev x₂ : List ℕ
  x₂ = set x₁ (resets_cell n) 0

  abbrev x₃ : List ℕ
  x₃ = set x₂ (effects_cell n) count

  abbrev u : List ℕ
  u = action_put x n kind count

  pub put_other : (j : ℕ) → (j ≢ actions_cell) × (j ≢ effects_cell n) × (j ≢ resets_cell n) × (j ≢ action_row n) → get_or u j 0 ≡ get_or x j 0
  put_other j r =
      get_or-set_other x₃ actions_cell j (n + 1) 0 r.0
      ∙ get_or-set_other x₂ (effects_cell n) j count 0 r.1
      ∙ get_or-set_other x₁ (resets_cell n) j 0 0 r.2
      ∙ get_or-set_other x (action_row n) j kind 0 r.3

  module _ (words : Words x) (low : n < action_room) where
    pub put_words : Words u
    put_words = simp length-set words

    put_actions : action_count u ≡ n + 1
    put_actions = get_or-set_same x₃ actions_cell (n + 1) 0 (simp length-set (omega arith))

    pub put_row : (action_kind u n ≡ kind) × (reset_count u n ≡ 0) × (effect_count u n ≡ count)
    put_row = (
      get_or-set_other x₃ actions_cell (action_row n) (n + 1) 0 (omega arith)
          ∙ get_or-set_other x₂ (effects_cell n) (action_row n) count 0 (omega arith)
          ∙ get_or-set_other x₁ (resets_cell n) (action_row n) 0 0 (omega arith)
          ∙ get_or-set_same x (action_row n) kind 0 (omega arith),
      get_or-set_other x₃ actions_cell (resets_cell n) (n + 1) 0 (omega arith)
          ∙ get_or-set_other x₂ (effects_cell n) (resets_cell n) count 0 (omega arith)
          ∙ get_or-set_same x₁ (resets_cell n) 0 0 (simp length-set (omega arith)),
      get_or-set_other x₃ actions_cell (effects_cell n) (n + 1) 0 (omega arith)
          ∙ get_or-set_same x₂ (effects_cell n) count 0 (simp length-set (omega arith)),
    )

    -- t has n actions, and x has t's words but perhaps for those of action n
    put_around : (t : List ℕ) → action_count t ≡ n
        → ((j : ℕ) → j < effects_start → ((i : ℕ) → i < action_width → j ≢ action_row n + i) → get_or x j 0 ≡ get_or t j 0)
        → ((b e : ℕ) → b < action_room → b ≢ n → ItemsKept t x b e)
        → Around t u n
    put_around t count-t row items =
        record {
          words = put_words;
          more = omega (arith, put_actions);
          few = omega (arith, put_actions);
          others = λ b l other. omega (arith, put_actions);
          row =
              λ j l three out. put_other j (
                three,
                λ q. out 2 (omega arith) (omega arith),
                λ q. out 1 (omega arith) (omega arith),
                λ q. out 0 (omega arith)
                    (omega arith),
              ) ∙ row j l out;
          items = λ b e l other k h. put_other (effect_slot b e + k) (omega arith) ∙ items b e l other k h;
        }

-- ---- a plain action, without resets and effects
pub action_formed_lem : (t : List ℕ) → Formed t → action_count t < action_room → Formed (with_action t plain_kind 0)
unfolding action_formed plain_formed resets_formed
action_formed_lem t formed free =
    let n = action_count t in
    let row = put_row t n plain_kind 0 formed.words free in
    around_formed t (action_put t n plain_kind 0) n free formed
    (put_around t n plain_kind 0 formed.words free t refl (λ j l out. refl) (λ b e l other k h. refl))
    (rw (row.0, row.1, row.2) (and_both (and_both refl (all_none _)) (and_both refl (and_both (all_none _) (rw sum_none)))))

-- ---- a send
module _ (t : List ℕ) (m : ℕ → List ℕ) (count : ℕ) (formed : Formed t) (free : action_count t < action_room) (few : count ≤ message_room)
    (each : (i : ℕ) → i < count → (length (m i) ≤ item_room) × (is_typed (type_of (kinds_of t) (m i)) ≡ true)) where
  abbrev sender : ℕ
  sender = action_count t

  abbrev filled : List ℕ
  filled = with_expressions t sender m count

  abbrev sent : List ℕ
  sent = action_put filled sender send_kind count

  so : Message t sender m count filled
  so = message t sender m count formed.words free few (λ i l. (each i l).0)

  sent_around : Around t sent sender
  sent_around =
      put_around filled sender send_kind count so.words free t refl
      (λ j l out. so.other j (λ i h. apart_row sender i j l (λ q. out (lengths_from + i) (omega arith) (omega arith))))
      (λ b e l other k h. so.other (effect_slot b e + k) (λ i r. apart_item sender i b e k free (omega arith) h (omega arith)))

  sent_grown : Grown t sent
  sent_grown = around_grown t sent sender free formed sent_around

  sent_long : (i : ℕ) → i < count → effect_length sent sender i ≡ length (m i)
  sent_long i l = put_other filled sender send_kind count (length_cell sender i) (omega arith) ∙ so.long i l

  sent_items : (i : ℕ) → i < count → effect_items sent sender i ≡ m i
  sent_items i l =
      let at = effect_slot sender i in
      let same : effect_length sent sender i ≡ effect_length filled sender i = sent_long i l ∙ sym (so.long i l) in
      rw same
      (items_moved filled sent at at item_room (effect_length filled sender i) (rw (so.long i l) (each i l).0) (omega (arith, so.words))
      (omega (arith, sent_around.words))
      (λ k h. put_other filled sender send_kind count (at + k) (omega arith)))
      ∙ so.items i l

  sent_expression : (i : ℕ) → i < count → expression_formed sent sender i ≡ true
  unfolding expression_formed
  sent_expression i l =
      rw (sent_items i l, sent_long i l) (and_both (le-leb _ _ (each i l).0) (is_typed_grown sent_grown (m i) (each i l).1))

  sent_draws : sum_below count (λ (i : ℕ). draws_of (m i)) ≤ draw_room → sum_below count (effect_draws sent sender) ≤ draw_room
  unfolding effect_draws
  sent_draws draws = rw (sum_same (effect_draws sent sender) (λ (i : ℕ). draws_of (m i)) count (λ i l. ap draws_of (sent_items i l))) draws

  sent_formed : sum_below count (λ (i : ℕ). draws_of (m i)) ≤ draw_room → action_formed sent sender ≡ true
  unfolding action_formed send_formed
  sent_formed draws =
      let row = put_row filled sender send_kind count so.words free in
      rw (row.0, row.1, row.2)
      (and_both refl
      (and_both (le-leb count message_room few)
      (and_both (all_from (expression_formed sent sender) count sent_expression) (le-leb _ _ (sent_draws draws)))))

  pub send_formed_lem : sum_below count (λ (i : ℕ). draws_of (m i)) ≤ draw_room → Formed (with_send t m count)
  send_formed_lem draws =
      let same : action_count filled ≡ sender = so.other actions_cell (λ i l. apart_row sender i actions_cell (omega arith) (omega arith)) in
      subst (λ (n : ℕ). Formed (action_put filled n send_kind count)) (sym same)
      (around_formed t sent sender free formed sent_around (sent_formed draws))

-- ---- a receive
module _ (t : List ℕ) (v : Vars) (formed : Formed t) (free : action_count t < action_room) (few : v.count ≤ message_room)
    (each : (i : ℕ) → i < v.count → handed_var v i < variable_count t) where
  abbrev receiver : ℕ
  receiver = action_count t

  abbrev aimed : List ℕ
  aimed = with_targets t receiver v v.count

  abbrev received : List ℕ
  received = action_put aimed receiver receive_kind v.count

  aimed_words : Words aimed
  aimed_words = targets_words t receiver v v.count formed.words

  received_around : Around t received receiver
  received_around =
      put_around aimed receiver receive_kind v.count aimed_words free t refl
      (λ j l out. targets_other t receiver v v.count j (λ i h q. out (vars_from + i) (omega arith) (omega arith)))
      (λ b e l other k h. targets_other t receiver v v.count (effect_slot b e + k) (omega arith))

  received_target : (i : ℕ) → i < v.count → target_formed received receiver i ≡ true
  unfolding target_formed
  received_target i l =
      let var : effect_var received receiver i ≡ handed_var v i =
      put_other aimed receiver receive_kind v.count (var_cell receiver i) (omega arith)
      ∙ targets_var t receiver v v.count formed.words free few i l in
      let grown : Grown t received = around_grown t received receiver free formed received_around in
      rw var (lt-ltb (handed_var v i) (variable_count received) (omega (arith, each i l, grown.variables)))

  received_formed : action_formed received receiver ≡ true
  unfolding action_formed receive_formed
  received_formed =
      let row = put_row aimed receiver receive_kind v.count aimed_words free in
      rw (row.0, row.1, row.2)
      (and_both refl
      (and_both refl (and_both (le-leb v.count message_room few) (all_from (target_formed received receiver) v.count received_target))))

  pub receive_formed_lem : Formed (with_receive t v)
  receive_formed_lem =
      let same : action_count aimed ≡ receiver = targets_other t receiver v v.count actions_cell (omega arith) in
      subst (λ (n : ℕ). Formed (action_put aimed n receive_kind v.count)) (sym same)
      (around_formed t received receiver free formed received_around received_formed)
