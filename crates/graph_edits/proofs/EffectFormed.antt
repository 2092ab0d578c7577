-- A well-formed table with an effect more is well formed.
use Prim.Native.Nat.{ℕ, ◌+◌, ◌*◌, ◌<◌, ◌≤◌}
use mathlib.Core.Path.{◌≡◌, ◌∙◌}
use mathlib.Core.Logic.{◌≢◌}
use mathlib.Core.Bool.{true}
use mathlib.Core.List.{List}
use native.Mathlib.Omega.{arith}
use borrow.Author.Tests.{leb-true, le-leb, lt-ltb}
use lib.ListN.{length, get_or, set, length-set}
use lib.Seq.{get_or-set_same, get_or-set_other}
use Rattle.laws.specs.Below.{all_below, sum_below}
use Rattle.laws.proofs.BelowLaws.{and_first, and_rest, and_both, all_more, sum_more}
use Rattle.grammar.specs.Draws.{draws_of}
use Rattle.grammar.specs.Typing.{type_of, typed_as}
use Rattle.graph_tables.specs.Layout.{actions_cell, effects_start, vars_from, lengths_from, action_row, resets_cell, effects_cell, reset_cell}
use Rattle.graph_tables.specs.Layout.{var_cell, length_cell, effect_slot}
use Rattle.graph_tables.specs.Sizes.{action_room, effect_room, reset_room, draw_room, item_room, plain_kind}
use Rattle.graph_tables.specs.Words.{Words, variable_count, action_count, kind_at, kinds_of, action_kind, reset_count, effect_count, effect_var}
use Rattle.graph_tables.specs.Words.{effect_length, effect_items}
use Rattle.graph_tables.specs.Formed.{resets_formed, effect_formed, effect_draws, plain_formed, action_formed}
use Rattle.graph_tables.proofs.FormedLaws.{short_effects}
use Rattle.graph_tables.proofs.KeptLaws.{Formed, Grown, ItemsKept, items_moved, typed_as_grown, resets_kept, effects_kept, draws_kept}
use Rattle.graph_edits.specs.Edits.{with_effect, with_expression}
use Rattle.graph_edits.proofs.GrownFormed.{Around, around_grown, around_formed}
use Rattle.graph_edits.proofs.ExpressionLaws.{Apart, apart_row, apart_item, Expression, expression}

few_resets : (t : List ℕ) (a : ℕ) → resets_formed t a ≡ true → reset_count t a ≤ reset_room
unfolding resets_formed
few_resets t a h = leb-true _ _ (and_first _ _ h)

-- an action of that kind is a plain one
plain_formed_lem : (t : List ℕ) (a : ℕ) → action_kind t a ≡ plain_kind → action_formed t a ≡ true → plain_formed t a ≡ true
unfolding action_formed
plain_formed_lem t a kind h = rw kind at h

formed_plain : (t : List ℕ) (a : ℕ) → action_kind t a ≡ plain_kind → plain_formed t a ≡ true → action_formed t a ≡ true
unfolding action_formed
formed_plain t a kind h = rw kind h

module _ (t : List ℕ) (a v : ℕ) (ws : List ℕ) (words : Words t) (low : a < action_room) (room : effect_count t a < effect_room)
    (short : length ws ≤ item_room) where
  abbrev n : ℕ
  n = effect_count t a

  abbrev x : List ℕ
  x = with_expression t a n ws

  abbrev y : List ℕ
  y = set x (var_cell a n) v

  abbrev u : List ℕ
  u = with_effect t a v ws

  put : Expression t a n ws x
  put = expression t a n ws words low room short

  -- another word
  apart_from : (j : ℕ) → Apart a n j → j ≢ var_cell a n → j ≢ effects_cell a → get_or u j 0 ≡ get_or t j 0
  apart_from j apart p q = get_or-set_other y (effects_cell a) j (n + 1) 0 q ∙ get_or-set_other x (var_cell a n) j v 0 p ∙ put.other j apart

  -- a word before the items
  pub row : (j : ℕ) → (j < effects_start) × (j ≢ length_cell a n) × (j ≢ var_cell a n) × (j ≢ effects_cell a) → get_or u j 0 ≡ get_or t j 0
  row j r = apart_from j (apart_row a n j r.0 r.1) r.2 r.3

  -- the items of another expression
  pub items : (b e : ℕ) → action_room * e + b ≢ action_room * n + a → ItemsKept t u b e
  items b e other k l =
      apart_from (effect_slot b e + k) (apart_item a n b e k low room l other) (omega (arith, low)) (omega (arith, low))

  pub all_words : Words u
  all_words = length-set y _ _ ∙ length-set x _ _ ∙ put.words

  pub count : effect_count u a ≡ n + 1
  count = get_or-set_same y (effects_cell a) (n + 1) 0 (simp length-set (omega (arith, low, put.words)))

  pub variable : effect_var u a n ≡ v
  variable =
      get_or-set_other y (effects_cell a) (var_cell a n) (n + 1) 0 (omega arith)
      ∙ get_or-set_same x (var_cell a n) v 0 (omega (arith, low, put.words))

  -- the new effect has the same items as in x
  long : effect_length u a n ≡ effect_length x a n
  long =
      get_or-set_other y (effects_cell a) (length_cell a n) (n + 1) 0 (omega arith)
      ∙ get_or-set_other x (var_cell a n) (length_cell a n) v 0 (omega arith)

  pub same_items : effect_items u a n ≡ ws
  same_items =
      let at = effect_slot a n in
      rw long
      (items_moved x u at at item_room (effect_length x a n) (rw put.long short) (omega (arith, low, put.words))
      (omega (arith, low, all_words))
      (λ k l.
      get_or-set_other y (effects_cell a) (at + k) (n + 1) 0 (omega (arith, low))
      ∙ get_or-set_other x (var_cell a n) (at + k) v 0 (omega (arith, low))))
      ∙ put.items

  pub around : action_count t ≤ action_room → Around t u a
  around few =
      let same : action_count u ≡ action_count t = row actions_cell (omega arith) in
      record {
        words = all_words;
        more = omega arith;
        few = omega arith;
        others = λ b l other. omega arith;
        row =
            λ j l three out. row j (
              l,
              λ q. out (lengths_from + n) (omega arith) (omega arith),
              λ q. out (vars_from + n) (omega arith) (omega arith),
              λ q. out 2
                  (omega arith) (omega arith),
            );
        items = λ b e l other. items b e (omega arith);
      }

  module _ (formed : Formed t) (in-t : a < action_count t) (plain : action_kind t a ≡ plain_kind) (known : v < variable_count t) where
    grown : Grown t u
    grown = around_grown t u a low formed (around formed.counts.actions)

    kind : action_kind u a ≡ plain_kind
    kind = row (action_row a) (omega (arith, low)) ∙ plain

    new_formed : typed_as (kind_at t v) (type_of (kinds_of t) ws) ≡ true → effect_formed u a n ≡ true
    unfolding effect_formed
    new_formed typed =
        rw (same_items, variable, long ∙ put.long, grown.kinds v known)
        (and_both (lt-ltb v (variable_count u) (omega (arith, grown.variables)))
        (and_both (le-leb _ _ short) (typed_as_grown grown (kind_at t v) ws typed)))

    plain_kept : typed_as (kind_at t v) (type_of (kinds_of t) ws) ≡ true → sum_below n (effect_draws t a) + draws_of ws ≤ draw_room
        → plain_formed t a ≡ true → plain_formed u a ≡ true
    unfolding plain_formed effect_draws
    plain_kept typed draws h =
        let all : all_below n (effect_formed t a) ≡ true = and_first _ _ (and_rest _ _ (and_rest _ _ h)) in
        let most : reset_count t a ≤ reset_room = few_resets t a (and_first _ _ h) in
        let same : (e : ℕ) → e < n → effect_length u a e ≡ effect_length t a e = λ e l. row (length_cell a e) (omega (arith, low)) in
        let each : (e : ℕ) → e < n → ItemsKept t u a e = λ e l. items a e (omega arith) in
        let vars : (e : ℕ) → e < n → effect_var u a e ≡ effect_var t a e = λ e l. row (var_cell a e) (omega (arith, low)) in
        let sum : sum_below n (effect_draws u a) ≡ sum_below n (effect_draws t a) =
        draws_kept grown a low n (omega arith) same each (short_effects t a n all) in
        rw count
        (and_both
        (resets_kept grown a
        (row (resets_cell a) (omega (arith, low)))
        (λ i l. row (reset_cell a i) (omega (arith, low)))
        (and_first _ _ h))
        (and_both (le-leb (n + 1) effect_room (omega arith))
        (and_both (all_more (effect_formed u a) n (effects_kept grown a low n (omega arith) same each vars all) (new_formed typed))
        (le-leb (sum_below (n + 1) (effect_draws u a)) draw_room (rw (sum_more (effect_draws u a) n, sum, same_items) draws)))))

    whole : typed_as (kind_at t v) (type_of (kinds_of t) ws) ≡ true → sum_below n (effect_draws t a) + draws_of ws ≤ draw_room → Formed u
    whole typed draws =
        around_formed t u a low formed (around formed.counts.actions)
        (formed_plain u a kind (plain_kept typed draws (plain_formed_lem t a plain (formed.action a in-t))))

pub effect_formed_lem : (t : List ℕ) (a v : ℕ) (ws : List ℕ) → Formed t → a < action_count t → action_kind t a ≡ plain_kind
    → effect_count t a < effect_room → v < variable_count t → length ws ≤ item_room
    → typed_as (kind_at t v) (type_of (kinds_of t) ws) ≡ true → sum_below (effect_count t a) (effect_draws t a) + draws_of ws ≤ draw_room
    → Formed (with_effect t a v ws)
effect_formed_lem t a v ws formed in-t plain room known short = whole t a v ws formed.words (omega arith) room short formed in-t plain known
