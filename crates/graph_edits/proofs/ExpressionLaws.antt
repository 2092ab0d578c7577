-- Reads of a table with expressions of an action, or with the variables that take a message's values.
use Prim.Native.Nat.{ℕ, zero, suc, ◌+◌, ◌-◌, ◌*◌, ◌<◌, ◌≤◌}
use mathlib.Core.Path.{◌≡◌, refl, sym, ◌∙◌}
use mathlib.Core.Logic.{⊎_elim, ◌≢◌}
use mathlib.Core.Bool.{Bool, true, false}
use mathlib.Core.List.{List}
use native.Mathlib.Nat.{eq-or-lt_of_le, le_of_suc-le-suc}
use native.Mathlib.Omega.{arith}
use borrow.Author.Tests.{ltb-true, ltb-false}
use lib.Dec.{ltb}
use lib.ListN.{length, get_or, set, length-set}
use lib.Seq.{get_or-set_same, get_or-set_other}
use Rattle.graph_tables.specs.Layout.{effects_start, var_cell, length_cell, effect_slot}
use Rattle.graph_tables.specs.Sizes.{action_room, effect_room, message_room, item_room}
use Rattle.graph_tables.specs.declared.handed.Vars.{Vars}
use Rattle.graph_tables.specs.Handed.{handed_var}
use Rattle.graph_tables.specs.Words.{Words, effect_var, effect_length, effect_items}
use Rattle.graph_tables.proofs.KeptLaws.{items_moved}
use Rattle.graph_edits.specs.Edits.{with_expression, with_expressions, with_targets}
use Rattle.graph_edits.proofs.ReadLaws.{paste_length, paste_before, paste_after, paste_items}

-- word j is none of expression e of action a: not its length, none of its items
pub record Apart (a e j : ℕ) : Type 0 where
  pub no_length : j ≢ length_cell a e
  pub no_item : (k : ℕ) → k < item_room → j ≢ effect_slot a e + k

module _ (a e : ℕ) where
  -- a word before the items
  pub apart_row : (j : ℕ) → j < effects_start → j ≢ length_cell a e → Apart a e j
  apart_row j l other = record { no_length = other; no_item = omega arith }

  -- an item of another expression, of this action or of another
  pub apart_item : (b f k : ℕ) → a < action_room → e < effect_room → k < item_room → action_room * f + b ≢ action_room * e + a
      → Apart a e (effect_slot b f + k)
  apart_item b f k known few l other = record { no_length = omega arith; no_item = omega arith }

-- ---- u is t but for expression e of action a
pub record Expression (t : List ℕ) (a e : ℕ) (ws u : List ℕ) : Type 0 where
  pub words : Words u
  pub other : (j : ℕ) → Apart a e j → get_or u j 0 ≡ get_or t j 0
  pub long : effect_length u a e ≡ length ws
  pub items : effect_items u a e ≡ ws

module _ (t : List ℕ) (a e : ℕ) (ws : List ℕ) (words : Words t) (known : a < action_room) (few : e < effect_room)
    (short : length ws ≤ item_room) where
  room : effect_slot a e + length ws ≤ length (set t (length_cell a e) (length ws))
  room = simp length-set (omega arith)

  written_other : (j : ℕ) → Apart a e j → get_or (with_expression t a e ws) j 0 ≡ get_or t j 0
  unfolding with_expression
  written_other j apart = by (ltb j at) refl ∙ get_or-set_other t _ j _ 0 apart.no_length
    where
      at : ℕ
      at = effect_slot a e

      by : (test : Bool) → ltb j at ≡ test → get_or (with_expression t a e ws) j 0 ≡ get_or (set t (length_cell a e) (length ws)) j 0
      by true q = paste_before _ _ ws room j (ltb-true j at q)
      by false q =
          let past : at ≤ j = ltb-false j at q in
          let none : j < at + length ws → ⊥ = λ l. apart.no_item (j - at) (omega arith) (omega arith) in
          paste_after _ _ ws room j (omega arith)

  pub expression : Expression t a e ws (with_expression t a e ws)
  unfolding with_expression
  expression =
      let long : effect_length (with_expression t a e ws) a e ≡ length ws =
      paste_before _ _ ws room _ (omega arith) ∙ get_or-set_same t _ _ 0 (omega arith) in
      record {
        words = paste_length _ _ ws room ∙ length-set t _ _ ∙ words;
        other = written_other;
        long = long;
        items = rw long (paste_items _ _ ws room);
      }

-- ---- u is t but for the first n expressions of a message of action a
pub record Message (t : List ℕ) (a : ℕ) (m : ℕ → List ℕ) (n : ℕ) (u : List ℕ) : Type 0 where
  pub words : Words u
  pub other : (j : ℕ) → ((i : ℕ) → i < n → Apart a i j) → get_or u j 0 ≡ get_or t j 0
  pub long : (i : ℕ) → i < n → effect_length u a i ≡ length (m i)
  pub items : (i : ℕ) → i < n → effect_items u a i ≡ m i

abbrev pub Short : (ℕ → List ℕ) → ℕ → Type 0
Short m n = (i : ℕ) → i < n → length (m i) ≤ item_room

-- one expression more
module _ (t : List ℕ) (a : ℕ) (m : ℕ → List ℕ) (n : ℕ) (u w : List ℕ) (known : a < action_room) (few : n < message_room)
    (short : Short m (suc n)) (so : Message t a m n u) (new : Expression u a n (m n) w) where
  more_long : (i : ℕ) → i < suc n → effect_length w a i ≡ length (m i)
  more_long i l =
      ⊎_elim
      (λ (q : i ≡ n). rw q new.long)
      (λ (k : i < n). new.other (length_cell a i) (apart_row a n _ (omega arith) (omega arith)) ∙ so.long i k)
      (eq-or-lt_of_le (le_of_suc-le-suc l))

  more_items : (i : ℕ) → i < suc n → effect_items w a i ≡ m i
  more_items i l =
      ⊎_elim
      (λ (q : i ≡ n). rw q new.items)
      (λ (k : i < n).
      let same : effect_length w a i ≡ effect_length u a i = more_long i l ∙ sym (so.long i k) in
      let room : effect_length u a i ≤ item_room = rw (so.long i k) (short i l) in
      let at = effect_slot a i in
      rw same (items_moved u w at at item_room (effect_length u a i) room (omega arith) (omega arith)
      (λ j h. new.other (at + j) (apart_item a n a i j known (omega arith) h (omega arith))))
      ∙ so.items i k)
      (eq-or-lt_of_le (le_of_suc-le-suc l))

  message_more : Message t a m (suc n) w
  message_more =
      record {
        words = new.words;
        other = λ j apart. new.other j (apart n (omega arith)) ∙ so.other j (λ i l. apart i (omega arith));
        long = more_long;
        items = more_items;
      }

pub message : (t : List ℕ) (a : ℕ) (m : ℕ → List ℕ) (n : ℕ) → Words t → a < action_room → n ≤ message_room → Short m n
    → Message t a m n (with_expressions t a m n)
unfolding with_expressions
message t a m zero words known few short =
    record { words = words; other = λ j apart. refl; long = λ i l. absurd (omega arith); items = λ i l. absurd (omega arith) }
message t a m (suc n) words known few short =
    let so : Message t a m n (with_expressions t a m n) = message t a m n words known (omega arith) (λ i l. short i (omega arith)) in
    message_more t a m n (with_expressions t a m n) _ known (omega arith) short so
    (expression (with_expressions t a m n) a n (m n) so.words known (omega arith) (short n (omega arith)))

-- ---- the first n variables that take a message's values
module _ (t : List ℕ) (a : ℕ) (v : Vars) where
  pub targets_words : (n : ℕ) → Words t → Words (with_targets t a v n)
  unfolding with_targets
  targets_words zero words = words
  targets_words (suc n) words = length-set (with_targets t a v n) _ _ ∙ targets_words n words

  pub targets_other : (n j : ℕ) → ((i : ℕ) → i < n → j ≢ var_cell a i) → get_or (with_targets t a v n) j 0 ≡ get_or t j 0
  unfolding with_targets
  targets_other zero j other = refl
  targets_other (suc n) j other =
      get_or-set_other (with_targets t a v n) _ j _ 0 (other n (omega arith)) ∙ targets_other n j (λ i l. other i (omega arith))

  pub targets_var : (n : ℕ) → Words t → a < action_room → n ≤ message_room → (i : ℕ) → i < n
      → effect_var (with_targets t a v n) a i ≡ handed_var v i
  unfolding with_targets
  targets_var zero words known few i l = absurd (omega arith)
  targets_var (suc n) words known few i l =
      let u : Words (with_targets t a v n) = targets_words n words in
      ⊎_elim
      (λ (q : i ≡ n). rw q (get_or-set_same (with_targets t a v n) _ _ 0 (omega arith)))
      (λ (k : i < n).
      get_or-set_other (with_targets t a v n) _ _ _ 0 (omega arith) ∙ targets_var n words known (omega arith) i k)
      (eq-or-lt_of_le (le_of_suc-le-suc l))
