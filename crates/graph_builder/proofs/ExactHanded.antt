-- What is stored comes back as it is handed: limits in their order, the expressions of a send, and the variables of a receive.
use Prim.Native.Nat.{ℕ, zero, suc, ◌/◌, ◌%◌, ◌<◌, ◌≤◌}
use mathlib.Core.Path.{◌≡◌, refl, sym, ap, subst, ◌∙◌}
use mathlib.Core.Bool.{Bool, true, false, cond}
use mathlib.Core.List.{List}
use native.Mathlib.Omega.{arith}
use borrow.Author.Tests.{lt-ltb}
use lib.Dec.{eqb}
use lib.ListN.{get_or}
use Rattle.time.specs.declared.Bound.{Bound}
use Rattle.time.specs.declared.Bound.TheVariants.{Included, Excluded, Unbounded}
use Rattle.graph_tables.specs.Layout.{bound_span, included_kind, excluded_kind}
use Rattle.graph_tables.specs.Sizes.{limit_room, message_room, word32}
use Rattle.graph_tables.specs.declared.handed.Limit.{Limit}
use Rattle.graph_tables.specs.declared.ids.Var.{Var}
use Rattle.graph_tables.specs.Handed.{blank_limit, handed_var}
use Rattle.graph_tables.specs.Words.{clock_count, effect_var, effect_items, clock_of, limit_range, bound_of}
use Rattle.graph_tables.specs.Sound.{LimitsSound}
use Rattle.graph_edits.specs.Edits.{BoundFits, LimitsFit, ClocksKnown}
use Rattle.graph_edits.specs.Lists.{list_of, insert_sorted, StoredLimit, limit_at, limits_of, handed_limit, sorted_limits}
use Rattle.graph_edits.proofs.ListLaws.{list_same}
use Rattle.graph_builder.specs.Reading.{in_order}
use Rattle.graph_builder.specs.Built.{limit_back, limits_back, var_back, vars_back, message_back}
use Rattle.graph_builder.proofs.ExactLaws.{list_at, insert_next, ascending}

-- ---- limits
-- the time of a bound that a word stands for
either_fits : (b : Bool) (x y : Bound) → BoundFits x → BoundFits y → BoundFits (cond b x y)
either_fits true x y p q = p
either_fits false x y p q = q

bound_back_fits : (w : ℕ) → w / bound_span < word32 → BoundFits (bound_of w)
bound_back_fits w h =
    either_fits (eqb (w % bound_span) included_kind) (Included (w / bound_span)) _ h
    (either_fits (eqb (w % bound_span) excluded_kind) (Excluded (w / bound_span)) Unbounded h tt)

module _ (t : List ℕ) (g n : ℕ) (few : n ≤ limit_room) where
  limit_back_lem : (i : ℕ) → i < n
      → get_or (limits_back t g n).limits i blank_limit ≡ (record { clock = record { 0 = clock_of t g i }; range = limit_range t g i })
  limit_back_lem i l =
      list_at (limit_back t g n) blank_limit limit_room i (omega arith)
      ∙ rw (lt-ltb i n l)

  pub handed_back : (i : ℕ) → i < n → handed_limit (limits_back t g n) i ≡ limit_at t g i
  handed_back i l = ap (λ (x : Limit). record { clock = x.clock.0; range = x.range }) (limit_back_lem i l)

module _ (t : List ℕ) (g n : ℕ) (s : LimitsSound t g n) where
  pub limits_fit : LimitsFit (limits_back t g n)
  limits_fit i l =
      subst (λ (x : StoredLimit). BoundFits x.range.lower × BoundFits x.range.upper) (sym (handed_back t g n s.few i l))
      (bound_back_fits _ (s.fit i l).0, bound_back_fits _ (s.fit i l).1)

  pub clocks_known_lem : (u : List ℕ) → clock_count u ≡ clock_count t → ClocksKnown u (limits_back t g n)
  clocks_known_lem u e i l =
      subst (λ (x : StoredLimit). x.clock < clock_count u) (sym (handed_back t g n s.few i l)) (rw e (s.clock i l))

  sorted_back : (m : ℕ) → m ≤ n → sorted_limits (limits_back t g n) m ≡ limits_of t g m
  unfolding sorted_limits list_of
  sorted_back zero l = refl
  sorted_back (suc m) l =
      ap (λ (x : StoredLimit). insert_sorted number x (sorted_limits (limits_back t g n) m)) (handed_back t g n s.few m (omega arith))
      ∙ ap (insert_sorted number (limit_at t g m)) (sorted_back m (omega arith))
      ∙ insert_next number (limit_at t g) m (λ i q. ascending (clock_of t g) n s.ordered i m (omega arith) (omega arith))
    where
      number : StoredLimit → ℕ
      number x = x.clock

  pub limits_back_lem : in_order (limits_back t g n) ≡ limits_of t g n
  limits_back_lem = sorted_back n (omega arith)

-- ---- messages
-- the expressions of a send
pub expression_back : (t : List ℕ) (a e : ℕ) → e < message_room → message_back t a e ≡ effect_items t a e
expression_back t a zero l = refl
expression_back t a (suc zero) l = refl
expression_back t a (suc (suc zero)) l = refl
expression_back t a (suc (suc (suc zero))) l = refl
expression_back t a (suc (suc (suc (suc e)))) l = absurd (omega arith)

-- the variables of a receive
module _ (t : List ℕ) (a n : ℕ) (few : n ≤ message_room) where
  pub var_back_lem : (e : ℕ) → e < n → handed_var (vars_back t a n) e ≡ effect_var t a e
  var_back_lem e l =
      ap (λ (x : Var). x.0) (list_at (var_back t a n) (record { 0 = 0 }) message_room e (omega arith)) ∙ rw (lt-ltb e n l)

  pub vars_back_lem : list_of (handed_var (vars_back t a n)) n ≡ list_of (effect_var t a) n
  vars_back_lem = list_same (effect_var t a) (handed_var (vars_back t a n)) n var_back_lem
