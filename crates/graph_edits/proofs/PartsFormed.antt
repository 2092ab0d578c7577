-- A table that is well formed stays so with a clock, a process or a variable more.
use Prim.Native.Nat.{ℕ, ◌<◌}
use mathlib.Core.Path.{◌≡◌, refl, ◌∙◌}
use mathlib.Core.Bool.{true, cond}
use mathlib.Core.List.{List}
use native.Mathlib.Omega.{arith}
use borrow.Author.Tests.{lt-ltb}
use lib.Dec.{eqb, ltb}
use lib.ListN.{set, length-set}
use lib.Seq.{get_or-set_same, get_or-set_other}
use Rattle.laws.specs.Below.{◌and◌, all_below}
use Rattle.laws.proofs.BelowLaws.{and_both, all_kept}
use Rattle.graph_tables.specs.Layout.{variables_cell, clocks_cell, locations_cell, processes_cell, kind_cell, value_cell, place_cell}
use Rattle.graph_tables.specs.Sizes.{process_room, variable_room, clock_room, word32}
use Rattle.graph_tables.specs.Words.{Words, variable_count, clock_count, location_count, process_count, invariant_count, place_at, kind_at}
use Rattle.graph_tables.specs.Words.{value_at, invariant_group}
use Rattle.graph_tables.specs.Formed.{variable_formed, zero_inside, process_formed}
use Rattle.graph_tables.proofs.KeptLaws.{Formed, zero_kept}
use Rattle.graph_edits.specs.Edits.{with_var, with_clock, with_process}
use Rattle.graph_edits.proofs.GrownFormed.{LocationStands, few_invariants}
use Rattle.graph_edits.proofs.SpareFormed.{Agrees, spare_kind_lem, spare_value, spare_place, set_agrees, locations_agree, agrees_formed}
use Rattle.graph_edits.proofs.SpareFormed.{raised_formed}

pub clock_formed : (t : List ℕ) → Formed t → clock_count t < clock_room → Formed (with_clock t)
clock_formed t formed room =
    raised_formed t clocks_cell (clock_count t) formed (omega arith) refl (omega arith)
    (λ e. absurd (omega arith)) (λ e. absurd (omega arith)) (λ e. absurd (omega arith)) (λ e. absurd (omega arith))

pub process_formed_lem : (t : List ℕ) (l : ℕ) → Formed t → process_count t < process_room → l < location_count t
    → all_below (invariant_count t l) (zero_inside t (invariant_group l)) ≡ true → Formed (with_process t l)
unfolding process_formed
process_formed_lem t l formed room known inside =
    raised_formed u processes_cell n (agrees_formed t u formed words agrees) (omega arith) (agrees processes_cell (λ s. omega arith))
    (omega arith)
    (λ e. absurd (omega arith))
    (λ e. absurd (omega arith))
    (λ e. absurd (omega arith))
    (λ e.
    rw (place, agrees locations_cell (λ s. omega arith), stands.count)
    (and_both (lt-ltb _ _ known)
    (all_kept (zero_inside t (invariant_group l)) (zero_inside u (invariant_group l)) (invariant_count t l)
    (λ i m z. zero_kept t u (invariant_group l) (invariant_group l) stands.group i
    (omega (arith, few_invariants t l (formed.location l known))) ∙ z)
    inside)))
  where
    n : ℕ
    n = process_count t

    u : List ℕ
    u = set t (place_cell n) l

    words : Words u
    words = simp length-set formed.words

    agrees : Agrees t u
    agrees = set_agrees t t (place_cell n) l (spare_place t formed.counts room) (λ j used. refl)

    place : place_at u n ≡ l
    place = get_or-set_same t (place_cell n) l 0 (omega arith)

    stands : LocationStands t u l
    stands = locations_agree t u formed words agrees l known

-- ---- a variable
pub var_formed : (t : List ℕ) (kind value : ℕ) → Formed t → variable_count t < variable_room
    → cond (eqb kind 0) (ltb value 2) (eqb kind 1 and ltb value word32) ≡ true → Formed (with_var t kind value)
unfolding variable_formed
var_formed t kind value formed room fits =
    raised_formed u variables_cell n (agrees_formed t u formed words agrees) (omega arith) (agrees variables_cell (λ s. omega arith))
    (omega arith)
    (λ e. rw (kind_at_lem, value_at_lem) fits) (λ e. absurd (omega arith)) (λ e. absurd (omega arith)) (λ e. absurd (omega arith))
  where
    n : ℕ
    n = variable_count t

    u : List ℕ
    u = set (set t (kind_cell n) kind) (value_cell n) value

    words : Words u
    words = simp length-set formed.words

    agrees : Agrees t u
    agrees =
        set_agrees t (set t (kind_cell n) kind) (value_cell n) value (spare_value t formed.counts room)
        (set_agrees t t (kind_cell n) kind (spare_kind_lem t formed.counts room) (λ j used. refl))

    kind_at_lem : kind_at u n ≡ kind
    kind_at_lem =
        get_or-set_other (set t (kind_cell n) kind) (value_cell n) (kind_cell n) value 0 (λ e. omega arith)
        ∙ get_or-set_same t (kind_cell n) kind 0 (omega arith)

    value_at_lem : value_at u n ≡ value
    value_at_lem = get_or-set_same (set t (kind_cell n) kind) (value_cell n) value 0 (simp length-set (omega arith))
