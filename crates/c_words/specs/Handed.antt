-- Arguments of C as what the calls take. Lists are words, any number of them: the count is theirs, and as many are read as there is room for.
use Rattle.std.specs.Prelude.{ℕ, ◌+◌, ◌*◌, ◌/◌, ◌%◌, Bool, cond, List, [], ◌∷◌, eqb, leb, ltb, length, get_or}
use Rattle.laws.specs.Below.{◌and◌, all_below}
use Rattle.grammar.specs.Slots.{val_of, is_value}
use Rattle.grammar.specs.declared.values.«Type».TheVariants as Kinded
use Rattle.grammar.specs.declared.values.Slot.{Slot}
use Rattle.time.specs.declared.Bound.{Bound}
use Rattle.graph_tables.specs.Sizes.{word32}
use Rattle.graph_tables.specs.Layout.{bound_span}
use Rattle.graph_tables.specs.Words.{bound_of, bound_word}
use Rattle.graph_tables.specs.declared.ids.Var.{Var}
use Rattle.graph_tables.specs.declared.handed.Limit.{Limit}
use Rattle.graph_tables.specs.declared.handed.Limits.{Limits}
use Rattle.graph_tables.specs.declared.handed.Vars.{Vars}
use Rattle.graph_tables.specs.declared.handed.Message.{Message}
use Rattle.system_builder.specs.declared.handed.Kind.{Kind}
use Rattle.system_builder.specs.declared.handed.Kinds.{Kinds}

-- ---- kinds: 0 boolean, 1 integer
unfoldable pub kind_known : List ℕ → ℕ → Bool
kind_known ks i = leb (get_or ks i 0) 1

unfoldable pub kinds_known : List ℕ → Bool
kinds_known ks = all_below (length ks) (kind_known ks)

unfoldable pub kind_from : List ℕ → ℕ → Kind
kind_from ks i = cond (eqb (get_or ks i 0) 0) (record { kind = Kinded.Boolean }) (record { kind = Kinded.Integer })

unfoldable pub kinds_from : List ℕ → Kinds
kinds_from ks = record { kinds = kind_from ks 0 ∷ kind_from ks 1 ∷ kind_from ks 2 ∷ kind_from ks 3 ∷ []; count = length ks }

-- a channel: each kind is one, and the sort of its capacity is 0, 1 or 2
unfoldable pub channel_known : List ℕ → ℕ → Bool
channel_known ks sort = kinds_known ks and leb sort 2

-- ---- variables
unfoldable pub var_from : List ℕ → ℕ → Var
var_from vs i = record { 0 = get_or vs i 0 }

unfoldable pub vars_from : List ℕ → Vars
vars_from vs = record { vars = var_from vs 0 ∷ var_from vs 1 ∷ var_from vs 2 ∷ var_from vs 3 ∷ []; count = length vs }

-- ---- values: two words each, a kind and a payload
unfoldable pub value_known : List ℕ → ℕ → Bool
value_known ws i = is_value (get_or ws (2 * i) 0) (get_or ws (2 * i + 1) 0)

unfoldable pub values_known : List ℕ → Bool
values_known ws = eqb (length ws % 2) 0 and all_below (length ws / 2) (value_known ws)

-- the one whose words start at a place
unfoldable pub slot_from : List ℕ → ℕ → Slot
slot_from ws at = record { value = val_of (get_or ws at 0) (get_or ws (at + 1) 0) }

unfoldable pub message_from : List ℕ → Message
message_from ws =
    record { values = slot_from ws 0 ∷ slot_from ws 2 ∷ slot_from ws 4 ∷ slot_from ws 6 ∷ []; count = length ws / 2 }

-- ---- limits: three words each, a clock and two bounds as a table has them
-- of a word the bits that a bound has
unfoldable pub bound_from : ℕ → Bound
bound_from w = bound_of (w % (bound_span * word32))

-- it is the word of the bound that it stands for
unfoldable pub bound_known : ℕ → Bool
bound_known w = eqb (bound_word (bound_from w)) w

unfoldable pub limit_known : List ℕ → ℕ → Bool
limit_known ws i = ltb (get_or ws (3 * i) 0) word32 and (bound_known (get_or ws (3 * i + 1) 0) and bound_known (get_or ws (3 * i + 2) 0))

unfoldable pub limits_known : List ℕ → Bool
limits_known ws = eqb (length ws % 3) 0 and all_below (length ws / 3) (limit_known ws)

-- the one whose words start at a place
unfoldable pub limit_from : List ℕ → ℕ → Limit
limit_from ws at =
    record {
      clock = record { 0 = get_or ws at 0 % word32 };
      range = record { lower = bound_from (get_or ws (at + 1) 0); upper = bound_from (get_or ws (at + 2) 0) };
    }

unfoldable pub limits_from : List ℕ → Limits
limits_from ws =
    record {
      limits =
          limit_from ws 0 ∷ limit_from ws 3 ∷ limit_from ws 6 ∷ limit_from ws 9 ∷ limit_from ws 12 ∷ limit_from ws 15 ∷ limit_from ws 18 ∷
          limit_from ws 21 ∷ [];
      count = length ws / 3;
    }
