-- Laws of kinds as numbers.
use Prim.Native.Nat.{ℕ, zero, suc, ◌≤◌, ◌<◌, ◌/◌, ◌%◌}
use mathlib.Core.Path.{◌≡◌, refl, sym, ap, ◌∙◌}
use mathlib.Core.List.{List, [], ◌∷◌}
use native.Mathlib.Nat.{not-suc-le-zero, le_of_suc-le-suc}
use borrow.Author.Tests.{le-leb, lt-leb}
use lib.ListN.{length, get_or}
use Rattle.laws.proofs.Ladder.{passed, stopped}
use Rattle.grammar.specs.Items.{Read, operand_of, item_of}
use Rattle.grammar.specs.Run.{made, gives}
use Rattle.grammar.specs.Typing.{of, ill, kinded_at, kind_step, judged}
use Rattle.grammar.specs.Inner.{operand_kind}
use Rattle.grammar.specs.declared.values.«Type».{«Type» as Kind}
use Rattle.grammar.specs.declared.typing.Typed.TheVariants.{Known, TooDeep}
use Rattle.grammar.proofs.ItemLaws.{high, operand_any}

pub kinded_ill : (n : ℕ) → (n ≡ 0 → ⊥) → (n ≡ 1 → ⊥) → kinded_at n ≡ ill
kinded_ill zero a b = absurd (a refl)
kinded_ill (suc zero) a b = absurd (b refl)
kinded_ill (suc (suc n)) a b = refl

-- within the list what stands past the end does not matter
pub get_d_any : (xs : List ℕ) (i a b : ℕ) → i < length xs → get_or xs i a ≡ get_or xs i b
get_d_any [] i a b h = absurd (not-suc-le-zero h)
get_d_any (x ∷ xs) zero a b h = refl
get_d_any (x ∷ xs) (suc i) a b h = get_d_any xs i a b (le_of_suc-le-suc h)

-- a word above 13 is an operand or nothing
pub operand_word : (kinds : List ℕ) (w : ℕ) → 14 ≤ w
    → operand_kind kinds (operand_of (w % 256) (w / 256)) ≡ made (kind_step kinds (item_of w)) ill ill
unfolding operand_kind
operand_word kinds w h =
    operand_any (λ (r : Read). operand_kind kinds r ≡ made (kind_step kinds r) ill ill) (λ v. refl) (w % 256) (w / 256) refl refl
    ∙ ap (λ (r : Read). made (kind_step kinds r) ill ill) (sym (high w h))

-- a kind is known, if no more than 16 operands waited
pub judged_deep : (k : Kind) (most : ℕ) → 16 < most → TooDeep k ≡ judged (gives (of k)) most
judged_deep k most d = stopped (TooDeep k) (Known k) (lt-leb most 16 d)

pub judged_known : (k : Kind) (most : ℕ) → most ≤ 16 → Known k ≡ judged (gives (of k)) most
judged_known k most d = passed (TooDeep k) (le-leb most 16 d) refl
