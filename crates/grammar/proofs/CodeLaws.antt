-- An answer as one number.
use Prim.Native.Nat.{ℕ, zero, suc, ◌+◌, ◌*◌, ◌/◌, ◌%◌, ◌≤◌, ◌<◌}
use mathlib.Core.Path.{◌≡◌, refl, ap, ◌∙◌}
use mathlib.Core.Bool.{true}
use native.Mathlib.Omega.{arith}
use lib.ListN.{get_or, get_or-eq_default}
use Rattle.laws.proofs.Tests.{never}
use Rattle.grammar.specs.Run.{gives}
use Rattle.grammar.specs.Typing.{kinded, kinded_at, judged, told_of}
use Rattle.grammar.specs.Inner.{code_of, answers, typed_in}
use Rattle.grammar.specs.declared.values.«Type».TheVariants.{Boolean, Integer}
use Rattle.grammar.specs.declared.typing.Typed.{Typed}
use Rattle.grammar.specs.declared.typing.Typed.TheVariants.{Known, IllTyped, TableFull, TooDeep}
use Rattle.grammar.proofs.KindLaws.{judged_deep, judged_known}

-- the answer is told by the three lowest bits
pub at : (code k : ℕ) → code % 8 ≡ k → typed_in code ≡ get_or answers k TableFull
at code k e = ap (λ (i : ℕ). get_or answers i TableFull) e

pub past : (code : ℕ) → 5 ≤ code % 8 → typed_in code ≡ TableFull
past code h = get_or-eq_default answers TableFull {n = code % 8} h

-- it is taken apart again
pub typed_back : (t : Typed) (n : ℕ) → typed_in (code_of t n) ≡ t
typed_back (Known Boolean) n = at (8 * n + 0) 0 (omega arith)
typed_back (Known Integer) n = at (8 * n + 1) 1 (omega arith)
typed_back (TooDeep Boolean) n = at (8 * n + 2 + 0) 2 (omega arith)
typed_back (TooDeep Integer) n = at (8 * n + 2 + 1) 3 (omega arith)
typed_back IllTyped n = refl
typed_back TableFull n = refl

pub told_back : (t : Typed) (n : ℕ) → code_of t n / 8 ≡ told_of t n
told_back (Known Boolean) n = omega arith
told_back (Known Integer) n = omega arith
told_back (TooDeep Boolean) n = omega arith
told_back (TooDeep Integer) n = omega arith
told_back IllTyped n = refl
told_back TableFull n = refl

-- all draws are told where there is a kind
pub told_all : (t : Typed) (n : ℕ) → kinded t ≡ true → told_of t n ≡ n
told_all (Known k) n e = refl
told_all (TooDeep k) n e = refl
told_all IllTyped n e = never e
told_all TableFull n e = never e

-- a kind, and whether too many operands waited
pub code_deep : (k most draws n : ℕ) → k ≤ 1 → 16 < most → draws ≡ 8 * n → draws + k + 2 ≡ code_of (judged (gives (kinded_at k)) most) n
code_deep zero most draws n h d e = omega arith ∙ ap (λ (t : Typed). code_of t n) (judged_deep Boolean most d)
code_deep (suc zero) most draws n h d e = omega arith ∙ ap (λ (t : Typed). code_of t n) (judged_deep Integer most d)
code_deep (suc (suc k)) most draws n h d e = absurd (omega arith)

pub code_known : (k most draws n : ℕ) → k ≤ 1 → most ≤ 16 → draws ≡ 8 * n → draws + k ≡ code_of (judged (gives (kinded_at k)) most) n
code_known zero most draws n h d e = omega arith ∙ ap (λ (t : Typed). code_of t n) (judged_known Boolean most d)
code_known (suc zero) most draws n h d e = omega arith ∙ ap (λ (t : Typed). code_of t n) (judged_known Integer most d)
code_known (suc (suc k)) most draws n h d e = absurd (omega arith)
