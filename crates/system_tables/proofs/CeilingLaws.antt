-- What a queue has room for, and how few kinds of messages there are.
use Prim.Native.Nat.{ℕ, zero, suc, ◌+◌, ◌-◌, ◌*◌, ◌/◌, ◌%◌, ◌<◌, ◌≤◌}
use mathlib.Core.Path.{◌≡◌, refl, ap, ◌∙◌}
use mathlib.Core.Bool.{Bool, true, false, cond}
use native.Mathlib.Nat.{mul_comm, mul-add, mul-one, mul-le-mul_left, le-div_iff_mul-le, div-add-mod', mod-lt, mul-div-le}
use native.Mathlib.Omega.{arith}
use borrow.Author.Tests.{eq-eqb, ne_eqb}
use lib.Dec.{eqb}
use Rattle.system_tables.specs.Sizes.{full_message}
use Rattle.queues.specs.Layout.{slot_room}
use Rattle.queues.specs.Queues.{slots_for}
use Rattle.system_tables.specs.Words.{message_word}
use Rattle.system_tables.specs.Ceiling.{rounded_up, ceiling}
use Rattle.system_tables.specs.declared.ids.ChannelCapacity.{ChannelCapacity}
use Rattle.system_tables.specs.declared.ids.ChannelCapacity.TheVariants.{Bounded, Unbounded, Sink}
use Rattle.system_tables.specs.declared.ids.Message.{Message}
use Rattle.system_tables.specs.declared.ids.Message.TheVariants.{Send, Receive, ProbeEmptyQueue, ProbeFullQueue}

-- the kinds of messages are few
pub few_messages : (m : Message) → message_word m ≤ full_message
few_messages Send = omega arith
few_messages Receive = omega arith
few_messages ProbeEmptyQueue = omega arith
few_messages ProbeFullQueue = omega arith

-- k whole messages of s slots, and fewer than n slots: one more message ends at n rounded up or below
one_more : (s n k : ℕ) → 0 < s → s * k < n → s * k + s ≤ s * rounded_up n s
one_more s n k some h =
    let e : s * (k + 1) ≡ s * k + s = mul-add s k 1 ∙ ap (λ (x : ℕ). s * k + x) (mul-one s) in
    let below : s * k + s ≤ n + (s - 1) = omega arith in
    let up : k + 1 ≤ rounded_up n s = (le-div_iff_mul-le some).1 (rw (mul_comm (k + 1) s, e) below) in
    rw e at (mul-le-mul_left s up)

-- a bounded queue of whole messages in which fewer slots than its bound are taken has room for one more below its ceiling
pub one_more_fits : (width n k : ℕ) → slots_for width * k < n → slots_for width * k + slots_for width ≤ ceiling width (Bounded n)
unfolding ceiling
one_more_fits width n k h = by (slots_for width) h
  where
    by : (s : ℕ) → s * k < n → s * k + s ≤ cond (eqb s 0) 0 (s * rounded_up n s)
    by zero l = omega arith
    by (suc s) l = rw (ne_eqb (suc s) 0 (λ e. omega arith)) (one_more (suc s) n k (omega arith) l)

-- ---- the ceiling, case by case: of messages that take no slot, of a sink, without a bound, with one
pub no_slots : (width : ℕ) (c : ChannelCapacity) → slots_for width ≡ 0 → ceiling width c ≡ 0
unfolding ceiling
no_slots width c e = rw (eq-eqb _ _ e)

pub sink_ceiling : (width : ℕ) → ceiling width Sink ≡ 0
unfolding ceiling
sink_ceiling width = by (eqb (slots_for width) 0)
  where
    by : (b : Bool) → ◌≡◌ {A = ℕ} (cond b 0 0) 0
    by true = refl
    by false = refl

module _ (width : ℕ) (some : 0 < slots_for width) where
  taken : eqb (slots_for width) 0 ≡ false
  taken = ne_eqb (slots_for width) 0 (λ (e : slots_for width ≡ 0). omega arith)

  pub unbounded_ceiling : ceiling width Unbounded ≡ slot_room
  unfolding ceiling
  unbounded_ceiling = rw taken

  pub bounded_ceiling : (n : ℕ) → ceiling width (Bounded n) ≡ slots_for width * rounded_up n (slots_for width)
  unfolding ceiling
  bounded_ceiling n = rw taken

-- rounded up: at least n, and less than one message above it
pub up_least : (n d : ℕ) → 0 < d → n ≤ d * rounded_up n d
up_least n d some =
    let x = n + (d - 1) in
    let whole : x / d * d + x % d ≡ x = div-add-mod' x d in
    let rest : x % d < d = mod-lt x some in
    rw (mul_comm d (x / d)) (omega arith)

pub up_most : (n d : ℕ) → 0 < d → d * rounded_up n d < n + d
up_most n d some = let h : d * ((n + (d - 1)) / d) ≤ n + (d - 1) = mul-div-le (n + (d - 1)) d in omega arith
