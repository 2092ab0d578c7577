use borrow.Author.Tests.{lt-ltb, le-ltb, eq-eqb, ne_eqb}
use Rattle.laws.proofs.BelowLaws.{and_yes, and_no}
use native.Mathlib.Omega.{arith}
use Rattle.system_tables.specs.Words.{channel_count}
use Rattle.system_tables.specs.Formed.{communication_fits}
use Rattle.system_tables.proofs.FormedLaws.{channel_width}
use Prim.Native.Nat.{◌<◌}
use Rattle.system_tables.proofs.formed.communication_fits.Goals as goal

pub returns-then-w-eq-NO_COMMUNICATION : goal.returns-then-w-eq-NO_COMMUNICATION
unfolding communication_fits
returns-then-w-eq-NO_COMMUNICATION c = rw (eq-eqb _ _ c.if-w-eq-NO_COMMUNICATION.true) c.is_plain.ensures

pub returns-then-channel_count-q : goal.returns-then-channel_count-q
unfolding communication_fits
returns-then-channel_count-q c =
    rw (ne_eqb _ _ c.if-w-eq-NO_COMMUNICATION.false)
    (and_no _ (le-ltb _ _ (rw (c.channel_count.ensures, c.channel_part-q.ensures) at c.if-channel_count-q.true)))

pub message_formed-requires : goal.message_formed-requires
message_formed-requires c =
    let t = c.args.t.now in
    let q = c.channel_part-q.result in
    let known : q < channel_count t = omega (arith, c.channel_count.ensures, c.if-channel_count-q.false) in
    ((c.requires.0.0, omega (arith, c.requires.0.1), channel_width t (channel_count t) q c.requires.0.2 known), c.requires.1)

pub returns : goal.returns
unfolding communication_fits
returns c =
    rw (ne_eqb _ _ c.if-w-eq-NO_COMMUNICATION.false)
    (and_yes (lt-ltb _ _ (rw (c.channel_count.ensures, c.channel_part-q.ensures) at c.if-channel_count-q.false))
    (rw (c.message_part.ensures, c.channel_part-q.ensures) at c.message_formed.ensures))
