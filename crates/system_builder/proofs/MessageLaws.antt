-- What the checks of sends, receives and probes say.
use Rattle.std.specs.Prelude.{⊤}
use Rattle.graph_tables.specs.Answers.{Answer, admitted}
use Prim.Native.Nat.{ℕ, ◌<◌}
use mathlib.Core.Path.{◌≡◌}
use mathlib.Core.Bool.{Bool, true, false}
use mathlib.Core.List.{List}
use native.Mathlib.Omega.{arith}
use borrow.Author.Tests.{ltb-true}
use Rattle.laws.specs.Below.{all_below}
use Rattle.laws.proofs.BelowLaws.{all_at}
use Rattle.graph_tables.specs.Words.{variable_count}
use Rattle.graph_tables.specs.Handed.{handed_var}
use Rattle.graph_tables.specs.Sound.{Sound}
use Rattle.graph_tables.proofs.SoundLaws.{sound}
use Rattle.graph_tables.specs.declared.handed.Vars.{Vars}
use Rattle.graph_checks.specs.Checks.{var_known}
use Rattle.graph_checks.proofs.CheckLaws.{unless_on, then_both}
use Rattle.system_tables.specs.Sizes.{graph_room, channel_room}
use Rattle.system_tables.specs.Words.{SystemWords, channel_count, graph_part}
use Rattle.system_tables.proofs.KeptLaws.{apart}
use Rattle.system_builder.specs.Graphs.{member_check}
use Rattle.system_builder.specs.Messages.{known_check, if_read, send_check_on, receive_check_on}
use Rattle.system_builder.proofs.SystemLaws.{member_ready}
use Rattle.system_builder.proofs.ActionLaws.{part_formed}

-- ---- the kinds are asked where the list can be read
pub if_long : {few : Bool} (each : Bool) (check : Answer ⊤) → few ≡ false → admitted ≡ if_read few each check
unfolding if_read
if_long each check e = rw e

pub if_unread : {few each : Bool} (check : Answer ⊤) → few ≡ true → each ≡ false → admitted ≡ if_read few each check
unfolding if_read
if_unread check e h = rw (e, h)

pub if_read_lem : {few each : Bool} {r check : Answer ⊤} → few ≡ true → each ≡ true → r ≡ check → r ≡ if_read few each check
unfolding if_read
if_read_lem e h k = rw (e, h) k

-- ---- the variables of a receive are there
pub vars_known : (G : List ℕ) (v : Vars) (e : ℕ) → all_below v.count (var_known G v) ≡ true → e < v.count → handed_var v e < variable_count G
unfolding var_known
vars_known G v e h l = ltb-true _ _ (all_at (var_known G v) v.count e h l)

-- ---- the graph and the channel are there
pub known_member : (t : List ℕ) (g q : ℕ) → known_check t g q ≡ admitted → member_check t g ≡ admitted
unfolding known_check
known_member t g q e = (then_both _ _ e).0

pub record Known (t : List ℕ) (g q : ℕ) : Type 0 where
  pub sound : Sound (graph_part t g)
  pub words : SystemWords t
  pub graph : g < graph_room
  pub channel : q < channel_room

pub known_both : (t : List ℕ) (g q : ℕ) → known_check t g q ≡ admitted → Known t g q
unfolding known_check
known_both t g q e =
    let b = then_both _ _ e in
    let r = member_ready t g b.0 in
    let f = apart t true r.0 in
    record {
      sound = sound (graph_part t g) true (part_formed t g f r.1);
      words = f.words;
      graph = omega (arith, r.1, f.graphs);
      channel = omega (arith, ltb-true q (channel_count t) (unless_on _ _ _ b.1).0, f.channels);
    }

pub send_known : (t : List ℕ) (g q : ℕ) (m : ℕ → List ℕ) (count : ℕ) → send_check_on t g q m count ≡ admitted → known_check t g q ≡ admitted
unfolding send_check_on
send_known t g q m count e = (then_both _ _ e).0

pub receive_known : (t : List ℕ) (g q : ℕ) (v : Vars) → receive_check_on t g q v ≡ admitted → known_check t g q ≡ admitted
unfolding receive_check_on
receive_known t g q v e = (then_both _ _ e).0
