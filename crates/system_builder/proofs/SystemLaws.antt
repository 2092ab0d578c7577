-- What the checks of a system say, and laws of calls on one of its graphs.
use Rattle.graph_tables.specs.Answers.{admitted}
use Prim.Native.Nat.{ℕ, ◌+◌, ◌-◌, ◌≤◌, ◌<◌}
use mathlib.Core.Path.{◌≡◌}
use mathlib.Core.Bool.{Bool, true, false}
use mathlib.Core.List.{List, ◌++◌}
use native.Mathlib.Omega.{arith}
use borrow.Author.Tests.{ltb-true, leb-true}
use lib.ListN.{length, take, drop, length-drop}
use lib.Seq.{length-take-le}
use Rattle.graph_tables.specs.Layout.{table_words}
use Rattle.graph_tables.specs.Sizes.{message_room}
use Rattle.graph_checks.proofs.CheckLaws.{unless_on}
use Rattle.system_tables.specs.Sizes.{graph_room, channel_room}
use Rattle.system_tables.specs.Layout.{graph_start}
use Rattle.system_tables.specs.Words.{SystemWords, graph_count, channel_count, graph_part, with_graph}
use Rattle.system_tables.specs.Ceiling.{has_room}
use Rattle.system_tables.specs.Formed.{system_formed}
use Rattle.system_tables.specs.declared.ids.ChannelCapacity.{ChannelCapacity}
use Rattle.system_tables.specs.Sound.{BoundFits}
use Rattle.system_tables.proofs.SoundLaws.{system_sound}
use Rattle.system_tables.proofs.KeptLaws.{apart}
use Rattle.system_builder.specs.declared.handed.Kinds.{Kinds}
use Rattle.system_builder.specs.Systems.{graph_check, channel_check, read_check}
use Rattle.system_builder.specs.Graphs.{member_check}

pub words_of : (t : List ℕ) (b : Bool) → system_formed t b ≡ true → SystemWords t
words_of t b h = (apart t b h).words

-- ---- what an accepted check says
pub graph_ready : (t : List ℕ) → graph_check t ≡ admitted → (system_formed t true ≡ true) × (graph_count t < graph_room)
unfolding graph_check
graph_ready t e = let a = unless_on _ _ _ e in (a.0, ltb-true _ _ (unless_on _ _ _ a.1).0)

pub record ChannelReady (t : List ℕ) (k : Kinds) (c : ChannelCapacity) : Type 0 where
  pub formed : system_formed t true ≡ true
  pub few : k.count ≤ message_room
  pub room : has_room k.count c ≡ true
  pub more : channel_count t < channel_room

pub channel_ready : (t : List ℕ) (k : Kinds) (c : ChannelCapacity) → channel_check t k c ≡ admitted → ChannelReady t k c
unfolding channel_check
channel_ready t k c e =
    let a = unless_on _ _ _ e in
    let b = unless_on _ _ _ a.1 in
    let d = unless_on _ _ _ b.1 in
    record { formed = a.0; few = leb-true _ _ b.0; room = d.0; more = ltb-true _ _ (unless_on _ _ _ d.1).0 }

pub member_ready : (t : List ℕ) (g : ℕ) → member_check t g ≡ admitted → (system_formed t true ≡ true) × (g < graph_count t)
unfolding member_check
member_ready t g e = let a = unless_on _ _ _ e in (a.0, ltb-true _ _ (unless_on _ _ _ a.1).0)

pub record ReadReady (t : List ℕ) (q : ℕ) : Type 0 where
  pub words : SystemWords t
  pub channel : q < channel_room
  pub bound : BoundFits t q

pub read_ready : (t : List ℕ) (q : ℕ) → read_check t q ≡ admitted → ReadReady t q
unfolding read_check
read_ready t q e =
    let a = unless_on _ _ _ e in
    let known : q < channel_count t = ltb-true _ _ (unless_on _ _ _ a.1).0 in
    let s = system_sound t false a.0 in
    record { words = s.words; channel = omega (arith, known, s.channels); bound = (s.channel q known).bound }

-- so its words are there
pub known_graph : (t : List ℕ) (g : ℕ) → member_check t g ≡ admitted → SystemWords t × (g < graph_room)
known_graph t g e =
    let r = member_ready t g e in
    let f = apart t true r.0 in
    (f.words, omega (arith, r.1, f.graphs))

-- ---- the part of the table that a graph's call is lent, and the table with what it leaves there
pub part_read : (t : List ℕ) (g a e : ℕ) → a ≡ graph_start g → e ≡ a + table_words → take (e - a) (drop a t) ≡ graph_part t g
part_read t g a e start end =
    let size : e - a ≡ table_words = omega arith in
    rw (size, start)

pub part_written : (t : List ℕ) (g a e : ℕ) → a ≡ graph_start g → e ≡ a + table_words → (new : List ℕ)
    → take a t ++ (new ++ drop (e - a) (drop a t)) ≡ with_graph t g new
part_written t g a e start end new =
    let size : e - a ≡ table_words = omega arith in
    rw (size, start)

-- the words of a graph are as many as a graph has
pub part_size : (t : List ℕ) (g : ℕ) → SystemWords t → g < graph_room → length (graph_part t g) ≡ table_words
part_size t g words small =
    length-take-le table_words (drop (graph_start g) t) (rw (length-drop (graph_start g) t) (omega arith))
