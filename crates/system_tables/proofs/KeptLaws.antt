-- A well-formed system part by part, and a table that has all that another has: what is well formed in the one is well formed in
-- the other.
use Prim.Native.Nat.{ℕ, ◌+◌, ◌≤◌, ◌<◌}
use mathlib.Core.Path.{◌≡◌, refl, ◌∙◌}
use mathlib.Core.Bool.{Bool, true}
use mathlib.Core.List.{List}
use native.Mathlib.Nat.{add-zero, lt_of_lt_of_le}
use native.Mathlib.Omega.{arith}
use borrow.Author.Tests.{ltb-true, leb-true, eqb-true, lt-ltb, le-leb, eq-eqb}
use lib.Dec.{eqb}
use Rattle.laws.specs.Below.{all_below}
use Rattle.laws.proofs.BelowLaws.{and_first, and_rest, and_both, and_kept}
use Rattle.laws.proofs.BelowLaws.{all_none, all_more, all_at, all_from, all_kept}
use Rattle.graph_tables.specs.Sizes.{message_room}
use Rattle.graph_tables.specs.Words.{action_count}
use Rattle.graph_tables.specs.Messages.{is_plain, is_send, is_receive, message_count, value_kind}
use Rattle.graph_tables.proofs.KeptLaws.{choice_kept}
use Rattle.system_tables.specs.Sizes.{graph_room, channel_room, no_communication, send_message, receive_message}
use Rattle.system_tables.specs.Layout.{kinds_from, sort_from, capacity_from}
use Rattle.system_tables.specs.Words.{SystemWords, graph_count, channel_count, width_of, channel_kind, sort_of, bound_of, graph_part}
use Rattle.system_tables.specs.Words.{communication_at, message_part, channel_part}
use Rattle.system_tables.specs.Formed.{system_counted, graph_formed, channel_kind_formed, capacity_formed, channel_formed, value_fits}
use Rattle.system_tables.specs.Formed.{message_fits, send_fits, receive_fits, probe_formed, message_formed, communication_fits}
use Rattle.system_tables.specs.Formed.{communication_formed, communications_formed, members_formed, system_formed}
use Rattle.system_tables.proofs.FormedLaws.{few_graphs, few_channels}
use Rattle.system_tables.proofs.FrameLaws.{ChannelSame}

-- ---- a well-formed table, part by part
pub record Formed (t : List ℕ) (building : Bool) : Type 0 where
  pub words : SystemWords t
  pub graphs : graph_count t ≤ graph_room
  pub channels : channel_count t ≤ channel_room
  pub graph : (g : ℕ) → g < graph_count t → graph_formed t building g ≡ true
  pub channel : (q : ℕ) → q < channel_count t → channel_formed t q ≡ true
  pub communications : (g : ℕ) → g < graph_count t → communications_formed t g ≡ true

-- from the test to the parts, and back
pub apart : (t : List ℕ) (building : Bool) → system_formed t building ≡ true → Formed t building
unfolding system_formed members_formed
apart t building h =
    let counted : system_counted t ≡ true = and_first _ _ (and_rest _ _ h) in
    let members : members_formed t building ≡ true = and_rest _ _ (and_rest _ _ h) in
    record {
      words = eqb-true _ _ (and_first _ _ h);
      graphs = few_graphs t counted;
      channels = few_channels t counted;
      graph = λ g. all_at (graph_formed t building) _ g (and_first _ _ members);
      channel = λ q. all_at (channel_formed t) _ q (and_first _ _ (and_rest _ _ members));
      communications = λ g. all_at (communications_formed t) _ g (and_rest _ _ (and_rest _ _ members));
    }

pub together : (t : List ℕ) (building : Bool) → Formed t building → system_formed t building ≡ true
unfolding system_formed system_counted members_formed
together t building f =
    and_both (eq-eqb _ _ f.words)
    (and_both (and_both (le-leb _ _ f.graphs) (le-leb _ _ f.channels))
    (and_both (all_from (graph_formed t building) _ f.graph)
    (and_both (all_from (channel_formed t) _ f.channel) (all_from (communications_formed t) _ f.communications))))

-- ---- graphs: the words of graph g are the same
pub graph_kept : (t u : List ℕ) (building : Bool) (g : ℕ) → graph_part u g ≡ graph_part t g
    → graph_formed t building g ≡ true → graph_formed u building g ≡ true
unfolding graph_formed
graph_kept t u building g same h = rw same h

-- ---- channels: the row of channel q is the same
module _ (t u : List ℕ) (q : ℕ) (same : ChannelSame t u q) where
  pub width_same : width_of u q ≡ width_of t q
  width_same = simp add-zero at (same 0 (omega arith))

  pub kind_same : (e : ℕ) → e < message_room → channel_kind u q e ≡ channel_kind t q e
  kind_same e l = same (kinds_from + e) (omega arith)

  pub sort_same : sort_of u q ≡ sort_of t q
  sort_same = same sort_from (omega arith)

  pub bound_same : bound_of u q ≡ bound_of t q
  bound_same = same capacity_from (omega arith)

  pub channel_kept : channel_formed t q ≡ true → channel_formed u q ≡ true
  unfolding channel_formed capacity_formed channel_kind_formed
  channel_kept h =
      let few : width_of t q ≤ message_room = leb-true _ _ (and_first _ _ h) in
      rw (width_same, sort_same, bound_same)
      (and_kept (λ r. r)
      (and_kept
      (all_kept (channel_kind_formed t q) (channel_kind_formed u q) (width_of t q) (λ e l f. rw (kind_same e (omega arith)) f))
      (λ r. r))
      h)

-- ---- communications: an action of G is the same in H; a plain one may have got an effect more
pub record MessageSame (G H : List ℕ) (a : ℕ) : Type 0 where
  pub count : message_count H a ≡ message_count G a
  pub kind : (e : ℕ) → e < message_count G a → value_kind H a e ≡ value_kind G a e

pub record ActionSame (G H : List ℕ) (a : ℕ) : Type 0 where
  pub plain : is_plain H a ≡ is_plain G a
  pub send : is_send H a ≡ is_send G a
  pub receive : is_receive H a ≡ is_receive G a
  pub sent : is_send G a ≡ true → MessageSame G H a
  pub received : is_receive G a ≡ true → MessageSame G H a

pub same_action : (G : List ℕ) (a : ℕ) → ActionSame G G a
same_action G a =
    let same : MessageSame G G a = record { count = refl; kind = λ e l. refl } in
    record { plain = refl; send = refl; receive = refl; sent = λ h. same; received = λ h. same }

-- u has the channels of t, of the same kinds, and perhaps more
pub record ChannelsGrown (t u : List ℕ) : Type 0 where
  pub more : channel_count t ≤ channel_count u
  pub width : (q : ℕ) → q < channel_count t → width_of u q ≡ width_of t q
  pub kind : (q e : ℕ) → q < channel_count t → e < width_of t q → channel_kind u q e ≡ channel_kind t q e

-- where their rows are the same
pub rows_grown : (t u : List ℕ) → channel_count t ≤ channel_count u → ((q : ℕ) → q < channel_count t → ChannelSame t u q)
    → ((q : ℕ) → q < channel_count t → width_of t q ≤ message_room) → ChannelsGrown t u
rows_grown t u more row few = record {
  more = more;
  width = λ q l. width_same t u q (row q l);
  kind = λ q e l m. kind_same t u q (row q l) e (lt_of_lt_of_le m (few q l));
}

module _ (t u : List ℕ) {G H : List ℕ} {a : ℕ} (act : ActionSame G H a) where
  module _ (q : ℕ) (wide : width_of u q ≡ width_of t q) (kinds : (e : ℕ) → e < width_of t q → channel_kind u q e ≡ channel_kind t q e) where
    message_kept : MessageSame G H a → message_fits t q G a ≡ true → message_fits u q H a ≡ true
    unfolding message_fits value_fits
    message_kept same h =
        let n : message_count G a ≡ width_of t q = eqb-true _ _ (and_first _ _ h) in
        rw (same.count, wide)
        (and_kept (λ r. r)
        (all_kept (value_fits t q G a) (value_fits u q H a) (width_of t q)
        (λ e l f. rw (same.kind e (omega arith), kinds e l) f))
        h)

    send_kept : send_fits t q G a ≡ true → send_fits u q H a ≡ true
    unfolding send_fits
    send_kept h = let s = and_first _ _ h in and_both (act.send ∙ s) (message_kept (act.sent s) (and_rest _ _ h))

    receive_kept : receive_fits t q G a ≡ true → receive_fits u q H a ≡ true
    unfolding receive_fits
    receive_kept h = let s = and_first _ _ h in and_both (act.receive ∙ s) (message_kept (act.received s) (and_rest _ _ h))

    probe_kept : (k : ℕ) → probe_formed k G a ≡ true → probe_formed k H a ≡ true
    unfolding probe_formed
    probe_kept k h =
        and_kept (λ r. r) (λ f. let s : is_send G a ≡ true = and_first _ _ f in rw (act.send, (act.sent s).count) f) h

    formed_kept : (k : ℕ) → message_formed t k q G a ≡ true → message_formed u k q H a ≡ true
    unfolding message_formed
    formed_kept k h = choice_kept (eqb k send_message) send_kept (choice_kept (eqb k receive_message) receive_kept (probe_kept k)) h

  pub fits_kept : ChannelsGrown t u → (w : ℕ) → communication_fits t w G a ≡ true → communication_fits u w H a ≡ true
  unfolding communication_fits
  fits_kept grown w h =
      choice_kept (eqb w no_communication) (λ f. act.plain ∙ f)
      (λ f.
      let known : channel_part w < channel_count t = ltb-true _ _ (and_first _ _ f) in
      and_both (lt-ltb _ _ (lt_of_lt_of_le known grown.more))
      (formed_kept (channel_part w) (grown.width _ known) (λ e. grown.kind _ e known) (message_part w) (and_rest _ _ f)))
      h

module _ {t u : List ℕ} (grown : ChannelsGrown t u) (g : ℕ) where
  pub communication_kept : (a : ℕ) → communication_at u g a ≡ communication_at t g a → ActionSame (graph_part t g) (graph_part u g) a
      → communication_formed t g a ≡ true → communication_formed u g a ≡ true
  unfolding communication_formed
  communication_kept a same act h = rw same (fits_kept t u act grown (communication_at t g a) h)

  -- of the actions that the graph had: each is the same, and so is its communication
  module _ (same : (a : ℕ) → a < action_count (graph_part t g) → communication_at u g a ≡ communication_at t g a)
      (act : (a : ℕ) → a < action_count (graph_part t g) → ActionSame (graph_part t g) (graph_part u g) a)
      (h : communications_formed t g ≡ true) where
    old_kept : all_below (action_count (graph_part t g)) (communication_formed u g) ≡ true
    unfolding communications_formed
    old_kept =
        all_from (communication_formed u g) _
        (λ a l. communication_kept a (same a l) (act a l) (all_at (communication_formed t g) (action_count (graph_part t g)) a h l))

    -- it has no other; or it has one more, whose communication fits
    pub communications_kept : action_count (graph_part u g) ≡ action_count (graph_part t g) → communications_formed u g ≡ true
    unfolding communications_formed
    communications_kept count = rw count old_kept

    pub communications_more : action_count (graph_part u g) ≡ action_count (graph_part t g) + 1
        → communication_formed u g (action_count (graph_part t g)) ≡ true → communications_formed u g ≡ true
    unfolding communications_formed
    communications_more count one = rw count (all_more (communication_formed u g) (action_count (graph_part t g)) old_kept one)

-- a graph without an action
pub no_communications : (u : List ℕ) (g : ℕ) → action_count (graph_part u g) ≡ 0 → communications_formed u g ≡ true
unfolding communications_formed
no_communications u g none = rw none (all_none (communication_formed u g))
