-- From what the library's call leaves to what is left here: the same, with numbers for its answer.
use Prim.Native.Nat.{ℕ}
use mathlib.Core.Path.{◌≡◌, ◌∙◌, ap}
use mathlib.Core.List.{List}
use lib.IntN.{ℤ}
use Rattle.wing_node.specs.Writer.{BodyEffect, body_effect}
use Rattle.wing_wire.specs.State.{state_of}
use Rattle.wing_wire.specs.Write.{WriteEffect, write_effect}
use Rattle.wing_wire.specs.Meter.{RequestEffect, request_effect, PacketEffect, packet_effect}
use Rattle.wing_wire.specs.declared.meter.Requested.{Requested}
use Rattle.wing_wire.specs.declared.meter.MetersRead.{MetersRead}
use Rattle.wing_meters.specs.Calls.{RowsEffect, rows_effect}
use Rattle.wing_meters.specs.declared.reading.Followed.{Followed}
use Rattle.wing_mirror.specs.Mirror.{SetEffect, set_effect, FeedEffect, lent_effect}
use Rattle.wing_mirror.specs.declared.answer.SetReply.{SetReply}
use Rattle.wing_mirror.specs.declared.answer.LentFeedReply.{LentFeedReply}
use Rattle.wing_listing.specs.Calls.{LoadEffect, load_effect}
use Rattle.wing_listing.specs.declared.answer.LoadReply.{LoadReply}
use Rattle.wing_c.specs.Numbers.{written_numbers, set_numbers, requested_numbers, meters_numbers, loaded_numbers, fed_numbers}
use Rattle.wing_c.specs.Written.{command, command_of, body_from, mirror_command, mirror_command_of, request, request_of, packet, packet_from, table_load, table_load_of}
use Rattle.wing_c.specs.Windows.{followed_numbers, rows_left, rows_from}
use Rattle.wing_c.specs.Kept.{kept_feed, state_after, feed_from}
use Rattle.wing_c.specs.declared.answers.WingWritten.{WingWritten}
use Rattle.wing_c.specs.declared.answers.WingSet.{WingSet}
use Rattle.wing_c.specs.declared.answers.WingFed.{WingFed}
use Rattle.wing_c.specs.declared.answers.WingRequested.{WingRequested}
use Rattle.wing_c.specs.declared.answers.WingMeters.{WingMeters}
use Rattle.wing_c.specs.declared.answers.WingLoaded.{WingLoaded}
use Rattle.wing_c.specs.declared.windows.WingFollowed.{WingFollowed}
use Rattle.wing_node.specs.Result.{Result}
use Rattle.std.specs.Prelude.{ℕ}

-- a command
pub command-as : {r : WingWritten} (w : Result ℕ) {out : List ℕ} {e : WriteEffect} → r ≡ written_numbers w → write_effect w out ≡ e → command r out ≡ command_of e
command-as w {out} p q = ap (λ (x : WingWritten). command x out) p ∙ ap command_of q

-- a definition written
pub body-as : {r : WingWritten} (w : Result ℕ) {out : List ℕ} {e : BodyEffect} → r ≡ written_numbers w → body_effect w out ≡ e → command r out ≡ body_from e
body-as w {out} p q = ap (λ (x : WingWritten). command x out) p ∙ ap body_from q

-- a set through the mirror
pub set-as : {r : WingSet} (s : SetReply) {out buffer : List ℕ} {e : SetEffect} → r ≡ set_numbers s.answer s.count → set_effect s out buffer ≡ e →
    mirror_command r out buffer ≡ mirror_command_of e
set-as s {out} {buffer} p q = ap (λ (x : WingSet). mirror_command x out buffer) p ∙ ap mirror_command_of q

-- a meter request
pub request-as : {r : WingRequested} (w : Result Requested) {out : List ℕ} {e : RequestEffect} → r ≡ requested_numbers w → request_effect w out ≡ e →
    request r out ≡ request_of e
request-as w {out} p q = ap (λ (x : WingRequested). request x out) p ∙ ap request_of q

-- a meter packet
pub packet-as : {r : WingMeters} (w : Result MetersRead) {out : List ℤ} {e : PacketEffect} → r ≡ meters_numbers w → packet_effect w out ≡ e → packet r out ≡ packet_from e
packet-as w {out} p q = ap (λ (x : WingMeters). packet x out) p ∙ ap packet_from q

-- a window's readings
pub rows_as : {r : WingFollowed} (f : Followed) {out : List ℤ} {e : RowsEffect} → r ≡ followed_numbers f → rows_effect f out ≡ e →
    rows_left r out ≡ rows_from e
rows_as f {out} p q = ap (λ (x : WingFollowed). rows_left x out) p ∙ ap rows_from q

-- a load
pub load-as : {r : WingLoaded} (a : LoadReply) {buffer : List ℕ} {e : LoadEffect} → r ≡ loaded_numbers a.answer → load_effect a buffer ≡ e →
    table_load r buffer ≡ table_load_of e
load-as a {buffer} p q = ap (λ (x : WingLoaded). table_load x buffer) p ∙ ap table_load_of q

-- a feed
pub feed-as : {r : WingFed} (f : LentFeedReply) (before : List ℕ) {store state buffer : List ℕ} {e : FeedEffect} →
    r ≡ fed_numbers f.answer f.count → state ≡ state_after f.answer (state_of f.control store) before →
    lent_effect f store buffer ≡ e → kept_feed r state buffer ≡ feed_from e before
feed-as f before {store} {state} {buffer} p s q =
    ap (λ (x : WingFed). kept_feed x state buffer) p ∙
    ap (λ (x : List ℕ). kept_feed (fed_numbers f.answer f.count) x buffer) s ∙
    ap (λ (x : FeedEffect). feed_from x before) q
