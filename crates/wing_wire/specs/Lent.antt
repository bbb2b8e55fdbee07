-- The next call over a lent state.
use Rattle.wing_wire.specs.declared.state.State.{State}
use Rattle.wing_wire.specs.declared.reader.Reply.{Reply}
use Rattle.wing_wire.specs.declared.lent.LentReply.{LentReply}

-- the by-value reply that a lent one and the state at exit make up
abbrev pub whole_reply : LentReply → State → Reply
whole_reply r s = record { answer = r.answer; taken = r.taken; state = s; string = r.string; body = r.body }
