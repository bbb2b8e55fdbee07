-- A set's reply and table, once its command was written or refused.
use Rattle.std.specs.Prelude.{ℕ, List, Ok, Err}
use Rattle.wing_node.specs.declared.refusal.Refusal.{Refusal}
use Rattle.wing_mirror.specs.Rows.{Table}
use Rattle.wing_mirror.specs.Layout.{Layout}
use Rattle.wing_mirror.specs.Table.{table}
use Rattle.wing_mirror.specs.Puts.{put_of}
use Rattle.wing_mirror.specs.declared.answer.SetReply.{SetReply}
use Rattle.wing_node.specs.Result.{Result}

-- the answer, and the table after it
pub record Replied : Type 0 where
  pub answer : Result ℕ
  pub after : Table

-- the same, by what the code returns and the lent buffer
abbrev pub replied : SetReply → List ℕ → Replied
replied r buffer = record { answer = r.answer; after = table buffer r.count }

-- refused, with the count as it was
abbrev pub refused_set_reply : Refusal → ℕ → SetReply
refused_set_reply why count = record { answer = Err why; count = count }

-- 01: the value is stored if its command is written; refused, the table is as it was
unfoldable pub kept_of : Layout → Result ℕ → List ℕ → Table → Replied
kept_of L (Ok n) r t = record { answer = Ok n; after = (put_of L r t).after }
kept_of L (Err why) r t = record { answer = Err why; after = t }
