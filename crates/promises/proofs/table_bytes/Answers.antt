-- The law `table-bytes`.
use Rattle.promises.proofs.Tables.{table-bytes}
use Rattle.promises.proofs.table_bytes.Goals as goal

pub returns : goal.returns
returns c = table-bytes
