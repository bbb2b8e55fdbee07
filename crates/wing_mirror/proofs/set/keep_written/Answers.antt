-- Each arm is the line of `kept_of` with that variant, by the contracts of `put` and `refused`.
use Prim.Native.Nat.{ℕ}
use Rattle.wing_mirror.specs.Sets.{kept_of}
use Rattle.wing_mirror.specs.Puts.{PutEffect}
use Rattle.wing_mirror.specs.Table.{table}
use Rattle.wing_mirror.proofs.Records.Ready.{in_order_lem, put_is, effect-count}
use mathlib.Core.Path.{◌≡◌, ◌∙◌, ap}
use native.Mathlib.Omega.{arith}
use borrow.Author.Rules.{rules}
use Rattle.std.specs.Option.{unwrap_or}
use Rattle.wing_mirror.specs.Rows.{Table}
use Rattle.wing_mirror.proofs.set.keep_written.Goals as goal
use Rattle.std.specs.Prelude.{Ok}

pub put-requires : goal.put-requires
put-requires c =
    (omega arith, in_order_lem (table c.args.table.now c.args.count) c.requires)

pub returns-in-Ok : goal.returns-in-Ok
unfolding kept_of
returns-in-Ok c =
    let u : c.unwrap_or-kept.result ≡ unwrap_or c.put.result c.args.count = search rules in
    let d = effect-count c.args.count c.put.result c.put.new.table in
    rw c.in-Ok.is
    (ap (λ (k : ℕ). record { answer = Ok c.in-Ok.n; after = table c.put.new.table k }) u ∙
    ap (λ (t : Table). record { answer = Ok c.in-Ok.n; after = t }) (d ∙ ap (λ (e : PutEffect). e.after) (c.put.ensures ∙ put_is c.args.rec.now (table c.args.table.now c.args.count))))

pub returns-in-Err : goal.returns-in-Err
unfolding kept_of
returns-in-Err c = rw (c.refused.ensures, c.in-Err.is)
