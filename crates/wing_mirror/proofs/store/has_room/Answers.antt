-- The contract of `search` tells whether the id has a record: then there is room, else if a place is free (`takes-is`).
use mathlib.Core.Bool.{true, false}
use mathlib.Core.Path.{◌≡◌, ◌∙◌, sym, ap}
use borrow.Author.Rules.{rules}
use lib.Dec.{ltb}
use Rattle.std.specs.Result.{is_ok}
use Rattle.wing_mirror.proofs.Tables.Placing.{takes-is}
use Rattle.wing_mirror.proofs.store.has_room.Goals as goal

pub returns-then-is_ok : goal.returns-then-is_ok
returns-then-is_ok g c =
    let a = c.args in
    let o : is_ok c.search.result ≡ true = search rules in
    c.if-is_ok.true ∙ sym (takes-is g.row.W a.table.now a.rec.now a.count c.requires c.told-rec c.key.result c.key.ensures c.search.result c.search.ensures ∙ rw o)

pub returns-else-is_ok : goal.returns-else-is_ok
returns-else-is_ok g c =
    let a = c.args in
    let o : is_ok c.search.result ≡ false = search rules in
    ap (ltb a.count) c.places_of.ensures ∙ sym (takes-is g.row.W a.table.now a.rec.now a.count c.requires c.told-rec c.key.result c.key.ensures c.search.result c.search.ensures ∙ rw o)
