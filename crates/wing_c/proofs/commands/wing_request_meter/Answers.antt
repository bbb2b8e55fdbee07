-- The array holds the meters of the pairs (`meters_of`), so that the request is that of these meters (`request-same`).
use mathlib.Core.Path.{◌≡◌, ◌∙◌}
use lib.ListN.{length}
use Rattle.wing_c.proofs.Effects.{request-as}
use Rattle.wing_c.proofs.Pairs.{request-same}
use borrow.Author.Rules.{rules}
use Rattle.wing_c.proofs.commands.wing_request_meter.Goals as goal

pub returns : goal.returns
returns c =
    let a = c.args in
    let whole : length c.meters_of-array.result ≡ 64 = search rules in
    request-as c.request_meter.result c.requested.ensures
    (c.request_meter.ensures ∙
    request-same a.port a.last_id a.meters.now c.meters_of-array.result a.out.now whole c.meters_of-array.ensures)
