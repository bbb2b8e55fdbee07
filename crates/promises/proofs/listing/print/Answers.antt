-- By the contract of wing_listing's `print` the answer and the output are those of `print_of`, of which `print-call` says what is promised, as the
-- table's elements are bytes (`are-bytes`).
use mathlib.Core.Path.{sym, subst}
use Rattle.wing_wire.specs.Write.{WriteEffect}
use Rattle.wing_mirror.specs.Table.{table}
use Rattle.promises.specs.Listing.{PrintCall}
use Rattle.promises.proofs.Typed.{are-bytes}
use Rattle.promises.proofs.Listings.{print-call}
use Rattle.promises.proofs.listing.print.Goals as goal

pub returns : goal.returns
returns c =
    let t = table c.args.table.now c.args.count in
    let out = c.args.out.now in
    subst (λ (x : WriteEffect). PrintCall t out x.answer x.out) (sym c.print.ensures)
    (print-call t out (are-bytes c.args.table.now (λ i. (c.type_inv.table i).fits)))
