-- By the contract of wing_listing's `load` the reply and the table are those of `load_of`, of which `load_call` says what is promised.
use mathlib.Core.Path.{sym, subst}
use Rattle.wing_listing.specs.Calls.{LoadEffect}
use Rattle.promises.specs.Listing.{LoadCall}
use Rattle.promises.proofs.Listings.{load_call}
use Rattle.promises.proofs.listing.load.Goals as goal

pub returns : goal.returns
returns c =
    let text = c.args.text.now in
    let memory = c.args.table.now in
    subst (λ (x : LoadEffect). LoadCall text memory x.reply x.memory) (sym c.load.ensures) (load_call text memory)
