-- By the contract of wing_saved's `load_earlier` the answer is `load_earlier_of`, of which `load-earlier-call` says what is promised, as the elements of the slice are bytes
-- (`are-bytes`).
use Rattle.promises.proofs.Typed.{are-bytes}
use Rattle.promises.proofs.Savers.{load-earlier-call}
use Rattle.promises.proofs.saved.load_earlier.Goals as goal

pub returns : goal.returns
returns c =
    let bytes = c.args.bytes.now in
    rw c.load_earlier.ensures (load-earlier-call bytes (are-bytes bytes (λ i. (c.type_inv.bytes i).fits)))
