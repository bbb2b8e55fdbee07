-- By the contract of wing_saved's `load` the answer is `state_from`, of which `load_call` says what is promised, as the elements of the slice are bytes
-- (`are-bytes`).
use Rattle.promises.proofs.Typed.{are-bytes}
use Rattle.promises.proofs.Savers.{load_call}
use Rattle.promises.proofs.saved.load.Goals as goal

pub returns : goal.returns
returns c =
    let bytes = c.args.bytes.now in
    rw c.load.ensures (load_call bytes (are-bytes bytes (λ i. (c.type_inv.bytes i).fits)))
