-- The decoder state beside what a load answers is a fresh one.
use Prim.Native.Nat.{ℕ, ◌/◌}
use mathlib.Core.Path.{◌≡◌, refl}
use mathlib.Core.List.{List}
use lib.Dec.{leb}
use lib.ListN.{length}
use Rattle.wing_node.proofs.Branches.{branch}
use Rattle.wing_wire.specs.State.{fresh_state}
use Rattle.wing_mirror.specs.Entry.{Entry}
use Rattle.wing_mirror.specs.Record.{width}
use Rattle.wing_mirror.specs.Table.{places_allowed}
use Rattle.wing_listing.specs.Reading.{Reading, good, bad, reading_of}
use Rattle.wing_listing.specs.Calls.{LoadEffect, load_entries, load_read, load_of}

-- of what a load leaves
abbrev Fresh : LoadEffect → Type 0
Fresh e = e.reply.state ≡ fresh_state

entries-fresh : (es : List Entry) (memory : List ℕ) → Fresh (load_entries es memory)
unfolding load_entries
entries-fresh es memory = branch Fresh (leb (length es) (length memory / width)) _ _ (λ _. refl) (λ _. refl)

read-fresh : (r : Reading) (memory : List ℕ) → Fresh (load_read r memory)
unfolding load_read
read-fresh (good es) memory = entries-fresh es memory
read-fresh (bad why line) memory = refl

pub load-fresh : (text memory : List ℕ) → Fresh (load_of text memory)
unfolding load_of
load-fresh text memory =
    branch Fresh (places_allowed (length memory / width)) _ _
    (λ _. branch Fresh (leb (length text) 65536) _ _ (λ _. read-fresh (reading_of text) memory) (λ _. refl)) (λ _. refl)
