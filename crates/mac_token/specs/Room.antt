-- What `bare` leaves in the room that it is lent.
use Rattle.std.specs.Prelude.{◌≡◌, ℕ, if◌then◌else◌, List, [], Result, Ok, Err}
use Rattle.std.specs.Borrow.{Bor, MutBor, Fml, u8}
use Rattle.std.specs.Io.BufRead.{Rests}
use Rattle.std.specs.contracts.alloc.Global as heap
use Rattle.std.specs.contracts.impls.GlobalAllocator.TheImpl.{ghosts}
use Rattle.std.specs.contracts.vec.Vec as vec
use Rattle.std.specs.declared.alloc.Global.{Global}
use Rattle.std.specs.declared.vec.Vec.{Vec}
use Rattle.mac_token.specs.declared.fault.TokenFault.{TokenFault}
use Rattle.mac_token.specs.Read.{begins_bare}

-- the bytes that were decoded; none where the input is itself the answer, nor at a fault
abbrev pub decoded_in : List ℕ → Result (Bor (List ℕ)) TokenFault → List ℕ
decoded_in input (Ok bytes) = if begins_bare input then [] else bytes.now
decoded_in input (Err fault) = []

-- the room holds these once the answer is no longer used
abbrev pub Holds : MutBor (Vec ℕ Global) → List ℕ → Result (Bor (List ℕ)) TokenFault → Fml
Holds room input answer =
    Rests (vec.the_row u8 heap.the_row ghosts) room (λ new. new.items ≡ decoded_in input answer)
