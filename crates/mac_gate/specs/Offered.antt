-- What the loops of a server over HTTP offer to their connections (this project's own).
use Rattle.std.specs.Prelude.{List, map}
use Rattle.mac_sockets.specs.Entrance.{doors_of}
use Rattle.mac_sockets.specs.declared.door.Door.{Door}
use Rattle.mac_gate.specs.declared.content.Content.{Content}
use Rattle.mac_gate.specs.declared.offer.Offer.{Offer}
use Rattle.mac_gate.specs.declared.server.HttpServer.{HttpServer}

-- what is offered by each of these, in their order
abbrev pub offers_of : List Content → List Offer
offers_of contents = map (λ content. content.offer.value) contents

-- what the loops of a server offer, each from its begin to its end, in their order
abbrev pub offered_by : HttpServer → List Offer
offered_by server = map (λ looping. looping.promise.offer.value) server.loops.items

-- the doors by which its connections come in
abbrev pub let_in_by : HttpServer → List (Door (Unit {0}))
let_in_by server = doors_of server.acceptor.promise.entrance.value
