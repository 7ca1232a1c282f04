-- Addresses of sockets, as people write them.
use Rattle.std.specs.Prelude.{◌≡◌, ◌==◌, ℕ, Bool, List, [], ◌++◌, codes, Result, Ok, Err}
use Rattle.std.specs.List.{AllZip, slice_split}
use Rattle.std.specs.Str.{IsUtf8}
use Rattle.std.specs.Net.Addr.{MatchIp, IsLoopbackV4, IsLoopbackV6}
use Rattle.std.specs.Net.Grammar.{IsSocketText}
use Rattle.std.specs.Net.Socket.{socket_ip}
use Rattle.mac_gate.specs.declared.address.Address.{Address}
use Rattle.mac_gate.specs.declared.address.Address.TheVariants.{Unix, Tcp}
use Rattle.mac_gate.specs.declared.address.AddressFault.{AddressFault}
use Rattle.mac_gate.specs.declared.address.AddressFault.TheVariants.{NoAddress, Foreign}
use Rattle.mac_gate.specs.declared.address.Reach.{Reach}
use Rattle.mac_gate.specs.declared.address.Reach.TheVariants.{Loopback, Anywhere}

-- the word is `unix:` and this behind it
abbrev pub NamesPath : List ℕ → List ℕ → Type 0
NamesPath word path = word ≡ codes "unix:" ++ path

-- a path is text, and not empty
abbrev pub IsPath : List ℕ → Type 0
IsPath path = IsUtf8 path × ¬ (path ≡ [])

-- the word spells the address; one that begins with `unix:` spells no socket address
abbrev pub Spells : List ℕ → Address → Type 0
Spells word (Unix path) = NamesPath word path.now × IsPath path.now
Spells word (Tcp socket) = ((path : List ℕ) → ¬ (NamesPath word path)) × IsSocketText word socket

-- whom the address lets in: a path, and an address of loopback, this machine alone
abbrev pub IsWithin : Reach → Address → Type 0
IsWithin Anywhere address = Unit {0}
IsWithin Loopback (Unix path) = Unit {0}
IsWithin Loopback (Tcp socket) = MatchIp (socket_ip socket) IsLoopbackV4 IsLoopbackV6

-- the address that the word spells, where it lets in no others; or it spells none, or one that does
abbrev pub ReadsAs : Reach → List ℕ → Result Address AddressFault → Type 0
ReadsAs reach word (Ok address) = Spells word address × IsWithin reach address
ReadsAs reach word (Err NoAddress) = (address : Address) → ¬ (Spells word address)
ReadsAs reach word (Err Foreign) =
    (address : Address) × Spells word address × ¬ (IsWithin reach address)

-- the address of this path, or there is none
abbrev pub ReadsPath : List ℕ → Result Address AddressFault → Type 0
ReadsPath path (Ok (Unix own)) = (own.now ≡ path) × IsPath path
ReadsPath path (Ok (Tcp socket)) = ⊥
ReadsPath path (Err NoAddress) = ¬ (IsPath path)
ReadsPath path (Err Foreign) = ⊥

abbrev pub is_comma : ℕ → Bool
is_comma b = b == 44

-- the addresses that the words between the commas of a list spell, in order
abbrev pub AreRead : Reach → List ℕ → List Address → Type 0
AreRead reach list addresses =
    AllZip (λ word address. ReadsAs reach word (Ok address)) (slice_split is_comma list) addresses
