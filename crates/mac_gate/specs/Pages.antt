-- What a daemon says on the pages that tell of it (this project's own).
use Rattle.std.specs.Prelude.{◌≡◌, ℕ, Bool, List, ◌++◌, Option}
use Rattle.mac_count.specs.declared.snapshot.Snapshot.{Snapshot}
use Rattle.mac_decide.specs.declared.uses.NameCounts.{NameCounts}
use Rattle.mac_http.specs.declared.page.Page.{Page}
use Rattle.mac_http.specs.declared.page.Page.TheVariants.{Connections, Health, Numbers, Status, Uses}
use Rattle.mac_http.specs.declared.page.PageTold.{PageTold}
use Rattle.mac_http.specs.declared.page.PageTold.TheVariants.{Well}
use Rattle.mac_keys.specs.KeyTable.{Table}
use Rattle.mac_gate.specs.Health.{health_of, health_text}
use Rattle.mac_gate.specs.KeyUses.{uses_text}
use Rattle.mac_gate.specs.Numbers.{numbers_text, status_page}

-- its health: whether it was told to end, and whether its last key file was refused
abbrev pub TellsHealth : List ℕ → PageTold → Type 0
TellsHealth text told = (is_ending : Bool) × (are_keys_refused : Bool)
    × (told ≡ health_of is_ending are_keys_refused) × (text ≡ health_text is_ending are_keys_refused)

-- its version and what it has counted, of one snapshot
abbrev pub TellsNumbers : List ℕ → List ℕ → PageTold → Type 0
TellsNumbers version text told =
    (told ≡ Well) × ((numbers : Snapshot) × (text ≡ numbers_text version numbers))

-- the same, a line for each number, with how keys are used, and the keys that may be told
abbrev pub TellsStatus : List ℕ → Option Table → List ℕ → PageTold → Type 0
TellsStatus version keys text told = (told ≡ Well)
    × ((numbers : Snapshot) × (uses : List NameCounts) × (text ≡ status_page version numbers uses keys))

-- how the keys of each name are used
abbrev pub TellsUses : List ℕ → PageTold → Type 0
TellsUses text told = (told ≡ Well) × ((uses : List NameCounts) × (text ≡ uses_text uses))

-- its connections; no contract says which
abbrev pub TellsConnections : List ℕ → PageTold → Type 0
TellsConnections text told = told ≡ Well

-- what a daemon of this version says on a page that may tell of these keys
abbrev pub Tells : List ℕ → Page → Option Table → List ℕ → PageTold → Type 0
Tells version Health keys text told = TellsHealth text told
Tells version Numbers keys text told = TellsNumbers version text told
Tells version Status keys text told = TellsStatus version keys text told
Tells version Connections keys text told = TellsConnections text told
Tells version Uses keys text told = TellsUses text told

-- what is told is put behind what was there
abbrev pub Adds : (List ℕ → PageTold → Type 0) → List ℕ → List ℕ → PageTold → Type 0
Adds tells old new told = (more : List ℕ) × (new ≡ old ++ more) × tells more told
