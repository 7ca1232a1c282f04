-- What is known of tables that are published one after the other, and those that somebody takes.
use Rattle.std.specs.Prelude.{◌≡◌, ℕ, ◌≤◌, Bool, IsTrue, List, [], ◌∷◌, ◌++◌, Some, slice_get}
use Rattle.mac_keys.specs.KeyTable.{Table}

-- What a holder of tables knows: those that were published so far, in order, the place among them of
-- the one that it has, and the places that its looks came to.
pub record Known : Type 0 where
  pub published : List Table
  pub place : ℕ
  pub looks : List ℕ

-- the table that it has
abbrev pub IsUp : Known → Table → Type 0
IsUp known table = slice_get known.published known.place ≡ Some table

-- the first list is a beginning of the second
abbrev pub Begins : List Table → List Table → Type 0
Begins xs ys = (rest : List Table) × (ys ≡ xs ++ rest)

-- One look: what was published stays so, the place never goes down, and it is the one that the look
-- came to, where looks are told.
pub record Looks (tells : Bool) (before after : Known) : Type 0 where
  pub begins : Begins before.published after.published
  pub ahead : before.place ≤ after.place
  pub told : IsTrue tells → after.looks ≡ before.looks ++ after.place ∷ []

-- What is known went on without a look that is told: what was published stays so, and the place never
-- goes down.
pub record Advances (before after : Known) : Type 0 where
  pub begins : Begins before.published after.published
  pub ahead : before.place ≤ after.place
  pub looks : after.looks ≡ before.looks

-- for each of these tables there was one look, in their order, which came to it, and no other
abbrev pub Takes : Bool → Known → Known → List Table → Type 0
Takes tells before after [] = after ≡ before
Takes tells before after (table ∷ tables) =
    (now : Known) × Looks tells before now × IsUp now table × Takes tells now after tables

-- each of these tables was published, at the place beside it, and no place lies before an earlier
-- one: they go from one place to another
abbrev pub Follows : List Table → ℕ → List ℕ → List Table → ℕ → Type 0
Follows published from [] [] to = from ≤ to
Follows published from [] (table ∷ tables) to = ⊥
Follows published from (place ∷ places) [] to = ⊥
Follows published from (place ∷ places) (table ∷ tables) to =
    (from ≤ place) × (slice_get published place ≡ Some table)
    × Follows published place places tables to

-- these tables stand in a list in their order, from one place to another
abbrev pub StandIn : List Table → ℕ → List Table → ℕ → Type 0
StandIn published from tables to = (places : List ℕ) × Follows published from places tables to

-- the tables were taken in the order of their publishing, each by a look of its own
pub record AreInOrder (tells : Bool) (before after : Known) (tables : List Table) : Type 0 where
  pub begins : Begins before.published after.published
  pub places : List ℕ
  pub follows : Follows after.published before.place places tables after.place
  pub looks : IsTrue tells → after.looks ≡ before.looks ++ places
