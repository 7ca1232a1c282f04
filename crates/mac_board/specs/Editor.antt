-- What a board is that follows a key file and a list of tokens that were taken back.
use Rattle.std.specs.Prelude.{◌≡◌, ◌↔◌, ℕ, Bool, List, [], ◌∷◌, ◌++◌}
use Rattle.std.specs.FinMap.{len}
use Rattle.mac_keys.specs.KeyTable.{Table}
use Rattle.mac_keys.specs.Keys.{NamedKeys}
use Rattle.mac_keys.specs.Revoked.{Revoked, nothing}
use Rattle.mac_board.specs.Listing.{SeesList}
use Rattle.mac_board.specs.Publisher.{tables}
use Rattle.mac_board.specs.Watcher.{Sees}
use Rattle.mac_board.specs.declared.editor.Editor.{Editor}
use Rattle.mac_board.specs.declared.editor.ListNews.{ListNews}
use Rattle.mac_board.specs.declared.editor.ListNews.TheVariants as listed
use Rattle.mac_board.specs.declared.editor.News.{News}
use Rattle.mac_board.specs.declared.editor.News.TheVariants as news
use Rattle.mac_board.specs.declared.editor.Watchers.{Watchers}
use Rattle.mac_board.specs.declared.listing.ListFinding.{ListFinding}
use Rattle.mac_board.specs.declared.listing.ListFinding.TheVariants as list
use Rattle.mac_board.specs.declared.listing.ListUp.{ListUp}
use Rattle.mac_board.specs.declared.sight.Sight.{Sight}
use Rattle.mac_board.specs.declared.watcher.KeyFileFinding.{KeyFileFinding}
use Rattle.mac_board.specs.declared.watcher.KeyFileFinding.TheVariants as finding

-- the tables that an editor has put up, in order
abbrev pub tables_of : {R : Type 0} → Editor R → List Table
tables_of editor = tables editor.publisher

-- what is put up of a finding, with what was taken back
abbrev pub put_up_of : Revoked → KeyFileFinding → List Table
put_up_of list finding.Nothing = []
put_up_of list (finding.Table table) = record { keys = table.keys; revoked = list } ∷ []
put_up_of list (finding.Refused why) = []

-- what is told of it
abbrev pub news_of : KeyFileFinding → News
news_of finding.Nothing = news.Nothing
news_of (finding.Table table) = news.Taken (len table.keys)
news_of (finding.Refused why) = news.Refused why

-- a table of these names and this list was put up, and this is known of the files
pub record PutsUp {R : Type 0} (was : Editor R) (known : Watchers) (names : NamedKeys) (list : Revoked) (now : Editor R) : Type 0 where
  pub put_up : tables_of now ≡ tables_of was ++ record { keys = names; revoked = list } ∷ []
  pub watchers : now.watchers ≡ known
  pub keys : now.keys ≡ names
  pub revoked : now.revoked ≡ list

-- one look at the key file: the watcher sees it, what it finds is put up with the list that is up,
-- and what is put up or refused is told
pub record Keeps {R : Type 0} (was : Editor R) (sight : Sight) (now : Editor R) (told : News) : Type 0 where
  pub found : KeyFileFinding
  pub sees : Sees was.watchers.keys (len was.keys) sight found now.watchers.keys
  pub put_up : tables_of now ≡ tables_of was ++ put_up_of was.revoked found
  pub told_is : told ≡ news_of found
  pub list : now.revoked ≡ was.revoked
  pub list_watcher : now.watchers.list ≡ was.watchers.list

-- nothing has changed
pub record IsKept {R : Type 0} (was now : Editor R) : Type 0 where
  pub watchers : now.watchers ≡ was.watchers
  pub tables : tables_of now ≡ tables_of was
  pub keys : now.keys ≡ was.keys
  pub revoked : now.revoked ≡ was.revoked

-- what is put up of what a look at the list found, with the names that are up
abbrev pub list_put_up_of : NamedKeys → ListFinding → List Table
list_put_up_of names list.Nothing = []
list_put_up_of names (list.List found) = record { keys = names; revoked = found } ∷ []
list_put_up_of names (list.Refused why) = []

-- the list that is up behind it
abbrev pub list_after : Revoked → ListFinding → Revoked
list_after was list.Nothing = was
list_after was (list.List found) = found
list_after was (list.Refused why) = was

-- this is told of it: that a list was put up, of some number of lines, or why it isn't taken
abbrev pub IsToldOf : ListFinding → ListNews → Type 0
IsToldOf list.Nothing told = told ≡ listed.Nothing
IsToldOf (list.List found) told = (lines : ℕ) × (told ≡ listed.Taken lines)
IsToldOf (list.Refused why) told = told ≡ listed.Refused why

-- one look at the list: the watcher sees it, what it finds is put up with the names that are up,
-- and what is put up or refused is told
pub record KeepsList {R : Type 0} (was : Editor R) (may_empty : Bool) (sight : Sight) (now : Editor R) (told : ListNews) : Type 0 where
  pub up : ListUp
  pub found : ListFinding
  pub has_lines : (up.lines ≡ 0) ↔ (was.revoked ≡ nothing)
  pub is_set : up.may_empty ≡ may_empty
  pub sees : SeesList was.watchers.list up sight found now.watchers.list
  pub put_up : tables_of now ≡ tables_of was ++ list_put_up_of was.keys found
  pub told_is : IsToldOf found told
  pub list : now.revoked ≡ list_after was.revoked found
  pub keys : now.keys ≡ was.keys
  pub keys_watcher : now.watchers.keys ≡ was.watchers.keys
