-- What the thread does that watches the key file and the list of tokens that were taken back.
use Rattle.std.specs.Prelude.{◌≡◌, ◌⊎◌, Bool, [], ◌∷◌, Option, None, Some, IfSome}
use Rattle.mac_board.specs.Editor.{IsKept, Keeps, KeepsList, tables_of}
use Rattle.mac_board.specs.declared.editor.Editor.{Editor}
use Rattle.mac_board.specs.declared.editor.ListNews.{ListNews}
use Rattle.mac_board.specs.declared.editor.News.{News}
use Rattle.mac_board.specs.declared.sight.Sight.{Sight}
use Rattle.mac_keys.specs.KeyTable.{Table}
use Rattle.mac_commands.specs.Observed.{IsAsked, IsSeen}
use Rattle.mac_commands.specs.declared.list_store.FirstList.{FirstList}
use Rattle.mac_commands.specs.declared.observed_file.ObservedFile.{ObservedFile}
use Rattle.macaroond.specs.declared.key_watch.Found.{Found}

-- the editor takes in what a look at the file saw; or nothing has changed in it, and the system was
-- asked of the file all the same
abbrev pub Watches : {R : Type 0} → ObservedFile → Editor R → ObservedFile → Editor R → Type 0
Watches file was looked now = ((sight : Sight) × (news : News)
    × IsSeen was.watchers.keys file sight looked × Keeps was sight now news)
    ⊎ (IsAsked file looked × IsKept was now)

-- the same of the list, which may lose all its lines or not
abbrev pub WatchesList : {R : Type 0} → Bool → ObservedFile → Editor R → ObservedFile → Editor R → Type 0
WatchesList may_empty file was looked now = ((sight : Sight) × (news : ListNews)
    × IsSeen was.watchers.list file sight looked × KeepsList was may_empty sight now news)
    ⊎ (IsAsked file looked × IsKept was now)

-- a table with the list that was found, or as it is where there is none
abbrev pub with_list : Table → Option FirstList → Table
with_list table None = table
with_list table (Some found) = record table { revoked = found.list }

-- a board begins with the keys and the list that the files gave first, and each file is known as it
-- was found behind its first read
pub record BeginsWith {R : Type 0} (found : Found) (editor : Editor R) : Type 0 where
  pub put_up : tables_of editor ≡ with_list found.keys.read.table found.list ∷ []
  pub keys_last : editor.watchers.keys.last ≡ found.keys.after
  pub list_last : IfSome found.list (λ first. editor.watchers.list.last ≡ first.after)
