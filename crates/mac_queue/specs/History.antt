-- What a history has.
use Rattle.std.specs.Prelude.{List, [], ◌∷◌, ◌++◌}
use Rattle.mac_queue.specs.declared.history.HistoryPages.{HistoryPages, Blank, After'}

-- the entries, the oldest first
abbrev pub entries : {T : Type 0} → HistoryPages T → List T
entries Blank = []
entries (After' marker before entry) = entries before ++ entry.value ∷ []
