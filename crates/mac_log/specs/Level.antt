-- How grave a line is, in words and in syslog's numbers.
use Rattle.std.specs.Prelude.{ℕ, List, codes}
use Rattle.mac_log.specs.declared.level.Level.{Level}
use Rattle.mac_log.specs.declared.level.Level.TheVariants.{Error, Warning, Info}

-- the word of a level
abbrev pub level_word : Level → List ℕ
level_word Error = codes "error"
level_word Warning = codes "warning"
level_word Info = codes "info"

-- LOG_ERR, LOG_WARNING and LOG_INFO, as systemd's journal reads them at the front of a line
abbrev pub priority_text : Level → List ℕ
priority_text Error = codes "<3>"
priority_text Warning = codes "<4>"
priority_text Info = codes "<6>"
