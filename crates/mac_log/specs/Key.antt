-- The keys of a line's fields.
use Rattle.std.specs.Prelude.{ℕ, List, codes}
use Rattle.mac_log.specs.declared.key.Key.{Key}
use Rattle.mac_log.specs.declared.key.Key.TheVariants as key

-- the word of a key
abbrev pub key_word : Key → List ℕ
key_word key.Version = codes "version"
key_word key.Socket = codes "socket"
key_word key.File = codes "file"
key_word key.Names = codes "names"
key_word key.Workers = codes "workers"
key_word key.Connection = codes "connection"
key_word key.Connections = codes "connections"
key_word key.Millis = codes "millis"
key_word key.Requests = codes "requests"
key_word key.Fault = codes "fault"
key_word key.Pid = codes "pid"
key_word key.Uid = codes "uid"
key_word key.Kind = codes "kind"
key_word key.Count = codes "count"
key_word key.Limit = codes "limit"
key_word key.Value = codes "value"
key_word key.Cause = codes "cause"
key_word key.Asks = codes "asks"
key_word key.Name = codes "name"
key_word key.Identifier = codes "identifier"
key_word key.Id = codes "id"
key_word key.Verdict = codes "verdict"
key_word key.Code = codes "code"
key_word key.Caveat = codes "caveat"
key_word key.Status = codes "status"
key_word key.Unsent = codes "unsent"
key_word key.Form = codes "form"
key_word key.Memory = codes "memory"
