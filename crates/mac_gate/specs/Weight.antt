-- How long a request is, as far as it came.
use Rattle.std.specs.Prelude.{ℕ, Bool, ◌+◌, ◌-◌, ◌==◌, ◌||◌, min, nat_lt, true, false, if◌then◌else◌}
use Rattle.mac_gate.specs.declared.weight.TheConstants.{LIGHT_MAX}
use Rattle.mac_gate.specs.declared.weight.Weight.{Weight}

-- nothing has come
abbrev pub new_weight : Weight
new_weight = record { bytes = 0; is_idle = true }

-- how many bytes came since the last response went
abbrev pub fresh : Weight → ℕ
fresh weight = if weight.is_idle then 0 else weight.bytes

-- a request is dear that has more bytes, or as many without being answered: it has more to come
abbrev pub is_dear : Weight → Bool
is_dear weight = nat_lt LIGHT_MAX weight.bytes || fresh weight == LIGHT_MAX

-- how many bytes a turn reads, where one reads so many of a dear request: of another one no more
-- than such a request may have
abbrev pub read_limit : Weight → ℕ → ℕ
read_limit weight most = if is_dear weight then most else min (LIGHT_MAX - fresh weight) most

-- so many bytes came: they count from the last response on, and counts end at 64 bits
abbrev pub heard : Weight → ℕ → Weight
heard weight count =
    if count == 0 then weight
    else record {
      bytes = min (fresh weight + count) 18_446_744_073_709_551_615;
      is_idle = false;
    }

-- a response went
abbrev pub answered : Weight → Weight
answered weight = record weight { is_idle = true }
