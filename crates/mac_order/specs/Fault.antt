-- Why an intake admits no job. All of it is this project's own.
use Rattle.std.specs.Prelude.{ℕ, ◌-◌, ◌^◌, ◌==◌, if◌then◌else◌, Option, None, Some}
use Rattle.mac_order.specs.declared.fault.AdmitFault.{AdmitFault}
use Rattle.mac_order.specs.declared.fault.AdmitFault.TheVariants.{Full, Last}

-- the first reason, if any, why no job is admitted, where so many slips are free and this is the
-- job's place
abbrev pub admit_fault : ℕ → ℕ → Option AdmitFault
admit_fault free place =
    if free == 0 then Some Full
    else if place == 2 ^ 64 - 1 then Some Last
    else None
