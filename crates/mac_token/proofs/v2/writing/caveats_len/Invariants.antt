use Rattle.std.proofs.Common.{◌≡◌, ◌*◌, ◌+◌, ◌≤◌, length, take}
use Rattle.mac_token.specs.RawToken.{byte_lists}
use Rattle.mac_token.specs.declared.limits.TheConstants.{CAVEAT_MAX}
use Rattle.mac_token.proofs.V2Writing.{caveat_sections}
use Rattle.mac_token.proofs.v2.writing.caveats_len.Given as goal

-- the length of the sections so far
abbrev pub invariant-loop-caveat : goal.invariant-loop-caveat
invariant-loop-caveat l = record {
  so_far : l.len ≡ length (caveat_sections (byte_lists (take l.caveat-index l.caveats)));
  bound : l.len ≤ l.caveat-index * (CAVEAT_MAX + 12);
}
