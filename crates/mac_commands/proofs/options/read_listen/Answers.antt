use Rattle.std.proofs.Common.{refl, sym, ◌∙◌}
use Rattle.mac_commands.proofs.options.read_listen.Goals as goal

pub returns : goal.returns
returns c = (
  refl,
  (
    c.in_ok-read_text.ensures,
    c.in_ok-read_text-2.ensures,
    c.read_optional_number.ensures 1 16 c.requires.workers,
    sym c.read_mode.ensures ∙ c.in-Some-Some.is-0,
    c.read_optional_number-2.ensures 1 86400 c.requires.idle,
    c.read_optional_number-3.ensures 1 64 c.requires.loops,
    c.read_optional_number-4.ensures 1 1000000 c.requires.connections,
    c.read_optional_number-5.ensures 1 3600 c.requires.drain,
    c.read_optional_number-6.ensures 0 1073741824 c.requires.remember,
    c.read_optional_number-7.ensures 67108864 1099511627776 c.requires.memory,
    c.in_ok-read_optional_text.ensures,
    c.in_ok-read_optional_text-2.ensures,
    sym c.read_mode-2.ensures ∙ c.in-Some-Some.is-1,
    c.in_ok-read_optional_text-3.ensures,
    c.read_optional_number-8.ensures 1 1000000 c.requires.verify_connections,
    c.read_flag.ensures,
    c.in_ok-read_optional_text-4.ensures,
    c.read_flag-2.ensures,
    c.in_ok-read_optional_text-5.ensures,
    c.read_flag-3.ensures,
    c.in_ok-read_http.ensures,
  ),
)
