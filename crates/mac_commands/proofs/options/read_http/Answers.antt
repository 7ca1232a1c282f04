use Rattle.std.proofs.Common.{sym, ◌∙◌}
use Rattle.mac_commands.proofs.options.read_http.Goals as goal

pub returns : goal.returns
returns c = (
  c.in_ok-read_optional_text.ensures,
  c.in_ok-read_optional_text-2.ensures,
  sym c.read_mode.ensures ∙ c.in-Some-Some.is-0,
  c.read_optional_number.ensures 1 1024 c.requires.0,
  c.read_optional_number-2.ensures 1 3600 c.requires.1,
  c.in_ok-read_optional_text-3.ensures,
  c.in_ok-read_optional_text-4.ensures,
  c.read_flag.ensures,
  c.in_ok-read_optional_text-5.ensures,
  c.in_ok-read_optional_text-6.ensures,
  sym c.read_mode-2.ensures ∙ c.in-Some-Some.is-1,
  c.in_ok-read_optional_text-7.ensures,
  c.in_ok-read_optional_text-8.ensures,
  c.in_ok-read_optional_text-9.ensures,
  c.in_ok-read_optional_text-10.ensures,
)
