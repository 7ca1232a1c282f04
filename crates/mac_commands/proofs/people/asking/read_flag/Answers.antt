use Rattle.std.proofs.Common.{rules, ◌≡◌, ◌∙◌, ap, codes, false, Option}
use Rattle.std.specs.Option.{option_map_or}
use Rattle.std.specs.Str.{bytes_eq}
use Rattle.clap.specs.Walk.{Text}
use Rattle.clap.specs.Words.{found_of}
use Rattle.clap.proofs.WalkLemmas.{first_value-rows}
use Rattle.mac_commands.proofs.people.asking.read_flag.Goals as goal

pub returns-in-Some : goal.returns-in-Some
returns-in-Some c =
    let same : c.eq.result ≡ bytes_eq c.in-Some.text.now (codes "true") = search rules in
    same ∙ ap (λ (value : Option Text). option_map_or (λ v. bytes_eq v (codes "true")) value false) (c.in-Some.ensures ∙ first_value-rows (found_of c.args.options.now) c.args.name.now)

pub returns-in-None : goal.returns-in-None
returns-in-None c =
    ap (λ (value : Option Text). option_map_or (λ v. bytes_eq v (codes "true")) value false) (c.in-None.ensures ∙ first_value-rows (found_of c.args.options.now) c.args.name.now)
