use Rattle.std.proofs.Common.{◌≡◌, ℕ, List, rules, string_bytes, subst}
use Rattle.mac_commands.specs.Doing.{DoesVerify, StandsFor}
use Rattle.mac_commands.specs.People.{verify_asked}
use Rattle.mac_commands.proofs.DoingLemmas.{moment_given, said_of_words}
use Rattle.mac_commands.proofs.people.answering.do_verify.Goals as goal

pub returns : goal.returns
returns g c =
    let words = c.args.words.now in
    let token = c.as_slice.result.now in
    let is : c.in_ok-token.token.items ≡ c.as_slice.result.now = search rules in
    let is_word : c.as_str-2.result.now ≡ string_bytes c.args.words.now.token = search rules in
    let of_word : StandsFor c.as_str-2.result.now token = subst (λ (bytes : List ℕ). StandsFor c.as_str-2.result.now bytes) is c.in_ok-token.ensures in
    let stands : StandsFor (string_bytes c.args.words.now.token) token = subst (λ (word : List ℕ). StandsFor word token) is_word of_word in
    said_of_words (DoesVerify words) c.in_ok-table.table token (verify_asked token c.in_ok-moment.moment words) c.say_verify_under.result c.say_verify_under.ensures
    (λ said says. (c.in_ok-table.table, c.in_ok-moment.moment, token, c.in_ok-table.ensures, moment_given c.args.words.now.at c.in_ok-moment.moment c.in_ok-moment.ensures, stands, says))
