use Rattle.std.proofs.Common.{[], rules}
use Rattle.std.proofs.lemmas.Result.{IfOk-weaker}
use Rattle.mac_commands.specs.Doing.{DoesMint}
use Rattle.mac_commands.specs.People.{mint_asked}
use Rattle.mac_commands.proofs.DoingLemmas.{said_of_words}
use Rattle.mac_commands.proofs.people.answering.do_mint.Goals as goal

pub returns-in-Some : goal.returns-in-Some
returns-in-Some g c =
    let words = c.args.words.now in
    let form = c.in_ok-form.form in
    let table = c.in_ok-table.table in
    said_of_words (DoesMint words) table [] (mint_asked form c.as_str-in-Some.result.now words) c.say_mint_under.result c.say_mint_under.ensures
    (λ said says. (form, table, c.as_str-in-Some.result.now, c.in_ok-form.ensures, c.in_ok-table.ensures, (search rules), says))

pub returns : goal.returns
returns g c =
    IfOk-weaker c.say_drawn.result _ _
    (λ said s. (c.in_ok-form.form, c.in_ok-table.table, s.0, c.in_ok-form.ensures, c.in_ok-table.ensures, (search rules), s.2)) c.say_drawn.ensures
