use Rattle.std.proofs.Common.{◌≡◌, ◌&&◌, Ok, false, ap₂}
use Rattle.std.proofs.lemmas.Result.{IfOk-weaker}
use Rattle.mac_commands.specs.Doing.{GivesPage}
use Rattle.mac_commands.specs.declared.people.asking.StatusWords.{StatusWords}
use Rattle.mac_commands.specs.declared.people.status_page.AskedPage.{AskedPage}
use Rattle.mac_commands.specs.declared.people.status_page.AskedPage.TheVariants as page
use Rattle.mac_commands.proofs.people.status_page.do_status.Goals as goal

-- where a page is asked for, its two flags aren't both set
apart : (words : StatusWords) (asked : AskedPage) → GivesPage words (Ok asked) → (words.prometheus && words.connections) ≡ false
apart words page.Status are = ap₂ (λ a b. a && b) are.0 are.1
apart words page.Metrics are = ap₂ (λ a b. a && b) are.0 are.1
apart words page.Connections are = ap₂ (λ a b. a && b) are.0 are.1

pub returns : goal.returns
returns g c =
    IfOk-weaker c.say_page.result _ _ (λ said is. (apart c.args.words.now c.in_ok-page.page c.in_ok-page.ensures, (c.as_slice.result.now, is))) c.say_page.ensures
