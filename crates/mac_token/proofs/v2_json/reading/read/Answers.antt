use Rattle.mac_token.specs.Json.{JsonText}
use Rattle.mac_token.specs.JsonReading.{json_text_of}
use Rattle.mac_token.proofs.ReadAnswers.{answers_from_reads}
use Rattle.mac_token.proofs.JsonRead.{json_takes, json_again}
use Rattle.mac_token.proofs.v2_json.reading.read.Goals as goal

pub returns-clause-exact : goal.returns-clause-exact
returns-clause-exact c =
    let bytes = c.args.bytes.now in
    answers_from_reads (JsonText bytes) (json_text_of bytes) (json_again bytes) (json_takes bytes) c.read_text.result c.read_text.ensures
