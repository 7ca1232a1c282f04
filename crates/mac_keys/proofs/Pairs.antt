-- Where a line has pairs of digits.
use Rattle.std.proofs.Common.{◌≡◌, ℕ, ◌==◌, ◌%◌, true, false, cond, List, length, Option, Some, Result, Ok, Err, option_map, refl, sym, ap, ◌∙◌, arith}
use Rattle.std.proofs.lemmas.Bool.Decides.{nat_tests}
use Rattle.std.specs.Prelude.{IsErrOf, IsErrAnd}
use Rattle.hex.specs.Hex.{decode_of, decode_pairs}
use Rattle.hex.specs.declared.error.FromHexError.TheVariants.{OddLength}
use Rattle.mac_keys.specs.declared.line.KeyLine.{KeyLine}
use Rattle.mac_keys.specs.declared.line.Refusal.{Refusal}
use Rattle.mac_keys.specs.declared.line.Refusal.TheVariants.{Memory}
use Rattle.mac_keys.specs.Line.{is_name, fields_of, line_of}
use Rattle.mac_keys.specs.Answers.{seen}
use Rattle.mac_keys.specs.Meaning.{ArePairs, HasPairs}
use Rattle.mac_keys.proofs.Spelling.{fields_spell, Spells-from_line}

-- a refusal that is handed on for want of memory was for that
pub handed_on : {X : Type 0} (r : Result X Refusal) (why : Refusal) → IsErrAnd r (λ e. e ≡ why) → IsErrOf r Memory → why ≡ Memory
handed_on (Ok x) why and is = absurd and
handed_on (Err e) why and is = let same : e ≡ Memory = cc in sym and ∙ same

pub HasPairs-from_fields : (line name digits : List ℕ) (named : is_name name ≡ true) → fields_of line ≡ Some (name, digits) → ArePairs digits → HasPairs line
HasPairs-from_fields line name digits named is pairs = record {
  name = name;
  digits = digits;
  form = fields_spell line (name, digits) is;
  named = named;
  pairs = pairs;
}

even : (digits secret : List ℕ) → decode_of digits ≡ Ok secret → length digits % 2 ≡ 0
even digits secret e =
    elim (length digits % 2 == 1) as (λ b. (length digits % 2 == 1) ≡ b → cond b (Err OddLength) (decode_pairs 0 digits) ≡ Ok secret → length digits % 2 ≡ 0) [
      | true ↦ λ odd none. cc
      | false ↦ λ other found. grind (arith, nat_tests)
    ] refl e

-- a line that gives a secret has the pairs that spell it
pub HasPairs-from_line : (line : List ℕ) (said : Option KeyLine) (key_line : KeyLine) → line_of line ≡ Ok (option_map seen said) → said ≡ Some key_line → HasPairs line
HasPairs-from_line line said key_line is some =
    let spelled = Spells-from_line line (seen key_line) (is ∙ ap (λ s. Ok (option_map seen s)) some) in
    record {
      name = key_line.name.now;
      digits = spelled.digits;
      form = spelled.form;
      named = spelled.name;
      pairs = (spelled.some, even spelled.digits key_line.secret.items spelled.secret);
    }
