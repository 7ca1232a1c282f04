-- What the one engine for a text decodes is spelled by it, and a refusal by that engine means that it spells nothing.
use Rattle.std.proofs.Common.{◌≡◌, Ok, refl, true, false, arith, rules}
use Rattle.std.specs.declared.result.Result.TheVariants.{Err}
use Rattle.base64.specs.Engines.{standard, standard_no_pad, url_safe, url_safe_no_pad}
use Rattle.base64.specs.GeneralPurpose.{IsBytes, encode_of, decode_of}
use Rattle.mac_token.proofs.Base64Read.{bytes_from_all, decoded_spells}
use Rattle.mac_token.proofs.Base64Spelling.{encoded_by_engine_for, refused_text}
use Rattle.mac_token.proofs.base64_text.decode_into.Goals as goal
use Rattle.mac_token.proofs.base64_text.decode_into.Goals.{in-true-true, in-true-false, in-false-true, in-false-false}

pub returns-in-Ok-clause-spelled : goal.returns-in-Ok-clause-spelled
returns-in-Ok-clause-spelled c _ =
    let text = c.args.text.now in
    let bytes = c.if-lacks_url_letters.bytes.items in
    let are_text : IsBytes text = (λ i. omega (arith, c.type_inv.text i)) in
    let are_bytes : IsBytes bytes = bytes_from_all bytes c.type_inv.bytes in
    elim c.if-lacks_url_letters.branch [
      | in-true-true w ↦
          let decoded : decode_of standard text ≡ Ok bytes = search rules in
          decoded_spells true true text bytes are_text are_bytes decoded
      | in-true-false w ↦
          let decoded : decode_of standard_no_pad text ≡ Ok bytes = search rules in
          decoded_spells true false text bytes are_text are_bytes decoded
      | in-false-true w ↦
          let decoded : decode_of url_safe text ≡ Ok bytes = search rules in
          decoded_spells false true text bytes are_text are_bytes decoded
      | in-false-false w ↦
          let decoded : decode_of url_safe_no_pad text ≡ Ok bytes = search rules in
          decoded_spells false false text bytes are_text are_bytes decoded
    ]

pub returns-in-Err-DecodeError-clause-none : goal.returns-in-Err-DecodeError-clause-none
returns-in-Err-DecodeError-clause-none c _ bytes spelled =
    let text = c.args.text.now in
    let error = c.in-Err-DecodeError.field-0-0 in
    elim c.if-lacks_url_letters.branch [
      | in-true-true w ↦
          let h = w.in-true-true in
          let by_engine : text ≡ encode_of standard bytes = encoded_by_engine_for text bytes true true spelled h.ensures h.ensures' in
          let refused : decode_of standard text ≡ Err error = search rules in
          refused_text standard text bytes error refl spelled.0 refused by_engine
      | in-true-false w ↦
          let h = w.in-true-false in
          let by_engine : text ≡ encode_of standard_no_pad bytes = encoded_by_engine_for text bytes true false spelled h.ensures h.ensures' in
          let refused : decode_of standard_no_pad text ≡ Err error = search rules in
          refused_text standard_no_pad text bytes error refl spelled.0 refused by_engine
      | in-false-true w ↦
          let h = w.in-false-true in
          let by_engine : text ≡ encode_of url_safe bytes = encoded_by_engine_for text bytes false true spelled h.ensures h.ensures' in
          let refused : decode_of url_safe text ≡ Err error = search rules in
          refused_text url_safe text bytes error refl spelled.0 refused by_engine
      | in-false-false w ↦
          let h = w.in-false-false in
          let by_engine : text ≡ encode_of url_safe_no_pad bytes = encoded_by_engine_for text bytes false false spelled h.ensures h.ensures' in
          let refused : decode_of url_safe_no_pad text ≡ Err error = search rules in
          refused_text url_safe_no_pad text bytes error refl spelled.0 refused by_engine
    ]
