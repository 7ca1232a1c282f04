-- Lines, as they are put together.
use Rattle.std.proofs.Common.{◌≡◌, ◌∙◌, ℕ, ◌*◌, Bool, false, cond, List, [], ◌∷◌, ◌++◌, Option, Some, pos, ℤ, refl, ap}
use Rattle.std.specs.Prelude.{min}
use Rattle.jiff.specs.Types.{DateTime}
use Rattle.jiff.specs.Words.{civil_nanos, datetime_text}
use Rattle.mac_log.specs.declared.line.Line.{Line}
use Rattle.mac_log.specs.declared.moment.TheConstants.{MOMENT_MAX}
use Rattle.mac_log.specs.Level.{level_word}
use Rattle.mac_log.specs.Kind.{kind_level, kind_word}
use Rattle.mac_log.specs.Line.{AddsLine, front_text, kind_text}
use Rattle.mac_log.specs.Moment.{AddsMoment}
use Rattle.mac_log.proofs.Appends.{two, five}

pub moment_added : (millis : ℕ) (old new text : List ℕ) (dt : DateTime) (low : Bool) (separator : ℕ) (places : Option ℕ) (nanos : ℤ) → low ≡ false → separator ≡ 84 → places ≡ Some 3
    → nanos ≡ pos (min millis MOMENT_MAX * 1_000_000) → civil_nanos dt ≡ nanos → text ≡ datetime_text low separator places dt ++ (cond low 122 90) ∷ [] → new ≡ old ++ text → AddsMoment millis old new
moment_added millis old new text dt low separator places nanos e1 e2 e3 is at shown added =
    let lower : datetime_text low separator places dt ++ (cond low 122 90) ∷ [] ≡ datetime_text false separator places dt ++ 90 ∷ [] = ap (λ (b : Bool). datetime_text b separator places dt ++ (cond b 122 90) ∷ []) e1 in
    let apart : datetime_text false separator places dt ++ 90 ∷ [] ≡ datetime_text false 84 places dt ++ 90 ∷ [] = ap (λ (n : ℕ). datetime_text false n places dt ++ 90 ∷ []) e2 in
    let placed : datetime_text false 84 places dt ++ 90 ∷ [] ≡ datetime_text false 84 (Some 3) dt ++ 90 ∷ [] = ap (λ (o : Option ℕ). datetime_text false 84 o dt ++ 90 ∷ []) e3 in
    (text, (dt, at ∙ is, shown ∙ lower ∙ apart ∙ placed), added)

pub line_added : (has_priority : Bool) (line : Line) (o0 o1 o2 o3 o4 o5 o6 : List ℕ) → o1 ≡ o0 ++ front_text has_priority (kind_level line.kind) → AddsMoment line.millis o1 o2
    → o3 ≡ o2 ++ 32 ∷ level_word (kind_level line.kind) → o4 ≡ o3 ++ 32 ∷ kind_word line.kind → o5 ≡ o4 ++ line.fields.text → o6 ≡ o5 ++ 10 ∷ [] → AddsLine has_priority line o0 o6
line_added has_priority line o0 o1 o2 o3 o4 o5 o6 e1 (time, is, e2) e3 e4 e5 e6 =
    let front = front_text has_priority (kind_level line.kind) in
    let words = two o2 o3 o4 (32 ∷ level_word (kind_level line.kind)) (32 ∷ kind_word line.kind) e3 e4 in
    (front ++ (time ++ (kind_text line.kind ++ (line.fields.text ++ 10 ∷ []))), (time, is, refl), five o0 o1 o2 o4 o5 o6 front time (kind_text line.kind) line.fields.text (10 ∷ []) e1 e2 words e5 e6)
