-- A key file's table or first fault, line by line.
use Rattle.std.proofs.Common.{◌≡◌, ◌≢◌, ℕ, ◌+◌, List, [], ◌∷◌, Option, Some, None, Ok, Err, option_map, refl, sym, ap, ◌∙◌, zero-add}
use Rattle.mac_keys.specs.declared.fault.LineFault.{LineFault}
use Rattle.mac_keys.specs.declared.fault.KeyFault.TheVariants as faults
use Rattle.mac_keys.specs.Table.{NamedKeys, keys_of, table_or_first, fault_at, faults_of}
use Rattle.mac_keys.specs.Meaning.{fault_in_place, AreFaultless, IsFirstFault}
use Rattle.mac_keys.proofs.Numbered.{each_None, results-none, first_of, results-first}

-- ---- numbered from 0, a line's fault is that in its place

fault_at-zero_add : (lines : List (List ℕ)) (place : ℕ) (line : List ℕ) → fault_at lines (0 + place, line) ≡ option_map {U = ℕ × LineFault} (λ fault. (place + 1, fault)) (fault_in_place lines place line)
fault_at-zero_add lines place line = ap (λ n. fault_at lines (n, line)) (zero-add place)

None-from_map : {A B : Type 0} (f : A → B) (o : Option A) → option_map f o ≡ None → o ≡ None
None-from_map f None e = refl
None-from_map f (Some x) e = cc

Some-from_map : {A B : Type 0} (f : A → B) (o : Option A) (y : B) → option_map f o ≡ Some y → (x : A) × (o ≡ Some x) × (y ≡ f x)
Some-from_map f None y e = cc
Some-from_map f (Some x) y e = (x, refl, cc)

-- ---- the table

-- where no line has a fault
AreFaultless-from_none : (lines : List (List ℕ)) → faults_of lines ≡ [] → AreFaultless lines
AreFaultless-from_none lines none place line there =
    None-from_map _ _ (sym (fault_at-zero_add lines place line) ∙ each_None (fault_at lines) 0 lines none place line there)

none_from_AreFaultless : (lines : List (List ℕ)) → AreFaultless lines → faults_of lines ≡ []
none_from_AreFaultless lines faultless =
    results-none (fault_at lines) 0 lines (λ place line there.
    fault_at-zero_add lines place line ∙ ap (option_map {U = ℕ × LineFault} (λ fault. (place + 1, fault))) (faultless place line there))

of_table_or_first : (table made : NamedKeys) (found : List (ℕ × LineFault)) → table_or_first made found ≡ Ok table → (found ≡ []) × (table ≡ made)
of_table_or_first table made [] e = (refl, cc)
of_table_or_first table made (first ∷ others) e = cc

pub faultless_made : (lines : List (List ℕ)) (table : NamedKeys) → table_or_first (keys_of lines) (faults_of lines) ≡ Ok table → AreFaultless lines × (table ≡ keys_of lines)
faultless_made lines table e =
    let made = of_table_or_first table (keys_of lines) (faults_of lines) e in
    (AreFaultless-from_none lines made.0, made.1)

pub made_of_faultless : (lines : List (List ℕ)) (table : NamedKeys) → AreFaultless lines × (table ≡ keys_of lines) → table_or_first (keys_of lines) (faults_of lines) ≡ Ok table
made_of_faultless lines table (faultless, made) = ap (table_or_first (keys_of lines)) (none_from_AreFaultless lines faultless) ∙ ap Ok (sym made)

-- ---- the first fault

of_first : (made : NamedKeys) (found : List (ℕ × LineFault)) (number : ℕ) (fault : LineFault) → table_or_first made found ≡ Err (faults.Line number fault)
    → (others : List (ℕ × LineFault)) × (found ≡ (number, fault) ∷ others)
of_first made [] number fault e = cc
of_first made (first ∷ others) number fault e =
    let same : first.0 ≡ number = cc in
    let kind : first.1 ≡ fault = cc in
    (others, ap (λ n. (n, first.1) ∷ others) same ∙ ap (λ k. (number, k) ∷ others) kind)

pub first_told : (lines : List (List ℕ)) (number : ℕ) (fault : LineFault) → table_or_first (keys_of lines) (faults_of lines) ≡ Err (faults.Line number fault) → IsFirstFault lines number fault
first_told lines number fault e =
    let (others, found) = of_first (keys_of lines) (faults_of lines) number fault e in
    let (place, line, first) = first_of (fault_at lines) 0 lines (number, fault) others found in
    let (told, is, same) = Some-from_map _ (fault_in_place lines place line) (number, fault) (sym (fault_at-zero_add lines place line) ∙ first.gives) in
    let same_fault : fault ≡ told = ap (λ p. p.1) same in
    record {
      place = place;
      line = line;
      there = first.there;
      found = is ∙ ap Some (sym same_fault);
      above = λ higher other less there. None-from_map _ _ (sym (fault_at-zero_add lines higher other) ∙ first.before higher other less there);
      numbered = ap (λ p. p.0) same;
    }

pub told_first : (lines : List (List ℕ)) (number : ℕ) (fault : LineFault) → IsFirstFault lines number fault → table_or_first (keys_of lines) (faults_of lines) ≡ Err (faults.Line number fault)
told_first lines number fault first =
    let at : ℕ → Option LineFault → Option (ℕ × LineFault) = λ place. option_map {U = ℕ × LineFault} (λ fault. (place + 1, fault)) in
    let (others, is) = results-first (fault_at lines) 0 lines (first.place + 1, fault) first.place first.line (record {
      there = first.there;
      gives = fault_at-zero_add lines first.place first.line ∙ ap (at first.place) first.found;
      before = λ higher other less there. fault_at-zero_add lines higher other ∙ ap (at higher) (first.above higher other less there);
    }) in
    ap (table_or_first (keys_of lines)) is
    ∙ ap (λ n. Err (faults.Line n fault)) (sym first.numbered)

not_memory : (made : NamedKeys) (found : List (ℕ × LineFault)) → table_or_first made found ≢ Err faults.Memory
not_memory made [] e = cc
not_memory made (first ∷ others) e = cc

pub no_memory_told : (lines : List (List ℕ)) → table_or_first (keys_of lines) (faults_of lines) ≢ Err faults.Memory
no_memory_told lines = not_memory (keys_of lines) (faults_of lines)
