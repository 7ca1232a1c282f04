-- An output that grows by the parts of a text.
use Rattle.std.proofs.Common.{◌≡◌, ℕ, List, [], ◌++◌, length, take, drop, refl, sym, ap, ◌∙◌, append_assoc, subst}
use Rattle.std.proofs.lemmas.List.{append-nil, take_at, take-append-drop}
use Rattle.std.specs.Prelude.{Result, Ok, Err, IsErrAnd}
use Rattle.mac_commands.specs.declared.fault.PipeFault.{PipeFault}
use Rattle.mac_commands.specs.declared.fault.PipeFault.TheVariants as fault
use Rattle.mac_commands.specs.Inner.{EndsWriting, Writes}
use Rattle.mac_commands.specs.Output.{Begins}

-- the output was old and is new, and the rest of the text is still to come
pub record Remains (text old new rest : List ℕ) : Type 0 where
  pub out : List ℕ
  pub new_is : new ≡ old ++ out
  pub whole : out ++ rest ≡ text

pub remains-none : (text old : List ℕ) → Remains text old old text
remains-none text old = record { out = []; new_is = sym (append-nil old); whole = refl }

pub remains-begins : (text old new rest : List ℕ) → Remains text old new rest → Begins text old new
remains-begins text old new rest r =
    let front : r.out ≡ take (length r.out) text = sym (take_at r.out rest (length r.out) refl) ∙ ap (take (length r.out)) r.whole in
    (length r.out, r.new_is ∙ ap (λ (l : List ℕ). old ++ l) front)

-- a part was written
pub remains-sent : (text old new new' sent rest : List ℕ) → Remains text old new (sent ++ rest) → new' ≡ new ++ sent → Remains text old new' rest
remains-sent text old new new' sent rest r e = record {
  out = r.out ++ sent;
  new_is = e ∙ ap (λ (l : List ℕ). l ++ sent) r.new_is ∙ append_assoc old r.out sent;
  whole = append_assoc r.out sent rest ∙ r.whole;
}

-- a beginning of a part was written
pub remains-cut : (text old new new' sent rest : List ℕ) (n : ℕ) → Remains text old new (sent ++ rest) → new' ≡ new ++ take n sent → Begins text old new'
remains-cut text old new new' sent rest n r e =
    let parts : sent ++ rest ≡ take n sent ++ (drop n sent ++ rest) =
    ap (λ (l : List ℕ). l ++ rest) (sym (take-append-drop n sent)) ∙ append_assoc (take n sent) (drop n sent) rest in
    remains-begins text old new' (drop n sent ++ rest)
    (remains-sent text old new new' (take n sent) (drop n sent ++ rest) (rw parts at r) e)

-- the next line was gathered
pub remains-more : (text old new gathered gathered' line rest rest' : List ℕ) →
    Remains text old new (gathered ++ rest) → gathered' ≡ gathered ++ line → rest ≡ line ++ rest' →
    Remains text old new (gathered' ++ rest')
remains-more text old new gathered gathered' line rest rest' r g e =
    let whole : gathered' ++ rest' ≡ gathered ++ rest =
    ap (λ (l : List ℕ). l ++ rest') g ∙ append_assoc gathered line rest' ∙ sym (ap (λ (l : List ℕ). gathered ++ l) e) in
    rw whole r

-- a run that ends for want of memory, or by a device's fault, wrote a beginning
pub writes-memory : {T : Type 0} (r : Result T PipeFault) (text old new : List ℕ) →
    IsErrAnd r (λ f. f ≡ fault.Memory) → Begins text old new → Writes r text old new
writes-memory {T} (Ok x) text old new e b = absurd e
writes-memory {T} (Err f) text old new e b = subst (λ (f' : PipeFault). Writes {T = T} (Err f') text old new) (sym e) b

pub writes-device : {T : Type 0} (r : Result T PipeFault) (text old new : List ℕ) →
    IsErrAnd r (λ f. f ≡ fault.Device) → Begins text old new → Writes r text old new
writes-device {T} (Ok x) text old new e b = absurd e
writes-device {T} (Err f) text old new e b = subst (λ (f' : PipeFault). Writes {T = T} (Err f') text old new) (sym e) b

pub ends-memory : {T : Type 0} (r : Result T PipeFault) → IsErrAnd r (λ f. f ≡ fault.Memory) → EndsWriting r
ends-memory {T} (Ok x) e = absurd e
ends-memory {T} (Err f) e = rw e tt

pub ends-device : {T : Type 0} (r : Result T PipeFault) → IsErrAnd r (λ f. f ≡ fault.Device) → EndsWriting r
ends-device {T} (Ok x) e = absurd e
ends-device {T} (Err f) e = rw e tt
