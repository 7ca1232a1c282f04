-- A packet that is read is the packet that was written, and what was written is read again.
use Rattle.std.proofs.Common.{◌≡◌, ℕ, ◌+◌, ◌-◌, ◌^◌, ◌<◌, ◌≤◌, false, cond, ltb, List, [], ◌∷◌, ◌++◌, length, take, drop, Some, None, refl, sym, ap, subst, ◌∙◌, append_assoc, arith, length-append}
use Rattle.std.specs.Prelude.{nat_eq}
use Rattle.std.specs.List.{starts_with}
use Rattle.std.proofs.lemmas.Bool.{ltb-false, le-ltb, eqb-true}
use Rattle.std.proofs.lemmas.List.{take_at, drop_at, take-append-drop, length-take}
use Rattle.std.proofs.lemmas.Bool.Decides.{Decides-eqb}
use Rattle.std.proofs.lemmas.Slice.Eq.{starts_is}
use Rattle.mac_token.specs.declared.v1.key.PacketKey.{PacketKey}
use Rattle.mac_token.specs.V1.{HasLength, key_name, packet, packet_length, hex_digits}
use Rattle.mac_token.specs.V1Reading.{hex_number, line_end, line_of, line_at, front_of, field_at}
use Rattle.mac_token.proofs.Steps.{bind_some, kept, passed}
use Rattle.mac_token.proofs.Hex.{hex_number_takes, hex_number_again}

-- what a line's packet is, with what follows it
abbrev pub packet_of_line : List ℕ → List ℕ → List ℕ
packet_of_line line rest = hex_digits (length line + 5) ++ (line ++ 10 ∷ rest)

pub record IsLine (bytes line rest : List ℕ) : Type 0 where
  pub parts : bytes ≡ packet_of_line line rest
  pub below : length line + 5 < 2 ^ 16

cells : {a b : ℕ} {x y : List ℕ} → a ≡ b → x ≡ y → (a ∷ x) ≡ (b ∷ y)
cells p q = cc

joined : {a b x y : List ℕ} → a ≡ b → x ≡ y → a ++ x ≡ b ++ y
joined p q = cc

line_end_takes : (front end line rest : List ℕ) → line_end front end ≡ Some (line, rest) → (line ≡ front) × (end ≡ 10 ∷ rest)
line_end_takes front [] line rest e = absurd cc
line_end_takes front (b ∷ after) line rest e =
    let k = kept (nat_eq b 10) (front, after) (line, rest) e in
    let b-is = eqb-true b 10 k.0 in
    (sym (ap (λ (p : List ℕ × List ℕ). p.0) k.1), cells b-is (ap (λ (p : List ℕ × List ℕ). p.1) k.1))

line_of_takes : (n : ℕ) (after line rest : List ℕ) → line_of n after ≡ Some (line, rest) → (after ≡ line ++ 10 ∷ rest) × (n ≡ length line + 5)
line_of_takes n after line rest e =
    let long = passed (ltb n 5) (cond (ltb (length after) (n - 5)) None (line_end (take (n - 5) after) (drop (n - 5) after))) (line, rest) e in
    let there = passed (ltb (length after) (n - 5)) (line_end (take (n - 5) after) (drop (n - 5) after)) (line, rest) long.1 in
    let parts = line_end_takes (take (n - 5) after) (drop (n - 5) after) line rest there.1 in
    let five : 5 ≤ n = ltb-false n 5 long.0 in
    let enough : n - 5 ≤ length after = ltb-false (length after) (n - 5) there.0 in
    let size : length line ≡ n - 5 = ap length parts.0 ∙ omega (arith, length-take (n - 5) after) in
    let whole : after ≡ line ++ 10 ∷ rest = sym (take-append-drop (n - 5) after) ∙ joined (sym parts.0) parts.1 in
    (whole, omega arith)

-- the packet at the front, as it was spelled
pub line_at_takes : (bytes line rest : List ℕ) → line_at bytes ≡ Some (line, rest) → IsLine bytes line rest
unfolding line_at
line_at_takes [] line rest e = absurd cc
line_at_takes (a ∷ []) line rest e = absurd cc
line_at_takes (a ∷ b ∷ []) line rest e = absurd cc
line_at_takes (a ∷ b ∷ c ∷ []) line rest e = absurd cc
line_at_takes (a ∷ b ∷ c ∷ d ∷ after) line rest e =
    let number = bind_some (hex_number a b c d) (λ n. line_of n after) (line, rest) e in
    let digits = hex_number_takes a b c d number.0 number.1 in
    let parts = line_of_takes number.0 after line rest number.2 in
    record {
      parts = joined (digits.digits ∙ ap hex_digits parts.1) parts.0;
      below = subst (λ n. n < 2 ^ 16) parts.1 digits.below;
    }

line_of_again : (line rest : List ℕ) → line_of (length line + 5) (line ++ 10 ∷ rest) ≡ Some (line, rest)
line_of_again line rest =
    let long : ltb (length line + 5) 5 ≡ false = le-ltb _ _ (omega arith) in
    let size : length line ≡ length line + 5 - 5 = omega arith in
    let there : ltb (length (line ++ 10 ∷ rest)) (length line + 5 - 5) ≡ false = le-ltb _ _ (omega (arith, length-append line (10 ∷ rest))) in
    rw (long, there, take_at line (10 ∷ rest) (length line + 5 - 5) size, drop_at line (10 ∷ rest) (length line + 5 - 5) size) refl

pub line_at_again : (line rest : List ℕ) → length line + 5 < 2 ^ 16 → line_at (packet_of_line line rest) ≡ Some (line, rest)
unfolding line_at
line_at_again line rest below = rw (hex_number_again (length line + 5) below) (line_of_again line rest)

-- ---- a line with a key

pub record IsField (bytes : List ℕ) (key : PacketKey) (value rest : List ℕ) : Type 0 where
  pub parts : bytes ≡ packet (record { key = key; value = value }) ++ rest
  pub below : HasLength (record { key = key; value = value })

-- a packet is the packet of its line
pub packet_is : (key : PacketKey) (value rest : List ℕ) → packet (record { key = key; value = value }) ++ rest ≡ packet_of_line (front_of key ++ value) rest
unfolding packet
packet_is key value rest =
    let size : packet_length (record { key = key; value = value }) ≡ length (front_of key ++ value) + 5 =
    omega (arith, length-append (front_of key) value, length-append (key_name key) (32 ∷ [])) in
    rw size (simp append_assoc)

pub field_at_takes : (key : PacketKey) (bytes value rest : List ℕ) → field_at key bytes ≡ Some (value, rest) → IsField bytes key value rest
unfolding field_at
field_at_takes key bytes value rest e =
    let line = bind_some (line_at bytes) (λ l. cond (starts_with nat_eq l.0 (front_of key)) (Some (drop (length (front_of key)) l.0, l.1)) None) (value, rest) e in
    let is = line_at_takes bytes line.0.0 line.0.1 line.1 in
    let k = kept (starts_with nat_eq line.0.0 (front_of key)) (drop (length (front_of key)) line.0.0, line.0.1) (value, rest) line.2 in
    let front = (starts_is Decides-eqb line.0.0 (front_of key) (starts_with nat_eq line.0.0 (front_of key)) refl).0 k.0 in
    let value-is : drop (length (front_of key)) line.0.0 ≡ value = ap (λ (p : List ℕ × List ℕ). p.0) k.1 in
    let rest-is : line.0.1 ≡ rest = ap (λ (p : List ℕ × List ℕ). p.1) k.1 in
    let line-is : line.0.0 ≡ front_of key ++ value = front ∙ ap (λ (v : List ℕ). front_of key ++ v) value-is in
    record {
      parts = is.parts ∙ ap (λ (l : List ℕ). packet_of_line l line.0.1) line-is ∙ ap (λ (r : List ℕ). packet_of_line (front_of key ++ value) r) rest-is ∙ sym (packet_is key value rest);
      below = omega (arith, is.below, ap length line-is, length-append (front_of key) value, length-append (key_name key) (32 ∷ []));
    }

pub field_at_again : (key : PacketKey) (value rest : List ℕ) → HasLength (record { key = key; value = value }) → field_at key (packet (record { key = key; value = value }) ++ rest) ≡ Some (value, rest)
unfolding field_at
field_at_again key value rest below =
    let small : length (front_of key ++ value) + 5 < 2 ^ 16 = omega (arith, below, length-append (front_of key) value, length-append (key_name key) (32 ∷ [])) in
    let starts = (starts_is Decides-eqb (front_of key ++ value) (front_of key) (starts_with nat_eq (front_of key ++ value) (front_of key)) refl).1 value refl in
    rw (packet_is key value rest, line_at_again (front_of key ++ value) rest small, starts, drop_at (front_of key) value (length (front_of key)) refl) refl
