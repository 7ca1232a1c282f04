-- The name that is read in a payload's front is the one that stands there.
use Rattle.std.proofs.Common.{◌≡◌, ℕ, ◌≤◌, inl, inr, eqb, ltb, List, [], ◌∷◌, ◌++◌, length, take, drop, Some, None, refl, sym, ap, ◌∙◌, arith}
use Rattle.std.proofs.lemmas.Bool.{eqb-true, ltb-false}
use Rattle.std.proofs.lemmas.List.{length-take, take-append-drop}
use Rattle.mac_wire.specs.KeyName.{HasMintName, HasVerifyName, HasName, IsVerifyKind}
use Rattle.mac_wire.specs.Reading.{short_field_at, name_at, mint_name_at, key_name_of}
use Rattle.mac_wire.specs.Request.{short_field}
use Rattle.mac_wire.proofs.Spelling.{bind_some, unless_some, some_is, chosen, short_again}

-- what is read as a name stands behind its length
record Stands (bytes name : List ℕ) : Type 0 where
  rest : List ℕ
  parts : bytes ≡ short_field name ++ rest

name_stands : (bytes name : List ℕ) → name_at bytes ≡ Some name → Stands bytes name
unfolding name_at short_field_at
name_stands [] name e = absurd cc
name_stands (n ∷ bytes) name e =
    let f = bind_some (short_field_at (n ∷ bytes)) (λ x. Some x.0) name e in
    let g = unless_some (ltb (length bytes) n) (take n bytes, drop n bytes) f.0 f.1 in
    let long : n ≤ length bytes = ltb-false _ _ g.0 in
    let is : take n bytes ≡ name = ap (λ (p : List ℕ × List ℕ). p.0) g.1 ∙ some_is f.0.0 name f.2 in
    let size : n ≡ length name = omega (arith, length-take n bytes, ap length is) in
    record {
      rest = drop n bytes;
      parts = ap (λ (xs : List ℕ). n ∷ xs) (sym (take-append-drop n bytes)) ∙ ap (λ (k : ℕ). k ∷ (take n bytes ++ drop n bytes)) size
          ∙ ap (λ (xs : List ℕ). length name ∷ (xs ++ drop n bytes)) is;
    }

name_again : (name rest : List ℕ) → name_at (short_field name ++ rest) ≡ Some name
unfolding name_at
name_again name rest = rw (short_again name rest) refl

mint_named : (bytes name : List ℕ) → mint_name_at bytes ≡ Some name → HasMintName (1 ∷ bytes) name
unfolding mint_name_at
mint_named [] name e = absurd cc
mint_named (form ∷ bytes) name e =
    let s = name_stands bytes name e in
    record { form = form; rest = s.rest; parts = ap (λ (xs : List ℕ). 1 ∷ form ∷ xs) s.parts }

verify_named : (kind : ℕ) (bytes name : List ℕ) → IsVerifyKind kind → name_at bytes ≡ Some name → HasVerifyName (kind ∷ bytes) name
verify_named kind bytes name h e =
    let s = name_stands bytes name e in
    record { kind = kind; is_kind = h; rest = s.rest; parts = ap (λ (xs : List ℕ). kind ∷ xs) s.parts }

pub named : (payload name : List ℕ) → key_name_of payload ≡ Some name → HasName payload name
unfolding key_name_of
named [] name e = absurd cc
named (kind ∷ bytes) name e =
    elim (chosen (eqb kind 1) (mint_name_at bytes) _ (Some name) e) [
      | inl a ↦ rw (eqb-true kind 1 a.0) (inl (mint_named bytes name a.1))
      | inr b ↦ elim (chosen (eqb kind 3) (name_at bytes) _ (Some name) b.1) [
        | inl a ↦ inr (verify_named kind bytes name (inl (eqb-true kind 3 a.0)) a.1)
        | inr c ↦ elim (chosen (eqb kind 4) (name_at bytes) _ (Some name) c.1) [
          | inl a ↦ inr (verify_named kind bytes name (inr (inl (eqb-true kind 4 a.0))) a.1)
          | inr d ↦ elim (chosen (eqb kind 5) (name_at bytes) None (Some name) d.1) [
            | inl a ↦ inr (verify_named kind bytes name (inr (inr (eqb-true kind 5 a.0))) a.1)
            | inr f ↦ absurd cc
          ]
        ]
      ]
    ]

verify_kind : (kind : ℕ) (rest : List ℕ) → IsVerifyKind kind → key_name_of (kind ∷ rest) ≡ name_at rest
unfolding key_name_of
verify_kind kind rest (inl h) = rw h refl
verify_kind kind rest (inr (inl h)) = rw h refl
verify_kind kind rest (inr (inr h)) = rw h refl

pub names : (payload name : List ℕ) → HasName payload name → key_name_of payload ≡ Some name
unfolding key_name_of mint_name_at
names payload name (inl h) = ap key_name_of h.parts ∙ name_again name h.rest
names payload name (inr h) =
    ap key_name_of h.parts ∙ verify_kind h.kind (short_field name ++ h.rest) h.is_kind ∙ name_again name h.rest
