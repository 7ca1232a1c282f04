-- A varint is the one minimal list of groups for its number, and the shortest list of groups for it.
use Rattle.std.proofs.Common.{◌≡◌, ℕ, zero, suc, ◌+◌, ◌*◌, ◌/◌, ◌%◌, ◌<◌, ◌≤◌, List, [], ◌∷◌, length, refl, sym, ap, subst, ◌∙◌, arith, inl, inr}
use Rattle.std.proofs.lemmas.Bool.{cases_lt}
use Rattle.mac_token.specs.Varint.{varint, IsLeb128, number_of, IsMinimal, IsVarint}
use Rattle.mac_token.proofs.VarintLemmas.{varint_low, varint_high, length-varint_high}

-- one more group in front of a number that isn't 0
with_group : (b : ℕ) (bytes : List ℕ) (m : ℕ) → IsVarint bytes m → 0 < m → 128 ≤ b → b < 256 → IsVarint (b ∷ bytes) (b % 128 + 128 * m)
with_group b [] m v pos high byte = absurd v.one
with_group b (c ∷ []) m v pos high byte = record { one = (high, byte, v.one); minimal = omega (arith, v.value, pos); value = ap (λ (x : ℕ). b % 128 + 128 * x) v.value }
with_group b (c ∷ d ∷ bytes) m v pos high byte = record { one = (high, byte, v.one); minimal = v.minimal; value = ap (λ (x : ℕ). b % 128 + 128 * x) v.value }

lowest : (n : ℕ) → n < 128 → IsVarint (varint n) n
lowest n low = subst (λ (bytes : List ℕ). IsVarint bytes n) (sym (varint_low n low)) (record { one = low; minimal = tt; value = omega arith })

higher : (n : ℕ) → 128 ≤ n → IsVarint (varint (n / 128)) (n / 128) → IsVarint (varint n) n
higher n high rest =
    let sum : (128 + n % 128) % 128 + 128 * (n / 128) ≡ n = omega arith in
    let made = with_group (128 + n % 128) (varint (n / 128)) (n / 128) rest (omega arith) (omega arith) (omega arith) in
    subst (λ (bytes : List ℕ). IsVarint bytes n) (sym (varint_high n high)) (subst (λ (m : ℕ). IsVarint ((128 + n % 128) ∷ varint (n / 128)) m) sum made)

is_varint : (k n : ℕ) → n ≤ k → IsVarint (varint n) n
is_varint zero n le = lowest n (omega arith)
is_varint (suc k) n le = elim (cases_lt n 128) [ inl low ↦ lowest n low | inr high ↦ higher n high (is_varint k (n / 128) (omega arith)) ]

-- the varint of a number is a minimal list of groups for it
pub IsVarint-varint : (n : ℕ) → IsVarint (varint n) n
IsVarint-varint n = is_varint n n (omega arith)

-- what stands behind another group isn't 0
rest_positive : (b c : ℕ) (bytes : List ℕ) → IsLeb128 (c ∷ bytes) → IsMinimal (b ∷ c ∷ bytes) → 0 < number_of (c ∷ bytes)
rest_positive b c [] one minimal = omega (arith, one, minimal)
rest_positive b c (d ∷ bytes) one minimal = let more = rest_positive c d bytes one.2 minimal in omega (arith, more)

rest_minimal : (b c : ℕ) (bytes : List ℕ) → IsMinimal (b ∷ c ∷ bytes) → IsMinimal (c ∷ bytes)
rest_minimal b c [] minimal = tt
rest_minimal b c (d ∷ bytes) minimal = minimal

-- the lowest group of a number, and the rest
groups_of : (b n m : ℕ) → 128 ≤ b → b < 256 → b % 128 + 128 * m ≡ n → 0 < m → (128 ≤ n) × (m ≡ n / 128) × (b ≡ 128 + n % 128)
groups_of b n m high byte sum pos = (omega arith, omega arith, omega arith)

-- and the only one
pub varint_one : (bytes : List ℕ) (n : ℕ) → IsVarint bytes n → bytes ≡ varint n
varint_one [] n v = absurd v.one
varint_one (b ∷ []) n v =
    let low : b < 128 = v.one in
    let same : b ≡ n = omega (arith, v.value, low) in
    ap (λ (x : ℕ). x ∷ []) same ∙ sym (varint_low n (omega arith))
varint_one (b ∷ c ∷ bytes) n v =
    let pos = rest_positive b c bytes v.one.2 v.minimal in
    let rest = varint_one (c ∷ bytes) (number_of (c ∷ bytes)) (record { one = v.one.2; minimal = rest_minimal b c bytes v.minimal; value = refl }) in
    let front = groups_of b n (number_of (c ∷ bytes)) v.one.0 v.one.1 v.value pos in
    ap (λ (t : List ℕ). b ∷ t) (rest ∙ ap varint front.1) ∙ ap (λ (x : ℕ). x ∷ varint (n / 128)) front.2 ∙ sym (varint_high n front.0)

shortest_more : (b m k : ℕ) → length (varint m) ≤ k → length (varint (b % 128 + 128 * m)) ≤ suc k
shortest_more b m k le =
    elim (cases_lt (b % 128 + 128 * m) 128) [
      | inl low ↦ let l : length (varint (b % 128 + 128 * m)) ≡ 1 = ap length (varint_low (b % 128 + 128 * m) low) in omega (arith, l)
      | inr high ↦
          let part : (b % 128 + 128 * m) / 128 ≡ m = omega arith in
          let l : length (varint (b % 128 + 128 * m)) ≡ length (varint m) + 1 = length-varint_high (b % 128 + 128 * m) high ∙ ap (λ (x : ℕ). length (varint x) + 1) part in
          omega (arith, l, le)
    ]

-- no list of groups for a number is shorter than its varint
pub varint_shortest : (bytes : List ℕ) → IsLeb128 bytes → length (varint (number_of bytes)) ≤ length bytes
varint_shortest [] one = absurd one
varint_shortest (b ∷ []) one = let l : length (varint (b % 128 + 128 * 0)) ≡ 1 = ap length (varint_low (b % 128 + 128 * 0) (omega arith)) in omega (arith, l)
varint_shortest (b ∷ c ∷ bytes) one = shortest_more b (number_of (c ∷ bytes)) (length (c ∷ bytes)) (varint_shortest (c ∷ bytes) one.2)
