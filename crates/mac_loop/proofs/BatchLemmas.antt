-- Clients that are out of their slots keep the rights that they were admitted under.
use Rattle.std.proofs.Common.{◌≡◌, ℕ, List, [], ◌∷◌, ◌++◌, ◌∙◌, ◌-◌, length, length-append, map, take, ap, sym, arith, refl, suc, Some, slice_get}
use Rattle.std.proofs.Math.Seq.{take-append_seam}
use Rattle.mac_decide.specs.declared.rights.Rights.{Rights}
use Rattle.std.proofs.lemmas.List.{map-append}
use Rattle.mac_plain.specs.declared.client.Client.{Client}
use Rattle.mac_loop.specs.Batch.{rights_of}
use Rattle.mac_loop.specs.declared.port.SocketPort.{SocketPort}

-- where each has the rights that it had
pub same-rights : (olds news : List (Client SocketPort)) → length news ≡ length olds
    → ((k : ℕ) (old new : Client SocketPort) → slice_get olds k ≡ Some old → slice_get news k ≡ Some new → new.rights ≡ old.rights)
    → map rights_of news ≡ map rights_of olds
same-rights [] [] same each = refl
same-rights (old ∷ olds) [] same each = absurd (omega (arith, same))
same-rights [] (new ∷ news) same each = absurd (omega (arith, same))
same-rights (old ∷ olds) (new ∷ news) same each =
    ap (λ rights. rights.value ∷ map rights_of news) (each 0 old new refl refl)
    ∙ ap (λ (rest : List Rights). rights_of old ∷ rest) (same-rights olds news (omega (arith, same)) (λ k o n at at'. each (suc k) o n at at'))

-- one more on both sides
pub both-more : {A B C : Type 0} (f : A → C) (g : B → C) (ones : List A) (others : List B) (a : A) (b : B) → f a ≡ g b → map f ones ≡ map g others
    → map f (ones ++ a ∷ []) ≡ map g (others ++ b ∷ [])
both-more f g ones others a b last same =
    map-append f ones (a ∷ []) ∙ ap (λ l. l ++ f a ∷ []) same ∙ ap (λ c. map g others ++ c ∷ []) last ∙ sym (map-append g others (b ∷ []))

-- what was pushed is popped
pub popped : {A : Type 0} (before pushed after : List A) (one : A) (count : ℕ) → pushed ≡ before ++ one ∷ [] → count ≡ length pushed → after ≡ take (count - 1) pushed → after ≡ before
popped before pushed after one count is counted rest =
    let less : count - 1 ≡ length before = omega (arith, counted, ap length is, length-append before (one ∷ [])) in
    rest ∙ ap (λ n. take n pushed) less ∙ ap (λ l. take (length before) l) is ∙ take-append_seam before (one ∷ [])
