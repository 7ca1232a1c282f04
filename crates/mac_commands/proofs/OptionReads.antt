-- What the getters of `clap` read of an option, by the rows of a parse.
use Rattle.std.proofs.Common.{◌≡◌, ◌∙◌, ◌≤◌, inl, inr, ℕ, sym, subst, Option, Some, None, Result, Ok, Err}
use Rattle.std.specs.Str.Parse.{ParsesUnsigned}
use Rattle.clap.specs.Matches.{ReadsOne, one_text}
use Rattle.clap.specs.Walk.{Text, first_of, rows_of}
use Rattle.clap.specs.declared.parser.matches.Found.{Found}
use Rattle.clap.proofs.WalkLemmas.{one_text-rows}
use Rattle.mac_commands.specs.CommandLine.{IsNumberFrom}
use Rattle.mac_commands.specs.Options.{HasNumber, IsGivenNumberFrom, MayRead, Reads}

module _ (E : Type 0) (G : Text → Result ℕ E → Type 0) (parses : (t : Text) (r : Result ℕ E) → G t r → ParsesUnsigned 64 10 t r) (f : Found) (id : Text) where
  -- the number of an option that was given
  number_is : (least most n : ℕ) → ((t : Text) → one_text f id ≡ Some t → ReadsOne G t (Some n)) → IsGivenNumberFrom least most id (rows_of f)
      → IsNumberFrom least most n (first_of id (rows_of f))
  number_is least most n reads (text, given, within) =
      let parsed = parses text (Ok n) (reads text (one_text-rows f id ∙ given.1)) in
      (text, given.0, within.0, parsed.1, subst (λ k. least ≤ k) (sym parsed.1) within.2, subst (λ k. k ≤ most) (sym parsed.1) within.3)

  -- which is there
  not_refused : (least most : ℕ) → ((t : Text) → one_text f id ≡ Some t → ReadsOne G t None) → IsGivenNumberFrom least most id (rows_of f) → ⊥
  not_refused least most reads (text, given, within) =
      let refused = reads text (one_text-rows f id ∙ given.1) in
      parses text (Err refused.0) refused.1 (within.0, within.1)

  pub number_read : (n : ℕ) → ((t : Text) → one_text f id ≡ Some t → ReadsOne G t (Some n)) → Reads id (rows_of f) n
  number_read n reads = λ most given. number_is 1 most n reads given

  pub number_there : ((t : Text) → one_text f id ≡ Some t → ReadsOne G t None) → HasNumber id (rows_of f) → ⊥
  number_there reads given = not_refused 1 given.0 reads given.1

  -- and of one that may be left out
  pub number_may_read : (o : Option ℕ) → (one_text f id ≡ None → o ≡ None) → ((t : Text) → one_text f id ≡ Some t → ReadsOne G t o) → MayRead id (rows_of f) o
  number_may_read None none reads = λ least most may. elim may [
    | inl out ↦ out.0
    | inr given ↦ absurd (not_refused least most reads given)
  ]
  number_may_read (Some n) none reads = λ least most may. elim may [
    | inl out ↦ let bad = none (one_text-rows f id ∙ out.1) in absurd (cc)
    | inr given ↦ number_is least most n reads given
  ]
