use Rattle.std.proofs.Common.{◌≡◌, ◌∙◌, Bor, codes, false, List, map, ℕ, refl, Some, sym, true}
use Rattle.std.specs.List.{list_all}
use Rattle.macaroond.specs.Logging.{is_log_word}
use Rattle.macaroond.proofs.HttpLemmas.{all_lent, any_lent}
use Rattle.macaroond.proofs.logging.logged_by.Goals as goal

pub returns-then-not-are_log_words : goal.returns-then-not-are_log_words
returns-then-not-are_log_words c =
    let words : List (Bor (List ℕ)) = c.args.words.now in
    let own : words ≡ words = refl in
    let named : map (λ (w : Bor (List ℕ)). w.now) words ≡ map (λ (w : Bor (List ℕ)). w.now) words = refl in
    let all : list_all is_log_word (map (λ (w : Bor (List ℕ)). w.now) words) ≡ false = all_lent is_log_word named own ∙ sym c.are_log_words.ensures ∙ c.if-not-are_log_words.true in
    rw all refl

pub returns : goal.returns
returns c =
    let words : List (Bor (List ℕ)) = c.args.words.now in
    let own : words ≡ words = refl in
    let named : map (λ (w : Bor (List ℕ)). w.now) words ≡ map (λ (w : Bor (List ℕ)). w.now) words = refl in
    let all : list_all is_log_word (map (λ (w : Bor (List ℕ)). w.now) words) ≡ true = all_lent is_log_word named own ∙ sym c.are_log_words.ensures ∙ c.if-not-are_log_words.false in
    let requests = c.has_word.ensures ∙ any_lent (codes "requests") named own in
    let mints = c.has_word-2.ensures ∙ any_lent (codes "mints") named own in
    let identifiers = c.has_word-3.ensures ∙ any_lent (codes "identifiers") named own in
    rw all (λ i. Some (record { requests = requests i; mints = mints i; identifiers = identifiers i }))
