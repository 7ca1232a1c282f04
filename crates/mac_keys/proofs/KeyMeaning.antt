-- Which root keys a name has, by the lines that give it secrets.
use Rattle.std.proofs.Common.{◌≡◌, ℕ, zero, suc, Bool, true, false, cond, List, [], ◌∷◌, ◌++◌, Option, Some, None, Result, Ok, Err, option_map, refl, sym, ap, subst, ◌∙◌, arith}
use Rattle.std.proofs.lemmas.List.{append-nil}
use Rattle.std.proofs.lemmas.List.Elements.{filter_map-append}
use Rattle.std.proofs.lemmas.Bool.{false≢true}
use Rattle.std.proofs.lemmas.Slice.Eq.{bytes_eq-Decides}
use Rattle.std.specs.Option.{is_some}
use Rattle.std.specs.List.{filter_map, cons_option, Any, Contains}
use Rattle.std.specs.Ordering.{is_eq, eq_by_cmp}
use Rattle.std.specs.Cmp.{Equal-is, tied_itself}
use Rattle.std.specs.Cmp.Lexicographic.{nat_list_cmp_total}
use Rattle.std.specs.Str.{bytes_eq}
use Rattle.std.specs.FinMap as map
use Rattle.std.specs.FinMap.Entries.{find}
use Rattle.mac_hmac.specs.Chain.{root_of}
use Rattle.mac_keys.specs.declared.fault.LineFault.{LineFault}
use Rattle.mac_keys.specs.declared.keys.Keys.{Keys}
use Rattle.mac_keys.specs.Line.{Given, line_of}
use Rattle.mac_keys.specs.Table.{key_said, keys_given, first_two, entry_said, keys_of}
use Rattle.mac_keys.specs.Taken.{keys_with, table_with}
use Rattle.mac_keys.specs.Meaning.{GivesKey}
use Rattle.mac_keys.proofs.Names.{order, order-IsAntisymmetric}

-- ---- both tests of names

pub same_name : (name other : List ℕ) → eq_by_cmp order name other ≡ true → name ≡ other
same_name name other same = order-IsAntisymmetric name other ((Equal-is (order name other)).0 same)

pub tests_alike : (name other : List ℕ) → eq_by_cmp order name other ≡ bytes_eq other name
tests_alike name other =
    elim (bytes_eq other name) as (λ b. bytes_eq other name ≡ b → eq_by_cmp order name other ≡ b) [
      | true ↦ λ e. ap (λ n. eq_by_cmp order name n) ((bytes_eq-Decides other name).0 e) ∙ ap is_eq (tied_itself nat_list_cmp_total name)
      | false ↦ λ e. elim (eq_by_cmp order name other) as (λ b. eq_by_cmp order name other ≡ b → b ≡ false) [
        | true ↦ λ same. absurd (false≢true (sym e ∙ (bytes_eq-Decides other name).1 (sym (same_name name other same))))
        | false ↦ λ _. refl
      ] refl
    ] refl

-- ---- the keys that a table has at a name

-- whether there is any
abbrev pub has : List (List ℕ) → Bool
has [] = false
has (key ∷ keys) = true

pub is_some-first_two : (keys : List (List ℕ)) → is_some (first_two keys) ≡ has keys
is_some-first_two [] = refl
is_some-first_two (first ∷ []) = refl
is_some-first_two (first ∷ second ∷ others) = refl

abbrev entries : List (List ℕ) → List (List ℕ) → List (List ℕ × Keys)
entries all lines = filter_map (λ line. entry_said all (line_of line)) lines

nothing : (b : Bool) (keys : Option Keys) → cond b keys keys ≡ keys
nothing true keys = refl
nothing false keys = refl

found_here : (name other : List ℕ) (keys rest : Option Keys) (es : List (List ℕ × Keys)) → bytes_eq other name ≡ true → rest ≡ cond (is_some rest) keys None → find order name es ≡ rest
    → find order name (cons_option (option_map {U = List ℕ × Keys} (λ k. (other, k)) keys) es) ≡ keys
found_here name other None rest es same is below = below ∙ is ∙ nothing (is_some rest) None
found_here name other (Some keys) rest es same is below = ap (λ b. cond b (Some keys) (find order name es)) (tests_alike name other ∙ same)

found_past : (name other : List ℕ) (keys : Option Keys) (es : List (List ℕ × Keys)) → bytes_eq other name ≡ false
    → find order name (cons_option (option_map {U = List ℕ × Keys} (λ k. (other, k)) keys) es) ≡ find order name es
found_past name other None es apart = refl
found_past name other (Some keys) es apart = ap (λ b. cond b (Some keys) (find order name es)) (tests_alike name other ∙ apart)

kept : (b : Bool) (o : Option Keys) → cond b o None ≡ cond (is_some (cond b o None)) o None
kept true None = refl
kept true (Some keys) = refl
kept false o = refl

found_said : (all : List (List ℕ)) (name : List ℕ) (lines : List (List ℕ)) → find order name (entries all lines) ≡ cond (has (keys_given name lines)) (first_two (keys_given name all)) None
    → (said : Result (Option Given) LineFault)
    → find order name (cons_option (entry_said all said) (entries all lines)) ≡ cond (has (cons_option (key_said name said) (keys_given name lines))) (first_two (keys_given name all)) None
found_said all name lines below (Ok None) = below
found_said all name lines below (Err fault) = below
found_said all name lines below (Ok (Some g)) =
    elim (bytes_eq g.name name) as (λ b. bytes_eq g.name name ≡ b → find order name (cons_option (option_map {U = List ℕ × Keys} (λ k. (g.name, k)) (first_two (keys_given g.name all))) (entries all lines))
    ≡ cond (has (cons_option (cond b (Some (root_of g.secret)) None) (keys_given name lines))) (first_two (keys_given name all)) None) [
      | true ↦ λ same.
          ap (λ n. find order name (cons_option (option_map {U = List ℕ × Keys} (λ k. (g.name, k)) (first_two (keys_given n all))) (entries all lines))) ((bytes_eq-Decides g.name name).0 same)
          ∙ found_here name g.name (first_two (keys_given name all)) _ (entries all lines) same (kept (has (keys_given name lines)) (first_two (keys_given name all))) below
      | false ↦ λ apart. found_past name g.name (first_two (keys_given g.name all)) (entries all lines) apart ∙ below
    ] refl

found_among : (all : List (List ℕ)) (name : List ℕ) (lines : List (List ℕ)) → find order name (entries all lines) ≡ cond (has (keys_given name lines)) (first_two (keys_given name all)) None
found_among all name [] = refl
found_among all name (line ∷ lines) = found_said all name lines (found_among all name lines) (line_of line)

itself : (keys : List (List ℕ)) → cond (has keys) (first_two keys) None ≡ first_two keys
itself [] = refl
itself (first ∷ keys) = refl

pub get-keys_of : (lines : List (List ℕ)) (name : List ℕ) → map.get (keys_of lines) name ≡ first_two (keys_given name lines)
get-keys_of lines name =
    map.get-from_entries nat_list_cmp_total (entries lines lines) name
    ∙ found_among lines name lines
    ∙ itself (keys_given name lines)

-- ---- one more line

pub keys_given-push : (name : List ℕ) (above : List (List ℕ)) (line : List ℕ) → keys_given name (above ++ line ∷ []) ≡ keys_given name above ++ cons_option (key_said name (line_of line)) []
keys_given-push name above line = filter_map-append (λ l. key_said name (line_of l)) above (line ∷ [])

first_two-push : (keys : List (List ℕ)) (key : List ℕ) → first_two (keys ++ key ∷ []) ≡ Some (keys_with (first_two keys) key)
first_two-push [] key = refl
first_two-push (first ∷ []) key = refl
first_two-push (first ∷ second ∷ others) key = refl

gets_said : (above : List (List ℕ)) (name : List ℕ) (said : Result (Option Given) LineFault)
    → first_two (keys_given name above ++ cons_option (key_said name said) []) ≡ map.get (table_with (keys_of above) said) name
gets_said above name (Ok None) = ap first_two (append-nil (keys_given name above)) ∙ sym (get-keys_of above name)
gets_said above name (Err fault) = ap first_two (append-nil (keys_given name above)) ∙ sym (get-keys_of above name)
gets_said above name (Ok (Some g)) =
    let next = keys_with (map.get (keys_of above) g.name) (root_of g.secret) in
    let test : bytes_eq g.name name ≡ eq_by_cmp order name g.name = sym (tests_alike name g.name) in
    elim (bytes_eq g.name name) as (λ b. bytes_eq g.name name ≡ b → first_two (keys_given name above ++ cons_option (cond b (Some (root_of g.secret)) None) []) ≡ cond b (Some next) (map.get (keys_of above) name)) [
      | true ↦ λ same.
          first_two-push (keys_given name above) (root_of g.secret)
          ∙ ap (λ found. Some (keys_with found (root_of g.secret))) (sym (get-keys_of above name) ∙ ap (map.get (keys_of above)) (sym ((bytes_eq-Decides g.name name).0 same)))
      | false ↦ λ apart. ap first_two (append-nil (keys_given name above)) ∙ sym (get-keys_of above name)
    ] refl
    ∙ ap (λ b. cond b (Some next) (map.get (keys_of above) name)) test
    ∙ sym (map.get-insert nat_list_cmp_total (keys_of above) g.name next name)

-- one more line adds what it gives
pub keys_of-push : (above : List (List ℕ)) (line : List ℕ) → keys_of (above ++ line ∷ []) ≡ table_with (keys_of above) (line_of line)
keys_of-push above line = map.same_map nat_list_cmp_total order-IsAntisymmetric _ _ (λ name.
    get-keys_of (above ++ line ∷ []) name
    ∙ ap first_two (keys_given-push name above line)
    ∙ gets_said above name (line_of line))

-- ---- each key comes from a line

pub any_here : {X : Type 0} (P : X → Type 0) (x : X) (xs : List X) → P x → Any P (x ∷ xs)
any_here P x xs here = (0, x, omega arith, refl, here)

pub any_later : {X : Type 0} (P : X → Type 0) (x : X) (xs : List X) → Any P xs → Any P (x ∷ xs)
any_later P x xs (k, y, within, is, later) = (suc k, y, omega arith, is, later)

named_here : (name key line : List ℕ) (g : Given) → line_of line ≡ Ok (Some g) → bytes_eq g.name name ≡ true → root_of g.secret ≡ key → GivesKey name key line
named_here name key line g said same derived = record {
  secret = g.secret;
  said = said ∙ ap (λ n. Ok (Some (record { name = n; secret = g.secret }))) ((bytes_eq-Decides g.name name).0 same);
  derived = sym derived;
}

in_first : (name key line : List ℕ) (g : Given) (lines : List (List ℕ)) → line_of line ≡ Ok (Some g) → bytes_eq g.name name ≡ true → (Contains (keys_given name lines) key → Any (GivesKey name key) lines)
    → Contains (root_of g.secret ∷ keys_given name lines) key → Any (GivesKey name key) (line ∷ lines)
in_first name key line g lines said same below (zero, within, is) = any_here _ line lines (named_here name key line g said same is)
in_first name key line g lines said same below (suc k, within, is) = any_later _ line lines (below (k, omega arith, is))

from_said : (name key line : List ℕ) (lines : List (List ℕ)) → (Contains (keys_given name lines) key → Any (GivesKey name key) lines)
    → (said : Result (Option Given) LineFault) → line_of line ≡ said → Contains (cons_option (key_said name said) (keys_given name lines)) key → Any (GivesKey name key) (line ∷ lines)
from_said name key line lines below (Ok None) is contains = any_later _ line lines (below contains)
from_said name key line lines below (Err fault) is contains = any_later _ line lines (below contains)
from_said name key line lines below (Ok (Some g)) is contains =
    elim (bytes_eq g.name name) as (λ b. bytes_eq g.name name ≡ b → Contains (cons_option (cond b (Some (root_of g.secret)) None) (keys_given name lines)) key → Any (GivesKey name key) (line ∷ lines)) [
      | true ↦ λ same found. in_first name key line g lines is same below found
      | false ↦ λ apart found. any_later _ line lines (below found)
    ] refl contains

pub line_of_key : (name key : List ℕ) (lines : List (List ℕ)) → Contains (keys_given name lines) key → Any (GivesKey name key) lines
line_of_key name key [] (k, within, is) = absurd (omega arith)
line_of_key name key (line ∷ lines) contains = from_said name key line lines (line_of_key name key lines) (line_of line) refl contains

-- what a line gives the name stands first
pub said_first : (name secret : List ℕ) (line : List ℕ) (rest : List (List ℕ)) → line_of line ≡ Ok (Some (record { name = name; secret = secret }))
    → cons_option (key_said name (line_of line)) rest ≡ root_of secret ∷ rest
said_first name secret line rest said =
    ap (λ s. cons_option (key_said name s) rest) said
    ∙ ap (λ b. cons_option (cond b (Some (root_of secret)) None) rest) ((bytes_eq-Decides name name).1 refl)

still_in : (key : List ℕ) (o : Option (List ℕ)) (keys : List (List ℕ)) → Contains keys key → Contains (cons_option o keys) key
still_in key None keys contains = contains
still_in key (Some first) keys (k, within, is) = (suc k, omega arith, is)

pub key_of_line : (name key : List ℕ) (lines : List (List ℕ)) → Any (GivesKey name key) lines → Contains (keys_given name lines) key
key_of_line name key [] (k, line, within, is, gives) = absurd (omega arith)
key_of_line name key (first ∷ lines) (zero, line, within, is, gives) =
    subst (λ (keys : List (List ℕ)). Contains keys key)
    (sym (said_first name gives.secret first (keys_given name lines) (ap line_of is ∙ gives.said)))
    (0, omega arith, sym gives.derived)
key_of_line name key (first ∷ lines) (suc k, line, within, is, gives) =
    still_in key (key_said name (line_of first)) (keys_given name lines) (key_of_line name key lines (k, line, omega arith, is, gives))
