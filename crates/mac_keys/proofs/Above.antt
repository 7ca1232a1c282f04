-- What is wrong with a line because of those above it.
use Rattle.std.proofs.Common.{◌≡◌, ◌↔◌, inl, inr, ℕ, zero, suc, ◌+◌, ◌≤◌, nat_le, Bool, true, false, cond, ◌||◌, List, [], ◌∷◌, ◌++◌, length, take, get_or, Option, Some, None, Result, Ok, Err, refl, sym, ap, subst, ◌∙◌, arith}
use Rattle.std.proofs.lemmas.List.{take_more, take_all, append-nil}
use Rattle.std.proofs.lemmas.List.Elements.{filter_map-append}
use Rattle.std.proofs.lemmas.Bool.{false≢true}
use Rattle.std.proofs.lemmas.Bool.Decides.{nat_tests}
use Rattle.std.proofs.lemmas.Slice.Eq.{bytes_eq-Decides}
use Rattle.std.specs.Option.{is_some}
use Rattle.std.specs.List.{Any, cons_option, filter_map, list_any}
use Rattle.std.specs.Ordering.{eq_by_cmp}
use Rattle.std.specs.Str.{bytes_eq}
use Rattle.std.specs.Cmp.Lexicographic.{nat_list_cmp_total}
use Rattle.std.specs.FinMap as map
use Rattle.std.specs.FinSet as set
use Rattle.mac_hmac.specs.Chain.{root_of}
use Rattle.mac_keys.specs.declared.fault.LineFault.{LineFault}
use Rattle.mac_keys.specs.declared.fault.LineFault.TheVariants.{BadName, BadHex, EmptySecret, Twice, TooMany, BadLine}
use Rattle.mac_keys.specs.declared.keys.Keys.{Keys}
use Rattle.mac_keys.specs.declared.key_map.TheConstants.{NAMES_MAX}
use Rattle.mac_keys.specs.Line.{Given, line_of}
use Rattle.mac_keys.specs.Table.{NamedKeys, key_said, keys_given, first_two, keys_of, fault_of_keys, fault_below}
use Rattle.mac_keys.specs.Taken.{keys_with, table_with}
use Rattle.mac_keys.specs.Meaning.{GivesName, TwoOf, name_said, names_given, IsTwice, IsTooMany}
use Rattle.mac_keys.proofs.Names.{order, order-IsAntisymmetric}
use Rattle.mac_keys.proofs.KeyMeaning.{tests_alike, has, is_some-first_two, get-keys_of, keys_of-push, any_here, any_later, said_first}
use Rattle.mac_keys.proofs.FaultLemmas.{fault_of_keys-full}
use Rattle.mac_keys.proofs.Spelling.{Spells-from_line, line_of-spelled}
use Rattle.mac_keys.proofs.Refused.{HasFault, HasFault-from_line, line_of-fault}

-- ---- the fault below a table

-- whether these are two keys
abbrev are_two : Option Keys → Bool
are_two None = false
are_two (Some keys) = is_some keys.second

-- the line gives a secret to a name that has two keys
pub record GivesThird (table : NamedKeys) (line : List ℕ) : Type 0 where
  pub given : Given
  pub said : line_of line ≡ Ok (Some given)
  pub known : are_two (map.get table given.name) ≡ true

-- the line gives a secret to a name that has none
pub record GivesFirst (table : NamedKeys) (line : List ℕ) : Type 0 where
  pub given : Given
  pub said : line_of line ≡ Ok (Some given)
  pub new : map.get table given.name ≡ None

-- what a fault of a line says below the table that those above it make
abbrev pub HasFaultBelow : NamedKeys → List ℕ → LineFault → Type 0
HasFaultBelow table line Twice = GivesThird table line
HasFaultBelow table line TooMany = GivesFirst table line × (NAMES_MAX ≤ map.len table)
HasFaultBelow table line BadLine = HasFault line BadLine
HasFaultBelow table line BadName = HasFault line BadName
HasFaultBelow table line EmptySecret = HasFault line EmptySecret
HasFaultBelow table line BadHex = HasFault line BadHex

of_itself : (table : NamedKeys) (line : List ℕ) (fault : LineFault) → HasFault line fault → HasFaultBelow table line fault
of_itself table line Twice has = absurd has
of_itself table line TooMany has = absurd has
of_itself table line BadLine has = has
of_itself table line BadName has = has
of_itself table line EmptySecret has = has
of_itself table line BadHex has = has

of_first : (table : NamedKeys) (line : List ℕ) (fault : LineFault) → GivesFirst table line → cond (nat_le NAMES_MAX (map.len table)) (Some TooMany) None ≡ Some fault → HasFaultBelow table line fault
of_first table line fault first e =
    elim (nat_le NAMES_MAX (map.len table)) as (λ b. nat_le NAMES_MAX (map.len table) ≡ b → cond b (Some TooMany) None ≡ Some fault → HasFaultBelow table line fault) [
      | true ↦ λ full found.
          let same : TooMany ≡ fault = cc in
          subst (λ (f : LineFault). HasFaultBelow table line f) same (first, grind (arith, nat_tests))
      | false ↦ λ room found. cc
    ] refl e

of_third : (table : NamedKeys) (line : List ℕ) (fault : LineFault) (g : Given) (two : Bool) → line_of line ≡ Ok (Some g) → are_two (map.get table g.name) ≡ two → cond two (Some Twice) None ≡ Some fault
    → HasFaultBelow table line fault
of_third table line fault g true said known e =
    let same : Twice ≡ fault = cc in
    subst (λ (f : LineFault). HasFaultBelow table line f) same (record { given = g; said = said; known = known })
of_third table line fault g false said known e = cc

of_keys : (table : NamedKeys) (line : List ℕ) (fault : LineFault) (g : Given) (keys : Option Keys) → line_of line ≡ Ok (Some g) → map.get table g.name ≡ keys → fault_of_keys (map.len table) keys ≡ Some fault
    → HasFaultBelow table line fault
of_keys table line fault g None said new e = of_first table line fault (record { given = g; said = said; new = new }) e
of_keys table line fault g (Some keys) said known e = of_third table line fault g (is_some keys.second) said (ap are_two known) e

found_below : (table : NamedKeys) (line : List ℕ) (fault : LineFault) (said : Result (Option Given) LineFault) → line_of line ≡ said → fault_below table said ≡ Some fault → HasFaultBelow table line fault
found_below table line fault (Err other) is e =
    let same : other ≡ fault = cc in
    subst (λ (f : LineFault). HasFaultBelow table line f) same (of_itself table line other (HasFault-from_line line other is))
found_below table line fault (Ok None) is e = cc
found_below table line fault (Ok (Some g)) is e = of_keys table line fault g (map.get table g.name) is refl e

itself : (table : NamedKeys) (line : List ℕ) (fault : LineFault) → HasFault line fault → fault_below table (line_of line) ≡ Some fault
itself table line fault has = ap (fault_below table) (line_of-fault line fault has)

told_twice : (table : NamedKeys) (keys : Option Keys) → are_two keys ≡ true → fault_of_keys (map.len table) keys ≡ Some Twice
told_twice table None two = absurd (false≢true two)
told_twice table (Some keys) two = ap (λ b. cond b (Some Twice) None) two

fault_below-is : (table : NamedKeys) (line : List ℕ) (fault : LineFault) → HasFaultBelow table line fault → fault_below table (line_of line) ≡ Some fault
fault_below-is table line Twice has = ap (fault_below table) has.said ∙ told_twice table (map.get table has.given.name) has.known
fault_below-is table line TooMany has =
    ap (fault_below table) has.0.said
    ∙ ap (fault_of_keys (map.len table)) has.0.new
    ∙ fault_of_keys-full (map.len table) has.1
fault_below-is table line BadLine has = itself table line BadLine has
fault_below-is table line BadName has = itself table line BadName has
fault_below-is table line EmptySecret has = itself table line EmptySecret has
fault_below-is table line BadHex has = itself table line BadHex has

pub has_fault_below : (table : NamedKeys) (line : List ℕ) (fault : LineFault) → (fault_below table (line_of line) ≡ Some fault) ↔ HasFaultBelow table line fault
has_fault_below table line fault = (found_below table line fault (line_of line) refl, fault_below-is table line fault)

-- ---- the names that the lines give secrets once, and twice

pub named_here : (name line : List ℕ) (g : Given) → line_of line ≡ Ok (Some g) → bytes_eq g.name name ≡ true → GivesName name line
named_here name line g said same = (
  g.secret,
  Spells-from_line line _ (said ∙ ap (λ n. Ok (Some (record { name = n; secret = g.secret }))) ((bytes_eq-Decides g.name name).0 same)),
)

said_by : (name line : List ℕ) (given : GivesName name line) → line_of line ≡ Ok (Some (record { name = name; secret = given.0 }))
said_by name line given = line_of-spelled line _ given.1

has_more : (o : Option (List ℕ)) (keys : List (List ℕ)) → has keys ≡ true → has (cons_option o keys) ≡ true
has_more None keys some = some
has_more (Some key) keys some = refl

-- a key that a line gives
any_from_said : (name line : List ℕ) (lines : List (List ℕ)) → (has (keys_given name lines) ≡ true → Any (GivesName name) lines) → (said : Result (Option Given) LineFault) → line_of line ≡ said
    → has (cons_option (key_said name said) (keys_given name lines)) ≡ true → Any (GivesName name) (line ∷ lines)
any_from_said name line lines below (Ok None) is some = any_later _ line lines (below some)
any_from_said name line lines below (Err fault) is some = any_later _ line lines (below some)
any_from_said name line lines below (Ok (Some g)) is some =
    elim (bytes_eq g.name name) as (λ b. bytes_eq g.name name ≡ b → has (cons_option (cond b (Some (root_of g.secret)) None) (keys_given name lines)) ≡ true → Any (GivesName name) (line ∷ lines)) [
      | true ↦ λ same found. any_here _ line lines (named_here name line g is same)
      | false ↦ λ apart found. any_later _ line lines (below found)
    ] refl some

pub any_named : (name : List ℕ) (lines : List (List ℕ)) → has (keys_given name lines) ≡ true → Any (GivesName name) lines
any_named name [] some = absurd (false≢true some)
any_named name (line ∷ lines) some = any_from_said name line lines (any_named name lines) (line_of line) refl some

pub has_named : (name : List ℕ) (lines : List (List ℕ)) → Any (GivesName name) lines → has (keys_given name lines) ≡ true
has_named name [] (k, line, within, is, given) = absurd (omega arith)
has_named name (first ∷ lines) (zero, line, within, is, given) =
    ap has (said_first name given.0 first (keys_given name lines) (ap line_of is ∙ said_by name line given))
has_named name (first ∷ lines) (suc k, line, within, is, given) =
    has_more (key_said name (line_of first)) (keys_given name lines) (has_named name lines (k, line, omega arith, is, given))

-- two keys that lines give
has_two : List (List ℕ) → Bool
has_two [] = false
has_two (key ∷ keys) = has keys

are_two-first_two : (keys : List (List ℕ)) → are_two (first_two keys) ≡ has_two keys
unfolding has_two
are_two-first_two [] = refl
are_two-first_two (first ∷ []) = refl
are_two-first_two (first ∷ second ∷ others) = refl

one_of_two : (keys : List (List ℕ)) → has_two keys ≡ true → has keys ≡ true
unfolding has_two
one_of_two [] two = two
one_of_two (key ∷ keys) two = refl

two_more : (o : Option (List ℕ)) (keys : List (List ℕ)) → has_two keys ≡ true → has_two (cons_option o keys) ≡ true
unfolding has_two
two_more None keys two = two
two_more (Some key) keys two = one_of_two keys two

two_from_said : (name line : List ℕ) (lines : List (List ℕ)) → (has_two (keys_given name lines) ≡ true → TwoOf (GivesName name) lines) → (said : Result (Option Given) LineFault) → line_of line ≡ said
    → has_two (cons_option (key_said name said) (keys_given name lines)) ≡ true → TwoOf (GivesName name) (line ∷ lines)
unfolding has_two
two_from_said name line lines below (Ok None) is two = inr (below two)
two_from_said name line lines below (Err fault) is two = inr (below two)
two_from_said name line lines below (Ok (Some g)) is two =
    elim (bytes_eq g.name name) as (λ b. bytes_eq g.name name ≡ b → has_two (cons_option (cond b (Some (root_of g.secret)) None) (keys_given name lines)) ≡ true → TwoOf (GivesName name) (line ∷ lines)) [
      | true ↦ λ same found. inl (named_here name line g is same, any_named name lines found)
      | false ↦ λ apart found. inr (below found)
    ] refl two

two_named : (name : List ℕ) (lines : List (List ℕ)) → has_two (keys_given name lines) ≡ true → TwoOf (GivesName name) lines
unfolding has_two
two_named name [] two = absurd (false≢true two)
two_named name (line ∷ lines) two = two_from_said name line lines (two_named name lines) (line_of line) refl two

has_two_named : (name : List ℕ) (lines : List (List ℕ)) → TwoOf (GivesName name) lines → has_two (keys_given name lines) ≡ true
unfolding has_two
has_two_named name [] none = absurd none
has_two_named name (line ∷ lines) (inl (given, any)) =
    ap has_two (said_first name given.0 line (keys_given name lines) (said_by name line given)) ∙ has_named name lines any
has_two_named name (line ∷ lines) (inr two) =
    two_more (key_said name (line_of line)) (keys_given name lines) (has_two_named name lines two)

-- ---- what the table has of a name

none_of : (keys : Option Keys) → is_some keys ≡ false → keys ≡ None
none_of None none = refl
none_of (Some keys) none = absurd (false≢true (sym none))

new_unnamed : (name : List ℕ) (lines : List (List ℕ)) → (map.get (keys_of lines) name ≡ None) ↔ (¬ Any (GivesName name) lines)
new_unnamed name lines =
    let test : is_some (map.get (keys_of lines) name) ≡ has (keys_given name lines) = ap is_some (get-keys_of lines name) ∙ is_some-first_two (keys_given name lines) in (
      λ new any. absurd (false≢true (ap is_some (sym new) ∙ test ∙ has_named name lines any)),
      λ unnamed. none_of _ (elim (has (keys_given name lines)) as (λ b. has (keys_given name lines) ≡ b → is_some (map.get (keys_of lines) name) ≡ false) [
        | true ↦ λ some. absurd (unnamed (any_named name lines some))
        | false ↦ λ none. test ∙ none
      ] refl),
    )

two_known : (name : List ℕ) (lines : List (List ℕ)) → (are_two (map.get (keys_of lines) name) ≡ true) ↔ TwoOf (GivesName name) lines
two_known name lines =
    let test : are_two (map.get (keys_of lines) name) ≡ has_two (keys_given name lines) = ap are_two (get-keys_of lines name) ∙ are_two-first_two (keys_given name lines) in (
      λ known. two_named name lines (sym test ∙ known),
      λ two. test ∙ has_two_named name lines two,
    )

-- ---- the table has as many names as the lines give secrets

names_of : List (List ℕ) → List (List ℕ)
names_of lines = filter_map (λ line. name_said (line_of line)) lines

same_names : (name : List ℕ) (lines : List (List ℕ)) (said : Result (Option Given) LineFault) → has (keys_given name lines) ≡ list_any (eq_by_cmp order name) (names_of lines)
    → has (cons_option (key_said name said) (keys_given name lines)) ≡ list_any (eq_by_cmp order name) (cons_option (name_said said) (names_of lines))
unfolding names_of
same_names name lines (Ok None) below = below
same_names name lines (Err fault) below = below
same_names name lines (Ok (Some g)) below =
    elim (bytes_eq g.name name) as (λ b. has (cons_option (cond b (Some (root_of g.secret)) None) (keys_given name lines)) ≡ (b || list_any (eq_by_cmp order name) (names_of lines))) [
      | true ↦ refl
      | false ↦ below
    ]
    ∙ ap (λ b. b || list_any (eq_by_cmp order name) (names_of lines)) (sym (tests_alike name g.name))

has_name : (name : List ℕ) (lines : List (List ℕ)) → has (keys_given name lines) ≡ list_any (eq_by_cmp order name) (names_of lines)
unfolding names_of
has_name name [] = refl
has_name name (line ∷ lines) = same_names name lines (line_of line) (has_name name lines)

contains_name : (name : List ℕ) (lines : List (List ℕ)) → is_some (map.get (keys_of lines) name) ≡ set.contains (names_given lines) name
unfolding names_of
contains_name name lines =
    ap is_some (get-keys_of lines name)
    ∙ is_some-first_two (keys_given name lines)
    ∙ has_name name lines
    ∙ sym (set.contains-from_list nat_list_cmp_total (names_of lines) name)

one_counted : (above : List (List ℕ)) (said : Result (Option Given) LineFault) → map.len (keys_of above) ≡ set.len (names_given above)
    → map.len (table_with (keys_of above) said) ≡ set.len (set.from_list {R = order} (names_of above ++ cons_option (name_said said) []))
unfolding names_of
one_counted above (Ok None) below = below ∙ ap (λ ns. set.len (set.from_list {R = order} ns)) (sym (append-nil (names_of above)))
one_counted above (Err fault) below = below ∙ ap (λ ns. set.len (set.from_list {R = order} ns)) (sym (append-nil (names_of above)))
one_counted above (Ok (Some g)) below =
    map.len-insert nat_list_cmp_total (keys_of above) g.name (keys_with (map.get (keys_of above) g.name) (root_of g.secret))
    ∙ ap (λ b. cond b (map.len (keys_of above)) (map.len (keys_of above) + 1)) (contains_name g.name above)
    ∙ ap (λ n. cond (set.contains (names_given above) g.name) n (n + 1)) below
    ∙ sym (set.len-insert nat_list_cmp_total (names_given above) g.name)
    ∙ ap set.len (sym (set.from_list_push nat_list_cmp_total order-IsAntisymmetric (names_of above) g.name))

one_more : (above : List (List ℕ)) (line : List ℕ) → map.len (keys_of above) ≡ set.len (names_given above) → map.len (keys_of (above ++ line ∷ [])) ≡ set.len (names_given (above ++ line ∷ []))
unfolding names_of
one_more above line below =
    ap map.len (keys_of-push above line)
    ∙ one_counted above (line_of line) below
    ∙ ap (λ ns. set.len (set.from_list {R = order} ns)) (sym (filter_map-append (λ l. name_said (line_of l)) above (line ∷ [])))

counted_within : (lines : List (List ℕ)) (n : ℕ) → n ≤ length lines → map.len (keys_of (take n lines)) ≡ set.len (names_given (take n lines))
counted_within lines zero h = map.len-empty order Keys ∙ sym (set.len-empty order)
counted_within lines (suc n) h =
    let next : take (suc n) lines ≡ take n lines ++ get_or lines n [] ∷ [] =
    ap (λ k. take k lines) (let e : suc n ≡ n + 1 = omega arith in e) ∙ take_more lines n [] (omega arith) in
    ap (λ ls. map.len (keys_of ls)) next
    ∙ one_more (take n lines) (get_or lines n []) (counted_within lines n (omega arith))
    ∙ ap (λ ls. set.len (names_given ls)) (sym next)

pub len-keys_of : (lines : List (List ℕ)) → map.len (keys_of lines) ≡ set.len (names_given lines)
len-keys_of lines =
    let all : take (length lines) lines ≡ lines = take_all (length lines) lines (omega arith) in
    ap (λ ls. map.len (keys_of ls)) (sym all)
    ∙ counted_within lines (length lines) (omega arith)
    ∙ ap (λ ls. set.len (names_given ls)) all

-- ---- the two faults in words

named_so : (line : List ℕ) (g : Given) → line_of line ≡ Ok (Some g) → GivesName g.name line
named_so line g said = (g.secret, Spells-from_line line g said)

pub IsTwice-from_fault : (above : List (List ℕ)) (line : List ℕ) → fault_below (keys_of above) (line_of line) ≡ Some Twice → IsTwice above line
IsTwice-from_fault above line e =
    let third = (has_fault_below (keys_of above) line Twice).0 e in
    record {
      name = third.given.name;
      given = named_so line third.given third.said;
      known = (two_known third.given.name above).0 third.known;
    }

pub fault_from_IsTwice : (above : List (List ℕ)) (line : List ℕ) → IsTwice above line → fault_below (keys_of above) (line_of line) ≡ Some Twice
fault_from_IsTwice above line t =
    (has_fault_below (keys_of above) line Twice).1 (record {
      given = record { name = t.name; secret = t.given.0 };
      said = said_by t.name line t.given;
      known = (two_known t.name above).1 t.known;
    })

pub IsTooMany-from_fault : (above : List (List ℕ)) (line : List ℕ) → fault_below (keys_of above) (line_of line) ≡ Some TooMany → IsTooMany above line
IsTooMany-from_fault above line e =
    let (first, full) = (has_fault_below (keys_of above) line TooMany).0 e in
    record {
      name = first.given.name;
      given = named_so line first.given first.said;
      new = (new_unnamed first.given.name above).0 first.new;
      full = subst (λ (n : ℕ). NAMES_MAX ≤ n) (len-keys_of above) full;
    }

pub fault_from_IsTooMany : (above : List (List ℕ)) (line : List ℕ) → IsTooMany above line → fault_below (keys_of above) (line_of line) ≡ Some TooMany
fault_from_IsTooMany above line t =
    (has_fault_below (keys_of above) line TooMany).1 (
      record {
        given = record { name = t.name; secret = t.given.0 };
        said = said_by t.name line t.given;
        new = (new_unnamed t.name above).1 t.new;
      },
      subst (λ (n : ℕ). NAMES_MAX ≤ n) (sym (len-keys_of above)) t.full,
    )
