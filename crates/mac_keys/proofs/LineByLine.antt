-- A key file read line by line, from one table to the next.
use Rattle.std.proofs.Common.{◌≡◌, ℕ, zero, suc, ◌+◌, Bool, true, false, cond, List, [], ◌∷◌, ◌++◌, length, take, Option, Some, None, Result, Ok, Err, refl, sym, ap, ap₂, subst, ◌∙◌, arith, append_assoc, zero-add}
use Rattle.std.proofs.lemmas.List.{append-nil}
use Rattle.std.proofs.lemmas.List.Sums.{sum_by-cons}
use Rattle.std.specs.Option.{is_some, option_map_or}
use Rattle.std.specs.List.{cons_option, count_by, slice_get}
use Rattle.std.specs.Ordering.{eq_by_cmp, is_eq}
use Rattle.std.specs.Str.{bytes_eq}
use Rattle.std.specs.Cmp.{eq_by_cmp_equiv, tied_itself}
use Rattle.std.specs.Cmp.Lexicographic.{nat_list_cmp_total}
use Rattle.std.specs.FinMap as map
use Rattle.mac_hmac.specs.Chain.{root_of}
use Rattle.mac_keys.specs.declared.fault.LineFault.{LineFault}
use Rattle.mac_keys.specs.declared.fault.LineFault.TheVariants.{BadName}
use Rattle.mac_keys.specs.declared.keys.Keys.{Keys}
use Rattle.mac_keys.specs.Found.{is_line_of}
use Rattle.mac_keys.specs.Line.{Given, fields_of, given, is_ignored, is_name, line_of, said_by, secret_of}
use Rattle.mac_keys.specs.Table.{NamedKeys, fault_below, fault_of_keys, faults_of, key_said, keys_given, keys_of, table_or_first}
use Rattle.mac_keys.specs.Taken.{keys_with, table_with}
use Rattle.mac_keys.proofs.FileMeaning.{faultless_made, made_of_faultless}
use Rattle.mac_keys.proofs.KeyMeaning.{keys_of-push, same_name, tests_alike}
use Rattle.mac_keys.proofs.Names.{order, order-IsAntisymmetric}
use Rattle.mac_keys.proofs.Spelling.{Spells-from_line, fields_spell, name-spaceless, parted-space}

-- the lines have no fault below the first table, and make the second of it
abbrev pub Reads : NamedKeys → List (List ℕ) → NamedKeys → Type 0
Reads before [] after = before ≡ after
Reads before (line ∷ lines) after =
    (fault_below before (line_of line) ≡ None) × Reads (table_with before (line_of line)) lines after

-- ---- two parts

pub reads_apart : (above below : List (List ℕ)) (before after : NamedKeys) → Reads before (above ++ below) after → (between : NamedKeys) × Reads before above between × Reads between below after
reads_apart [] below before after reads = (before, refl, reads)
reads_apart (line ∷ above) below before after (none, reads) =
    let (between, first, last) = reads_apart above below (table_with before (line_of line)) after reads in
    (between, (none, first), last)

pub reads_joined : (above below : List (List ℕ)) (before between after : NamedKeys) → Reads before above between → Reads between below after → Reads before (above ++ below) after
reads_joined [] below before between after same last = subst (λ (t : NamedKeys). Reads t below after) (sym same) last
reads_joined (line ∷ above) below before between after (none, first) last =
    (none, reads_joined above below (table_with before (line_of line)) between after first last)

-- ---- the whole file

abbrev AreFaultlessBelow : List (List ℕ) → List (List ℕ) → Type 0
AreFaultlessBelow above lines =
    (place : ℕ) (line : List ℕ) → slice_get lines place ≡ Some line
    → fault_below (keys_of (above ++ take place lines)) (line_of line) ≡ None

read_on : (above lines : List (List ℕ)) → AreFaultlessBelow above lines → Reads (keys_of above) lines (keys_of (above ++ lines))
read_on above [] all = ap keys_of (sym (append-nil above))
read_on above (line ∷ lines) all = (
  ap (λ a. fault_below (keys_of a) (line_of line)) (sym (append-nil above)) ∙ all zero line refl,
  subst (λ (t : NamedKeys). Reads t lines (keys_of (above ++ line ∷ lines))) (keys_of-push above line)
      (subst (λ (a : List (List ℕ)). Reads (keys_of (above ++ line ∷ [])) lines (keys_of a)) (append_assoc above (line ∷ []) lines)
      (read_on (above ++ line ∷ []) lines (λ place l there.
      ap (λ a. fault_below (keys_of a) (line_of l)) (append_assoc above (line ∷ []) (take place lines)) ∙ all (suc place) l there))),
)

read_back : (above lines : List (List ℕ)) (after : NamedKeys) → Reads (keys_of above) lines after → AreFaultlessBelow above lines × (after ≡ keys_of (above ++ lines))
read_back above [] after reads = (λ place line there. cc, sym reads ∙ ap keys_of (sym (append-nil above)))
read_back above (line ∷ lines) after (none, reads) =
    let (all, made) = read_back (above ++ line ∷ []) lines after (subst (λ (t : NamedKeys). Reads t lines after) (sym (keys_of-push above line)) reads) in
    (faultless line lines above none all, made ∙ ap keys_of (append_assoc above (line ∷ []) lines))
  where
    faultless : (line : List ℕ) (lines above : List (List ℕ)) → fault_below (keys_of above) (line_of line) ≡ None → AreFaultlessBelow (above ++ line ∷ []) lines → AreFaultlessBelow above (line ∷ lines)
    faultless line lines above none all zero l there =
        let same : line ≡ l = cc in
        ap (λ a. fault_below (keys_of a) (line_of l)) (append-nil above) ∙ ap (λ x. fault_below (keys_of above) (line_of x)) (sym same) ∙ none
    faultless line lines above none all (suc place) l there =
        ap (λ a. fault_below (keys_of a) (line_of l)) (sym (append_assoc above (line ∷ []) (take place lines))) ∙ all place l there

pub reads_of_table : (lines : List (List ℕ)) (table : NamedKeys) → table_or_first (keys_of lines) (faults_of lines) ≡ Ok table → Reads (keys_of []) lines table
reads_of_table lines table e =
    let (faultless, made) = faultless_made lines table e in
    subst (λ (t : NamedKeys). Reads (keys_of []) lines t) (sym made) (read_on [] lines faultless)

pub table_of_reads : (lines : List (List ℕ)) (table : NamedKeys) → Reads (keys_of []) lines table → table_or_first (keys_of lines) (faults_of lines) ≡ Ok table
table_of_reads lines table reads = made_of_faultless lines table (read_back [] lines table reads)

pub made_by_reads : (lines : List (List ℕ)) (table : NamedKeys) → Reads (keys_of []) lines table → table ≡ keys_of lines
made_by_reads lines table reads = (read_back [] lines table reads).1

-- ---- the lines of a name

none_given : (name : List ℕ) (secret : Result (List ℕ) LineFault) → given name secret ≡ Ok None → ⊥
none_given name (Ok secret) e = cc
none_given name (Err fault) e = cc

none_said : (fields : List ℕ × List ℕ) → said_by (Some fields) ≡ Ok None → ⊥
none_said fields e =
    elim (is_name fields.0) as (λ b. cond b (given fields.0 (secret_of fields.1)) (Err BadName) ≡ Ok None → ⊥) [
      | true ↦ λ found. none_given fields.0 (secret_of fields.1) found
      | false ↦ λ found. cc
    ] e

is_line-ignored : (name line : List ℕ) (found : Option (List ℕ × List ℕ)) → fields_of line ≡ found → line_of line ≡ Ok None → is_line_of name line ≡ false
is_line-ignored name line None is e = ap (λ found. option_map_or (λ fields. bytes_eq fields.0 name) found false) is
is_line-ignored name line (Some fields) is e =
    let counts : is_ignored line ≡ false = ap is_ignored (fields_spell line fields is) in
    absurd (none_said fields (ap said_by (sym is) ∙ sym (ap (λ b. cond b (Ok None) (said_by (fields_of line))) counts) ∙ e))

is_line-given : (name line : List ℕ) (g : Given) → line_of line ≡ Ok (Some g) → is_line_of name line ≡ bytes_eq g.name name
is_line-given name line g e =
    let spelled = Spells-from_line line g e in
    let fields : fields_of line ≡ Some (g.name, spelled.digits) =
    ap fields_of spelled.form ∙ parted-space g.name spelled.digits (name-spaceless g.name spelled.name) in
    ap (λ found. option_map_or (λ f. bytes_eq f.0 name) found false) fields

is_some-key_said : (name : List ℕ) (g : Given) → is_some (key_said name (Ok (Some g))) ≡ bytes_eq g.name name
is_some-key_said name g = go (bytes_eq g.name name)
  where
    go : (b : Bool) → is_some (cond b (Some (root_of g.secret)) None) ≡ b
    go true = refl
    go false = refl

-- a line without a fault has the name exactly where it gives the name a key
pub named_key : (name line : List ℕ) (before : NamedKeys) (said : Result (Option Given) LineFault) → line_of line ≡ said → fault_below before said ≡ None
    → is_line_of name line ≡ is_some (key_said name said)
named_key name line before (Ok None) is none = is_line-ignored name line (fields_of line) refl is
named_key name line before (Ok (Some g)) is none = is_line-given name line g is ∙ sym (is_some-key_said name g)
named_key name line before (Err fault) is none = cc

length-cons_option : (key : Option (List ℕ)) (keys : List (List ℕ)) → length (cons_option key keys) ≡ cond (is_some key) 1 0 + length keys
length-cons_option None keys = sym (zero-add (length keys))
length-cons_option (Some key) keys = omega arith

-- so there are as many such lines as the name has keys
pub count_keys : (name : List ℕ) (lines : List (List ℕ)) (before after : NamedKeys) → Reads before lines after → count_by (is_line_of name) lines ≡ length (keys_given name lines)
count_keys name [] before after reads = refl
count_keys name (line ∷ lines) before after (none, reads) =
    sum_by-cons (λ l. cond (is_line_of name l) 1 0) line lines
    ∙ ap₂ (λ b n. cond b 1 0 + n) (named_key name line before (line_of line) refl none) (count_keys name lines (table_with before (line_of line)) after reads)
    ∙ sym (length-cons_option (key_said name (line_of line)) (keys_given name lines))

-- ---- another key at a name that the lines don't give

-- what is put at one name doesn't change what is put at another
apart_inserts : (table : NamedKeys) (a b : List ℕ) (x y : Keys) → eq_by_cmp order a b ≡ false → map.insert (map.insert table a x) b y ≡ map.insert (map.insert table b y) a x
apart_inserts table a b x y apart = map.same_map nat_list_cmp_total order-IsAntisymmetric _ _ (λ q.
    map.get-insert nat_list_cmp_total (map.insert table a x) b y q
    ∙ ap (cond (eq_by_cmp order q b) (Some y)) (map.get-insert nat_list_cmp_total table a x q)
    ∙ swapped (eq_by_cmp order q a) (eq_by_cmp order q b) (Some x) (Some y) (map.get table q) (λ same. ap (λ n. eq_by_cmp order n b) (same_name q a same) ∙ apart)
    ∙ sym (ap (cond (eq_by_cmp order q a) (Some x)) (map.get-insert nat_list_cmp_total table b y q))
    ∙ sym (map.get-insert nat_list_cmp_total (map.insert table b y) a x q))
  where
    swapped : (p r : Bool) (v w o : Option Keys) → (p ≡ true → r ≡ false) → cond r w (cond p v o) ≡ cond p v (cond r w o)
    swapped true true v w o other = let no : true ≡ false = other refl in cc
    swapped true false v w o other = refl
    swapped false true v w o other = refl
    swapped false false v w o other = refl

-- what is put at a name last is there
pub last_insert : (table : NamedKeys) (a : List ℕ) (x y : Keys) → map.insert (map.insert table a x) a y ≡ map.insert table a y
last_insert table a x y = map.same_map nat_list_cmp_total order-IsAntisymmetric _ _ (λ q.
    map.get-insert nat_list_cmp_total (map.insert table a x) a y q
    ∙ ap (cond (eq_by_cmp order q a) (Some y)) (map.get-insert nat_list_cmp_total table a x q)
    ∙ hidden (eq_by_cmp order q a) (Some y) (Some x) (map.get table q)
    ∙ sym (map.get-insert nat_list_cmp_total table a y q))
  where
    hidden : (p : Bool) (v w o : Option Keys) → cond p v (cond p w o) ≡ cond p v o
    hidden true v w o = refl
    hidden false v w o = refl

-- to put what is there changes nothing
pub same_insert : (table : NamedKeys) (a : List ℕ) (x : Keys) → map.get table a ≡ Some x → map.insert table a x ≡ table
same_insert table a x there = map.same_map nat_list_cmp_total order-IsAntisymmetric _ _ (λ q.
    map.get-insert nat_list_cmp_total table a x q
    ∙ as_it_is (eq_by_cmp order q a) (map.get table q) (λ same. ap (map.get table) (same_name q a same) ∙ there))
  where
    as_it_is : (p : Bool) (o : Option Keys) → (p ≡ true → o ≡ Some x) → cond p (Some x) o ≡ o
    as_it_is true o is = sym (is refl)
    as_it_is false o is = refl

-- what a name has once keys are put there
pub get_inserted : (table : NamedKeys) (name : List ℕ) (keys : Keys) → map.get (map.insert table name keys) name ≡ Some keys
get_inserted table name keys =
    map.get-insert nat_list_cmp_total table name keys name
    ∙ ap (λ b. cond b (Some keys) (map.get table name)) (ap is_eq (tied_itself nat_list_cmp_total name))

-- a line read below such a table
pub record OneMore (name : List ℕ) (keys : Keys) (before : NamedKeys) (said : Result (Option Given) LineFault) : Type 0 where
  pub none : fault_below (map.insert before name keys) said ≡ None
  pub after : table_with (map.insert before name keys) said ≡ map.insert (table_with before said) name keys
  pub known : is_some (map.get (table_with before said) name) ≡ true

unnamed : (name : List ℕ) (g : Given) → key_said name (Ok (Some g)) ≡ None → bytes_eq g.name name ≡ false
unnamed name g e = go (bytes_eq g.name name) e
  where
    go : (b : Bool) → cond b (Some (root_of g.secret)) None ≡ None → b ≡ false
    go true found = cc
    go false found = refl

one_more : (name : List ℕ) (keys : Keys) (before : NamedKeys) (said : Result (Option Given) LineFault) → is_some (map.get before name) ≡ true → key_said name said ≡ None → fault_below before said ≡ None
    → OneMore name keys before said
one_more name keys before (Ok None) known other none = record { none = refl; after = refl; known = known }
one_more name keys before (Err fault) known other none = cc
one_more name keys before (Ok (Some g)) known other none =
    let changed = map.insert before name keys in
    let apart : eq_by_cmp order name g.name ≡ false = tests_alike name g.name ∙ unnamed name g other in
    let turned : eq_by_cmp order g.name name ≡ false = (eq_by_cmp_equiv nat_list_cmp_total).symm g.name name ∙ apart in
    let as_before : map.get changed g.name ≡ map.get before g.name =
    map.get-insert nat_list_cmp_total before name keys g.name ∙ ap (λ b. cond b (Some keys) (map.get before g.name)) turned in
    let as_long : map.len changed ≡ map.len before =
    map.len-insert nat_list_cmp_total before name keys ∙ ap (λ b. cond b (map.len before) (map.len before + 1)) known in
    let next : Option Keys → Keys = λ found. keys_with found (root_of g.secret) in
    record {
      none = ap₂ fault_of_keys as_long as_before ∙ none;
      after =
          ap (λ found. map.insert changed g.name (next found)) as_before
          ∙ apart_inserts before name g.name keys (next (map.get before g.name)) apart;
      known =
          ap is_some (map.get-insert nat_list_cmp_total before g.name (next (map.get before g.name)) name)
          ∙ ap (λ b. is_some (cond b (Some (next (map.get before g.name))) (map.get before name))) apart
          ∙ known;
    }

no_key : (key : Option (List ℕ)) (keys : List (List ℕ)) → cons_option key keys ≡ [] → (key ≡ None) × (keys ≡ [])
no_key None keys e = (refl, e)
no_key (Some key) keys e = cc

-- lines that give the name no key make the same table but for its keys
pub reads_with : (name : List ℕ) (keys : Keys) (lines : List (List ℕ)) (before after : NamedKeys) → is_some (map.get before name) ≡ true → keys_given name lines ≡ [] → Reads before lines after
    → Reads (map.insert before name keys) lines (map.insert after name keys)
reads_with name keys [] before after known others reads = ap (λ t. map.insert t name keys) reads
reads_with name keys (line ∷ lines) before after known others (none, reads) =
    let (other, rest) = no_key (key_said name (line_of line)) (keys_given name lines) others in
    let more = one_more name keys before (line_of line) known other none in (
      more.none,
      subst (λ (t : NamedKeys). Reads t lines (map.insert after name keys)) (sym more.after)
          (reads_with name keys lines (table_with before (line_of line)) after more.known rest reads),
    )
