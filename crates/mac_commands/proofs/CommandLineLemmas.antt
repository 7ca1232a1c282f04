-- What `clap`'s faults are at this command line, for all words.
use Rattle.std.proofs.Common.{◌≡◌, ◌==◌, ◌&&◌, ◌||◌, ◌⊎◌, inl, inr, ℕ, Bool, cond, codes, true, false, refl, sym, ap, ap₂, subst, List, [], ◌∷◌, length, not, Option, Some, None, is_some, suc}
use Rattle.std.specs.Prelude.{if◌then◌else◌, slice_get}
use Rattle.std.specs.Option.{option_map_or}
use Rattle.std.specs.Str.{bytes_eq, chars}
use Rattle.std.proofs.lemmas.Slice.Eq.{bytes_eq-Decides}
use Rattle.clap.specs.Lexer.{long_of, short_of}
use Rattle.clap.specs.Walk.{Names, finished, settled, Rule, Text, Walk, arg_by_long, idle, long_or_other, nothing_held, plain, bundle_met, short_or_plain, walk_from}
use Rattle.clap.specs.Simple.{Shape, built, entered, filled_from, help_rule, names_of, version_rule}
use Rattle.clap.specs.Kinds.{HasKind, Kinds, or_else}
use Rattle.clap.specs.Faults.{built_fault, bundle_fault, bundle_step_fault, check_fault, defaults_fault, entered_fault, fault_of, settle_fault, flag_word_fault, flags_fault, level_fault, long_fault, step_fault, stray_fault, turn_fault, walk_fault}
use Rattle.clap.specs.Values.{kind_of}
use Rattle.clap.specs.declared.error.Error.{Error}
use Rattle.clap.specs.declared.error.kind.ErrorKind.TheVariants.{InvalidSubcommand, UnknownArgument}
use Rattle.clap.proofs.OnLiterals.{clap_on_literals}
use Rattle.clap.proofs.FaultLemmas.{fault_ends, stopped_fault}
use Rattle.clap.proofs.WalkLemmas.{bundle_ends, walk_stopped}
use Rattle.mac_commands.specs.declared.status.Status.{Status}
use Rattle.mac_commands.specs.declared.status.Status.TheVariants.{Done, BadLine, NoMemory}
use Rattle.mac_commands.specs.CommandLine.{LeadsTo, MayEnd, command_line, exit_status, names_another}
use Rattle.mac_commands.specs.Arguments.{option}
use Rattle.mac_commands.proofs.OptionLemmas.{neither, pipe}

-- ---- statuses of lists of kinds

-- there is a fault, and each leads to n
abbrev pub Refuses : Status → Kinds → Type 0
Refuses n kinds = LeadsTo (Some n) kinds

pub refuses_first : (n : Status) (a b : Kinds) → Refuses n a → Refuses n (or_else a b)
refuses_first n [] b h = absurd h
refuses_first n (k ∷ ks) b h = h

pub leads_alone : (o : Option Status) (kinds : Kinds) → LeadsTo o kinds → LeadsTo o (or_else kinds [])
leads_alone o [] h = h
leads_alone o (k ∷ ks) h = h

-- ---- a word that is no subcommand

abbrev pub top : Shape
top = (built command_line).top

-- the options of a level, which has the version or not
abbrev pub options : Bool → List Rule
options true = filled_from 1 (help_rule ∷ version_rule ∷ [])
options false = filled_from 1 (option (codes "revoked") ∷ help_rule ∷ [])

-- the name isn't that of the option of `pipe`, where that is the level
abbrev pub IsForeign : Bool → Text → Type 0
IsForeign true name = Unit {0}
IsForeign false name = bytes_eq (codes "revoked") name ≡ false

-- the same of a word
abbrev pub IsForeignWord : Bool → Option (Text × Option Text) → Type 0
IsForeignWord v None = Unit {0}
IsForeignWord v (Some p) = IsForeign v p.0

-- what `--name` and `--name=value` lead to
abbrev pub is_asked : Bool → Text → Bool
is_asked v name = bytes_eq (codes "help") name || (v && bytes_eq (codes "version") name)

abbrev pub long_status : Bool → Text → Option Text → Status
long_status v name val = if is_asked v name && not (is_some val) then Done else BadLine

pub long_refused : (v : Bool) (name : Text) (val : Option Text) → IsForeign v name
    → Refuses (long_status v name val) (long_fault (options v) false (arg_by_long (options v) name) val nothing_held)
long_refused v name val foreign = go v (bytes_eq (codes "help") name) refl (bytes_eq (codes "version") name) refl val foreign
  where
    go : (v b : Bool) → bytes_eq (codes "help") name ≡ b → (c : Bool) → bytes_eq (codes "version") name ≡ c → (val : Option Text) → IsForeign v name
        → Refuses (long_status v name val) (long_fault (options v) false (arg_by_long (options v) name) val nothing_held)
    go false true e c f None h = rw (h, e) (refl, tt)
    go false true e c f (Some t) h = rw (h, e) (refl, tt)
    go false false e c f val h = rw (h, e) (refl, tt)
    go true true e c f None h = rw e (refl, tt)
    go true true e c f (Some t) h = rw e (refl, tt)
    go true false e true f None h = rw (e, f) (refl, tt)
    go true false e true f (Some t) h = rw (e, f) (refl, tt)
    go true false e false f val h = rw (e, f) (refl, tt)

-- what the first character of a bundle of flags leads to: 104 is `h`, 86 is `V`
abbrev pub letter_status : Bool → Option ℕ → Status
letter_status v None = BadLine
letter_status v (Some x) = if (104 == x) || (v && (86 == x)) then Done else BadLine

pub letter_refused : (v : Bool) (x : ℕ) (flags : Text) (k : ℕ) → slice_get (chars flags) 0 ≡ Some x → Refuses (letter_status v (Some x)) (flags_fault (options v) false (suc k) flags 0 nothing_held)
unfolding flags_fault
letter_refused v x flags k first = go v (104 == x) refl (86 == x) refl
  where
    go : (v b : Bool) → (104 == x) ≡ b → (c : Bool) → (86 == x) ≡ c
        → Refuses (letter_status v (Some x)) (bundle_step_fault (options v) false (slice_get (chars flags) 0) flags 0 nothing_held (flags_fault (options v) false k))
    go false true e c f = rw (first, e) (refl, tt)
    go false false e c f = rw (first, e) (refl, tt)
    go true true e c f = rw (first, e) (refl, tt)
    go true false e true f = rw (first, e, f) (refl, tt)
    go true false e false f = rw (first, e, f) (refl, tt)

pub no_letter : (v : Bool) (flags : Text) → slice_get (chars flags) 0 ≡ None → bundle_met (options v) (length flags) flags 0 plain nothing_held ≡ (nothing_held, plain)
no_letter v flags none = sym (bundle_ends (options v) (length flags) flags 0 plain nothing_held (sym none))

-- the status of a word, by what it looks like to `clap`
abbrev pub short_status : Bool → Option Text → Status
short_status v None = BadLine
short_status v (Some flags) = letter_status v (slice_get (chars flags) 0)

abbrev pub flag_status : Bool → Text → Option (Text × Option Text) → Status
flag_status v word None = short_status v (short_of word)
flag_status v word (Some p) = long_status v p.0 p.1

-- a level with these options alone
abbrev pub level : Bool → Shape → Shape
level v s = record s { rules = options v; args_override_self = false }

pub stray_refused : (s : Shape) → Refuses BadLine (stray_fault s)
stray_refused s = go s.is_leaf
  where
    go : (b : Bool) → Refuses BadLine (cond b (UnknownArgument ∷ []) (UnknownArgument ∷ InvalidSubcommand ∷ []))
    go true = (refl, tt)
    go false = (refl, (refl, tt))

abbrev pub faults_at : Bool → Shape → Text → Option (Text × Option Text) → Kinds
faults_at v s word long =
    let met = long_or_other (options v) idle word long nothing_held in
    or_else (flag_word_fault (options v) false long word nothing_held) (step_fault (level v s) 1 met.0 met.1)

-- a word that begins with a hyphen, and not with two
abbrev pub faults_at_short : Bool → Shape → Text → Option Text → Kinds
faults_at_short v s word short =
    let met = short_or_plain (options v) idle word short nothing_held in
    or_else (option_map_or (λ flags. bundle_fault (options v) false flags nothing_held) short []) (step_fault (level v s) 1 met.0 met.1)

pub bundle_refused : (v : Bool) (s : Shape) (word flags : Text) (letter : Option ℕ) → slice_get (chars flags) 0 ≡ letter
    → Refuses (letter_status v letter) (faults_at_short v s word (Some flags))
unfolding chars
bundle_refused true s word flags None none =
    rw (sym (fault_ends (options true) false (length flags) flags 0 nothing_held (sym none)), no_letter true flags none) (stray_refused s)
bundle_refused false s word flags None none =
    rw (sym (fault_ends (options false) false (length flags) flags 0 nothing_held (sym none)), no_letter false flags none) (stray_refused s)
bundle_refused v s word [] (Some x) first = cc
bundle_refused v s word (b ∷ bs) (Some x) first =
    refuses_first (letter_status v (Some x)) (flags_fault (options v) false (length (b ∷ bs)) (b ∷ bs) 0 nothing_held) _ (letter_refused v x (b ∷ bs) (length bs) first)

pub short_refused : (v : Bool) (s : Shape) (word : Text) (short : Option Text) → Refuses (short_status v short) (faults_at_short v s word short)
short_refused true s word None = stray_refused s
short_refused false s word None = stray_refused s
short_refused v s word (Some flags) = bundle_refused v s word flags (slice_get (chars flags) 0) refl

-- each word that is no subcommand, and not `--`, is refused
pub word_refused : (v : Bool) (s : Shape) (word : Text) (long : Option (Text × Option Text)) → IsForeignWord v long → Refuses (flag_status v word long) (faults_at v s word long)
word_refused v s word (Some p) foreign = refuses_first (flag_status v word (Some p)) (long_fault (options v) false (arg_by_long (options v) p.0) p.1 nothing_held) _ (long_refused v p.0 p.1 foreign)
word_refused v s word None foreign = short_refused v s word (short_of word)

-- above the subcommands each word is
pub foreign_above : (long : Option (Text × Option Text)) → IsForeignWord true long
foreign_above None = tt
foreign_above (Some p) = tt

-- ---- the levels

-- the statuses of the words after `pipe`, and of those after the program's name, by what they look like to `clap`
abbrev pub after_pipe : List Text → Option Status
after_pipe [] = None
after_pipe (word ∷ []) = if bytes_eq word (codes "--") then None else Some (flag_status false word (long_of word))
after_pipe (word ∷ next ∷ rest) = Some (flag_status false word (long_of word))

abbrev pub pipe_faults : List Text → Kinds
pipe_faults words = level_fault pipe [] nothing_held words false []

dashes_after_pipe : (rest : List Text) → LeadsTo (after_pipe (codes "--" ∷ rest)) (pipe_faults (codes "--" ∷ rest))
unfolding clap_on_literals
dashes_after_pipe [] = refl
dashes_after_pipe (word ∷ rest) = (refl, tt)

other_after_pipe : (word : Text) (rest : List Text) → IsForeignWord false (long_of word) → bytes_eq word (codes "--") ≡ false → Refuses (flag_status false word (long_of word)) (pipe_faults (word ∷ rest))
unfolding walk_fault
other_after_pipe word rest foreign e =
    let turn : turn_fault pipe [] (walk_from nothing_held) word ≡ faults_at false pipe word (long_of word) = rw e refl in
    let refused = subst (Refuses (flag_status false word (long_of word))) (sym turn) (word_refused false pipe word (long_of word) foreign) in
    refuses_first _ _ _ (refuses_first _ (turn_fault pipe [] (walk_from nothing_held) word) _ refused)

-- the first of the words after `pipe` isn't its option
abbrev pub BeginsForeign : List Text → Type 0
BeginsForeign [] = Unit {0}
BeginsForeign (word ∷ rest) = IsForeignWord false (long_of word)

pub pipe_leads : (words : List Text) → BeginsForeign words → LeadsTo (after_pipe words) (pipe_faults words)
unfolding clap_on_literals
pipe_leads [] foreign = refl
pipe_leads (word ∷ []) foreign = go (bytes_eq word (codes "--")) refl
  where
    go : (b : Bool) → bytes_eq word (codes "--") ≡ b → LeadsTo (after_pipe (word ∷ [])) (pipe_faults (word ∷ []))
    go true e = subst (λ w. LeadsTo (after_pipe (w ∷ [])) (pipe_faults (w ∷ []))) (sym ((bytes_eq-Decides word (codes "--")).0 e)) (dashes_after_pipe [])
    go false e =
        let status : after_pipe (word ∷ []) ≡ Some (flag_status false word (long_of word)) = rw e refl in
        subst (λ o. LeadsTo o (pipe_faults (word ∷ []))) (sym status) (other_after_pipe word [] foreign e)
pipe_leads (word ∷ next ∷ rest) foreign = go (bytes_eq word (codes "--")) refl
  where
    go : (b : Bool) → bytes_eq word (codes "--") ≡ b → LeadsTo (after_pipe (word ∷ next ∷ rest)) (pipe_faults (word ∷ next ∷ rest))
    go true e = subst (λ w. LeadsTo (after_pipe (w ∷ next ∷ rest)) (pipe_faults (w ∷ next ∷ rest))) (sym ((bytes_eq-Decides word (codes "--")).0 e)) (dashes_after_pipe (next ∷ rest))
    go false e = other_after_pipe word (next ∷ rest) foreign e

-- ---- the whole line

abbrev pub names : Names
names = names_of (built command_line)

abbrev pub of_arguments : List Text → Option Status
of_arguments [] = Some BadLine
of_arguments (word ∷ rest) = if bytes_eq word (codes "pipe") then after_pipe rest else Some (flag_status true word (long_of word))

abbrev pub line_faults : List Text → Kinds
line_faults words = built_fault (built command_line) nothing_held words

-- what comes of a walk and of its faults
abbrev faults_by : Walk → Kinds → Kinds
faults_by w kinds = or_else kinds (or_else (entered_fault (built command_line) w.stopped) (or_else (settle_fault top.rules false w.held)
    (or_else (defaults_fault (settled top.rules w.held).rows top.rules) (check_fault top (finished top.rules w.held) (is_some (entered (built command_line) w.stopped))))))

after_name : (rest : List Text) → BeginsForeign rest → LeadsTo (after_pipe rest) (line_faults (codes "pipe" ∷ rest))
unfolding clap_on_literals
after_name rest foreign =
    let stopped = sym (walk_stopped top.rules names (walk_from nothing_held) (codes "pipe") [] rest) in
    let passed = stopped_fault top names (walk_from nothing_held) (codes "pipe", []) rest in
    let same : line_faults (codes "pipe" ∷ rest) ≡ or_else (pipe_faults rest) [] = ap₂ faults_by stopped passed in
    subst (LeadsTo (after_pipe rest)) (sym same) (leads_alone (after_pipe rest) (pipe_faults rest) (pipe_leads rest foreign))

dashes_first : (rest : List Text) → Refuses BadLine (line_faults (codes "--" ∷ rest))
unfolding clap_on_literals
dashes_first [] = (refl, tt)
dashes_first (word ∷ rest) = (refl, (refl, tt))

-- the word is none of the names of subcommands
abbrev IsNoName : Text → Type 0
IsNoName word = (bytes_eq (codes "pipe") word ≡ false) × (bytes_eq (codes "serve") word ≡ false) × (bytes_eq (codes "listen") word ≡ false)
    × (bytes_eq (codes "page") word ≡ false) × (bytes_eq (codes "keygen") word ≡ false) × (bytes_eq (codes "check") word ≡ false) × (bytes_eq (codes "mint") word ≡ false) × (bytes_eq (codes "attenuate") word ≡ false)
    × (bytes_eq (codes "verify") word ≡ false) × (bytes_eq (codes "inspect") word ≡ false) × (bytes_eq (codes "status") word ≡ false) × (bytes_eq (codes "revoke") word ≡ false)

other_first : (word : Text) (rest : List Text) → IsNoName word → bytes_eq word (codes "--") ≡ false → Refuses (flag_status true word (long_of word)) (line_faults (word ∷ rest))
unfolding walk_fault
other_first word rest (no_pipe, no_serve, no_listen, no_page, no_keygen, no_check, no_mint, no_attenuate, no_verify, no_inspect, no_status, no_revoke) e =
    let turn : turn_fault top names (walk_from nothing_held) word ≡ faults_at true top word (long_of word) = rw (no_pipe, no_serve, no_listen, no_page, no_keygen, no_check, no_mint, no_attenuate, no_verify, no_inspect, no_status, no_revoke, e) refl in
    let refused = subst (Refuses (flag_status true word (long_of word))) (sym turn) (word_refused true top word (long_of word) (foreign_above (long_of word))) in
    refuses_first _ _ _ (refuses_first _ (turn_fault top names (walk_from nothing_held) word) _ refused)

pub other_way : (a b : Text) → bytes_eq a b ≡ false → bytes_eq b a ≡ false
other_way a b differ = go (bytes_eq b a) refl
  where
    go : (t : Bool) → bytes_eq b a ≡ t → bytes_eq b a ≡ false
    go true e = let same : bytes_eq a b ≡ true = (bytes_eq-Decides a b).1 (sym ((bytes_eq-Decides b a).0 e)) in cc
    go false e = e

no_name : (word : Text) (rest : List Text) → bytes_eq word (codes "pipe") ≡ false → names_another (word ∷ rest) ≡ false → IsNoName word
no_name word rest differ unnamed =
    let serve = neither (bytes_eq word (codes "serve")) _ unnamed in
    let listen = neither (bytes_eq word (codes "listen")) _ serve.1 in
    let page = neither (bytes_eq word (codes "page")) _ listen.1 in
    let keygen = neither (bytes_eq word (codes "keygen")) _ page.1 in
    let check = neither (bytes_eq word (codes "check")) _ keygen.1 in
    let mint = neither (bytes_eq word (codes "mint")) _ check.1 in
    let attenuate = neither (bytes_eq word (codes "attenuate")) _ mint.1 in
    let verify = neither (bytes_eq word (codes "verify")) _ attenuate.1 in
    let inspect = neither (bytes_eq word (codes "inspect")) _ verify.1 in
    let status = neither (bytes_eq word (codes "status")) _ inspect.1 in (
      other_way word (codes "pipe") differ,
      other_way word (codes "serve") serve.0,
      other_way word (codes "listen") listen.0,
      other_way word (codes "page") page.0,
      other_way word (codes "keygen") keygen.0,
      other_way word (codes "check") check.0,
      other_way word (codes "mint") mint.0,
      other_way word (codes "attenuate") attenuate.0,
      other_way word (codes "verify") verify.0,
      other_way word (codes "inspect") inspect.0,
      other_way word (codes "status") status.0,
      other_way word (codes "revoke") status.1,
    )

unnamed_leads : (word : Text) (rest : List Text) → bytes_eq word (codes "pipe") ≡ false → names_another (word ∷ rest) ≡ false → Refuses (flag_status true word (long_of word)) (line_faults (word ∷ rest))
unnamed_leads word rest differ unnamed = go (bytes_eq word (codes "--")) refl
  where
    go : (b : Bool) → bytes_eq word (codes "--") ≡ b → Refuses (flag_status true word (long_of word)) (line_faults (word ∷ rest))
    go true e = subst (λ w. Refuses (flag_status true w (long_of w)) (line_faults (w ∷ rest))) (sym ((bytes_eq-Decides word (codes "--")).0 e)) (dashes_first rest)
    go false e = other_first word rest (no_name word rest differ unnamed) e

-- behind `pipe` its option doesn't come first
abbrev pub GivesNoList : List Text → Type 0
GivesNoList [] = Unit {0}
GivesNoList (word ∷ rest) = bytes_eq word (codes "pipe") ≡ true → BeginsForeign rest

-- what all words lead to that name no subcommand but `pipe`, without its option
pub line_leads : (words : List Text) → names_another words ≡ false → GivesNoList words → LeadsTo (of_arguments words) (line_faults words)
unfolding clap_on_literals
line_leads [] unnamed none = (refl, tt)
line_leads (word ∷ rest) unnamed none = go (bytes_eq word (codes "pipe")) refl
  where
    go : (b : Bool) → bytes_eq word (codes "pipe") ≡ b → LeadsTo (of_arguments (word ∷ rest)) (line_faults (word ∷ rest))
    go true e = subst (λ w. LeadsTo (of_arguments (w ∷ rest)) (line_faults (w ∷ rest))) (sym ((bytes_eq-Decides word (codes "pipe")).0 e)) (after_name rest (none e))
    go false e =
        let status : of_arguments (word ∷ rest) ≡ Some (flag_status true word (long_of word)) = rw e refl in
        subst (λ o. LeadsTo o (line_faults (word ∷ rest))) (sym status) (unnamed_leads word rest e unnamed)

-- the exit status of an error of `clap`
pub status_of_error : (words : List Text) (e : Error) → HasKind (fault_of command_line words) e → (MayEnd words (exit_status (kind_of e))) ⊎ (exit_status (kind_of e) ≡ NoMemory)
status_of_error words e (inl memory) = inr (ap exit_status memory)
status_of_error words e (inr among) = inl (kind_of e, among, refl)
