-- Readings under one table that stays.
use Rattle.std.proofs.Common.{◌≡◌, List, [], ◌∷◌, map, refl, ap, ◌∙◌}
use Rattle.std.specs.Prelude.{Bool, All}
use Rattle.std.proofs.lemmas.List.Elements.{All-head, All-tail}
use Rattle.mac_board.specs.Follows.{Takes}
use Rattle.mac_board.specs.Noticed.{Noticed}
use Rattle.mac_board.proofs.Taking.{one-taken}
use Rattle.mac_keys.specs.KeyTable.{Table}
use Rattle.mac_wire.specs.declared.arrival.Arrival.{Arrival}
use Rattle.mac_wire.specs.declared.reply.Reply.{Reply}
use Rattle.mac_decide.specs.Answer.{answer_of}
use Rattle.mac_decide.specs.Terms.{Terms}
use Rattle.mac_decide.specs.World.{job_under}
use Rattle.mac_decide.specs.declared.job.Job.{Job}
use Rattle.mac_decide.specs.declared.rights.Rights.{Rights}
use Rattle.mac_serve.specs.Receiving.{Readings, TakesUnder, terms_of, jobs_of}
use Rattle.mac_serve.specs.Serving.{answers, under_table}

abbrev tables_of : List Terms → List Table
tables_of terms = map (λ (t : Terms). t.table) terms

-- the tables of terms were taken
tables-taken : (rights : Rights) (tells : Bool) (known last : Noticed) (terms : List Terms) → TakesUnder rights tells known last terms → Takes tells known.tables last.tables (tables_of terms)
tables-taken rights tells known last [] taken = ap (λ (k : Noticed). k.tables) taken
tables-taken rights tells known last (t ∷ terms) (now, looks, current, right, more) = (now.tables, looks.looks, current.0, tables-taken rights tells now last terms more)

-- what is made of readings whose tables are one is made under that table and these rights
each-alike : {X : Type 0} (make : Terms → Arrival → X) (rights : Rights) (tells : Bool) (known last : Noticed) (table : Table) (readings : Readings) → TakesUnder rights tells known last (terms_of readings)
    → All (λ taken. taken ≡ table) (tables_of (terms_of readings))
    → map (λ (r : Terms × Arrival). make r.0 r.1) readings ≡ map (λ (r : Terms × Arrival). make (under_table table rights r.0) r.1) readings
each-alike make rights tells known last table [] taken all = refl
each-alike {X} make rights tells known last table (r ∷ more) (now, looks, current, right, rest) all =
    let is : r.0.table ≡ table = All-head (λ (taken : Table). taken ≡ table) r.0.table (tables_of (terms_of more)) all in
    let same : r.0 ≡ under_table table rights r.0 = λ i. record { table = is i; rights = right i; moment = r.0.moment } in
    ap (λ (t : Terms). make t r.1 ∷ map (λ (r : Terms × Arrival). make r.0 r.1) more) same
    ∙ ap (λ (l : List X). make (under_table table rights r.0) r.1 ∷ l) (each-alike make rights tells now last table more rest (All-tail (λ (taken : Table). taken ≡ table) r.0.table (tables_of (terms_of more)) all))

all-one : (rights : Rights) (tells : Bool) (known last : Noticed) (table : Table) (readings : Readings) → last.tables.published ≡ table ∷ [] → TakesUnder rights tells known last (terms_of readings)
    → All (λ taken. taken ≡ table) (tables_of (terms_of readings))
all-one rights tells known last table readings one taken =
    one-taken tells known.tables last.tables table (tables_of (terms_of readings)) one (tables-taken rights tells known last (terms_of readings) taken)

pub one-jobs : (rights : Rights) (tells : Bool) (known last : Noticed) (table : Table) (readings : Readings) → last.tables.published ≡ table ∷ [] → TakesUnder rights tells known last (terms_of readings)
    → jobs_of readings ≡ map (λ (r : Terms × Arrival). job_under (under_table table rights r.0) r.1) readings
one-jobs rights tells known last table readings one taken =
    each-alike {X = Job} job_under rights tells known last table readings taken (all-one rights tells known last table readings one taken)

pub one-answers : (rights : Rights) (tells : Bool) (known last : Noticed) (table : Table) (readings : Readings) → last.tables.published ≡ table ∷ [] → TakesUnder rights tells known last (terms_of readings)
    → answers readings ≡ map (λ (r : Terms × Arrival). answer_of (under_table table rights r.0) r.1) readings
one-answers rights tells known last table readings one taken =
    each-alike {X = Reply} answer_of rights tells known last table readings taken (all-one rights tells known last table readings one taken)
