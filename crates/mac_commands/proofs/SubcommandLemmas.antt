-- The names of subcommands, told apart by their letters.
use Rattle.std.proofs.Common.{◌≡◌, ◌∙◌, ◌==◌, ◌||◌, ◌⊎◌, inl, inr, Bool, codes, true, false, refl, sym, ap, ap₂, subst, List, Option, Some, None, option_map, slice_index}
use Rattle.clap.specs.Walk.{Row, Text}
use Rattle.mac_commands.specs.Options.{HasCommand, HasOptions}
use Rattle.mac_commands.specs.People.{IsTaskName}

-- `pipe`, `serve`, `listen` and `page` begin so, and no subcommand for people does
abbrev begins_machine : Text → Bool
begins_machine name = (slice_index name 0 == 112) || ((slice_index name 0 == 108) || (slice_index name 3 == 118))

task_begins : (name : Text) → IsTaskName name → begins_machine name ≡ false
task_begins name (inl e) = subst (λ n. begins_machine n ≡ false) (sym e) refl
task_begins name (inr (inl e)) = subst (λ n. begins_machine n ≡ false) (sym e) refl
task_begins name (inr (inr (inl e))) = subst (λ n. begins_machine n ≡ false) (sym e) refl
task_begins name (inr (inr (inr (inl e)))) = subst (λ n. begins_machine n ≡ false) (sym e) refl
task_begins name (inr (inr (inr (inr (inl e))))) = subst (λ n. begins_machine n ≡ false) (sym e) refl
task_begins name (inr (inr (inr (inr (inr (inl e)))))) = subst (λ n. begins_machine n ≡ false) (sym e) refl
task_begins name (inr (inr (inr (inr (inr (inr (inl e))))))) = subst (λ n. begins_machine n ≡ false) (sym e) refl
task_begins name (inr (inr (inr (inr (inr (inr (inr e))))))) = subst (λ n. begins_machine n ≡ false) (sym e) refl

abbrev pub IsMachine : Text → Type 0
IsMachine name = (name ≡ codes "pipe") ⊎ ((name ≡ codes "serve") ⊎ ((name ≡ codes "listen") ⊎ (name ≡ codes "page")))

machine_begins : (name : Text) → IsMachine name → begins_machine name ≡ true
machine_begins name (inl e) = subst (λ n. begins_machine n ≡ true) (sym e) refl
machine_begins name (inr (inl e)) = subst (λ n. begins_machine n ≡ true) (sym e) refl
machine_begins name (inr (inr (inl e))) = subst (λ n. begins_machine n ≡ true) (sym e) refl
machine_begins name (inr (inr (inr e))) = subst (λ n. begins_machine n ≡ true) (sym e) refl

-- a subcommand of a machine's name has a machine's options
pub machine_options : (name : Text) (rows : List Row) → HasOptions name rows ⊎ IsTaskName name → IsMachine name → HasOptions name rows
machine_options name rows (inl has) machine = has
machine_options name rows (inr task) machine = let bad : false ≡ true = subst (λ b. b ≡ true) (task_begins name task) (machine_begins name machine) in cc

-- the subcommand that was met has its options, or is for people
pub met_options : {X : Type 0} (f : X → Text) (g : X → List Row) (met : Option X) (name : Text) (rows : List Row) → Some name ≡ option_map f met
    → Some rows ≡ option_map (λ p. p.1) (option_map {U = Text × List Row} (λ x. (f x, g x)) met) → HasCommand (option_map (λ x. (f x, g x)) met) → HasOptions name rows ⊎ IsTaskName name
met_options f g None name rows named options has = cc
met_options f g (Some x) name rows named options (other, others, same, has) =
    let pair : ◌≡◌ {A = Text × List Row} (f x, g x) (other, others) = cc in
    let own : name ≡ f x = cc in
    let given : rows ≡ g x = cc in
    let first : other ≡ name = sym (ap (λ (p : Text × List Row). p.0) pair) ∙ sym own in
    let second : others ≡ rows = sym (ap (λ (p : Text × List Row). p.1) pair) ∙ sym given in
    subst (λ (n : Text). HasOptions n rows ⊎ IsTaskName n) first (subst (λ (r : List Row). HasOptions other r ⊎ IsTaskName other) second has)

-- the name and the rows that were found are those of the subcommand
pub met_pair : {X : Type 0} (f : X → Text) (g : X → List Row) (met : Option X) (name : Text) (rows : List Row) → Some name ≡ option_map f met
    → Some rows ≡ option_map (λ p. p.1) (option_map {U = Text × List Row} (λ x. (f x, g x)) met) → option_map {U = Text × List Row} (λ x. (f x, g x)) met ≡ Some (name, rows)
met_pair f g None name rows named options = cc
met_pair f g (Some x) name rows named options =
    let own : name ≡ f x = cc in
    let given : rows ≡ g x = cc in
    let pair : Text → List Row → Option (Text × List Row) = λ n r. Some (n, r) in
    ap₂ pair (sym own) (sym given)
