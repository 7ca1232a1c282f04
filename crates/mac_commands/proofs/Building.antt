-- A program to which subcommands are added.
use Rattle.std.proofs.Common.{◌≡◌, ◌∙◌, ap₂, IfOk, IsOkAnd, Err, Ok, Result}
use Rattle.clap.specs.Words.{App, with_subcommand}

-- a program with one more subcommand
abbrev with_one : App → App → App
with_one program sub = with_subcommand program sub.top

-- what a subcommand that was built and added makes of a program
pub added : {Command E : Type 0} (app_of : Command → App) (built : Result Command E) (whole program start sub : App) → program ≡ start → IfOk built (λ command. app_of command ≡ sub)
    → IsOkAnd built (λ command. whole ≡ with_subcommand program (app_of command).top) → whole ≡ with_subcommand start sub.top
added app_of (Ok command) whole program start sub same is adds = adds ∙ ap₂ with_one same is
added app_of (Err e) whole program start sub same is adds = elim adds [ ]
