use Rattle.std.proofs.Common.{rules, ◌≡◌, ◌==◌, Bool, true, false, inl, inr, refl, sym, subst, codes, slice_index, List}
use Rattle.clap.specs.Walk.{Row, Text}
use Rattle.clap.specs.Words.{found_of, rows_of}
use Rattle.mac_commands.specs.Options.{HasListenOptions, HasOptions}
use Rattle.mac_commands.proofs.options.read_choice.Goals as goal

abbrev begins_listen : Text → Bool
begins_listen name = slice_index name 0 == 108

listen_begins : (name : Text) → name ≡ codes "listen" → begins_listen name ≡ true
listen_begins name is = subst (λ n. begins_listen n ≡ true) (sym is) refl

other_begins : (name : Text) → begins_listen name ≡ false → name ≡ codes "listen" → ⊥
other_begins name other is = let bad : true ≡ false = subst (λ b. b ≡ false) (listen_begins name is) other in cc

-- the options of `listen` are those of no other subcommand
listen_has : (name : Text) (rows : List Row) → HasOptions name rows → name ≡ codes "listen" → HasListenOptions rows
listen_has name rows (inl pipe) is = absurd (other_begins name (subst (λ n. begins_listen n ≡ false) (sym pipe) refl) is)
listen_has name rows (inr (inl serve)) is = absurd (other_begins name (subst (λ n. begins_listen n ≡ false) (sym serve.0) refl) is)
listen_has name rows (inr (inr (inl listen))) is = listen.1
listen_has name rows (inr (inr (inr page))) is = absurd (other_begins name (subst (λ n. begins_listen n ≡ false) (sym page) refl) is)

pub read_listen-requires : goal.read_listen-requires
read_listen-requires c =
    let is : c.args.name.now ≡ codes "listen" = search rules in
    listen_has c.args.name.now (rows_of (found_of c.args.options.now)) c.requires is
