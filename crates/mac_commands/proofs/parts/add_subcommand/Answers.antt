use Rattle.std.proofs.Common.{◌≡◌, ◌&&◌, Bool, false, not, refl, true}
use Rattle.std.proofs.lemmas.Result.{IfOk-at_ok, IfOk-weaker}
use Rattle.clap.specs.Words.{app_of}
use Rattle.clap.specs.declared.builder.command.Command.{Command}
use Rattle.mac_commands.proofs.parts.add_subcommand.Goals as goal

-- of four tests that all pass the third does
third_passes : (a b g r : Bool) → (a && (b && (not g && r))) ≡ true → g ≡ false
third_passes true true false r e = refl
third_passes true true true r e = cc
third_passes true false g r e = cc
third_passes false b g r e = cc

pub returns : goal.returns
returns c =
    let plain = IfOk-at_ok (λ (command : Command). (app_of command).top.is_plain ≡ true) c.in_ok-command.was c.requires in
    rw c.in_ok-command.was (IfOk-weaker c.subcommand.result _ _ (λ whole adds. adds.shape (third_passes _ _ _ _ plain)) c.subcommand.ensures)
