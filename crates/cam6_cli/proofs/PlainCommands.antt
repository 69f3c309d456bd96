-- A command whose shape is known to be plain has no argument that its subcommands share.
use Rattle.std.proofs.Common.{◌≡◌, ◌&&◌, Bool, true, false, not, refl, ap, ◌∙◌}
use Rattle.clap.specs.Simple.{App, app_of}
use Rattle.clap.specs.declared.builder.command.Command.{Command}
use Rattle.clap.specs.declared.builder.command.Command.TheViews.{out-Command}

third_of : (a b c rest : Bool) → a && (b && (not c && rest)) ≡ true → c ≡ false
third_of true true false rest all = refl
third_of true true true rest all = let never : ⊥ = cc in absurd never
third_of true false c rest all = let never : ⊥ = cc in absurd never
third_of false b c rest all = let never : ⊥ = cc in absurd never

pub has_no_globals : (command : Command) (app : App) → app_of command ≡ app
    → app.top.is_plain ≡ true → (out-Command command).has_globals ≡ false
has_no_globals command app is plain =
    third_of _ _ _ _ (ap (λ app. app.top.is_plain) is ∙ plain)
