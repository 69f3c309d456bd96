-- What clap's error for the program's command line says of the refusal.
use Rattle.std.proofs.Common.{◌≡◌, true, List, map, refl, ap, ◌∙◌}
use Rattle.std.specs.Borrow.{Bor}
use Rattle.clap.proofs.OnLiterals.{clap_on_literals}
use Rattle.clap.specs.Simple.{is_simple}
use Rattle.clap.specs.Words.{App, HasKind, Text, fault_of, is_simple_and_free, kind_of}
use Rattle.clap.specs.declared.error.Error.{Error}
use Rattle.cam6_planes.specs.Side.{side_texts}
use Rattle.cam6_arguments.specs.Options.{TextsAt}
use Rattle.cam6_arguments.specs.Refusals.{IsOfKind, Refuses}
use Rattle.cam6_arguments.specs.declared.refusals.Refused.{Refused}
use Rattle.cam6_arguments.proofs.Refusing.{refused_by_kind}
use Rattle.cam6_cli.specs.CommandLine.{IsProgram, program}

pub program_is_simple : (of_alone of_replay of_serve : TextsAt)
    → is_simple_and_free (program of_alone of_replay of_serve) ≡ true
unfolding clap_on_literals
program_is_simple of_alone of_replay of_serve = refl

abbrev at_first : {X : Type 0} → X → Bor X
at_first x = record { ref_ptr = (0, 0); now = x }

-- there is one
pub some_program : (app : App) × IsProgram app
some_program =
    let sides : TextsAt = at_first (map at_first side_texts) in
    (program sides sides sides, (sides, sides, sides, refl, refl, refl, refl))

pub matches_program : (of_alone of_replay of_serve : TextsAt)
    → is_simple (program of_alone of_replay of_serve) ≡ true
unfolding clap_on_literals
matches_program of_alone of_replay of_serve = refl

pub is_simple_program : (app : App) → IsProgram app → is_simple_and_free app ≡ true
is_simple_program app is = ap is_simple_and_free is.6 ∙ program_is_simple is.0 is.1 is.2

pub refused_as_clap_does : (app : App) (words : List Text) (refused : Refused) (e : Error)
    → IsProgram app → (is_simple_and_free app ≡ true → HasKind (fault_of app words) e)
    → IsOfKind refused (kind_of e) → Refuses (fault_of app words) ⊥ refused
refused_as_clap_does app words refused e is has of_kind =
    refused_by_kind ⊥ (fault_of app words) refused e (has (is_simple_program app is)) of_kind
