-- Of `cam6_rle`, clap's matches and faults are functions of the words, wherever those of the sides are.
use Rattle.std.proofs.Common.{◌≡◌, true, map, refl, ap, ◌∙◌}
use Rattle.std.specs.Borrow.{Bor}
use Rattle.clap.proofs.OnLiterals.{clap_on_literals}
use Rattle.clap.specs.Simple.{is_simple}
use Rattle.clap.specs.Words.{App, is_simple_and_free}
use Rattle.cam6_planes.specs.Side.{side_texts}
use Rattle.cam6_arguments.specs.Options.{TextsAt}
use Rattle.cam6_draw_cli.specs.RleWords.{IsProgram, program}

program_is_free : (sides : TextsAt) → is_simple_and_free (program sides) ≡ true
unfolding clap_on_literals
program_is_free sides = refl

program_is_simple : (sides : TextsAt) → is_simple (program sides) ≡ true
unfolding clap_on_literals
program_is_simple sides = refl

abbrev at_first : {X : Type 0} → X → Bor X
at_first x = record { ref_ptr = (0, 0); now = x }

-- there is one
pub some_program : (app : App) × IsProgram app
some_program =
    let sides : TextsAt = at_first (map at_first side_texts) in
    (program sides, (sides, refl, refl))

pub is_free_program : (app : App) → IsProgram app → is_simple_and_free app ≡ true
is_free_program app is = ap is_simple_and_free is.2 ∙ program_is_free is.0

pub is_simple_program : (app : App) → IsProgram app → is_simple app ≡ true
is_simple_program app is = ap is_simple is.2 ∙ program_is_simple is.0
