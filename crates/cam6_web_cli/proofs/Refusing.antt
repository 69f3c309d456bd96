-- Clap's matches and faults are functions of the words.
use Rattle.std.proofs.Common.{◌≡◌, true, refl}
use Rattle.clap.proofs.OnLiterals.{clap_on_literals}
use Rattle.clap.specs.Simple.{is_simple}
use Rattle.clap.specs.Words.{is_simple_and_free}
use Rattle.cam6_web_cli.specs.Words.{program}

pub program_is_free : is_simple_and_free program ≡ true
unfolding clap_on_literals program
program_is_free = refl

pub program_is_simple : is_simple program ≡ true
unfolding clap_on_literals program
program_is_simple = refl
