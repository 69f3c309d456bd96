-- The mode that clap's matches name where it takes the words.
use Rattle.std.proofs.Common.{◌≡◌, ◌||◌, Bool, true, false, cond, List, [], Option, Some, None}
use Rattle.std.proofs.Common.{IsSome, codes, refl, sym, ap, subst, ◌∙◌, option_map}
use Rattle.std.specs.Option.{option_map_or}
use Rattle.std.specs.Str.{bytes_eq}
use Rattle.std.proofs.lemmas.Slice.Eq.{bytes_eq-Decides}
use Rattle.clap.specs.Walk.{Row, Text, nothing_held, rows_after, stop_after, walk_from}
use Rattle.clap.specs.Kinds.{Kinds}
use Rattle.clap.specs.Faults.{entered_fault, fault_of, is_simple_and_free, level_fault, walk_fault}
use Rattle.clap.specs.Simple.{App, HasMatchesOf, Shape, argument_words, built, entered, is_simple}
use Rattle.clap.specs.Simple.{names_of, rows_at, subcommand_of, subcommand_rows_of}
use Rattle.clap.specs.declared.parser.matches.ArgMatches.{ArgMatches}
use Rattle.cam6_planes.specs.declared.sides.Side.TheVariants.{S256}
use Rattle.cam6_arguments.specs.Options.{AreSides, TextsAt}
use Rattle.cam6_cli.specs.CommandLine.{IsProgram, Mode, mode_of, program, single}
use Rattle.cam6_cli.proofs.Refusals.{is_simple_program, matches_program}
use Rattle.cam6_cli.proofs.Kept.{first_none, second_none}
use Rattle.cam6_cli.proofs.SettingsGiven.{arguments}
use Rattle.cam6_cli.proofs.OptionsGiven.{HasSide, IsServed, IsShared, alone_options, is_served}
use Rattle.cam6_cli.proofs.OptionsGiven.{is_shared, replay_options, serve_options, side_alone}
use Rattle.cam6_cli.proofs.Subcommands.{IsNotHelp, not_at_help, not_help}

-- it is some mode
abbrev IsMode : Option Mode → Type 0
IsMode said = (mode : Mode) × (said ≡ Some mode)

mode_alone : (name : Text) (rows : List Row) → name ≡ codes "alone" → HasSide rows →
    IsMode (mode_of (Some (name, rows)))
mode_alone name rows is limit = (
  single limit.0,
  ap (λ name. mode_of (Some (name, rows))) is ∙ ap (option_map single) limit.1,
)

mode_replay : (name : Text) (rows : List Row) → name ≡ codes "replay" → IsShared rows →
    IsMode (mode_of (Some (name, rows)))
mode_replay name rows is mode =
    (mode.0, ap (λ name. mode_of (Some (name, rows))) is ∙ mode.1)

mode_serve : (name : Text) (rows : List Row) → name ≡ codes "serve" → IsServed rows →
    IsMode (mode_of (Some (name, rows)))
mode_serve name rows is mode =
    (mode.0, ap (λ name. mode_of (Some (name, rows))) is ∙ mode.1)

-- the fault of the subcommand that is entered
abbrev below : Option Shape → List Text → Kinds
below s rest = option_map_or (λ s. level_fault s [] nothing_held rest false []) s []

-- the program, by where its three subcommands have the sides
module _ (of_alone of_replay of_serve : TextsAt) (are_first : AreSides of_alone)
    (are_second : AreSides of_replay) (are_third : AreSides of_serve) where
  -- of four subcommands, by which of them are named
  named : (alone replay serve help : Shape) (rest : List Text)
      (is_alone is_replay is_serve is_help : Bool) →
      (alone.name ≡ codes "alone") × (alone.rules ≡ arguments (alone_options of_alone)) →
      (replay.name ≡ codes "replay") × (replay.rules ≡ arguments (replay_options of_replay)) →
      (serve.name ≡ codes "serve") × (serve.rules ≡ arguments (serve_options of_serve)) →
      is_help ≡ false →
      below (cond is_alone (Some alone) (cond is_replay (Some replay)
      (cond is_serve (Some serve) (cond is_help (Some help) None)))) rest ≡ [] →
      IsMode (mode_of (option_map (λ found. rows_at found rest) (cond is_alone (Some alone)
      (cond is_replay (Some replay) (cond is_serve (Some serve) (cond is_help (Some help) None))))))
  named alone replay serve help rest true is_replay is_serve is_help is is_2 is_3 no_help passes =
      mode_alone alone.name (rows_after alone.rules [] rest) is.0
      (side_alone of_alone are_first alone rest is.1 passes)
  named alone replay serve help rest false true is_serve is_help is_1 is is_3 no_help passes =
      mode_replay replay.name (rows_after replay.rules [] rest) is.0
      (is_shared of_replay are_second replay rest is.1 passes)
  named alone replay serve help rest false false true is_help is_1 is_2 is no_help passes =
      mode_serve serve.name (rows_after serve.rules [] rest) is.0
      (is_served of_serve are_third serve rest is.1 passes)
  named alone replay serve help rest false false false false is_1 is_2 is_3 no_help passes =
      (single S256, refl)
  named alone replay serve help rest false false false true is_1 is_2 is_3 no_help passes =
      let never : ⊥ = cc in absurd never

  entered_has_mode : (stop : Option (Text × List Text)) → IsNotHelp stop →
      entered_fault (built (program of_alone of_replay of_serve)) stop ≡ [] →
      IsMode (mode_of (entered (built (program of_alone of_replay of_serve)) stop))
  entered_has_mode None other passes = (single S256, refl)
  entered_has_mode (Some stop) other passes =
      named _ _ _ _ stop.1 (bytes_eq (codes "alone") stop.0 || false)
      (bytes_eq (codes "replay") stop.0 || false) (bytes_eq (codes "serve") stop.0 || false)
      (bytes_eq (codes "help") stop.0 || false) (refl, refl) (refl, refl) (refl, refl)
      (not_help stop.0 (bytes_eq (codes "help") stop.0)
      (bytes_eq-Decides (codes "help") stop.0).0 other) passes

  -- where clap takes the words, they name a mode
  names_a_mode : (words : List Text) → fault_of (program of_alone of_replay of_serve) words ≡ [] →
      IsMode (mode_of (subcommand_of (program of_alone of_replay of_serve) words))
  names_a_mode words passes =
      let a = built (program of_alone of_replay of_serve) in
      let given = argument_words (program of_alone of_replay of_serve) words in
      let stop = stop_after a.top.rules (names_of a) given in
      entered_has_mode stop (not_at_help a given refl passes)
      (first_none _ _
      (second_none (walk_fault a.top (names_of a) (walk_from nothing_held) given) _ passes))

-- the mode of clap's matches
pub mode_of_matches : (app : App) (words : List Text) (m : ArgMatches) → IsProgram app →
    HasMatchesOf app words m → (is_simple_and_free app ≡ true → fault_of app words ≡ []) →
    IsSome (mode_of (subcommand_rows_of m))
    × (mode_of (subcommand_rows_of m) ≡ mode_of (subcommand_of app words))
mode_of_matches app words m is has passes =
    let same = ap mode_of (has (ap is_simple is.6 ∙ matches_program is.0 is.1 is.2)).1 in
    let taken = subst (λ a. fault_of a words ≡ []) is.6 (passes (is_simple_program app is)) in
    let named = subst (λ a. IsMode (mode_of (subcommand_of a words))) (sym is.6)
    (names_a_mode is.0 is.1 is.2 is.3 is.4 is.5 words taken) in
    (rw (same ∙ named.1) refl, same)
