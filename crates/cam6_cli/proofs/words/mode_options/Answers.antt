use Rattle.std.proofs.Common.{◌≡◌, ◌∙◌, Some, codes, rules, subst, sym}
use Rattle.clap.specs.Words.{subcommand_name_of, subcommand_rows_of}
use Rattle.cam6_cli.specs.CommandLine.{HasMode}
use Rattle.cam6_cli.proofs.ServeGiven.{names_alone, serve_mode}
use Rattle.cam6_cli.proofs.words.mode_options.Goals as goal

pub returns-in-Some-subcommand_matches-2 : goal.returns-in-Some-subcommand_matches-2
returns-in-Some-subcommand_matches-2 c =
    let m = c.args.matches.now in
    let entered = c.in-Some-subcommand_matches-2 in
    let named : subcommand_name_of m ≡ Some (codes "serve") = search (rules, entered.ensures.found) in
    subst (λ said. HasMode c.serve_options.result said)
    (sym (serve_mode (subcommand_rows_of m) _ (names_alone _ _ _ ∙ named) entered.ensures.rows))
    c.serve_options.ensures
