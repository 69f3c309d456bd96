-- Lemmas, in the order of reading.

-- Of the program, clap's matches and faults are functions of the words; what clap's error says of
-- the refusal.
pub mod Refusals
-- A command whose shape is known to be plain has no argument that its subcommands share.
pub mod PlainCommands
-- What each use of an argument that passes keeps, clap's walk over words that pass keeps.
pub mod Kept
-- The value of an option where clap takes the words: one that passes, said or by default.
pub mod SettingsGiven
-- So the value of each option of `alone`, of `replay` and of `serve` is a side or a number.
pub mod OptionsGiven
-- The subcommand that clap finds where it takes the words: never help, which it answers itself.
pub mod Subcommands
-- So the matches name a mode.
pub mod ModesGiven
-- The mode of matches that entered `serve`.
pub mod ServeGiven
