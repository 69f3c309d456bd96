-- The words that the program takes, and what they ask for.
use Rattle.std.specs.Prelude.{◌≡◌, ℕ, List, codes, Option, Some, None, if◌then◌else◌, option_map}
use Rattle.std.specs.Str.{bytes_eq}
use Rattle.clap.specs.Words.{App, Row, Rule, Text, new_app, with_rule, with_subcommand}
use Rattle.cam6_planes.specs.declared.sides.Side.{Side}
use Rattle.cam6_planes.specs.declared.sides.Side.TheVariants.{S256}
use Rattle.cam6_cache.specs.Limits.{max_capacity}
use Rattle.cam6_commands.specs.Limits.{max_users, max_boards}
use Rattle.cam6_arguments.specs.Options.{AreSides, TextsAt, max_port, named, number_option}
use Rattle.cam6_arguments.specs.Options.{side_option}
use Rattle.cam6_arguments.specs.Values.{◌>>=◌, number_at, side_at}
use Rattle.cam6_arguments.specs.declared.programs.Program.TheVariants.{Cam6}
use Rattle.cam6_cli.specs.declared.modes.Options.{Options}
use Rattle.cam6_cli.specs.declared.modes.Options.TheVariants.{Alone, Replay, Serve}

-- the options of `replay` and of `serve`, each with its range and its default
abbrev pub users_option : Rule
users_option = number_option (codes "users") 1 max_users (codes "4")

abbrev pub boards_option : Rule
boards_option = number_option (codes "boards") 1 max_boards (codes "2")

abbrev pub cache_option : Rule
cache_option = number_option (codes "cache") 1 max_capacity (codes "16")

-- the most connections
abbrev pub max_connections : ℕ
max_connections = 18446744073709551615

-- the most seconds for which a silent client may keep its seat
abbrev pub max_idle : ℕ
max_idle = 4294967295

abbrev pub port_option : Rule
port_option = number_option (codes "port") 1 max_port (codes "6006")

abbrev pub connections_option : Rule
connections_option = number_option (codes "connections") 0 max_connections (codes "0")

abbrev pub idle_option : Rule
idle_option = number_option (codes "idle") 0 max_idle (codes "0")

-- `alone`, with its option
abbrev pub alone : TextsAt → App
alone sides = with_rule (new_app (codes "alone")) (side_option sides)

-- `replay`, with its options
abbrev pub replay : TextsAt → App
replay sides =
    with_rule
    (with_rule
    (with_rule
    (with_rule (new_app (codes "replay")) users_option)
    boards_option)
    cache_option)
    (side_option sides)

-- `serve`, with its options
abbrev pub serve : TextsAt → App
serve sides =
    with_rule
    (with_rule
    (with_rule
    (with_rule
    (with_rule
    (with_rule
    (with_rule (new_app (codes "serve")) port_option)
    users_option)
    boards_option)
    cache_option)
    connections_option)
    idle_option)
    (side_option sides)

-- `cam6`, with its subcommands; the three sides may be kept in a place for each
abbrev pub program : TextsAt → TextsAt → TextsAt → App
program of_alone of_replay of_serve =
    with_subcommand
    (with_subcommand
    (with_subcommand (named Cam6) (alone of_alone).top)
    (replay of_replay).top)
    (serve of_serve).top

-- the program, wherever the three words are kept
abbrev pub IsProgram : App → Type 0
IsProgram app =
    (of_alone of_replay of_serve : TextsAt) × AreSides of_alone × AreSides of_replay
    × AreSides of_serve × (app ≡ program of_alone of_replay of_serve)

-- what the program is to do
pub data Mode : Type 0 where
  -- serve one machine of at most this side
  single : Side → Mode
  -- let so many users share so many boards and a cache of so many tables, each with a machine of at
  -- most this side
  shared : ℕ → ℕ → ℕ → Side → Mode
  -- serve so many users, boards and cached tables over a network, each user with a machine of at
  -- most this side; for so many connections, with so many seconds for a silent client, at this port
  served : ℕ → ℕ → ℕ → Side → ℕ → ℕ → ℕ → Mode

-- the mode of `replay` with these options
abbrev pub shared_at : List Row → Option Mode
shared_at rows = do
  users ← number_at (codes "users") 1 max_users rows
  boards ← number_at (codes "boards") 1 max_boards rows
  cache ← number_at (codes "cache") 1 max_capacity rows
  limit ← side_at rows
  Some (shared users boards cache limit)

-- the mode of `serve` with these options
abbrev pub served_at : List Row → Option Mode
served_at rows = do
  users ← number_at (codes "users") 1 max_users rows
  boards ← number_at (codes "boards") 1 max_boards rows
  cache ← number_at (codes "cache") 1 max_capacity rows
  limit ← side_at rows
  connections ← number_at (codes "connections") 0 max_connections rows
  idle ← number_at (codes "idle") 0 max_idle rows
  port ← number_at (codes "port") 1 max_port rows
  Some (served users boards cache limit connections idle port)

-- the mode that a subcommand names with its options, or none; any other name is no mode's. Without
-- a subcommand it is `alone`, without options
abbrev pub mode_of : Option (Text × List Row) → Option Mode
mode_of None = Some (single S256)
mode_of (Some found) =
    if bytes_eq found.0 (codes "alone") then option_map single (side_at found.1)
    else if bytes_eq found.0 (codes "replay") then shared_at found.1
    else if bytes_eq found.0 (codes "serve") then served_at found.1 else None

-- the words ask for this
abbrev pub HasMode : Options → Option Mode → Type 0
HasMode (Alone limit) said = said ≡ Some (single limit)
HasMode (Replay sharing limit) said =
    said ≡ Some (shared sharing.users sharing.boards sharing.cache limit)
HasMode (Serve serving port) said =
    said
    ≡ Some (served serving.users serving.boards serving.cache serving.limit serving.connections
    serving.idle port)
