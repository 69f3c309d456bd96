-- The arguments that `cam6_web` takes, and what they ask for.
use Rattle.std.specs.Prelude.{◌≡◌, ℕ, List, [], codes, map, Option, Some, None, string_bytes}
use Rattle.std.specs.Prelude.{option_map, ⊤}
use Rattle.std.specs.declared.net.socket_addr.SocketAddr.{SocketAddr}
use Rattle.clap.specs.Walk.{all_of}
use Rattle.clap.specs.Words.{App, Row, Rule, Text, first_of, new_rule, with_rule}
use Rattle.clap.specs.declared.builder.action.ArgAction.TheVariants.{Append}
use Rattle.cam6_planes.specs.declared.sides.Side.{Side}
use Rattle.cam6_arguments.specs.Options.{max_port, named, value_option}
use Rattle.cam6_arguments.specs.Values.{◌>>=◌, number_by}
use Rattle.cam6_arguments.specs.declared.programs.Program.TheVariants.{Web}
use Rattle.cam6_web_cli.specs.Values.{AreAddresses, side_by}
use Rattle.cam6_web_cli.specs.declared.options.Options.{Options}
use Rattle.cam6_web_cli.specs.declared.words.Numbers.{Numbers}

-- ---- the arguments

-- an option of this name that takes one value, and may be given again and again
abbrev pub list_option : Text → Rule
list_option name = record (new_rule name) {
  long = Some name;
  action = Some Append;
  value_names = 1;
}

-- the program, with its options
unfoldable pub program : App
program =
    with_rule
    (with_rule
    (with_rule
    (with_rule
    (with_rule
    (with_rule (named Web) (value_option (codes "port")))
    (list_option (codes "host")))
    (list_option (codes "name")))
    (value_option (codes "connections")))
    (value_option (codes "side")))
    (value_option (codes "requests"))

-- ---- what they ask for

-- the numbers and the side that are asked for, and the words at `--host` and at `--name`
pub record Asked : Type 0 where
  pub numbers : Numbers
  pub hosts : List Text
  pub names : List Text

-- all numbers, if each is valid
abbrev pub all_said : Option ℕ → Option ℕ → Option Side → Option ℕ → Option Numbers
all_said said_port said_connections said_limit said_requests = do
  port ← said_port
  connections ← said_connections
  limit ← said_limit
  requests ← said_requests
  Some (record { port = port; connections = connections; limit = limit; requests = requests })

-- the numbers at their options, by clap's matches
abbrev pub numbers_at : List Row → Option Numbers
numbers_at rows =
    all_said (number_by (first_of (codes "port") rows) 1 max_port 6007)
    (number_by (first_of (codes "connections") rows) 1 1000 64)
    (side_by (first_of (codes "side") rows))
    (number_by (first_of (codes "requests") rows) 0 18446744073709551615 0)

-- the words that are given at an option, in order
abbrev pub given : Option (List Text) → List Text
given None = []
given (Some words) = words

-- what is asked for, with these words at `--host` and at `--name`
abbrev pub asked_with : Option (List Text) → Option (List Text) → Numbers → Asked
asked_with hosts names numbers =
    record { numbers = numbers; hosts = given hosts; names = given names }

-- what the words ask for, if anything, by clap's matches
abbrev pub asked : List Row → Option Asked
asked rows =
    option_map (asked_with (all_of (codes "host") rows) (all_of (codes "name") rows))
    (numbers_at rows)

-- these are the options that are asked for; each word at `--host` writes the address in its place
pub record AreOptions (options : Options) (asked : Asked) : Type 0 where
  pub port : options.port ≡ asked.numbers.port
  pub connections : options.connections ≡ asked.numbers.connections
  pub limit : options.limit ≡ asked.numbers.limit
  pub requests : options.requests ≡ asked.numbers.requests
  pub hosts : AreAddresses asked.hosts options.hosts.items
  pub names : map string_bytes options.names.items ≡ asked.names

abbrev pub HasOptions : Options → Option Asked → Type 0
HasOptions options None = ⊥
HasOptions options (Some asked) = AreOptions options asked

-- the words at some option say nothing of its kind
abbrev pub SayNothing : Option Asked → Type 0
SayNothing None = ⊤
SayNothing (Some asked) = (addresses : List SocketAddr) → ¬ (AreAddresses asked.hosts addresses)
