-- What is asked for, by the parts that clap's rows say.
use Rattle.std.proofs.Common.{◌≡◌, ℕ, List, Option, ◌∙◌, ap₂, codes}
use Rattle.clap.specs.Words.{Row, first_of}
use Rattle.cam6_planes.specs.declared.sides.Side.{Side}
use Rattle.cam6_arguments.specs.Values.{number_by}
use Rattle.cam6_web_cli.specs.Values.{side_by}
use Rattle.cam6_web_cli.specs.Words.{all_said, numbers_at}
use Rattle.cam6_web_cli.specs.declared.words.Numbers.{Numbers}

pub all_by : (rows : List Row) (port connections : Option ℕ) (limit : Option Side)
    (requests : Option ℕ) (numbers : Option Numbers)
    → numbers ≡ all_said port connections limit requests
    → port ≡ number_by (first_of (codes "port") rows) 1 65535 6007
    → connections ≡ number_by (first_of (codes "connections") rows) 1 1000 64
    → limit ≡ side_by (first_of (codes "side") rows)
    → requests ≡ number_by (first_of (codes "requests") rows) 0 18446744073709551615 0
    → numbers ≡ numbers_at rows
all_by rows port connections limit requests numbers is by_port by_connections by_limit by_requests =
    is ∙ ap₂ (λ p c. all_said p c limit requests) by_port by_connections
    ∙ ap₂ (λ l r. all_said (number_by (first_of (codes "port") rows) 1 65535 6007)
    (number_by (first_of (codes "connections") rows) 1 1000 64) l r) by_limit by_requests
