-- Words that are often meant otherwise, and the hints about them.
use Rattle.std.specs.Prelude.{ℕ, List, [], codes, Option, Some, None}
use Rattle.std.specs.Prelude.{Bool, ◌||◌, ◌&&◌, not, if◌then◌else◌, eqb}
use Rattle.std.specs.List.{starts_with, slice_get}
use Rattle.std.specs.Str.{bytes_eq}
use Rattle.cam6_cli.specs.declared.slips.Slip.{Slip}
use Rattle.cam6_cli.specs.declared.slips.Slip.TheVariants.{SideByItself, SharingByItself}
use Rattle.cam6_cli.specs.declared.slips.Slip.TheVariants.{ServingByItself, FileAsWord}

-- whether a word begins as an option does
abbrev pub begins : List ℕ → List ℕ → Bool
begins option word = starts_with eqb word option

-- an option of `replay` or `serve` that `alone` doesn't have
abbrev pub is_of_sharing : List ℕ → Bool
is_of_sharing word =
    begins (codes "--users") word || (begins (codes "--boards") word || begins (codes "--cache") word)

abbrev pub is_of_serving : List ℕ → Bool
is_of_serving word =
    begins (codes "--port") word
    || (begins (codes "--connections") word || begins (codes "--idle") word)

-- whether a word is no option
abbrev pub is_plain : List ℕ → Bool
is_plain word = not (begins (codes "-") word)

-- whether lines are read from standard input at this word
abbrev pub reads_lines : List ℕ → Bool
reads_lines word = bytes_eq word (codes "alone") || bytes_eq word (codes "replay")

-- whether a word stands for what the program does
abbrev pub is_mode : List ℕ → Bool
is_mode word =
    reads_lines word || (bytes_eq word (codes "serve") || bytes_eq word (codes "help"))

-- at the first word
abbrev pub slip_at : List ℕ → Option Slip
slip_at word =
    if begins (codes "--side") word then Some SideByItself
    else if is_of_sharing word then Some SharingByItself
    else if is_of_serving word then Some ServingByItself
    else if is_plain word && not (is_mode word) then Some FileAsWord else None

-- at the first two words
abbrev pub slip_at_two : List ℕ → List ℕ → Option Slip
slip_at_two word next =
    if reads_lines word && is_plain next then Some FileAsWord else slip_at word

-- at the first word, if there is one, and the next
abbrev pub slip_by : Option (List ℕ) → Option (List ℕ) → Option Slip
slip_by None next = None
slip_by (Some word) None = slip_at word
slip_by (Some word) (Some next) = slip_at_two word next

-- of all words, with the program's name as the first
abbrev pub slip : List (List ℕ) → Option Slip
slip words = slip_by (slice_get words 1) (slice_get words 2)

-- the hint about it
abbrev pub told_of : Option Slip → List ℕ
told_of None = []
told_of (Some SideByItself) =
    codes "\ncam6: --side goes after alone, replay or serve: cam6 alone --side 128\n"
told_of (Some SharingByItself) =
    codes "\ncam6: --users, --boards and --cache go after replay or serve: cam6 serve --users 4\n"
told_of (Some ServingByItself) =
    codes "\ncam6: --port, --connections and --idle go after serve: cam6 serve --port 6006\n"
told_of (Some FileAsWord) =
    codes "\ncam6: lines are read from standard input: cam6 < FILE, or cam6 replay < FILE\n"
