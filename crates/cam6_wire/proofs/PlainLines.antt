-- Lines that are spelled plainly say their commands.
use Rattle.std.proofs.Common.{◌≡◌, ◌∙◌, ℕ, ◌<◌, ◌≤◌, ◌^◌, List, [], ◌∷◌, ◌++◌, Bool, true, false, cond}
use Rattle.std.proofs.Common.{codes, decimal, length, Some, Ok, Less, option_and_then}
use Rattle.std.proofs.Common.{IsUtf8, append_assoc, refl, sym, ap, arith, rules}
use Rattle.std.specs.Ordering.{nat_cmp}
use Rattle.std.specs.Cmp.Lexicographic.{slice_cmp}
use Rattle.std.proofs.lemmas.Str.{IsUtf8-append}
use Rattle.json.specs.Print.{print, print_from, escape}
use Rattle.json.specs.Json as json
use Rattle.json.specs.Tree as tree
use Rattle.json.proofs.Printed.Decimals.{IsNumber-decimal}
use Rattle.json.proofs.Printed.Utf8.{are_ascii, IsUtf8-are_ascii}
use Rattle.serde_json.specs.Data.{Data, string, object, no_members, member, depth}
use Rattle.serde_json.specs.Read.{read, max_depth, of_json}
use Rattle.serde_json.specs.Written.{compact_text}
use Rattle.serde_json.proofs.Numbers.{number_of-decimal}
use Rattle.serde_json.proofs.OnLiterals.{serde_json_on_literals}
use Rattle.cam6_planes.specs.Digits.{bits_of_digits}
use Rattle.cam6_commands.specs.declared.commands.Command.TheVariants.{Set, Run, Back, Row, Plane}
use Rattle.cam6_wire.specs.Numbers.{natural}
use Rattle.cam6_wire.specs.Limits.{max_line, max_load_line, begins_load, limit_of}
use Rattle.cam6_wire.specs.Commands.{value_of, set_of, command_in, command}
use Rattle.cam6_wire.proofs.Saying.{value_found, is_said}
use Rattle.cam6_wire.proofs.Spelling.{said_if_spelled}
use Rattle.cam6_wire.proofs.Telling.{shown_is_said}
use Rattle.cam6_wire.proofs.ReadBack.{IsWholeData, read_back, read_printed}
use Rattle.cam6_wire.proofs.TextsAreUtf8.{HasTexts}
use Rattle.cam6_wire.proofs.CompactUtf8.{text_is_utf8, ascii_decimal}
use Rattle.cam6_wire.proofs.HexTexts.{AreHexDigits, bits_are_hex, hex_escaped, hex_ascii}

least_limit : (b : Bool) → max_line ≤ cond b max_load_line max_line
least_limit true = omega arith
least_limit false = omega arith

within : (line : List ℕ) → length line ≤ max_line → length line ≤ limit_of line
within line short = omega (arith, short, least_limit (begins_load line))

-- a line that is the compact text of a value of whole numbers has that value
has_value : (line : List ℕ) (d : Data) → line ≡ compact_text d → IsWholeData d → HasTexts d →
    depth d ≤ max_depth → value_of line ≡ Some d
has_value line d is whole texts shallow =
    ap value_of is ∙
    value_found (compact_text d) d (text_is_utf8 d whole texts) (read_back d whole shallow)

literal : (text : List ℕ) → are_ascii text ≡ true → IsUtf8 text
literal text ascii = IsUtf8-are_ascii text ascii

-- {"do":word,key:n}

sole_data : List ℕ → List ℕ → ℕ → Data
sole_data word key n =
    object (member (codes "do") (string word) (member key (natural n) no_members))

sole_value : (line word key : List ℕ) (n : ℕ) → line ≡ compact_text (sole_data word key n) →
    n < 2 ^ 64 → slice_cmp nat_cmp (codes "do") key ≡ Less → are_ascii word ≡ true →
    are_ascii key ≡ true → value_of line ≡ Some (sole_data word key n)
unfolding sole_data
sole_value line word key n is whole before word_ascii key_ascii =
    has_value line (sole_data word key n) is (tt, (before, tt), (whole, tt, tt))
    (literal (codes "do") refl, literal word word_ascii, (literal key key_ascii, tt, tt))
    (omega arith)

run_text : (n : ℕ) →
    codes "{\"do\":\"run\",\"n\":" ++ decimal n ++ codes "}"
    ≡ compact_text (sole_data (codes "run") (codes "n") n)
unfolding sole_data serde_json_on_literals
run_text n = search rules

pub says_run : (line : List ℕ) (n : ℕ) → length line ≤ max_line → n < 2 ^ 64 →
    line ≡ codes "{\"do\":\"run\",\"n\":" ++ decimal n ++ codes "}" → command line ≡ Ok (Run n)
unfolding sole_data
says_run line n short whole is =
    shown_is_said line (sole_data (codes "run") (codes "n") n) (Run n) (within line short)
    (sole_value line (codes "run") (codes "n") n (is ∙ run_text n) whole refl refl refl) refl refl

back_text : (n : ℕ) →
    codes "{\"do\":\"back\",\"n\":" ++ decimal n ++ codes "}"
    ≡ compact_text (sole_data (codes "back") (codes "n") n)
unfolding sole_data serde_json_on_literals
back_text n = search rules

pub says_back : (line : List ℕ) (n : ℕ) → length line ≤ max_line → n < 2 ^ 64 →
    line ≡ codes "{\"do\":\"back\",\"n\":" ++ decimal n ++ codes "}" → command line ≡ Ok (Back n)
unfolding sole_data
says_back line n short whole is =
    shown_is_said line (sole_data (codes "back") (codes "n") n) (Back n) (within line short)
    (sole_value line (codes "back") (codes "n") n (is ∙ back_text n) whole refl refl refl) refl refl

plane_text : (n : ℕ) →
    codes "{\"do\":\"plane\",\"plane\":" ++ decimal n ++ codes "}"
    ≡ compact_text (sole_data (codes "plane") (codes "plane") n)
unfolding sole_data serde_json_on_literals
plane_text n = search rules

pub says_plane : (line : List ℕ) (n : ℕ) → length line ≤ max_line → n < 2 ^ 64 →
    line ≡ codes "{\"do\":\"plane\",\"plane\":" ++ decimal n ++ codes "}" →
    command line ≡ Ok (Plane n)
unfolding sole_data
says_plane line n short whole is =
    shown_is_said line (sole_data (codes "plane") (codes "plane") n) (Plane n) (within line short)
    (sole_value line (codes "plane") (codes "plane") n (is ∙ plane_text n) whole refl refl refl)
    refl refl

-- {"do":"row","plane":p,"row":y}

row_data : ℕ → ℕ → Data
row_data plane row =
    object
    (member (codes "do") (string (codes "row"))
    (member (codes "plane") (natural plane) (member (codes "row") (natural row) no_members)))

row_line : ℕ → ℕ → List ℕ
row_line plane row =
    codes "{\"do\":\"row\",\"plane\":" ++
    (decimal plane ++ (codes ",\"row\":" ++ (decimal row ++ codes "}")))

row_text : (plane row : ℕ) → row_line plane row ≡ compact_text (row_data plane row)
unfolding row_line row_data serde_json_on_literals
row_text plane row = refl

pub says_row : (line : List ℕ) (plane row : ℕ) → length line ≤ max_line → plane < 2 ^ 64 →
    row < 2 ^ 64 →
    line
    ≡ codes "{\"do\":\"row\",\"plane\":" ++
    (decimal plane ++ (codes ",\"row\":" ++ decimal row ++ codes "}")) →
    command line ≡ Ok (Row plane row)
unfolding row_line row_data
says_row line plane row short small low is =
    let value =
    has_value line (row_data plane row) (is ∙ row_text plane row)
    (tt, (refl, (refl, tt)), (small, (refl, tt), (low, tt, tt))) (
      literal (codes "do") refl,
      literal (codes "row") refl,
      (literal (codes "plane") refl, tt, (literal (codes "row") refl, tt, tt)),
    )
    (omega arith) in
    shown_is_said line (row_data plane row) (Row plane row) (within line short) value refl refl

-- {"do":"set","plane":p,"row":y,"bits":digits}, whose keys are not in byte order

set_json : ℕ → ℕ → List ℕ → json.Json
set_json plane row digits =
    json.object
    (json.member (codes "do") (json.string (codes "set"))
    (json.member (codes "plane") (json.number (decimal plane))
    (json.member (codes "row") (json.number (decimal row))
    (json.member (codes "bits") (json.string digits) json.no_members))))

set_data : ℕ → ℕ → List ℕ → Data
set_data plane row digits =
    object
    (member (codes "bits") (string digits)
    (member (codes "do") (string (codes "set"))
    (member (codes "plane") (natural plane) (member (codes "row") (natural row) no_members))))

up_to_bits : ℕ → ℕ → List ℕ → List ℕ
up_to_bits plane row rest =
    codes "{\"do\":\"set\",\"plane\":" ++
    (decimal plane ++ (codes ",\"row\":" ++ (decimal row ++ rest)))

set_line : ℕ → ℕ → List ℕ → List ℕ
set_line plane row inner = up_to_bits plane row (codes ",\"bits\":\"" ++ (inner ++ codes "\"}"))

set_printed : (plane row : ℕ) (digits : List ℕ) →
    set_line plane row (escape digits) ≡ print (tree.json_tokens (set_json plane row digits))
unfolding up_to_bits set_line set_json print_from serde_json_on_literals
set_printed plane row digits =
    ap (λ end. up_to_bits plane row (codes ",\"bits\":\"" ++ end))
    (sym (append_assoc (escape digits) (34 ∷ []) (125 ∷ [])))

set_read : (plane row : ℕ) (digits : List ℕ) → plane < 2 ^ 64 → row < 2 ^ 64 →
    of_json (set_json plane row digits) ≡ Some (set_data plane row digits)
unfolding set_json set_data
set_read plane row digits small low =
    rw (number_of-decimal plane small, number_of-decimal row low) refl

set_found : (plane row : ℕ) (digits : List ℕ) → plane < 2 ^ 64 → row < 2 ^ 64 →
    AreHexDigits digits → read (set_line plane row digits) ≡ Some (set_data plane row digits)
unfolding set_json
set_found plane row digits small low hex =
    ap (λ inner. read (set_line plane row inner)) (sym (hex_escaped digits hex)) ∙
    ap read (set_printed plane row digits) ∙
    read_printed (set_json plane row digits)
    (tt, (IsNumber-decimal plane small, (IsNumber-decimal row low, (tt, tt)))) (omega arith) ∙
    set_read plane row digits small low

set_utf8 : (plane row : ℕ) (digits : List ℕ) → AreHexDigits digits →
    IsUtf8 (set_line plane row digits)
unfolding up_to_bits set_line
set_utf8 plane row digits hex =
    IsUtf8-append _ _ (literal (codes "{\"do\":\"set\",\"plane\":") refl)
    (IsUtf8-append _ _ (literal (decimal plane) (ascii_decimal plane))
    (IsUtf8-append _ _ (literal (codes ",\"row\":") refl)
    (IsUtf8-append _ _ (literal (decimal row) (ascii_decimal row))
    (IsUtf8-append _ _ (literal (codes ",\"bits\":\"") refl)
    (IsUtf8-append _ _ (literal digits (hex_ascii digits hex))
    (literal (codes "\"}") refl))))))

set_shown : (plane row : ℕ) (digits bits : List ℕ) → bits_of_digits digits ≡ Some bits →
    command_in (set_data plane row digits) ≡ Some (Set plane row bits)
unfolding set_data set_of serde_json_on_literals
set_shown plane row digits bits is =
    ap (option_and_then (λ bits. Some (Set plane row bits))) is

pub says_set : (line : List ℕ) (plane row : ℕ) (digits bits : List ℕ) →
    length line ≤ max_line → plane < 2 ^ 64 → row < 2 ^ 64 →
    line
    ≡ codes "{\"do\":\"set\",\"plane\":" ++
    (decimal plane ++ (codes ",\"row\":" ++
    (decimal row ++ (codes ",\"bits\":\"" ++ (digits ++ codes "\"}"))))) →
    bits_of_digits digits ≡ Some bits → command line ≡ Ok (Set plane row bits)
unfolding up_to_bits set_line
says_set line plane row digits bits short small low is means =
    let hex = bits_are_hex digits bits means in
    let value : value_of line ≡ Some (set_data plane row digits) =
    ap value_of is ∙
    value_found (set_line plane row digits) (set_data plane row digits)
    (set_utf8 plane row digits hex) (set_found plane row digits small low hex) in
    said_if_spelled line (Set plane row bits)
    (is_said command_in line (set_data plane row digits) (Set plane row bits) (within line short)
    value (set_shown plane row digits bits means)) refl
