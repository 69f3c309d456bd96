-- The names that a rule can have.
use Rattle.std.specs.Prelude.{ℕ, Bool, ◌&&◌, not, ◌==◌, List, length, nat_le, codes}
use Rattle.std.specs.List.{list_all}
use Rattle.std.specs.Str.{bytes_eq}
use Rattle.cam6_commands.specs.Limits.{max_name}

-- 0x21 to 0x7E, but not a quotation mark or a backslash
abbrev pub is_name_byte : ℕ → Bool
is_name_byte b = nat_le 33 b && nat_le b 126 && not (b == 34) && not (b == 92)

-- 1 to 24 such bytes, and not `-` alone
abbrev pub is_rule_name : List ℕ → Bool
is_rule_name name =
    nat_le 1 (length name) && nat_le (length name) max_name && not (bytes_eq name (codes "-"))
    && list_all is_name_byte name
