-- The columns of words that have the blocks' right columns.
use Rattle.std.proofs.Common.{◌≡◌, ℕ, ◌<◌, ap, arith, ◌∙◌, sym, replicate}
use Rattle.std.proofs.Common.{◌+◌, ◌%◌, ◌==◌}
use Rattle.cam6_planes.specs.Row.{word_column, column_bit}
use Rattle.cam6_planes.proofs.WordByWord.{column_bit-at}
use Rattle.cam6_wiring.proofs.MixedColumns.{odd_columns, even_columns}

-- the first word of a row
first_word : (w c : ℕ) → c < 64 → word_column w c ≡ column_bit (replicate 1 w) c
first_word w c h = sym (column_bit-at (replicate 1 w) 0 c h) ∙
    ap (column_bit (replicate 1 w)) (omega arith)

pub odd_word : (c : ℕ) → c < 64 → word_column 0x5555555555555555 c ≡ ((c + 0) % 2 == 1)
odd_word c h = first_word 0x5555555555555555 c h ∙ odd_columns 1 c (omega (arith, h))

pub even_word : (c : ℕ) → c < 64 → word_column 0xaaaaaaaaaaaaaaaa c ≡ ((c + 1) % 2 == 1)
even_word c h = first_word 0xaaaaaaaaaaaaaaaa c h ∙ even_columns 1 c (omega (arith, h))
