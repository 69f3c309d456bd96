-- How many lines were taken of a reader of which it isn't known whether it tells its bytes.
use Rattle.std.proofs.Common.{◌≡◌, ◌+◌, ◌≤◌, ℕ, List, [], ◌∷◌, length, Option, None, Some}
use Rattle.std.proofs.Common.{sym, ap, subst, arith}
use Rattle.std.specs.Prelude.{IfSome, ⊤}
use Rattle.cam6_show_frames.specs.Lines.{lines}
use Rattle.cam6_show_frames.specs.Reading.{Reads}
use Rattle.cam6_show_frames.specs.Taking.{end_at, end_after}
use Rattle.cam6_show_frames.specs.declared.lines.Reading.TheVariants.{Line}
use Rattle.cam6_show_frames.specs.declared.showing.End.TheVariants.{TooManyLines}
use Rattle.cam6_show_frames.specs.declared.showing.Stop.{Stop}
use Rattle.cam6_show_frames.specs.declared.showing.Stop.TheVariants.{NoReply, BreaksOff, WriteFault, NoMemory}

-- so many lines were taken, and the others are left
abbrev pub Counted : Option (List ℕ) → ℕ → Option (List ℕ) → Type 0
Counted None n unread = ⊤
Counted (Some all) n None = ⊥
Counted (Some all) n (Some rest) = n + length (lines rest) ≡ length (lines all)

pub none_counted : (first : Option (List ℕ)) → Counted first 0 first
none_counted None = tt
none_counted (Some all) = omega arith

-- a line more
pub counted_on : (first unread unread' : Option (List ℕ)) (n : ℕ) (line : List ℕ)
    → Counted first n unread → Reads Line unread unread' line → Counted first (n + 1) unread'
counted_on None unread unread' n line counted reads = tt
counted_on (Some all) None unread' n line counted reads = absurd counted
counted_on (Some all) (Some rest) unread' n line counted reads =
    let first : length (lines rest) ≡ length (line ∷ lines reads.0) = ap length reads.2 in
    let more : n + 1 + length (lines reads.0) ≡ length (lines all) = omega arith in
    let P : Option (List ℕ) → Type 0 = λ u. Counted (Some all) (n + 1) u in
    subst P (sym reads.1) more

-- so there are so many
pub so_many : (first unread : Option (List ℕ)) (n m : ℕ) → Counted first n unread → m ≤ n
    → IfSome first (λ all. m ≤ length (lines all))
so_many None unread n m counted few = tt
so_many (Some all) None n m counted few = absurd counted
so_many (Some all) (Some rest) n m counted few = omega arith

-- other ends are other ends
pub others_at : (n : ℕ) (stop : Stop) → end_at n stop ≡ TooManyLines → ⊥
others_at n NoReply is = cc
others_at n BreaksOff is = cc
others_at n WriteFault is = cc
others_at n NoMemory is = cc

pub others_after : (n : ℕ) (rows : List (List ℕ)) → end_after n rows ≡ TooManyLines → ⊥
others_after n [] is = cc
others_after n (row ∷ rows) is = cc
