-- Two corners that show one address were two corners with the same bits: a block that is rotated
-- becomes what the block becomes, rotated, wherever lines 8 to 11 can't tell of the rotation.
use Rattle.std.proofs.Common.{◌≡◌, ℕ, ◌+◌, ◌-◌, ◌*◌, ◌%◌, ◌<◌, ◌==◌, ◌||◌, Bool, true, false, List}
use Rattle.std.proofs.Common.{[], ◌∷◌, ◌++◌, length, get_or, take, drop, map, Option, Some, None}
use Rattle.std.proofs.Common.{refl}
use Rattle.std.proofs.Common.{sym, ◌∙◌, ap, arith, slice_index}
use Rattle.std.proofs.lemmas.List.{length-map}
use mathlib.Core.Path.{Path}
use Rattle.cam6_wiring.specs.Seen.{Sees, number_of, line_shows, address_of}
use Rattle.cam6_wiring.specs.Wiring.{names_of, is_margolus}
use Rattle.cam6_wiring.specs.declared.names.Compass.TheVariants.{Center}
use Rattle.cam6_wiring.specs.declared.names.Level.{Level}
use Rattle.cam6_wiring.specs.declared.names.Level.TheVariants.{Lower, Upper}
use Rattle.cam6_wiring.specs.declared.names.Name.{Name}
use Rattle.cam6_wiring.specs.declared.names.Name.TheVariants as name
use Rattle.cam6_wiring.specs.declared.names.Phase.{Phase}
use Rattle.cam6_wiring.specs.declared.wirings.Hood.{Hood}
use Rattle.cam6_wiring.specs.declared.wirings.Minor.{Minor}
use Rattle.cam6_entries.specs.NewBits.{bit_for}
use Rattle.cam6_block.specs.Blocks.{corner_bit, state_of, corner_sees, corners_on, corner_address}
use Rattle.cam6_block.specs.Blocks.{corner_bits}
use Rattle.cam6_block.specs.BlockMaps.{Reading, by_table, block_map, IsOneToOne}
use Rattle.cam6_block.proofs.States.{four, corner_bit-state_of, state_of-lt, corner_bit-mod}
use Rattle.cam6_block.proofs.States.{same_state, corner_bit-block_map, block_map-lt}
use Rattle.cam6_block.proofs.Lines.{lines, block_lines, other_lines, split, other_long}
use Rattle.cam6_block.proofs.OtherLines.{other_rotated}

-- bits are told by their number
bit_first : (a b : Bool) (m n : ℕ) →
    number_of (a ∷ []) + 2 * m ≡ number_of (b ∷ []) + 2 * n → (a ≡ b) × (m ≡ n)
bit_first true true m n e = (refl, omega arith)
bit_first true false m n e = absurd (omega arith)
bit_first false true m n e = absurd (omega arith)
bit_first false false m n e = (refl, omega arith)

pub same_bits : (xs ys : List Bool) → length xs ≡ length ys → number_of xs ≡ number_of ys →
    xs ≡ ys
same_bits [] [] h e = refl
same_bits [] (y ∷ ys) h e = absurd (omega arith)
same_bits (x ∷ xs) [] h e = absurd (omega arith)
same_bits (x ∷ xs) (y ∷ ys) h e =
    let both = bit_first x y (number_of xs) (number_of ys) (omega (arith, e)) in
    ap (λ b. b ∷ xs) both.0 ∙ ap (λ l. y ∷ l) (same_bits xs ys (omega arith) both.1)

-- a state that is rotated so many corners
abbrev pub rotated : ℕ → ℕ → ℕ
rotated d state = state_of (λ level corner. corner_bit state level (d + corner))

rotated_bit : (d state : ℕ) (level : Level) (k : ℕ) →
    corner_bit (rotated d state) level k ≡ corner_bit state level (d + k)
rotated_bit d state level k =
    corner_bit-mod (rotated d state) level k (k % 4) (omega arith) ∙
    corner_bit-state_of (λ level corner. corner_bit state level (d + corner)) level (k % 4)
    (omega arith) ∙
    corner_bit-mod state level (d + k % 4) (d + k) (omega arith)

same_eight : {a0 a1 a2 a3 a4 a5 a6 a7 b0 b1 b2 b3 b4 b5 b6 b7 : Bool} →
    a0 ≡ b0 → a1 ≡ b1 → a2 ≡ b2 → a3 ≡ b3 → a4 ≡ b4 → a5 ≡ b5 → a6 ≡ b6 → a7 ≡ b7 →
    Path (List Bool)
    (a0 ∷ a1 ∷ a2 ∷ a3 ∷ a4 ∷ a5 ∷ a6 ∷ a7 ∷ []) (b0 ∷ b1 ∷ b2 ∷ b3 ∷ b4 ∷ b5 ∷ b6 ∷ b7 ∷ [])
same_eight e0 e1 e2 e3 e4 e5 e6 e7 = cc

-- what two corners show of blocks that have the same bits from there on
block_same : (state corner t k : ℕ) →
    ((level : Level) (n : ℕ) → n < 4 →
    corner_bit state level (corner + n) ≡ corner_bit t level (k + n)) →
    block_lines state corner ≡ block_lines t k
block_same state corner t k e =
    let first = λ (level : Level). corner_bit-mod state level corner (corner + 0) (omega arith) ∙
    e level 0 (omega arith) ∙ corner_bit-mod t level (k + 0) k (omega arith) in
    same_eight (first Lower) (first Upper)
    (e Lower 1 (omega arith)) (e Lower 3 (omega arith)) (e Lower 2 (omega arith))
    (e Upper 1 (omega arith)) (e Upper 3 (omega arith)) (e Upper 2 (omega arith))

-- and the other way round
block_bits : (state corner t k : ℕ) → block_lines state corner ≡ block_lines t k →
    (level : Level) (n : ℕ) → n < 4 →
    corner_bit state level (corner + n) ≡ corner_bit t level (k + n)
block_bits state corner t k e level n h =
    let first = λ (level : Level) (p : corner_bit state level corner ≡ corner_bit t level k).
    corner_bit-mod state level (corner + 0) corner (omega arith) ∙ p ∙
    corner_bit-mod t level k (k + 0) (omega arith) in
    let at = λ (i : ℕ). ap (λ l. get_or l i false) e in
    let P : Level → ℕ → Type 0 = λ level n.
    corner_bit state level (corner + n) ≡ corner_bit t level (k + n) in
    elim level as (λ level. P level n) [
      | Lower ↦ four (P Lower) (first Lower (at 0)) (at 2) (at 4) (at 3) n h
      | Upper ↦ four (P Upper) (first Upper (at 1)) (at 5) (at 7) (at 6) n h
    ]

-- what a corner sees is what corner 4 further sees
seen_mod : (phase : Phase) (state n m : ℕ) → n % 4 ≡ m % 4 → (known : Name) →
    corner_sees phase state n known ≡ corner_sees phase state m known
seen_mod phase state n m e (name.Beside Center level) = corner_bit-mod state level n m e
seen_mod phase state n m e (name.Beside _ level) = refl
seen_mod phase state n m e (name.InBlock rotation level) =
    corner_bit-mod state level (n + corners_on rotation) (m + corners_on rotation) (omega arith)
seen_mod phase state n m e (name.Phase level) = refl
seen_mod phase state n m e name.Horz = ap (λ r. (r == 1) || (r == 2)) e
seen_mod phase state n m e name.Vert = ap (λ r. (r == 2) || (r == 3)) e
seen_mod phase state n m e (name.MinorCenter level) = refl
seen_mod phase state n m e (name.MinorPhase level) = refl
seen_mod phase state n m e name.MinorHorz = ap (λ r. (r == 1) || (r == 2)) e
seen_mod phase state n m e name.MinorVert = ap (λ r. (r == 2) || (r == 3)) e

line_mod : (phase : Phase) (state n m : ℕ) → n % 4 ≡ m % 4 → (line : Option Name) →
    line_shows (corner_sees phase state n) line ≡ line_shows (corner_sees phase state m) line
line_mod phase state n m e None = refl
line_mod phase state n m e (Some known) = seen_mod phase state n m e known

map_same : {X : Type 0} (f g : X → Bool) (xs : List X) → ((x : X) → f x ≡ g x) →
    map f xs ≡ map g xs
map_same f g [] e = refl
map_same f g (x ∷ xs) e = ap (λ b. b ∷ map f xs) (e x) ∙ ap (λ l. g x ∷ l) (map_same f g xs e)

-- a reading that depends on the names that the wiring has
abbrev pub IsReading : Hood → Minor → Reading → Type 0
IsReading hood minor read =
    (sees other : Sees) →
    map (line_shows sees) (names_of hood minor) ≡ map (line_shows other) (names_of hood minor) →
    read sees ≡ read other

pub table_reads : (hood : Hood) (minor : Minor) (entries : List ℕ) →
    IsReading hood minor (by_table hood minor entries)
unfolding address_of
table_reads hood minor entries sees other e = ap (λ l. slice_index entries (number_of l)) e

module _ (read : Reading) (hood : Hood) (minor : Minor) (reads : IsReading hood minor read)
    (blocks : is_margolus hood ≡ true) where
  -- the lines of a corner of a rotated block, where the other lines can't tell of the rotation
  lines_rotated : (phase other : Phase) (d s k : ℕ) →
      other_lines hood minor phase (d + k) ≡ other_lines hood minor other k →
      lines hood minor other (rotated d s) k ≡ lines hood minor phase s ((d + k) % 4)
  lines_rotated phase other d s k e =
      split hood minor other (rotated d s) k blocks ∙
      ap (λ l. l ++ other_lines hood minor other k)
      (block_same (rotated d s) k s (d + k) (λ level n h. rotated_bit d s level (k + n) ∙
      corner_bit-mod s level (d + (k + n)) (d + k + n) (omega arith))) ∙
      ap (λ l. block_lines s (d + k) ++ l) (sym e) ∙
      sym (split hood minor phase s (d + k) blocks) ∙
      map_same _ _ (names_of hood minor) (line_mod phase s (d + k) ((d + k) % 4) (omega arith))

  -- a rotated block becomes what the block becomes, rotated
  successor_rotated : (phase other : Phase) (d s : ℕ) →
      ((k : ℕ) → k < 4 → other_lines hood minor phase (d + k) ≡ other_lines hood minor other k) →
      block_map read other (rotated d s) ≡ rotated d (block_map read phase s)
  successor_rotated phase other d s e =
      same_state (block_map read other (rotated d s)) (rotated d (block_map read phase s))
      (block_map-lt read other (rotated d s)) (state_of-lt _) (λ level k h.
      corner_bit-block_map read other (rotated d s) level k h ∙
      ap (bit_for level) (reads (corner_sees other (rotated d s) k)
      (corner_sees phase s ((d + k) % 4)) (lines_rotated phase other d s k (e k h))) ∙
      sym (corner_bit-block_map read phase s level ((d + k) % 4) (omega arith)) ∙
      corner_bit-mod (block_map read phase s) level ((d + k) % 4) (d + k) (omega arith) ∙
      sym (rotated_bit d (block_map read phase s) level k))

  -- two corners that show one address were corners with the same bits
  pub agree : (phase other : Phase) (s i u j : ℕ) → i < 4 → u < 256 → j < 4 →
      IsOneToOne (block_map read other) →
      corner_address hood minor phase (block_map read phase s) i
      ≡ corner_address hood minor other (block_map read other u) j →
      corner_bits s i ≡ corner_bits u j
  unfolding corner_address address_of corner_bits
  agree phase other s i u j hi hu hj one e =
      let t = block_map read phase s in
      let v = block_map read other u in
      let d = i + (4 - j) in
      let all : block_lines t i ++ other_lines hood minor phase i
      ≡ block_lines v j ++ other_lines hood minor other j =
      sym (split hood minor phase t i blocks) ∙
      same_bits (lines hood minor phase t i) (lines hood minor other v j)
      (length-map (names_of hood minor) _ ∙ sym (length-map (names_of hood minor) _)) e ∙
      split hood minor other v j blocks in
      let near : block_lines t i ≡ block_lines v j = ap (take 8) all in
      let rest : other_lines hood minor phase i ≡ other_lines hood minor other j =
      ap (drop 8) all in
      let rotations : (k : ℕ) → k < 4 →
      other_lines hood minor phase (d + k) ≡ other_lines hood minor other k =
      λ k h. same_bits _ _ (other_long hood minor phase other (d + k) k)
      (other_rotated hood minor phase other i j k hi hj h (ap number_of rest)) in
      let successor : rotated d t ≡ v =
      same_state (rotated d t) v (state_of-lt _) (block_map-lt read other u) (λ level k h.
      rotated_bit d t level k ∙
      corner_bit-mod t level (d + k) (i + (k + (4 - j)) % 4) (omega arith) ∙
      block_bits t i v j near level ((k + (4 - j)) % 4) (omega arith) ∙
      corner_bit-mod v level (j + (k + (4 - j)) % 4) k (omega arith)) in
      let same : rotated d s ≡ u =
      one (rotated d s) u (state_of-lt _) hu (successor_rotated phase other d s rotations ∙ successor) in
      let bit : (level : Level) → corner_bit s level i ≡ corner_bit u level j =
      λ level. corner_bit-mod s level i (d + j) (omega arith) ∙ sym (rotated_bit d s level j) ∙
      ap (λ n. corner_bit n level j) same in
      ap (λ b. number_of (b ∷ corner_bit s Upper i ∷ [])) (bit Lower) ∙
      ap (λ b. number_of (corner_bit u Lower j ∷ b ∷ [])) (bit Upper)
