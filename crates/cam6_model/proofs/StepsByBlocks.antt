-- A step by rules of blocks changes each block as a whole.
use Rattle.std.proofs.Common.{◌≡◌, ◌<◌, ℕ, zero, suc, ◌%◌, Bool, List, Option, Some, None}
use Rattle.std.proofs.Common.{Result, Ok, Err, refl, sym, subst, ◌∙◌, ap}
use Rattle.cam6_planes.specs.Cells.{Cells}
use Rattle.cam6_planes.proofs.CellsAt.{torus_same}
use Rattle.cam6_wiring.specs.Block.{corner_of}
use Rattle.cam6_wiring.specs.Name.{on_plane}
use Rattle.cam6_wiring.specs.Seen.{Sees, seen}
use Rattle.cam6_wiring.specs.declared.names.Half.{Half}
use Rattle.cam6_wiring.specs.declared.names.Half.TheVariants.{A, B}
use Rattle.cam6_wiring.specs.declared.names.Level.{Level}
use Rattle.cam6_wiring.specs.declared.names.Level.TheVariants.{Lower, Upper}
use Rattle.cam6_wiring.specs.declared.neighbours.Setting.{Setting}
use Rattle.cam6_wiring.specs.declared.wirings.Wiring.{Wiring}
use Rattle.cam6_forth.specs.Defined.{Defined}
use Rattle.cam6_forth.specs.Reading.{read_text}
use Rattle.cam6_forth.specs.Tree.{IsRule}
use Rattle.cam6_forth.specs.Trees.{tree_of}
use Rattle.cam6_forth.proofs.OneTree.{tree_is_read}
use Rattle.cam6_forth.proofs.TextLaws.{read_rule}
use Rattle.cam6_table.specs.declared.faults.RuleFault.{RuleFault}
use Rattle.cam6_table.specs.Meaning.{meaning, at_address}
use Rattle.cam6_entries.specs.NewBits.{bit_for}
use Rattle.cam6_table.specs.Tables.{least_stop}
use Rattle.cam6_table.proofs.TrueTables.{at_seen}
use Rattle.cam6_block.specs.Blocks.{corner_sees}
use Rattle.cam6_block.specs.BlockMaps.{made, reading_of}
use Rattle.cam6_block.proofs.States.{corner_bit-block_map}
use Rattle.cam6_model.specs.Rules.{Rule}
use Rattle.cam6_model.specs.Cycles.{rule_for, setting_for}
use Rattle.cam6_model.specs.Steps.{new_bit, new_cell}
use Rattle.cam6_model.specs.Undoing.{block_state_at, corner_in_block, changed_cell, blockwise}
use Rattle.cam6_model.specs.Undoing.{done_by}
use Rattle.cam6_model.specs.Refusals.{text_refusal, stop_refusal, words_refusal}
use Rattle.cam6_model.specs.Laws.{IsOfBlocks, StepChangesBlocks}
use Rattle.cam6_model.proofs.ReversibleCycles.{neither_comes}
use Rattle.cam6_model.proofs.BlocksOfCells.{corner_number-lt}
use Rattle.cam6_model.proofs.AddressesOfBlocks.{addresses_agree}
use Rattle.cam6_model.proofs.SeenInBlocks.{sees_block}

-- a text without a fault spells a rule
text_read : (wiring : Wiring) (text : List ℕ) (out : Result (List Defined) (ℕ × ℕ)) →
    read_text wiring text ≡ out → text_refusal out ≡ None → IsRule wiring (tree_of text)
text_read wiring text (Err fault) e none = cc none
text_read wiring text (Ok definitions) e none =
    let (parts, spells, meant) = read_rule wiring text definitions e in
    subst (IsRule wiring) (sym (tree_is_read wiring parts text spells)) spells.all.rule

-- and so does one that isn't refused
pub text_is_rule : (wiring : Wiring) (text : List ℕ) → words_refusal wiring text ≡ None →
    IsRule wiring (tree_of text)
text_is_rule wiring text none =
    text_read wiring text (read_text wiring text) refl
    (neither_comes (text_refusal (read_text wiring text))
    (stop_refusal (least_stop (at_address wiring (tree_of text)))) none).0

-- a step has the bits of what is made of what is seen
made_bit : (level : Level) (said : Result ℕ RuleFault) →
    new_bit level said ≡ bit_for level (made said)
made_bit level (Ok bits) = refl
made_bit Lower (Err fault) = refl
made_bit Upper (Err fault) = refl

-- bits that are the same for each plane of each half are so for all planes
pub same_on_planes : (bit other : Half → Level → Bool) →
    ((half : Half) (level : Level) → bit half level ≡ other half level) → (p : ℕ) →
    on_plane p bit ≡ on_plane p other
same_on_planes bit other same zero = same A Lower
same_on_planes bit other same (suc zero) = same A Upper
same_on_planes bit other same (suc (suc zero)) = same B Lower
same_on_planes bit other same (suc (suc (suc p))) = same B Upper

-- a cell's new bit by a rule of blocks is that of its corner in what becomes of the block
new_cell_of_block : (s : ℕ) (f : Cells) (setting : Setting) (rule : Option Rule) (level : Level)
    (x y : ℕ) → 0 < s → s % 2 ≡ 0 → x < s → y < s → IsOfBlocks rule →
    new_cell s f setting rule level x y
    ≡ changed_cell s f setting.grid setting.half (done_by setting.phase rule) level x y
new_cell_of_block s f setting None level x y some even h k blocks = refl
new_cell_of_block s f setting (Some rule) level x y some even h k (words, margolus, alone) =
    let wiring = rule.wiring in
    let tree = tree_of rule.text in
    let state = block_state_at s f setting.half setting.grid x y in
    let corner = corner_in_block setting.grid x y in
    let sees : Sees = λ name. seen s f setting name x y in
    let from_corner = corner_sees setting.phase state corner in
    let is_rule = text_is_rule wiring rule.text words in
    let same =
    addresses_agree sees from_corner (sees_block s f setting x y some even h k) wiring.hood
    wiring.minor margolus alone in
    ap (new_bit level)
    (at_seen wiring tree sees is_rule ∙ ap (at_address wiring tree) same ∙
    sym (at_seen wiring tree from_corner is_rule)) ∙
    made_bit level (meaning wiring tree from_corner) ∙
    sym (corner_bit-block_map (reading_of rule.wiring rule.text) setting.phase state level corner
    (corner_number-lt (corner_of setting.grid x y)))

pub step_changes_blocks : StepChangesBlocks
unfolding blockwise
step_changes_blocks s entry f some even a b =
    torus_same s
    (λ p x y. on_plane p (λ half level.
    new_cell s f (setting_for half entry) (rule_for half entry) level x y))
    (λ p x y. on_plane p (λ half level.
    changed_cell s f entry.grid half (done_by entry.phase (rule_for half entry)) level x y))
    some
    (λ p x y g h k.
    same_on_planes
    (λ half level. new_cell s f (setting_for half entry) (rule_for half entry) level x y)
    (λ half level.
    changed_cell s f entry.grid half (done_by entry.phase (rule_for half entry)) level x y)
    (λ half level.
    new_cell_of_block s f (setting_for half entry) (rule_for half entry) level x y some even h k
    (of_blocks half)) p)
  where
    of_blocks : (half : Half) → IsOfBlocks (rule_for half entry)
    of_blocks A = a
    of_blocks B = b
