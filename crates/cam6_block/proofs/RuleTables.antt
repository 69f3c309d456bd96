-- What is said of the table that a rule's code filled is said of the words of its text.
use Rattle.std.proofs.Common.{◌≡◌, ℕ, List, Some, None, Result, Ok, Err, IsOk, IfOk, IfErr}
use Rattle.std.proofs.Common.{refl, sym, ap, subst, length, ◌∙◌}
use Rattle.cam6_entries.specs.Limits.{addresses}
use Rattle.std.proofs.Math.Path.{fun_ext}
use Rattle.cam6_wiring.specs.declared.wirings.Wiring.{Wiring}
use Rattle.cam6_forth.specs.Trees.{tree_of}
use Rattle.cam6_cycle.specs.declared.tables.Direction.{Direction}
use Rattle.cam6_cycle.specs.declared.tables.Direction.TheVariants.{Backward}
use Rattle.cam6_table.specs.Codes.{result_at}
use Rattle.cam6_table.specs.Tables.{AreEntries}
use Rattle.cam6_table.specs.RuleTexts.{IsCodeFor, IsTableOf}
use Rattle.cam6_table.specs.declared.codes.Instruction.{Instruction}
use Rattle.cam6_table.proofs.TrueTables.{true_table}
use Rattle.cam6_block.specs.BlockMaps.{Reading, by_table, made, reading_of, IsReversible}
use Rattle.cam6_block.specs.Inverted.{IsInverted}
use Rattle.cam6_block.specs.Refusals.{IsRefused, cause_of}
use Rattle.cam6_block.specs.RuleTables.{IsTableBy}
use Rattle.cam6_block.specs.declared.refusals.NotReversible.{NotReversible}
use Rattle.cam6_block.proofs.Causes.{cause_is_found}

-- a table that is true reads as the rule's words
pub same_reading : (wiring : Wiring) (text entries : List ℕ) → IsTableOf wiring text entries →
    by_table wiring.hood wiring.minor entries ≡ reading_of wiring text
same_reading wiring text entries is =
    fun_ext (λ sees.
    sym (ap made (true_table wiring (tree_of text) entries sees is.rule is.holds)))

-- what can be undone has no cause against it
pub never_refused : (wiring : Wiring) (text : List ℕ) (cause : NotReversible) →
    IsReversible (reading_of wiring text) wiring.hood wiring.minor →
    cause_of (reading_of wiring text) wiring.hood wiring.minor ≡ Some cause → ⊥
never_refused wiring text cause can is =
    let none = (cause_is_found (reading_of wiring text) wiring.hood wiring.minor).1 can in
    let contrary : None ≡ Some cause = sym none ∙ is in
    cc contrary

module _ (wiring : Wiring) (code : List Instruction) (entries : List ℕ)
    (whole : length entries ≡ addresses) (are : AreEntries (result_at code) entries) where
  -- what the code filled is the table of its text
  its_table : (text : List ℕ) → IsCodeFor wiring text code → IsTableOf wiring text entries
  its_table text is =
      record {
        rule = is.spells.all.rule;
        whole = whole;
        holds = λ address within. sym (is.means address) ∙ are address within;
      }

  -- so what holds of a reading by the table holds of the words
  of_words : (P : Reading → Type 0) → P (by_table wiring.hood wiring.minor entries) →
      (text : List ℕ) → IsCodeFor wiring text code → P (reading_of wiring text)
  of_words P holds text is = subst P (same_reading wiring text entries (its_table text is)) holds

  its_cause : (cause : NotReversible) →
      IsRefused (by_table wiring.hood wiring.minor entries) wiring.hood wiring.minor cause →
      (text : List ℕ) → IsCodeFor wiring text code →
      cause_of (reading_of wiring text) wiring.hood wiring.minor ≡ Some cause
  its_cause cause refused text is =
      (cause_is_found (reading_of wiring text) wiring.hood wiring.minor).0 cause
      (of_words (λ read. IsRefused read wiring.hood wiring.minor cause) refused text is)

  module _ (direction : Direction) (back : direction ≡ Backward) where
    -- the table that undoes the one that was filled undoes the text's rule
    pub undoes_the_text : (r : Result (Unit {0}) NotReversible) (inverted : List ℕ) →
        IfOk r (λ _.
        IsReversible (by_table wiring.hood wiring.minor entries) wiring.hood wiring.minor) →
        IfOk r (λ _.
        IsInverted (by_table wiring.hood wiring.minor entries) wiring.hood wiring.minor inverted) →
        IfOk r (λ _. (text : List ℕ) → IsCodeFor wiring text code →
        IsTableBy direction wiring text inverted)
    undoes_the_text (Ok done) inverted can undoes = λ text is.
        subst (λ way. IsTableBy way wiring text inverted) (sym back) (
          of_words (λ read. IsReversible read wiring.hood wiring.minor) can text is,
          of_words (λ read. IsInverted read wiring.hood wiring.minor inverted) undoes text is,
        )
    undoes_the_text (Err cause) inverted can undoes = tt

    pub refused_for_its_cause : (r : Result (Unit {0}) NotReversible) →
        IfErr r (λ cause.
        IsRefused (by_table wiring.hood wiring.minor entries) wiring.hood wiring.minor cause) →
        IfErr r (λ cause. (direction ≡ Backward) × ((text : List ℕ) →
        IsCodeFor wiring text code →
        cause_of (reading_of wiring text) wiring.hood wiring.minor ≡ Some cause))
    refused_for_its_cause (Ok done) refused = tt
    refused_for_its_cause (Err cause) refused = (back, its_cause cause refused)

  -- and of a text whose rule can be undone nothing is refused
  pub not_refused : (r : Result (Unit {0}) NotReversible) →
      IfErr r (λ cause.
      IsRefused (by_table wiring.hood wiring.minor entries) wiring.hood wiring.minor cause) →
      (text : List ℕ) → IsCodeFor wiring text code →
      IsReversible (reading_of wiring text) wiring.hood wiring.minor → IsOk r
  not_refused (Ok done) refused text is can = refl
  not_refused (Err cause) refused text is can =
      absurd (never_refused wiring text cause can (its_cause cause refused text is))
