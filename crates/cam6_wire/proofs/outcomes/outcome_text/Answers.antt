use Rattle.std.proofs.Common.{◌≤◌, Some, ap, ◌∙◌, subst, sym}
use Rattle.serde_json.specs.Data.{depth}
use Rattle.serde_json.specs.Read.{max_depth}
use Rattle.serde_json.specs.Written.{compact_text, has_float}
use Rattle.cam6_wire.proofs.Flat.{flat_outcome}
use Rattle.cam6_wire.proofs.Floats.{outcome_without_float}
use Rattle.cam6_wire.specs.Outcomes.{outcome_bytes, outcome_data}
use Rattle.cam6_wire.proofs.BandTexts.{band_bytes, band_read}
use Rattle.cam6_commands.specs.declared.outcomes.Outcome.{Outcome}
use Rattle.serde_json.specs.Read.{read}
use Rattle.cam6_wire.proofs.outcomes.outcome_text.Goals as goal

pub returns-in_ok-band_text-in-Banded-clause-text :
    goal.returns-in_ok-band_text-in-Banded-clause-text
returns-in_ok-band_text-in-Banded-clause-text c =
    c.in_ok-band_text-in-Banded.ensures.text ∙ band_bytes c.in-Banded.left ∙
    ap outcome_bytes (sym c.in-Banded.is)

pub returns-in_ok-band_text-in-Banded-clause-value :
    goal.returns-in_ok-band_text-in-Banded-clause-value
returns-in_ok-band_text-in-Banded-clause-value c =
    ap read (c.in_ok-band_text-in-Banded.ensures.text ∙ band_bytes c.in-Banded.left) ∙
    band_read c.in-Banded.left c.band_text.ensures.fits ∙
    ap (λ (o : Outcome). Some (outcome_data o)) (sym c.in-Banded.is)

pub returns-in_ok-to_string-in_default : goal.returns-in_ok-to_string-in_default
unfolding outcome_bytes
returns-in_ok-to_string-in_default c =
    let is = c.in_ok-outcome_value-in_default.ensures in
    let without_float = ap has_float is ∙ outcome_without_float c.args.outcome.now in
    let flat = subst (λ d. depth d ≤ max_depth) (sym is) (flat_outcome c.args.outcome.now) in
    record {
      text = c.in_ok-to_string-in_default.ensures.text without_float ∙ ap compact_text is;
      value = c.in_ok-to_string-in_default.ensures.reads_back flat ∙ ap Some is;
    }
