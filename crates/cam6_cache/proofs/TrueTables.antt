-- True tables: there is one of a key, and it is found by way of the straight one.
use Rattle.std.proofs.Common.{◌≡◌, ℕ, ◌<◌, Bool, true, false, List, length, arith}
use Rattle.std.proofs.Common.{Ok, get_or, sym, ◌∙◌, subst}
use Rattle.std.proofs.lemmas.List.{ext_get_or}
use Rattle.cam6_entries.specs.Limits.{addresses}
use Rattle.cam6_block.specs.BlockMaps.{Reading, reading_of, IsReversible}
use Rattle.cam6_block.proofs.RuleTables.{same_reading}
use Rattle.cam6_block.proofs.Undoing.{only_one}
use Rattle.cam6_cache.specs.Keys.{TableKey, IsTrueBy}
use Rattle.cam6_cache.specs.Laws.{IsTheOnlyTable, TableMakesReversible}

-- what its straight table makes of blocks says whether a key can be undone
pub makes_reversible : TableMakesReversible
makes_reversible key entries is =
    subst (λ (read : Reading). IsReversible read key.wiring.hood key.wiring.minor)
    (same_reading key.wiring key.text entries is)

only_by : (inverted : Bool) (key : TableKey) (first second : List ℕ) →
    IsTrueBy inverted key first → IsTrueBy inverted key second → first ≡ second
only_by false key first second is it =
    ext_get_or 0 first second (is.whole ∙ sym it.whole) (λ address h.
    let within : address < addresses = omega (arith, is.whole) in
    let same : Ok (get_or first address 0) ≡ Ok (get_or second address 0) =
    sym (is.holds address within) ∙ it.holds address within in
    cc)
only_by true key first second is it =
    only_one (reading_of key.wiring key.text) key.wiring.hood key.wiring.minor first second is.1 it.1

pub only_table : IsTheOnlyTable
only_table key = only_by key.inverted key
