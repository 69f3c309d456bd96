use Rattle.std.proofs.Common.{◌≡◌, ◌∙◌, ◌<◌, ◌∷◌, [], ℕ, List, length, Option, None, Some, is_some, true, false, sym, refl, arith}
use Rattle.std.specs.Option.{option_map_or}
use Rattle.serde_json.specs.View.{view}
use Rattle.serde_json.specs.declared.value.Value.{Value}
use Rattle.cam6_commands.specs.declared.commands.NamedEntry.{NamedEntry}
use Rattle.cam6_wire.specs.Fields.{◌>>=◌}
use Rattle.cam6_wire.specs.Commands.{are_some}
use Rattle.serde_json.specs.View.{items_view}
use Rattle.cam6_wire.specs.Entries.{entry_in, entries_in}
use Rattle.cam6_wire.proofs.Growing.{one_more_read, none_read}
use Rattle.cam6_wire.proofs.entries.entries_in.Goals as goal

pub loop-value-preserved : goal.loop-value-preserved
loop-value-preserved c =
    let now = c.loop-value in
    one_more_read entry_in entries_in (λ d ds. refl) c.args.values.now now.value-index
    c.value-item.result now.entries.items c.push.new.self.items c.in-Some.entry c.loop-value-test.true
    c.value-item.is (sym c.entry_in.ensures ∙ c.in-Some.is)
    (rw (← c.in_ok-copied.ensures) c.in_ok-push.ensures.items)
    (entries_in (items_view c.args.values.now)) now.invariant

pub unreachable-requires : goal.unreachable-requires
unreachable-requires c =
    let now = c.loop-value in
    let none : None ≡ entries_in (items_view c.args.values.now) =
    none_read entry_in entries_in (λ d ds. refl) c.args.values.now now.value-index
    c.value-item.result now.entries.items c.loop-value-test.true c.value-item.is
    (sym c.entry_in.ensures ∙ c.in_default.is) (entries_in (items_view c.args.values.now))
    now.invariant in
    let all = rw (← none) at c.are_entries.ensures in
    grind (arith, all)

-- where there are values, and each is an entry, there are entries
has_some : (values : List Value) (i : ℕ) → i < length values →
    is_some (entries_in (items_view values)) ≡ true →
    option_map_or are_some (entries_in (items_view values)) false ≡ false → ⊥
has_some [] i within all none = omega (arith, within)
has_some (value ∷ values) i within all none =
    of_steps (entry_in (view value)) (entries_in (items_view values)) all none
  where
    of_steps : (o : Option NamedEntry) (p : Option (List NamedEntry)) →
        is_some (o >>= λ e. p >>= λ es. Some (e ∷ es)) ≡ true →
        option_map_or are_some (o >>= λ e. p >>= λ es. Some (e ∷ es)) false ≡ false → ⊥
    of_steps None p all none = cc
    of_steps (Some e) None all none = cc
    of_steps (Some e) (Some es) all none = cc

pub returns-in_err-copied-clause-memory : goal.returns-in_err-copied-clause-memory
returns-in_err-copied-clause-memory c = λ none.
    absurd (has_some c.args.values.now c.loop-value.value-index c.loop-value-test.true
    (sym c.are_entries.ensures ∙ grind arith) none)

pub returns-in_err-push-clause-memory : goal.returns-in_err-push-clause-memory
returns-in_err-push-clause-memory c = λ none.
    absurd (has_some c.args.values.now c.loop-value.value-index c.loop-value-test.true
    (sym c.are_entries.ensures ∙ grind arith) none)
