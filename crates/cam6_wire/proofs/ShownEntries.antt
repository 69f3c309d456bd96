-- A list that is read as a cycle's entries shows them.
use Rattle.std.proofs.Common.{◌≡◌, ℕ, List, ◌∷◌, codes, Option, Some, IfSome, refl}
use Rattle.std.proofs.lemmas.Option.{IfSome_then}
use Rattle.serde_json.specs.Data.{Data, null, boolean, number, string, array, object}
use Rattle.serde_json.specs.Data.{Items, no_items, item, Members, no_members, member}
use Rattle.serde_json.specs.Find.{get, get_member, as_array}
use Rattle.cam6_wiring.specs.declared.blocks.Grid.{Grid}
use Rattle.cam6_commands.specs.declared.commands.NamedEntry.{NamedEntry}
use Rattle.cam6_wire.specs.Fields.{count, number_at, text_at, ◌>>=◌}
use Rattle.cam6_wire.specs.Numbers.{natural}
use Rattle.cam6_wiring.specs.Texts.{grid_text, grid_named}
use Rattle.cam6_wire.specs.Entries.{rule_name_in, entry_fields, entry_in, entries_in, entries_at}
use Rattle.cam6_wire.specs.Shown.{ShowsEntry, ShowsEntries}
use Rattle.cam6_wire.proofs.Steps.{of_step, of_four}
use Rattle.cam6_wire.proofs.Ordered.{IsOrdered, AreOrdered, HaveOrder, ordered_found}
use Rattle.cam6_wire.proofs.Exactly.{these}
use Rattle.cam6_wire.proofs.Found.{number_found, text_found, grid_found, of_object}

abbrev pub made_entry : List ℕ → List ℕ → Grid → ℕ → NamedEntry
made_entry a b grid phase =
    record { a = rule_name_in a; b = rule_name_in b; grid = grid; phase = phase }

entry_held : (held : Members) → count held ≡ 4 → IsOrdered (object held) →
    IfSome (entry_fields (object held)) (ShowsEntry (object held))
entry_held held same given =
    of_four (λ a. get (codes "a") (object held) ≡ Some (string a))
    (λ b. get (codes "b") (object held) ≡ Some (string b))
    (λ grid. get (codes "grid") (object held) ≡ Some (string (grid_text grid)))
    (λ phase. get (codes "phase") (object held) ≡ Some (natural phase))
    (ShowsEntry (object held)) made_entry
    (λ a b grid phase at_a at_b at_grid at_phase. (
      a,
      b,
      refl,
      refl,
      these
          (member (codes "a") (string a)
          (member (codes "b") (string b)
          (member (codes "grid") (string (grid_text grid))
          (member (codes "phase") (natural phase) no_members))))
          held
          ((refl, (refl, (refl, tt))), ((refl, (refl, tt)), ((refl, tt), (tt, tt))))
          same given (at_a, (at_b, (at_grid, (at_phase, tt)))),
    ))
    (text_at (codes "a") (object held)) (text_at (codes "b") (object held))
    (text_at (codes "grid") (object held) >>= grid_named) (number_at (codes "phase") (object held))
    (text_found (codes "a") (object held)) (text_found (codes "b") (object held))
    (grid_found (codes "grid") (object held)) (number_found (codes "phase") (object held))

entry_shown : (d : Data) → IsOrdered d → IfSome (entry_in d) (ShowsEntry d)
unfolding entry_in
entry_shown d given = of_object 4 entry_fields IsOrdered ShowsEntry entry_held d given

entries_shown : (items : Items) → AreOrdered items →
    IfSome (entries_in items) (ShowsEntries items)
entries_shown no_items given = tt
entries_shown (item d items) given =
    of_step (ShowsEntry d) (ShowsEntries (item d items))
    (λ entry. entries_in items >>= λ entries. Some (entry ∷ entries))
    (λ entry shows.
    of_step (ShowsEntries items) (ShowsEntries (item d items)) (λ entries. Some (entry ∷ entries))
    (λ entries show. (shows, show)) (entries_in items) (entries_shown items given.1))
    (entry_in d) (entry_shown d given.0)

abbrev pub HasEntries : Data → List NamedEntry → Type 0
HasEntries d entries =
    (items : Items) × ShowsEntries items entries ×
    (get (codes "entries") d ≡ Some (array items))

entries_held : (found : Option Data) (d : Data) → (found ≡ Some d) × IsOrdered d →
    IfSome (as_array d >>= λ items. entries_in items)
    (λ entries. (items : Items) × ShowsEntries items entries × (found ≡ Some (array items)))
entries_held found null given = tt
entries_held found (boolean b) given = tt
entries_held found (number n) given = tt
entries_held found (string s) given = tt
entries_held found (object held) given = tt
entries_held found (array items) given =
    IfSome_then (entries_in items) (entries_shown items given.1)
    (λ entries show. (items, show, given.0))

pub entries_found : (held : Members) → HaveOrder held →
    IfSome (entries_at (codes "entries") (object held)) (HasEntries (object held))
entries_found held given =
    of_step (λ d. (get_member (codes "entries") held ≡ Some d) × IsOrdered d)
    (HasEntries (object held)) (λ d. as_array d >>= λ items. entries_in items)
    (λ d given. entries_held (get_member (codes "entries") held) d given)
    (get_member (codes "entries") held) (ordered_found (codes "entries") held given)
