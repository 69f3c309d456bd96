-- Where clap takes the words of a command, each of its options has a value that passes: one of the
-- words, or its default.
use Rattle.std.proofs.Common.{◌≡◌, ◌||◌, Bool, true, false, cond, List, [], ◌∷◌, ◌++◌, length}
use Rattle.std.proofs.Common.{Some, codes, refl, sym, subst, ap, ◌∙◌}
use Rattle.std.specs.Prelude.{fold, slice_get}
use Rattle.std.specs.List.{AllByRecursion, list_any}
use Rattle.std.specs.Str.{bytes_eq}
use Rattle.std.proofs.lemmas.Slice.Eq.{bytes_eq-Decides}
use Rattle.clap.specs.Walk.{Row, Rule, Text, default_rows, first_of, has_row, more_values}
use Rattle.clap.specs.Walk.{nothing_held, reading_by, rows_after, settled, walk, with_default}
use Rattle.clap.specs.Walk.{with_values, without}
use Rattle.clap.specs.ValueTests.{accepts}
use Rattle.clap.specs.Kinds.{range_kinds}
use Rattle.clap.specs.Faults.{level_fault, repeat_fault}
use Rattle.clap.specs.Simple.{Shape, filled, help_rule, new_rule, with_index}
use Rattle.clap.specs.declared.parser.matches.ValueSource.{ValueSource}
use Rattle.clap.specs.declared.parser.matches.ValueSource.TheVariants.{DefaultValue}
use Rattle.clap.specs.declared.builder.value_parser.Reading.{Reading}
use Rattle.clap.specs.declared.builder.value_parser.ValueParser.{ValueParser}
use Rattle.clap.specs.declared.error.kind.ErrorKind.{ErrorKind}
use Rattle.cam6_cli.proofs.Kept.{Keeps, first_none, level_fits, second_none}

-- an option by its name, with the values that it takes, and the one that it has by default
pub record Setting : Type 0 where
  pub name : Text
  pub parser : ValueParser
  pub default : Text

-- its argument, and that as it is built
abbrev pub rule_of : Setting → Rule
rule_of x = record (new_rule x.name) {
  long = Some x.name;
  parser = Some x.parser;
  defaults = x.default ∷ [];
}

abbrev rule_built : Setting → Rule
rule_built x = with_index 1 (filled (rule_of x))

abbrev help_built : Rule
help_built = with_index 1 (filled help_rule)

-- the arguments of a command that has these options, as they are built
abbrev pub arguments : List Setting → List Rule
arguments [] = help_built ∷ []
arguments (x ∷ rest) = rule_built x ∷ arguments rest

-- an option of this name is among them
abbrev pub has_name : Text → List Setting → Bool
has_name name = list_any (λ x. bytes_eq x.name name)

-- the option takes the value
abbrev pub Passes : Setting → Text → Type 0
Passes x value = accepts false x.parser value ≡ true

-- it takes the first
abbrev StartsWell : Setting → List Text → Type 0
StartsWell x [] = ⊥
StartsWell x (value ∷ more) = Passes x value

-- each row of its name starts with a value that it takes
abbrev AreGood : Setting → List Row → Type 0
AreGood x = AllByRecursion (λ row. bytes_eq row.id x.name ≡ true → StartsWell x row.values)

-- its value in the rows is one that it takes
abbrev pub HasValue : Setting → List Row → Type 0
HasValue x rows = (value : Text) × (first_of x.name rows ≡ Some value) × Passes x value

-- if the other has its name, it is that option
abbrev IsOnlyOne : Setting → Setting → Type 0
IsOnlyOne x other = bytes_eq other.name x.name ≡ true → other ≡ x

-- the rows of one name after values of another
module _ (name other : Text) (how : Reading) (source : ValueSource) (values : List Text) where
  still_has : (rows : List Row) → has_row name rows ≡ true
      → has_row name (with_values other how source values rows) ≡ true
  still_has [] has = let never : ⊥ = cc in absurd never
  still_has (row ∷ rows) has = by_other (bytes_eq row.id other) (still_has rows)
    where
      by_name : (b : Bool) → (has_row name rows ≡ true
          → has_row name (with_values other how source values rows) ≡ true)
          → b || has_row name rows ≡ true
          → b || has_row name (with_values other how source values rows) ≡ true
      by_name true later has = refl
      by_name false later has = later has

      by_other : (b : Bool) → (has_row name rows ≡ true
          → has_row name (with_values other how source values rows) ≡ true)
          → has_row name (cond b (more_values source values row ++ rows)
          (row ∷ with_values other how source values rows)) ≡ true
      by_other true later = has
      by_other false later = by_name (bytes_eq row.id name) later has

has_its_own : (name : Text) (how : Reading) (source : ValueSource) (values : List Text)
    (rows : List Row) → has_row name (with_values name how source values rows) ≡ true
has_its_own name how source values [] = rw ((bytes_eq-Decides name name).1 refl) refl
has_its_own name how source values (row ∷ rows) =
    by_test (bytes_eq row.id name) refl (has_its_own name how source values rows)
  where
    by_test : (b : Bool) → bytes_eq row.id name ≡ b
        → has_row name (with_values name how source values rows) ≡ true → has_row name
        (cond b (more_values source values row ++ rows)
        (row ∷ with_values name how source values rows)) ≡ true
    by_test true is later = rw is refl
    by_test false is later = rw is later

module _ (x : Setting) where
  starts_still : (values more : List Text) → StartsWell x values → StartsWell x (values ++ more)
  starts_still [] more starts = absurd starts
  starts_still (value ∷ values) more starts = starts

  still_good : (id : Text) (rows : List Row) → AreGood x rows → AreGood x (without id rows)
  still_good id [] good = tt
  still_good id (row ∷ rows) good = by_test (bytes_eq row.id id) (still_good id rows good.1)
    where
      by_test : (b : Bool) → AreGood x (without id rows)
          → AreGood x (cond b rows (row ∷ without id rows))
      by_test true later = good.1
      by_test false later = (good.0, later)

  good_with : (id : Text) (how : Reading) (source : ValueSource) (values : List Text)
      (rows : List Row) → (bytes_eq id x.name ≡ true → StartsWell x values) → AreGood x rows
      → AreGood x (with_values id how source values rows)
  good_with id how source values [] starts good = (starts, tt)
  good_with id how source values (row ∷ rows) starts good =
      by_test (bytes_eq row.id id) (good_with id how source values rows starts good.1)
    where
      by_test : (b : Bool) → AreGood x (with_values id how source values rows)
          → AreGood x (cond b (more_values source values row ++ rows)
          (row ∷ with_values id how source values rows))
      by_test true later = (λ named. starts_still row.values values (good.0 named), good.1)
      by_test false later = (good.0, later)

  taken_passes : (value : Text) (b : Bool) (kind : ErrorKind)
      → accepts false x.parser value ≡ b → cond b [] (kind ∷ []) ≡ [] → Passes x value
  taken_passes value true kind is passes = is
  taken_passes value false kind is passes = let never : ⊥ = cc in absurd never

  first_value : (values : List Text) → StartsWell x values
      → (value : Text) × (slice_get values 0 ≡ Some value) × Passes x value
  first_value [] starts = absurd starts
  first_value (value ∷ values) starts = (value, refl, starts)

  has_value : (rows : List Row) → has_row x.name rows ≡ true → AreGood x rows → HasValue x rows
  has_value [] has good = let never : ⊥ = cc in absurd never
  has_value (row ∷ rows) has good =
      by_test (bytes_eq row.id x.name) refl good.0
      (λ other. has_value rows (subst (λ b. b || has_row x.name rows ≡ true) other has) good.1)
    where
      by_test : (b : Bool) → bytes_eq row.id x.name ≡ b → (b ≡ true → StartsWell x row.values)
          → (b ≡ false → HasValue x rows) → HasValue x (row ∷ rows)
      by_test true is here later =
          let first = first_value row.values (here refl) in
          (first.0, rw is first.1, first.2)
      by_test false is here later =
          let value = later refl in
          (value.0, rw is value.1, value.2)

-- what a use of an option that passes keeps for the option of a name
setting_keeps : (x other : Setting) → IsOnlyOne x other → (again : Bool)
    → Keeps (AreGood x) again (rule_built other)
setting_keeps x other only again [] rows passes good = let never : ⊥ = cc in absurd never
setting_keeps x other only again (value ∷ values) rows passes good =
    let acts = second_none (range_kinds 1 1 (length (value ∷ values))) _ passes in
    let taken : Passes other value = taken_passes other value (accepts false other.parser value) _
    refl (first_none _ _ (second_none (repeat_fault again other.name rows) _ acts)) in
    good_with x other.name _ _ (value ∷ values) (without other.name rows)
    (λ named. subst (λ y. Passes y value) (only named) taken)
    (still_good x other.name rows good)

all_keep : (x : Setting) (again : Bool) (settings : List Setting)
    → AllByRecursion (IsOnlyOne x) settings
    → AllByRecursion (Keeps (AreGood x) again) (arguments settings)
all_keep x again [] only = (λ values rows passes good. good, tt)
all_keep x again (other ∷ rest) only =
    (setting_keeps x other only.0 again, all_keep x again rest only.1)

-- the rows with an option's default
abbrev with_its_default : Setting → List Row → List Row
with_its_default x rows =
    default_rows x.name (reading_by (rule_built x)) (x.default ∷ []) rows

-- the default of an option keeps as much
default_keeps : (x other : Setting) → IsOnlyOne x other → Passes x x.default → (rows : List Row)
    → AreGood x rows → AreGood x (with_default rows (rule_built other))
default_keeps x other only default rows good = by_test (has_row other.name rows)
  where
    by_test : (b : Bool) → AreGood x (cond b rows (with_its_default other rows))
    by_test true = good
    by_test false = good_with x other.name _ DefaultValue (other.default ∷ []) rows
        (λ named. subst (λ y. Passes x y.default) (sym (only named)) default) good

help_default : (b : Bool) (rows : List Row) → cond b rows rows ≡ rows
help_default true rows = refl
help_default false rows = refl

defaults_keep : (x : Setting) → Passes x x.default → (settings : List Setting) (rows : List Row)
    → AllByRecursion (IsOnlyOne x) settings → AreGood x rows
    → AreGood x (fold with_default rows (arguments settings))
defaults_keep x default [] rows only good =
    subst (AreGood x) (sym (help_default (has_row (codes "help") rows) rows)) good
defaults_keep x default (other ∷ rest) rows only good =
    defaults_keep x default rest (with_default rows (rule_built other)) only.1
    (default_keeps x other only.0 default rows good)

-- after the defaults there is a row of each option's name
still_has_by_default : (name : Text) (other : Setting) (rows : List Row) → has_row name rows ≡ true
    → has_row name (with_default rows (rule_built other)) ≡ true
still_has_by_default name other rows has = by_test (has_row other.name rows)
  where
    by_test : (b : Bool) → has_row name (cond b rows (with_its_default other rows)) ≡ true
    by_test true = has
    by_test false = still_has name other.name _ DefaultValue (other.default ∷ []) rows has

has_by_default : (x : Setting) (rows : List Row)
    → has_row x.name (with_default rows (rule_built x)) ≡ true
has_by_default x rows = by_test (has_row x.name rows) refl
  where
    by_test : (b : Bool) → has_row x.name rows ≡ b
        → has_row x.name (cond b rows (with_its_default x rows)) ≡ true
    by_test true is = is
    by_test false is = has_its_own x.name _ DefaultValue (x.default ∷ []) rows

still_has_after : (name : Text) (settings : List Setting) (rows : List Row)
    → has_row name rows ≡ true → has_row name (fold with_default rows (arguments settings)) ≡ true
still_has_after name [] rows has =
    ap (has_row name) (help_default (has_row (codes "help") rows) rows) ∙ has
still_has_after name (other ∷ rest) rows has =
    still_has_after name rest (with_default rows (rule_built other))
    (still_has_by_default name other rows has)

has_after : (x : Setting) (before after : List Setting) (rows : List Row)
    → has_row x.name (fold with_default rows (arguments (before ++ x ∷ after))) ≡ true
has_after x [] after rows =
    still_has_after x.name after (with_default rows (rule_built x)) (has_by_default x rows)
has_after x (other ∷ before) after rows =
    has_after x before after (with_default rows (rule_built other))

either_false : (a b : Bool) → a || b ≡ false → (a ≡ false) × (b ≡ false)
either_false true b none = let never : ⊥ = cc in absurd never
either_false false b none = (refl, none)

not_named : (x other : Setting) → bytes_eq other.name x.name ≡ false → IsOnlyOne x other
not_named x other differs same = let never : ⊥ = cc in absurd never

-- of options that have another name, and of one that has it, each that has the name is that option
none_named : (x : Setting) (settings : List Setting) → has_name x.name settings ≡ false
    → AllByRecursion (IsOnlyOne x) settings
none_named x [] none = tt
none_named x (other ∷ rest) none =
    let here = either_false (bytes_eq other.name x.name) (has_name x.name rest) none in
    (not_named x other here.0, none_named x rest here.1)

one_named : (x : Setting) (before after : List Setting) → has_name x.name before ≡ false
    → has_name x.name after ≡ false → AllByRecursion (IsOnlyOne x) (before ++ x ∷ after)
one_named x [] after none_before none_after = (λ named. refl, none_named x after none_after)
one_named x (other ∷ before) after none_before none_after =
    let here = either_false (bytes_eq other.name x.name) (has_name x.name before) none_before in
    (not_named x other here.0, one_named x before after here.1 none_after)

-- where clap takes the words of a command, each option of a name of its own has a value that passes
pub value_given : (x : Setting) (before after : List Setting) (s : Shape) (words : List Text)
    → has_name x.name before ≡ false → has_name x.name after ≡ false → Passes x x.default
    → s.rules ≡ arguments (before ++ x ∷ after) → level_fault s [] nothing_held words false [] ≡ []
    → HasValue x (rows_after s.rules [] words)
value_given x before after s words none_before none_after default is passes =
    let settings = before ++ x ∷ after in
    let only = one_named x before after none_before none_after in
    let end = settled s.rules (walk s.rules [] nothing_held words).held in
    let kept : AreGood x end.rows = level_fits (AreGood x) s []
    (subst (λ rules. AllByRecursion (Keeps (AreGood x) s.args_override_self) rules) (sym is)
    (all_keep x s.args_override_self settings only)) words false [] passes tt in
    subst (λ rules. HasValue x (fold with_default end.rows rules)) (sym is)
    (has_value x (fold with_default end.rows (arguments settings))
    (has_after x before after end.rows)
    (defaults_keep x default settings end.rows only kept))
