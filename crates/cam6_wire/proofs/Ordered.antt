-- Of what is read, each object has its keys in byte order, each once.
use Rattle.std.proofs.Common.{◌≡◌, ℕ, List, Bool, Option, Some, None, option_map, option_and_then}
use Rattle.std.proofs.Common.{cond, true, false, Ordering, Less, Equal, Greater, refl, ap, ◌∙◌}
use Rattle.std.specs.Prelude.{⊤}
use Rattle.std.specs.Option.{IfSome}
use Rattle.std.specs.Str.{is_utf8}
use Rattle.std.specs.Ordering.{nat_cmp, match_ordering, ordering_reverse}
use Rattle.std.specs.Cmp.{IsTotalOrder}
use Rattle.std.specs.Cmp.Lexicographic.{slice_cmp}
use Rattle.std.proofs.lemmas.Cmp.{nat_list_cmp_total}
use Rattle.json.specs.Json as json
use Rattle.json.specs.Lex.{tokens}
use Rattle.serde_json.specs.Data.{Num, Data, null, boolean, number, string, array, object, put}
use Rattle.serde_json.specs.Data.{Items, no_items, item, Members, no_members, member}
use Rattle.serde_json.specs.Find.{get_member}
use Rattle.serde_json.specs.Read.{number_of, of_json, of_items, of_members, max_depth, read}
use Rattle.cam6_wire.specs.Commands.{value_of}
use Rattle.cam6_wire.proofs.Steps.{of_map, of_step}

-- a key that stands before all keys of some members
abbrev pub IsBefore : List ℕ → Members → Type 0
IsBefore key no_members = ⊤
IsBefore key (member other d held) =
    (slice_cmp nat_cmp key other ≡ Less) × IsBefore key held

-- keys in order, each once
abbrev pub InOrder : Members → Type 0
InOrder no_members = ⊤
InOrder (member key d held) = IsBefore key held × InOrder held

-- the same of all objects in a value
abbrev mutual
  pub IsOrdered : Data → Type 0
  IsOrdered null = ⊤
  IsOrdered (boolean b) = ⊤
  IsOrdered (number n) = ⊤
  IsOrdered (string s) = ⊤
  IsOrdered (array items) = AreOrdered items
  IsOrdered (object held) = InOrder held × HaveOrder held

  pub AreOrdered : Items → Type 0
  AreOrdered no_items = ⊤
  AreOrdered (item d items) = IsOrdered d × AreOrdered items

  pub HaveOrder : Members → Type 0
  HaveOrder no_members = ⊤
  HaveOrder (member key d held) = IsOrdered d × HaveOrder held

abbrev pub IsOrderedObject : Members → Type 0
IsOrderedObject held = InOrder held × HaveOrder held

pub before_later : (key other : List ℕ) (held : Members) →
    slice_cmp nat_cmp key other ≡ Less → IsBefore other held → IsBefore key held
before_later key other no_members less before = tt
before_later key other (member next d held) less before = (
  IsTotalOrder.trans nat_list_cmp_total key other next less before.0,
  before_later key other held less before.1,
)

-- the key that stands the other way round
pub turned : (key other : List ℕ) (o : Ordering) → slice_cmp nat_cmp key other ≡ o →
    slice_cmp nat_cmp other key ≡ ordering_reverse o
turned key other o e = IsTotalOrder.antisymm nat_list_cmp_total other key ∙ ap ordering_reverse e

before_put_by : (first key next : List ℕ) (d e : Data) (held : Members) (o : Ordering) →
    slice_cmp nat_cmp first key ≡ Less → slice_cmp nat_cmp first next ≡ Less →
    IsBefore first held → IsBefore first (put key d held) →
    IsBefore first
    (match_ordering o (member key d (member next e held)) (member next d held)
    (member next e (put key d held)))
before_put_by first key next d e held Less before also rest more = (before, (also, rest))
before_put_by first key next d e held Equal before also rest more = (also, rest)
before_put_by first key next d e held Greater before also rest more = (also, more)

before_put : (first key : List ℕ) (d : Data) (held : Members) →
    slice_cmp nat_cmp first key ≡ Less → IsBefore first held →
    IsBefore first (put key d held)
before_put first key d no_members before rest = (before, tt)
before_put first key d (member next e held) before rest =
    before_put_by first key next d e held (slice_cmp nat_cmp key next) before rest.0 rest.1
    (before_put first key d held before rest.1)

in_order_put_by : (key next : List ℕ) (d e : Data) (held : Members) (o : Ordering) →
    slice_cmp nat_cmp key next ≡ o → IsBefore next held → InOrder held →
    InOrder (put key d held) →
    InOrder
    (match_ordering o (member key d (member next e held)) (member next d held)
    (member next e (put key d held)))
in_order_put_by key next d e held Less is before rest more =
    ((is, before_later key next held is before), (before, rest))
in_order_put_by key next d e held Equal is before rest more = (before, rest)
in_order_put_by key next d e held Greater is before rest more =
    (before_put next key d held (turned key next Greater is) before, more)

in_order_put : (key : List ℕ) (d : Data) (held : Members) → InOrder held →
    InOrder (put key d held)
in_order_put key d no_members rest = (tt, tt)
in_order_put key d (member next e held) rest =
    in_order_put_by key next d e held (slice_cmp nat_cmp key next) refl rest.0 rest.1
    (in_order_put key d held rest.1)

have_order_put_by : (key next : List ℕ) (d e : Data) (held : Members) (o : Ordering) →
    IsOrdered d → IsOrdered e → HaveOrder held → HaveOrder (put key d held) →
    HaveOrder
    (match_ordering o (member key d (member next e held)) (member next d held)
    (member next e (put key d held)))
have_order_put_by key next d e held Less is also rest more = (is, (also, rest))
have_order_put_by key next d e held Equal is also rest more = (is, rest)
have_order_put_by key next d e held Greater is also rest more = (also, more)

have_order_put : (key : List ℕ) (d : Data) (held : Members) → IsOrdered d →
    HaveOrder held → HaveOrder (put key d held)
have_order_put key d no_members is rest = (is, tt)
have_order_put key d (member next e held) is rest =
    have_order_put_by key next d e held (slice_cmp nat_cmp key next) is rest.0 rest.1
    (have_order_put key d held is rest.1)

a_number : (o : Option Num) → IfSome (option_map number o) IsOrdered
a_number None = tt
a_number (Some n) = tt

mutual
  ordered_value : (j : json.Json) → IfSome (of_json j) IsOrdered
  ordered_value json.null = tt
  ordered_value (json.boolean b) = tt
  ordered_value (json.number s) = a_number (number_of s)
  ordered_value (json.string s) = tt
  ordered_value (json.array js) =
      of_map AreOrdered IsOrdered array (λ items are. are) (of_items js) (ordered_items js)
  ordered_value (json.object ms) =
      of_map IsOrderedObject IsOrdered object (λ held are. are) (of_members ms no_members)
      (ordered_members ms no_members (tt, tt))

  ordered_items : (js : json.Items) → IfSome (of_items js) AreOrdered
  ordered_items json.no_items = tt
  ordered_items (json.item j js) =
      of_step IsOrdered AreOrdered (λ d. option_map (item d) (of_items js))
      (λ d is. of_map AreOrdered AreOrdered (item d) (λ items are. (is, are)) (of_items js)
      (ordered_items js))
      (of_json j) (ordered_value j)

  ordered_members : (ms : json.Members) (found : Members) → IsOrderedObject found →
      IfSome (of_members ms found) IsOrderedObject
  ordered_members json.no_members found are = are
  ordered_members (json.member key j ms) found are =
      of_step IsOrdered IsOrderedObject (λ d. of_members ms (put key d found))
      (λ d is. ordered_members ms (put key d found)
      (in_order_put key d found are.0, have_order_put key d found is are.1))
      (of_json j) (ordered_value j)

ordered_read : (o : Option json.Json) → IfSome (option_and_then of_json o) IsOrdered
ordered_read None = tt
ordered_read (Some j) = ordered_value j

ordered_if : (b : Bool) (o : Option Data) → IfSome o IsOrdered → IfSome (cond b o None) IsOrdered
ordered_if true o is = is
ordered_if false o is = tt

-- what a line is read as
pub value_is_ordered : (line : List ℕ) → IfSome (value_of line) IsOrdered
value_is_ordered line =
    ordered_if (is_utf8 line) (read line)
    (ordered_read
    (option_and_then (λ p. json.if_last p.0 p.1) (json.value max_depth (tokens line))))

ordered_or : (o : Ordering) (x : Option Data) (e : Data) → IfSome x IsOrdered → IsOrdered e →
    IfSome (match_ordering o x (Some e) x) IsOrdered
ordered_or Less x e later here = later
ordered_or Equal x e later here = here
ordered_or Greater x e later here = later

ordered_at : (key : List ℕ) (held : Members) → HaveOrder held →
    IfSome (get_member key held) IsOrdered
ordered_at key no_members given = tt
ordered_at key (member next e held) given =
    ordered_or (slice_cmp nat_cmp key next) (get_member key held) e (ordered_at key held given.1)
    given.0

and_is : (o : Option Data) → IfSome o IsOrdered → IfSome o (λ d. (o ≡ Some d) × IsOrdered d)
and_is None given = tt
and_is (Some d) given = (refl, given)

-- what stands at a key of an ordered object
pub ordered_found : (key : List ℕ) (held : Members) → HaveOrder held →
    IfSome (get_member key held) (λ d. (get_member key held ≡ Some d) × IsOrdered d)
ordered_found key held given = and_is (get_member key held) (ordered_at key held given)
