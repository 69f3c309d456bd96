-- What each use of an argument that passes keeps of the rows, a walk over words that passes keeps.
use Rattle.std.proofs.Common.{◌≡◌, ◌&&◌, ℕ, zero, suc, Bool, true, false, cond, List, [], ◌∷◌}
use Rattle.std.proofs.Common.{Option, Some, None, IfSome, is_some, length, drop, refl}
use Rattle.std.specs.Prelude.{encode_utf8, find, fold, slice_get}
use Rattle.std.specs.List.{AllByRecursion}
use Rattle.std.specs.Option.{option_map_or}
use Rattle.std.specs.Str.{bytes_eq, chars}
use Rattle.clap.specs.Lexer.{long_of, short_of}
use Rattle.clap.specs.Walk.{Held, Names, Outcome, Row, Rule, Step, Text, Waiting, Walk, idle}
use Rattle.clap.specs.Walk.{option, positional, next, trailing, subcommand, value, done, waits}
use Rattle.clap.specs.Walk.{plain}
use Rattle.clap.specs.Walk.{refused, after_flag, after_step, arg_by_id, arg_by_index, arg_by_long}
use Rattle.clap.specs.Walk.{arg_by_short, attached_value, bundle_met, bundle_step, flag_met}
use Rattle.clap.specs.Walk.{is_pending, long_met, long_or_other, nothing_held, option_met}
use Rattle.clap.specs.Walk.{option_word, plain_word, reacted, settled, settled_rows, short_met}
use Rattle.clap.specs.Walk.{short_or_plain, subcommand_met, subcommand_or_other, takes_several}
use Rattle.clap.specs.Walk.{takes_values, to_positional, used, used_by_id, walk, walk_from, walked}
use Rattle.clap.specs.Walk.{walked_from, word_met}
use Rattle.clap.specs.Kinds.{Kinds, or_else}
use Rattle.clap.specs.Faults.{bundle_fault, bundle_step_fault, flag_word_fault, flags_fault}
use Rattle.clap.specs.Faults.{level_fault, long_fault, option_fault, other_fault}
use Rattle.clap.specs.Faults.{positional_fault, react_fault, settle_fault, short_fault, step_fault}
use Rattle.clap.specs.Faults.{stray_fault, turn_fault, use_fault, walk_fault, word_fault}
use Rattle.clap.specs.Simple.{Shape}
use Rattle.clap.specs.declared.error.kind.ErrorKind.TheVariants.{TooManyValues}

pub first_none : (a b : Kinds) → or_else a b ≡ [] → a ≡ []
first_none [] b e = refl
first_none (kind ∷ kinds) b e = e

pub second_none : (a b : Kinds) → or_else a b ≡ [] → b ≡ []
second_none [] b e = e
second_none (kind ∷ kinds) b e = let never : ⊥ = cc in absurd never

found_in : (P : Rule → Type 0) (p : Rule → Bool) (rules : List Rule) → AllByRecursion P rules
    → IfSome (find p rules) P
found_in P p [] all = tt
found_in P p (a ∷ rest) all = by_test (p a) (found_in P p rest all.1)
  where
    by_test : (b : Bool) → IfSome (find p rest) P → IfSome (cond b (Some a) (find p rest)) P
    by_test true more = all.0
    by_test false more = more

-- a use of the argument that passes keeps it
abbrev pub Keeps : (List Row → Type 0) → Bool → Rule → Type 0
Keeps Fit again a = (values : List Text) (rows : List Row) → use_fault again a values rows ≡ []
    → Fit rows → Fit (used a values rows)

module _ (Fit : List Row → Type 0) (s : Shape) (names : Names)
    (all : AllByRecursion (Keeps Fit s.args_override_self) s.rules) where
  found : (p : Rule → Bool) → IfSome (find p s.rules) (Keeps Fit s.args_override_self)
  found p = found_in (Keeps Fit s.args_override_self) p s.rules all

  use_fits : (a : Option Rule) → IfSome a (Keeps Fit s.args_override_self) → (values : List Text)
      (rows : List Row)
      → option_map_or (λ a. use_fault s.args_override_self a values rows) a [] ≡ []
      → Fit rows → Fit (used_by_id a values rows)
  use_fits None keeps values rows passes fits = fits
  use_fits (Some a) keeps values rows passes fits = keeps values rows passes fits

  pending_fits : (pending : Option (Text × List Text)) (rows : List Row)
      → option_map_or (λ p. option_map_or (λ a. use_fault s.args_override_self a p.1 rows)
      (arg_by_id s.rules p.0) []) pending [] ≡ [] → Fit rows
      → Fit (settled_rows s.rules pending rows)
  pending_fits None rows passes fits = fits
  pending_fits (Some p) rows passes fits =
      use_fits (arg_by_id s.rules p.0) (found _) p.1 rows passes fits

  settled_fits : (h : Held) → settle_fault s.rules s.args_override_self h ≡ [] → Fit h.rows
      → Fit (settled s.rules h).rows
  settled_fits h passes fits = pending_fits h.pending h.rows passes fits

  reacted_fits : (a : Rule) → Keeps Fit s.args_override_self a → (values : List Text) (h : Held)
      → react_fault s.rules s.args_override_self a values h ≡ [] → Fit h.rows
      → Fit (reacted s.rules a values h).rows
  reacted_fits a keeps values h passes fits =
      keeps values _ (second_none (settle_fault s.rules s.args_override_self h) _ passes)
      (settled_fits h (first_none _ _ passes) fits)

  option_fits : (a : Rule) → Keeps Fit s.args_override_self a → (v : Option Text) (h : Held)
      → option_fault s.rules s.args_override_self a v h ≡ [] → Fit h.rows
      → Fit (option_met s.rules a v h).0.rows
  option_fits a keeps (Some v) h passes fits = reacted_fits a keeps (v ∷ []) h passes fits
  option_fits a keeps None h passes fits = settled_fits h passes fits

  flag_fits : (a : Rule) → Keeps Fit s.args_override_self a → (v : Option Text) (h : Held)
      → cond (is_some v) (TooManyValues ∷ []) (react_fault s.rules s.args_override_self a [] h) ≡ []
      → Fit h.rows → Fit (flag_met s.rules a v h).0.rows
  flag_fits a keeps (Some v) h passes fits = fits
  flag_fits a keeps None h passes fits = reacted_fits a keeps [] h passes fits

  long_fits : (a : Option Rule) → IfSome a (Keeps Fit s.args_override_self) → (v : Option Text)
      (h : Held) → long_fault s.rules s.args_override_self a v h ≡ [] → Fit h.rows
      → Fit (long_met s.rules a v h).0.rows
  long_fits None keeps v h passes fits = fits
  long_fits (Some a) keeps v h passes fits = by_test (takes_values a) passes
    where
      by_test : (b : Bool) → cond b (option_fault s.rules s.args_override_self a v h)
          (cond (is_some v) (TooManyValues ∷ []) (react_fault s.rules s.args_override_self a [] h))
          ≡ [] → Fit (cond b (option_met s.rules a v h) (flag_met s.rules a v h)).0.rows
      by_test true passes = option_fits a keeps v h passes fits
      by_test false passes = flag_fits a keeps v h passes fits

  short_fits : (a : Option Rule) → IfSome a (Keeps Fit s.args_override_self) → (rest : Text)
      (h : Held) (after : Held → Held × Outcome) (fault : Held → Kinds)
      → ((h : Held) → fault h ≡ [] → Fit h.rows → Fit (after h).0.rows)
      → short_fault s.rules s.args_override_self a rest h fault ≡ [] → Fit h.rows
      → Fit (short_met s.rules a rest h after).0.rows
  short_fits None keeps rest h after fault each passes fits = fits
  short_fits (Some a) keeps rest h after fault each passes fits = by_test (takes_values a) passes
    where
      by_test : (b : Bool)
          → cond b (option_fault s.rules s.args_override_self a (attached_value rest) h)
          (or_else (react_fault s.rules s.args_override_self a [] h)
          (fault (reacted s.rules a [] h))) ≡ []
          → Fit (cond b (option_met s.rules a (attached_value rest) h)
          (after (reacted s.rules a [] h))).0.rows
      by_test true passes = option_fits a keeps (attached_value rest) h passes fits
      by_test false passes =
          each _ (second_none (react_fault s.rules s.args_override_self a [] h) _ passes)
          (reacted_fits a keeps [] h (first_none _ _ passes) fits)

  bundle_step_fits : (x : Option ℕ) (flags : Text) (skip : ℕ) (so_far : Outcome) (h : Held)
      (after : Text → ℕ → Outcome → Held → Held × Outcome) (fault : Text → ℕ → Held → Kinds)
      → ((flags : Text) (skip : ℕ) (so_far : Outcome) (h : Held) → fault flags skip h ≡ []
      → Fit h.rows → Fit (after flags skip so_far h).0.rows)
      → bundle_step_fault s.rules s.args_override_self x flags skip h fault ≡ [] → Fit h.rows
      → Fit (bundle_step s.rules x flags skip so_far h after).0.rows
  bundle_step_fits None flags skip so_far h after fault each passes fits = fits
  bundle_step_fits (Some x) flags zero so_far h after fault each passes fits =
      let rest = drop (length (encode_utf8 x)) flags in
      short_fits (arg_by_short s.rules x) (found _) rest h (after rest 0 done) (fault rest 0)
      (each rest 0 done) passes fits
  bundle_step_fits (Some x) flags (suc skip) so_far h after fault each passes fits =
      each _ skip so_far h passes fits

  flags_fit : (k : ℕ) (flags : Text) (skip : ℕ) (so_far : Outcome) (h : Held)
      → flags_fault s.rules s.args_override_self k flags skip h ≡ [] → Fit h.rows
      → Fit (bundle_met s.rules k flags skip so_far h).0.rows
  unfolding flags_fault bundle_met
  flags_fit zero flags skip so_far h passes fits = fits
  flags_fit (suc k) flags skip so_far h passes fits =
      bundle_step_fits (slice_get (chars flags) 0) flags skip so_far h (bundle_met s.rules k)
      (flags_fault s.rules s.args_override_self k) (flags_fit k) passes fits

  pushed_fits : (a : Option Rule) (id word : Text) (h : Held) → Fit h.rows
      → Fit (option_word a id word h).0.rows
  pushed_fits None id word h fits = fits
  pushed_fits (Some a) id word h fits = fits

  plain_fits : (waiting : Waiting) (word : Text) (h : Held) → Fit h.rows
      → Fit (plain_word s.rules waiting word h).0.rows
  plain_fits (option id) word h fits = pushed_fits (arg_by_id s.rules id) id word h fits
  plain_fits idle word h fits = fits
  plain_fits positional word h fits = fits

  after_fits : (waiting : Waiting) (word : Text) (h : Held) (o : Outcome) → Fit h.rows
      → Fit (after_flag s.rules waiting word h o).0.rows
  after_fits waiting word h done fits = fits
  after_fits waiting word h (waits id) fits = fits
  after_fits waiting word h plain fits = plain_fits waiting word h fits
  after_fits waiting word h refused fits = plain_fits waiting word h fits

  short_or_plain_fits : (waiting : Waiting) (word : Text) (flags : Option Text) (h : Held)
      → option_map_or (λ flags. bundle_fault s.rules s.args_override_self flags h) flags [] ≡ []
      → Fit h.rows → Fit (short_or_plain s.rules waiting word flags h).0.rows
  short_or_plain_fits waiting word (Some flags) h passes fits =
      after_fits waiting word _ _
      (flags_fit (length flags) flags h.skip plain (record h { skip = 0 }) passes fits)
  short_or_plain_fits waiting word None h passes fits = plain_fits waiting word h fits

  long_or_other_fits : (waiting : Waiting) (word : Text) (long : Option (Text × Option Text))
      (h : Held) → flag_word_fault s.rules s.args_override_self long word h ≡ [] → Fit h.rows
      → Fit (long_or_other s.rules waiting word long h).0.rows
  long_or_other_fits waiting word (Some p) h passes fits =
      after_fits waiting word _ _ (long_fits (arg_by_long s.rules p.0) (found _) p.1 h passes fits)
  long_or_other_fits waiting word None h passes fits =
      short_or_plain_fits waiting word (short_of word) h passes fits

  other_fits : (name : Option Text) (waiting : Waiting) (position : ℕ) (word : Text) (h : Held)
      → other_fault s name word h ≡ [] → Fit h.rows
      → Fit (subcommand_or_other s.rules name waiting position word h).0.rows
  other_fits (Some name) waiting position word h passes fits = fits
  other_fits None waiting position word h passes fits =
      by_test (bytes_eq word (45 ∷ 45 ∷ [])) passes
    where
      by_test : (b : Bool) → cond b []
          (flag_word_fault s.rules s.args_override_self (long_of word) word h) ≡ []
          → Fit (cond b (h, trailing position)
          (long_or_other s.rules waiting word (long_of word) h)).0.rows
      by_test true passes = fits
      by_test false passes = long_or_other_fits waiting word (long_of word) h passes fits

  word_fits : (is_trailing : Bool) (waiting : Waiting) (position : ℕ) (word : Text) (h : Held)
      → word_fault s names is_trailing waiting word h ≡ [] → Fit h.rows
      → Fit (word_met s.rules names is_trailing waiting position word h).0.rows
  word_fits true waiting position word h passes fits = fits
  word_fits false waiting position word h passes fits =
      other_fits (subcommand_met names waiting word) waiting position word h passes fits

  to_fits : (a : Option Rule) (word : Text) (w : Walk) (h : Held)
      → option_map_or (λ a. positional_fault s.rules s.args_override_self a h) a (stray_fault s)
      ≡ [] → Fit h.rows → Fit (to_positional s.rules a word w h).held.rows
  to_fits None word w h passes fits = fits
  to_fits (Some a) word w h passes fits =
      by_test (is_pending a h.pending && takes_several a) passes
    where
      by_test : (b : Bool) → cond b [] (settle_fault s.rules s.args_override_self h) ≡ []
          → Fit (cond b h (settled s.rules h)).rows
      by_test true passes = fits
      by_test false passes = settled_fits h passes fits

  step_fits : (word : Text) (w : Walk) (h : Held) (step : Step)
      → step_fault s w.position h step ≡ [] → Fit h.rows
      → Fit (after_step s.rules word w h step).held.rows
  step_fits word w h (next waiting) passes fits = fits
  step_fits word w h (trailing position) passes fits = fits
  step_fits word w h (subcommand name) passes fits = fits
  step_fits word w h value passes fits =
      to_fits (arg_by_index s.rules w.position) word w h passes fits

  round_fits : (stopped : Option (Text × List Text)) (w : Walk) (word : Text)
      → let met = word_met s.rules names w.is_trailing w.waiting w.position word w.held in
      cond (is_some stopped) [] (or_else (word_fault s names w.is_trailing w.waiting word w.held)
      (step_fault s w.position met.0 met.1)) ≡ [] → Fit w.held.rows
      → Fit (walked_from s.rules names stopped w word).held.rows
  round_fits (Some p) w word passes fits = fits
  round_fits None w word passes fits =
      step_fits word w _ _
      (second_none (word_fault s names w.is_trailing w.waiting word w.held) _ passes)
      (word_fits w.is_trailing w.waiting w.position word w.held (first_none _ _ passes) fits)

  walk_fits : (words : List Text) (w : Walk) → walk_fault s names w words ≡ [] → Fit w.held.rows
      → Fit (fold (walked s.rules names) w words).held.rows
  unfolding walk_fault walked
  walk_fits [] w passes fits = fits
  walk_fits (word ∷ words) w passes fits =
      walk_fits words (walked s.rules names w word)
      (second_none (turn_fault s names w word) _ passes)
      (round_fits w.stopped w word (first_none _ _ passes) fits)

  pub level_fits : (words : List Text) (has_subcommand : Bool) (below : Kinds)
      → level_fault s names nothing_held words has_subcommand below ≡ [] → Fit []
      → Fit (settled s.rules (walk s.rules names nothing_held words).held).rows
  level_fits words has_subcommand below passes fits =
      let walks = walk_fault s names (walk_from nothing_held) words in
      let end = (walk s.rules names nothing_held words).held in
      settled_fits end
      (first_none _ _ (second_none below _ (second_none walks _ passes)))
      (walk_fits words (walk_from nothing_held) (first_none walks _ passes) fits)
