-- The subcommand that clap finds where it takes the words: never help, which it answers itself.
use Rattle.std.proofs.Common.{◌≡◌, ℕ, List, [], ◌∷◌, Bool, true, false, not, cond, Option, Some}
use Rattle.std.proofs.Common.{None, IfSome, ◌&&◌, ◌||◌, codes, refl, sym, ap, is_some}
use Rattle.std.specs.Prelude.{⊤, fold}
use Rattle.std.specs.Str.{bytes_eq}
use Rattle.clap.specs.Walk.{Held, Names, Outcome, Rule, Step, Text, Waiting, Walk, idle, option}
use Rattle.clap.specs.Walk.{positional, next, trailing, subcommand, value, done, waits, plain}
use Rattle.clap.specs.Walk.{refused, plain_word, after_flag, long_or_other, short_or_plain}
use Rattle.clap.specs.Walk.{subcommand_or_other, subcommand_met, word_met, arg_by_index}
use Rattle.clap.specs.Walk.{to_positional, after_step, walked_from, walked, walk_from, stop_after}
use Rattle.clap.specs.Walk.{nothing_held}
use Rattle.clap.specs.Kinds.{Kinds, or_else}
use Rattle.clap.specs.Faults.{built_fault, other_fault, turn_fault, walk_fault, word_fault}
use Rattle.clap.specs.Simple.{App, Shape, names_of}
use Rattle.cam6_cli.proofs.Kept.{first_none, second_none}

-- no subcommand was met, or one other than help
abbrev pub IsNotHelp : Option (Text × List Text) → Type 0
IsNotHelp stop = IfSome stop (λ p. bytes_eq p.0 (codes "help") ≡ false)

-- a word is no subcommand, or one other than help
abbrev MeetsNoHelp : Step → Type 0
MeetsNoHelp (subcommand name) = bytes_eq name (codes "help") ≡ false
MeetsNoHelp (next waiting) = ⊤
MeetsNoHelp (trailing position) = ⊤
MeetsNoHelp value = ⊤

-- a word that is no subcommand
module _ (rules : List Rule) (waiting : Waiting) (word : Text) where
  plain_is_none : (w : Waiting) (h : Held) → MeetsNoHelp (plain_word rules w word h).1
  plain_is_none (option id) h = tt
  plain_is_none idle h = tt
  plain_is_none positional h = tt

  flag_is_none : (h : Held) (o : Outcome) → MeetsNoHelp (after_flag rules waiting word h o).1
  flag_is_none h done = tt
  flag_is_none h (waits id) = tt
  flag_is_none h plain = plain_is_none waiting h
  flag_is_none h refused = plain_is_none waiting h

  short_is_none : (flags : Option Text) (h : Held) →
      MeetsNoHelp (short_or_plain rules waiting word flags h).1
  short_is_none (Some flags) h = flag_is_none _ _
  short_is_none None h = plain_is_none waiting h

  other_is_none : (long : Option (Text × Option Text)) (h : Held) →
      MeetsNoHelp (long_or_other rules waiting word long h).1
  other_is_none (Some p) h = flag_is_none _ _
  other_is_none None h = short_is_none _ h

  not_named : (b : Bool) (position : ℕ) (long : Option (Text × Option Text)) (h : Held) →
      MeetsNoHelp (cond b (h, trailing position) (long_or_other rules waiting word long h)).1
  not_named true position long h = tt
  not_named false position long h = other_is_none long h

no_help : (is_help off : Bool) (kinds : Kinds) → off ≡ false → (kinds ≡ [] → ⊥) →
    cond (is_help && not off) kinds [] ≡ [] → is_help ≡ false
no_help false off kinds on some e = refl
no_help true true kinds on some e = let never : ⊥ = cc in absurd never
no_help true false kinds on some e = absurd (some e)

-- over a command that has the subcommand help
module _ (s : Shape) (on : s.disable_help_subcommand ≡ false) (names : Names) where
  found_is_other : (found : Option Text) (waiting : Waiting) (position : ℕ) (word : Text)
      (h : Held) → other_fault s found word h ≡ [] →
      MeetsNoHelp (subcommand_or_other s.rules found waiting position word h).1
  found_is_other (Some name) waiting position word h passes =
      no_help (bytes_eq name (codes "help")) s.disable_help_subcommand _ on
      (λ e. let never : ⊥ = cc in absurd never) passes
  found_is_other None waiting position word h passes =
      not_named s.rules waiting word _ position _ h

  word_is_other : (is_trailing : Bool) (waiting : Waiting) (position : ℕ) (word : Text) (h : Held)
      → word_fault s names is_trailing waiting word h ≡ [] →
      MeetsNoHelp (word_met s.rules names is_trailing waiting position word h).1
  word_is_other true waiting position word h passes = tt
  word_is_other false waiting position word h passes =
      found_is_other (subcommand_met names waiting word) waiting position word h passes

  to_none : (found : Option Rule) (word : Text) (w : Walk) (h : Held) → IsNotHelp w.stopped →
      IsNotHelp (to_positional s.rules found word w h).stopped
  to_none None word w h so_far = so_far
  to_none (Some rule) word w h so_far = tt

  stops_elsewhere : (word : Text) (w : Walk) (h : Held) (step : Step) → IsNotHelp w.stopped →
      MeetsNoHelp step → IsNotHelp (after_step s.rules word w h step).stopped
  stops_elsewhere word w h (next waiting) so_far meets = so_far
  stops_elsewhere word w h (trailing position) so_far meets = so_far
  stops_elsewhere word w h (subcommand name) so_far meets = meets
  stops_elsewhere word w h value so_far meets =
      to_none (arg_by_index s.rules w.position) word w h so_far

  round_elsewhere : (stopped : Option (Text × List Text)) (w : Walk) (word : Text) (more : Kinds)
      → IsNotHelp w.stopped → IsNotHelp stopped →
      cond (is_some stopped) []
      (or_else (word_fault s names w.is_trailing w.waiting word w.held) more) ≡ [] →
      IsNotHelp (walked_from s.rules names stopped w word).stopped
  round_elsewhere (Some p) w word more so_far same passes = same
  round_elsewhere None w word more so_far same passes =
      stops_elsewhere word w _ _ so_far
      (word_is_other w.is_trailing w.waiting w.position word w.held (first_none _ more passes))

  walks_elsewhere : (words : List Text) (w : Walk) → IsNotHelp w.stopped →
      walk_fault s names w words ≡ [] → IsNotHelp (fold (walked s.rules names) w words).stopped
  unfolding walk_fault walked
  walks_elsewhere [] w so_far passes = so_far
  walks_elsewhere (word ∷ words) w so_far passes =
      walks_elsewhere words (walked s.rules names w word)
      (round_elsewhere w.stopped w word _ so_far so_far (first_none _ _ passes))
      (second_none (turn_fault s names w word) _ passes)

-- where clap takes the words, it stops at no help
pub not_at_help : (a : App) (words : List Text) → a.top.disable_help_subcommand ≡ false →
    built_fault a nothing_held words ≡ [] → IsNotHelp (stop_after a.top.rules (names_of a) words)
not_at_help a words on passes =
    walks_elsewhere a.top on (names_of a) words (walk_from nothing_held) tt
    (first_none _ _ passes)

pub not_help : (word : Text) (b : Bool) → (b ≡ true → codes "help" ≡ word) →
    bytes_eq word (codes "help") ≡ false → b || false ≡ false
not_help word false is other = refl
not_help word true is other =
    let same : bytes_eq word (codes "help") ≡ true =
    ap (λ w. bytes_eq w (codes "help")) (sym (is refl)) in
    let never : ⊥ = cc in
    absurd never
