-- A bridge goes on by a step, and ends.
use Rattle.std.proofs.Common.{◌≡◌, ◌<◌, ◌+◌, ◌-◌, ℕ, List, [], ◌∷◌, length, refl, arith, sym}
use Rattle.std.specs.Prelude.{Ok, Err, Result}
use Rattle.cam6_web_bridge.specs.Hosts.{HostWays}
use Rattle.cam6_web_bridge.specs.Pages.{PageWays}
use Rattle.cam6_web_bridge.specs.Bridges.{Exchanges, Heard, IsCarried, IsWaitedOn, Line, Nothing}
use Rattle.cam6_web_bridge.specs.Bridges.{Bridges, BridgesUntil, max_silences, max_rounds, silences}
use Rattle.cam6_web_bridge.specs.declared.carrying.End.{End}
use Rattle.cam6_web_bridge.specs.declared.carrying.End.TheVariants as end
use Rattle.cam6_web_bridge.specs.declared.pages.PageInput.TheVariants as said

-- a bridge so far, after so many silences in a row, with so many rounds left
pub record IsSoFar {P H : Type 0} (page : PageWays P) (host : HostWays H) (s : P) (h : H)
    (silent rounds : ℕ) (t : P) (k : H) : Type 0 where
  pub heard : List Heard
  pub bridges : Bridges page host s h heard t k
  pub silent_now : silent ≡ silences heard
  pub not_too_often : silent < max_silences
  pub rounds_left : length heard + rounds ≡ max_rounds

module _ {P H : Type 0} (page : PageWays P) (host : HostWays H) where
  pub begins : (s : P) (h : H) → IsSoFar page host s h 0 max_rounds s h
  begins s h = record {
    heard = [];
    bridges = (refl, refl);
    silent_now = refl;
    not_too_often = omega arith;
    rounds_left = refl;
  }

  pub goes_on : (s u t : P) (h j k : H) (silent rounds count : ℕ) → 0 < rounds
      → IsSoFar page host s h silent rounds u j → Exchanges page host (Ok count) silent u j t k
      → IsSoFar page host s h count (rounds - 1) t k
  goes_on s u t h j k silent rounds count some so next = record {
    heard = next.0 ∷ so.heard;
    bridges = (u, j, so.bridges, next.1);
    silent_now = rw (sym so.silent_now) next.2;
    not_too_often = next.3;
    rounds_left = let now = so.rounds_left in omega arith;
  }

  -- the page wasn't silent too often
  patient : (s t : P) (h k : H) (silent rounds : ℕ) → (so : IsSoFar page host s h silent rounds t k)
      → silences so.heard < max_silences
  patient s t h k silent rounds so =
      let now = so.silent_now in let few = so.not_too_often in omega arith

  pub ends : (s u t : P) (h j k : H) (silent rounds : ℕ) (end : End)
      → IsSoFar page host s h silent rounds u j → Exchanges page host (Err end) silent u j t k
      → BridgesUntil page host end s h t k
  ends s u t h j k silent rounds (end.Unheard why) so last =
      (so.heard, u, j, so.bridges, patient s u h j silent rounds so, last)
  ends s u t h j k silent rounds end.NotALine so last =
      (so.heard, u, j, so.bridges, patient s u h j silent rounds so, last)
  ends s u t h j k silent rounds end.TooLong so last =
      (so.heard, u, j, so.bridges, patient s u h j silent rounds so, last)
  ends s u t h j k silent rounds (end.Unanswered silence) so last =
      (so.heard, u, j, so.bridges, patient s u h j silent rounds so, last)
  ends s u t h j k silent rounds end.NoText so last =
      (so.heard, u, j, so.bridges, patient s u h j silent rounds so, last)
  ends s u t h j k silent rounds (end.Unsent why) so last =
      (so.heard, u, j, so.bridges, patient s u h j silent rounds so, last)
  ends s u t h j k silent rounds (end.Unpinged why) so last =
      (so.heard, u, j, so.bridges, patient s u h j silent rounds so, last)
  ends s u t h j k silent rounds end.Silent so last =
      let now = so.silent_now in let often = last.2 in
      (so.heard, u, j, so.bridges, patient s u h j silent rounds so, (last.0, last.1, omega arith))
  ends s u t h j k silent rounds end.TurnBound so last = absurd last

  -- a bridge that has no round left
  pub stops : (s t : P) (h k : H) (silent rounds : ℕ) → (0 < rounds → ⊥)
      → IsSoFar page host s h silent rounds t k → BridgesUntil page host end.TurnBound s h t k
  stops s t h k silent rounds none so =
      let now = so.rounds_left in
      (so.heard, t, k, so.bridges, patient s t h k silent rounds so, (omega arith, refl, refl))

  -- a text that was heard is carried, or the bridge ends there
  pub carried : (s u t : P) (h k : H) (silent : ℕ) (line : List ℕ) → page.hears s (said.Text line) u
      → IsCarried page host (Ok tt) line u h t k → Exchanges page host (Ok 0) silent s h t k
  carried s u t h k silent line heard is = (
    Line line is.0,
    record { between = u; heard = heard; is_line = is.1; answered = is.2; sent = is.3 },
    refl,
    omega arith,
  )

  pub not_carried : (s u t : P) (h k : H) (silent : ℕ) (line : List ℕ) (end : End)
      → page.hears s (said.Text line) u → IsCarried page host (Err end) line u h t k
      → Exchanges page host (Err end) silent s h t k
  not_carried s u t h k silent line (end.Unheard why) heard is = absurd is
  not_carried s u t h k silent line end.NotALine heard is =
      (line, (rw is.1 heard, is.2), is.0)
  not_carried s u t h k silent line end.TooLong heard is =
      (line, (rw is.1 heard, is.2), is.0)
  not_carried s u t h k silent line (end.Unanswered silence) heard is =
      (line, rw is.2 heard, is.0, is.1)
  not_carried s u t h k silent line end.NoText heard is =
      (line, is.0, record { heard = rw is.4 heard; is_line = is.1; answered = is.2 }, is.3)
  not_carried s u t h k silent line (end.Unsent why) heard is =
      (line, is.0, u, record { heard = heard; is_line = is.1; answered = is.2 }, is.3)
  not_carried s u t h k silent line (end.Unpinged why) heard is = absurd is
  not_carried s u t h k silent line end.Silent heard is = absurd is
  not_carried s u t h k silent line end.TurnBound heard is = absurd is

  -- a page that was silent is waited on, or the bridge ends there
  pub waited_on : (s u t : P) (h : H) (r : Result ℕ End) (silent : ℕ)
      → page.hears s said.Nothing u → IsWaitedOn page r silent u t
      → Exchanges page host r silent s h t h
  waited_on s u t h (Ok count) silent heard is = (Nothing, ((u, heard, is.0), refl), is.1, is.2)
  waited_on s u t h (Err (end.Unheard why)) silent heard is = absurd is
  waited_on s u t h (Err end.NotALine) silent heard is = absurd is
  waited_on s u t h (Err end.TooLong) silent heard is = absurd is
  waited_on s u t h (Err (end.Unanswered silence)) silent heard is = absurd is
  waited_on s u t h (Err end.NoText) silent heard is = absurd is
  waited_on s u t h (Err (end.Unsent why)) silent heard is = absurd is
  waited_on s u t h (Err (end.Unpinged why)) silent heard is = (u, heard, is, refl)
  waited_on s u t h (Err end.Silent) silent heard is = (rw is.0 heard, refl, is.1)
  waited_on s u t h (Err end.TurnBound) silent heard is = absurd is
