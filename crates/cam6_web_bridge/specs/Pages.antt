-- Ways of being heard and being sent messages. A page has one of its own.
use Rattle.std.specs.Prelude.{ℕ, List}
use Rattle.cam6_web_bridge.specs.declared.pages.PageInput.{PageInput}
use Rattle.cam6_web_bridge.specs.declared.pages.Unheard.{Unheard}
use Rattle.cam6_web_bridge.specs.declared.pages.Unsent.{Unsent}

-- from where a page stands, this may be heard of it, and then it stands there; or it can't be heard,
-- for such a reason; a text may be sent to it whole, or not whole; and so may a ping
pub record PageWays (P : Type 0) : Type 1 where
  pub hears : P → PageInput → P → Type 0
  pub unheard : P → Unheard → P → Type 0
  pub sends : P → List ℕ → P → Type 0
  pub unsent : P → List ℕ → Unsent → P → Type 0
  pub pings : P → P → Type 0
  pub unpinged : P → Unsent → P → Type 0
