-- What is read and written on a connection, and what an opening says.
use Rattle.std.specs.Prelude.{◌≡◌, ◌≢◌, List, [], ℕ, Option, Some, None}
use Rattle.std.specs.Io.KnownBytes.{Appends, Consumes}
use Rattle.http_server.specs.declared.state.State.TheVariants.{Upgraded}
use Rattle.http_server.specs.Exchange.{Calls}
use Rattle.http_server.specs.History.{History, IsServed, IsDone}
use Rattle.cam6_web_router.specs.declared.greetings.Opening.{Opening}
use Rattle.cam6_web_router.specs.declared.greetings.TheConstants.{CONFIG}
use Rattle.cam6_web_router.specs.declared.sites.Site.{Site}
use Rattle.cam6_web_router.specs.Sites.{Answers}

-- the site answered each request of the connection, in order, and the connection is over
pub record IsGreeted (old new : Site) (h : History) : Type 0 where
  pub served : ∥ IsServed CONFIG h ∥₁
  pub calls : Calls Answers old new [] h.calls
  pub done : IsDone h

-- the last answer opened a socket that leads there, and these bytes were read after its request; or
-- no socket was opened
abbrev pub OpensAs : Site → History → Option Opening → Type 0
OpensAs site h (Some opening) =
    (h.state ≡ Upgraded) × (site.opened ≡ Some opening.way) × (opening.unread.items ≡ h.unread)
OpensAs site h None = h.state ≢ Upgraded

-- the connection is greeted by what was read and written
abbrev pub Greets : Site → Site → Option (List ℕ) → Option (List ℕ) → Option (List ℕ)
    → Option (List ℕ) → Option Opening → Type 0
Greets old new unread left unwritten written opening =
    (h : History) × IsGreeted old new h × Consumes unread left h.received
    × Appends unwritten written h.sent × OpensAs new h opening
