-- A connection that goes on as a socket has an answer that opened it.
use Rattle.std.proofs.Common.{◌≡◌, ◌∙◌, ◌++◌, List, [], ◌∷◌, ℕ, Option, None, ap, arith, sym, subst}
use Rattle.std.proofs.Math.Logic.{∥∥₁_elim}
use Rattle.std.specs.Io.KnownBytes.{Appends, Consumes}
use Rattle.http.specs.declared.request.Request.{Request}
use Rattle.http_server.specs.declared.response.Response.{Response}
use Rattle.http_server.specs.declared.state.Config.{Config}
use Rattle.http_server.specs.declared.state.State.TheVariants.{Upgraded}
use Rattle.http_server.specs.Exchange.{Call, Calls, Chain}
use Rattle.http_server.specs.History.{History, IsDone, IsServed, IsUpgraded, Stands, new_history}
use Rattle.cam6_web_router.specs.declared.answers.Answer.{Answer}
use Rattle.cam6_web_router.specs.declared.answers.Answer.TheVariants as answer
use Rattle.cam6_web_router.specs.declared.sites.Site.{Site}
use Rattle.cam6_web_router.specs.declared.greetings.TheConstants.{CONFIG}
use Rattle.cam6_web_router.specs.Greetings.{IsGreeted}
use Rattle.cam6_web_router.specs.Sites.{Answers, status_of, way_of}

-- the last call of a chain
pub last_call : (calls : List Call) (last : Call) (old new : Site)
    → Chain Answers old (calls ++ last ∷ []) new → (s : Site) × Answers s last.0 last.1 new
last_call [] last old new chain = (old, rw chain.2 chain.1)
last_call (c ∷ calls) last old new chain = last_call calls last chain.0 new chain.2

-- an answer of this status opens a socket
pub leads : (a : Answer) → status_of a ≡ 101 → way_of a ≡ None → ⊥
leads answer.Misdirected is none = omega (arith, is)
leads answer.WrongMethod is none = omega (arith, is)
leads (answer.Shows file) is none = omega (arith, is)
leads answer.Counts is none = omega (arith, is)
leads answer.NotFound is none = omega (arith, is)
leads answer.Foreign is none = omega (arith, is)
leads answer.Malformed is none = omega (arith, is)
leads answer.Full is none = omega (arith, is)
leads (answer.Opens accept way) is none = cc none

-- a connection that goes on as a socket leads somewhere
pub leads_on : (config : Config) (h : History) (old new : Site) → IsServed config h
    → Calls Answers old new [] h.calls → new.opened ≡ None → h.state ≡ Upgraded → ⊥
leads_on config h old new served calls none is =
    let opened : IsUpgraded config h served.answered (served.text ++ served.interim) served.rest =
    subst (λ s. Stands s config h served.answered served.text served.interim served.rest) is served.stands in
    let all : calls.0 ≡ served.answered ++ opened.last.call ∷ [] = sym calls.1 ∙ opened.last.calls in
    let last = last_call served.answered opened.last.call old new (rw all at calls.2) in
    leads last.1.0 (sym last.1.2.status ∙ opened.accepted) (sym (ap (λ s. s.opened) last.1.3) ∙ none)

-- what was read and written since a connection began, and what was called
pub reads : (began h : History) (unread left : Option (List ℕ)) → began ≡ new_history
    → (more : List ℕ) × Consumes unread left more × (h.received ≡ began.received ++ more)
    → Consumes unread left h.received
reads began h unread left is read = rw (read.2 ∙ ap (λ k. k.received ++ read.0) is) read.1

pub writes : (began h : History) (unwritten written : Option (List ℕ)) → began ≡ new_history
    → (more : List ℕ) × Appends unwritten written more × (h.sent ≡ began.sent ++ more)
    → Appends unwritten written h.sent
writes began h unwritten written is write = rw (write.2 ∙ ap (λ k. k.sent ++ write.0) is) write.1

pub greets : (config : Config) (began h : History) (old new : Site) → began ≡ new_history → config ≡ CONFIG
    → ∥ IsServed config h ∥₁ → Calls Answers old new began.calls h.calls → IsDone h → IsGreeted old new h
greets config began h old new is same served calls done = record {
  served = rw same at served;
  calls = rw (ap (λ k. k.calls) is) at calls;
  done = done;
}

pub leads_on_if_served : (h : History) (old new : Site) → IsGreeted old new h → new.opened ≡ None
    → h.state ≡ Upgraded → ⊥
leads_on_if_served h old new greeted none is =
    ∥∥₁_elim greeted.served (λ one other. absurd one)
    (λ served. leads_on CONFIG h old new served greeted.calls none is)
