-- What is heard of a page on a WebSocket, by whether it can be heard.
use Rattle.std.specs.Prelude.{ℕ, List, Option, Result, Ok, Err, IfOk, IfErr}
use Rattle.tungstenite.specs.Socket.{Socket}
use Rattle.cam6_web_bridge.specs.Sockets.{Hearing}
use Rattle.cam6_web_bridge.specs.declared.pages.PageInput.{PageInput}
use Rattle.cam6_web_bridge.specs.declared.pages.Unheard.{Unheard}

module _ {S : Type 0} (remaining contents : S → Option (List ℕ)) (s t : Socket S) where
  pub if_heard : (r : Result PageInput Unheard) → Hearing remaining contents r s t
      → IfOk r (λ said. Hearing remaining contents (Ok said) s t)
  if_heard (Ok said) is = is
  if_heard (Err why) is = tt

  pub if_unheard : (r : Result PageInput Unheard) → Hearing remaining contents r s t
      → IfErr r (λ why. Hearing remaining contents (Err why) s t)
  if_unheard (Ok said) is = tt
  if_unheard (Err why) is = is
