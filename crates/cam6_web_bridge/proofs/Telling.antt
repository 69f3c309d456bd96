-- What a host is told in a bridge is the texts, and what is sent are its lines.
use Rattle.std.proofs.Common.{◌≡◌, ◌++◌, ◌∷◌, [], ℕ, List, ◌∙◌, sym, ap, subst}
use Rattle.std.proofs.Common.{append-nil, append_assoc}
use Rattle.std.proofs.KnownBytes.{Appends-nil, Appends-trans, Consumes-nil, Consumes-trans}
use Rattle.std.specs.Io.KnownBytes.{Appends, Consumes}
use Rattle.cam6_web_bridge.specs.HostLines.{Lines, by_lines}
use Rattle.cam6_web_bridge.specs.Laws.{answers_of, texts_of}
use Rattle.cam6_web_bridge.specs.Lines.{sent_line, sent_lines}
use Rattle.cam6_web_bridge.specs.Pages.{PageWays}
use Rattle.cam6_web_bridge.specs.Bridges.{Heard, Life, Line, Nothing, Bridges}

-- one more line, after the others
sent_after : (lines : List (List ℕ)) (line : List ℕ)
    → sent_lines lines ++ sent_line line ≡ sent_lines (lines ++ line ∷ [])
sent_after [] line = sym (append-nil (sent_line line))
sent_after (first ∷ later) line =
    append_assoc (sent_line first) (sent_lines later) (sent_line line)
    ∙ ap (λ l. sent_line first ++ l) (sent_after later line)

module _ {P : Type 0} (page : PageWays P) where
  pub told : (s t : P) (h k : Lines) (heard : List Heard) → Bridges page by_lines s h heard t k
      → Appends h.told k.told (sent_lines (texts_of heard))
  told s t h k [] bridges = rw bridges.1 (Appends-nil h.told)
  told s t h k (Line line answer ∷ before) bridges =
      let j = bridges.1 in
      let so = told s bridges.0 h j before bridges.2 in
      subst (λ l. Appends h.told k.told l) (sent_after (texts_of before) line)
      (Appends-trans h.told j.told k.told _ _ so bridges.3.answered.told)
  told s t h k (Life ∷ before) bridges =
      rw bridges.3.1 (told s bridges.0 h bridges.1 before bridges.2)
  told s t h k (Nothing ∷ before) bridges =
      rw bridges.3.1 (told s bridges.0 h bridges.1 before bridges.2)

  pub said : (s t : P) (h k : Lines) (heard : List Heard) → Bridges page by_lines s h heard t k
      → Consumes h.left k.left (sent_lines (answers_of heard))
  said s t h k [] bridges = rw bridges.1 (Consumes-nil h.left)
  said s t h k (Line line answer ∷ before) bridges =
      let j = bridges.1 in
      let so = said s bridges.0 h j before bridges.2 in
      subst (λ l. Consumes h.left k.left l) (sent_after (answers_of before) answer)
      (Consumes-trans h.left j.left k.left _ _ so bridges.3.answered.said.taken)
  said s t h k (Life ∷ before) bridges =
      rw bridges.3.1 (said s bridges.0 h bridges.1 before bridges.2)
  said s t h k (Nothing ∷ before) bridges =
      rw bridges.3.1 (said s bridges.0 h bridges.1 before bridges.2)
