-- What is spelled in a body is read.
use Rattle.std.proofs.Common.{◌≡◌, ◌≤◌, ◌+◌, ℕ, Bool, true, false, List, [], ◌∷◌, ◌++◌}
use Rattle.std.proofs.Common.{length, refl, sym, ◌∙◌, append_assoc, arith, Option}
use Rattle.std.proofs.Common.{None, Some, Ok, MatchOption, codes, append-nil, is_some}
use Rattle.cam6_wiring.specs.declared.wirings.Wiring.{Wiring}
use Rattle.cam6_forth.specs.declared.words.Word.{Word}
use Rattle.cam6_forth.specs.declared.words.Word.TheVariants as word
use Rattle.cam6_forth.specs.Tokens.{Token}
use Rattle.cam6_forth.specs.Limits.{max_size, max_open_ifs}
use Rattle.cam6_forth.specs.Defined.{Defined}
use Rattle.cam6_forth.specs.Tree.{Body, End, Says, Choice, Either, Cases, spell_body, words_of}
use Rattle.cam6_forth.specs.Tree.{size_of, depth_of, IsKnown, AreWords, case_words, case_size}
use Rattle.cam6_forth.specs.Unfinished.{OpenIf, spell_first, spell_open_ifs}
use Rattle.cam6_forth.specs.Unfinished.{first_size, open_size, FitsAt, AreOpenIfs}
use Rattle.cam6_forth.proofs.States.{in_body, in_braces, first_words, open_words, open_flags}
use Rattle.cam6_forth.proofs.Runs.{run, then_run, append_run}
use Rattle.cam6_forth.proofs.FaultsOfSteps.{length-flags}
use Rattle.cam6_forth.proofs.Steps.{same_body, same_braces, said_by, size_by, advance-word, advance-case}
use Rattle.cam6_forth.proofs.Steps.{advance-if, advance-else, advance-then, advance-open, advance-close}

module _ (wiring : Wiring) (done : List Defined) (name : Token) where
  -- words between braces
  pub run-cases : (tokens : List Token) (ws : List Word) (n : ℕ) (open_ifs : List Bool) →
      AreWords wiring done tokens → n + case_size wiring done tokens ≤ max_size →
      run wiring (in_braces done name ws n open_ifs) tokens
      ≡ Ok (in_braces done name (ws ++ case_words wiring done tokens)
      (n + case_size wiring done tokens) open_ifs)
  run-cases [] ws n open_ifs known fits =
      same_braces wiring done name ws (ws ++ []) n (n + 0) open_ifs (sym (append-nil ws))
      (omega arith)
  run-cases (token ∷ tokens) ws n open_ifs known fits =
      let said = said_by wiring done name token in
      let size = size_by wiring done name token in
      let words = case_words wiring done tokens in
      let more = case_size wiring done tokens in
      then_run wiring (in_braces done name ws n open_ifs)
      (in_braces done name (ws ++ said) (n + (size + 1)) open_ifs) token tokens _
      (advance-case wiring done name token ws n open_ifs known.0 (omega arith))
      (run-cases tokens (ws ++ said) (n + (size + 1)) open_ifs known.1 (omega arith)
      ∙ same_braces wiring done name ((ws ++ said) ++ words) (ws ++ (said ++ words))
      (n + (size + 1) + more) (n + (size + 1 + more)) open_ifs
      (append_assoc ws said words) (omega arith))

  -- a body
  pub run-body : (b : Body) (ws : List Word) (n : ℕ) (open_ifs : List Bool) →
      IsKnown wiring done b → n + size_of wiring done b ≤ max_size →
      length open_ifs + depth_of b ≤ max_open_ifs →
      run wiring (in_body done name ws n open_ifs) (spell_body b)
      ≡ Ok (in_body done name (ws ++ words_of wiring done b) (n + size_of wiring done b) open_ifs)
  run-body End ws n open_ifs known fits few =
      same_body wiring done name ws (ws ++ []) n (n + 0) open_ifs (sym (append-nil ws))
      (omega arith)
  run-body (Says token rest) ws n open_ifs known fits few =
      let said = said_by wiring done name token in
      let size = size_by wiring done name token in
      let words = words_of wiring done rest in
      let more = size_of wiring done rest in
      then_run wiring (in_body done name ws n open_ifs)
      (in_body done name (ws ++ said) (n + size) open_ifs) token (spell_body rest) _
      (advance-word wiring done name token ws n open_ifs known.0 (omega arith))
      (run-body rest (ws ++ said) (n + size) open_ifs known.1 (omega arith) few
      ∙ same_body wiring done name ((ws ++ said) ++ words) (ws ++ (said ++ words))
      (n + size + more) (n + (size + more)) open_ifs (append_assoc ws said words)
      (omega arith))
  run-body (Choice on rest) ws n open_ifs known fits few =
      let said = words_of wiring done on in
      let words = words_of wiring done rest in
      let size = size_of wiring done on in
      let more = size_of wiring done rest in
      let words_if = ws ++ word.If ∷ [] in
      let words_on = words_if ++ said in
      let words_then = words_on ++ word.Then ∷ [] in
      let size_if = n + 1 in
      let size_on = size_if + size in
      let opened = false ∷ open_ifs in
      let after_if = in_body done name words_if size_if opened in
      let after_on = in_body done name words_on size_on opened in
      let after_then = in_body done name words_then size_on open_ifs in
      let from_then = codes "THEN" ∷ spell_body rest in
      then_run wiring (in_body done name ws n open_ifs) after_if (codes "IF")
      (spell_body on ++ from_then) _
      (advance-if wiring done name ws n open_ifs (omega arith) (omega arith))
      (append_run wiring after_if after_on (spell_body on) from_then _
      (run-body on words_if size_if opened known.0 (omega arith) (omega arith))
      (then_run wiring after_on after_then (codes "THEN") (spell_body rest) _
      (advance-then wiring done name words_on size_on false open_ifs)
      (run-body rest words_then size_on open_ifs known.1 (omega arith) (omega arith)
      ∙ same_body wiring done name (words_then ++ words)
      (ws ++ word.If ∷ (said ++ word.Then ∷ words))
      (size_on + more) (n + (1 + size + more)) open_ifs (simp append_assoc) (omega arith))))
  run-body (Either on off rest) ws n open_ifs known fits few =
      let on_said = words_of wiring done on in
      let off_said = words_of wiring done off in
      let words = words_of wiring done rest in
      let on_size = size_of wiring done on in
      let off_size = size_of wiring done off in
      let more = size_of wiring done rest in
      let words_if = ws ++ word.If ∷ [] in
      let words_on = words_if ++ on_said in
      let words_else = words_on ++ word.Else ∷ [] in
      let words_off = words_else ++ off_said in
      let words_then = words_off ++ word.Then ∷ [] in
      let size_if = n + 1 in
      let size_on = size_if + on_size in
      let size_else = size_on + 1 in
      let size_off = size_else + off_size in
      let opened = false ∷ open_ifs in
      let halved = true ∷ open_ifs in
      let after_if = in_body done name words_if size_if opened in
      let after_on = in_body done name words_on size_on opened in
      let after_else = in_body done name words_else size_else halved in
      let after_off = in_body done name words_off size_off halved in
      let after_then = in_body done name words_then size_off open_ifs in
      let from_then = codes "THEN" ∷ spell_body rest in
      let from_else = codes "ELSE" ∷ (spell_body off ++ from_then) in
      then_run wiring (in_body done name ws n open_ifs) after_if (codes "IF")
      (spell_body on ++ from_else) _
      (advance-if wiring done name ws n open_ifs (omega arith) (omega arith))
      (append_run wiring after_if after_on (spell_body on) from_else _
      (run-body on words_if size_if opened known.0 (omega arith) (omega arith))
      (then_run wiring after_on after_else (codes "ELSE") (spell_body off ++ from_then) _
      (advance-else wiring done name words_on size_on open_ifs (omega arith))
      (append_run wiring after_else after_off (spell_body off) from_then _
      (run-body off words_else size_else halved known.1 (omega arith) (omega arith))
      (then_run wiring after_off after_then (codes "THEN") (spell_body rest) _
      (advance-then wiring done name words_off size_off true open_ifs)
      (run-body rest words_then size_off open_ifs known.2 (omega arith) (omega arith)
      ∙ same_body wiring done name (words_then ++ words)
      (ws ++ word.If ∷ (on_said ++ word.Else ∷ (off_said ++ word.Then ∷ words)))
      (size_off + more) (n + (2 + on_size + off_size + more)) open_ifs (simp append_assoc)
      (omega arith))))))
  run-body (Cases tokens rest) ws n open_ifs known fits few =
      let said = case_words wiring done tokens in
      let words = words_of wiring done rest in
      let size = case_size wiring done tokens in
      let more = size_of wiring done rest in
      let words_open = ws ++ word.Cases ∷ [] in
      let words_cases = words_open ++ said in
      let words_close = words_cases ++ word.EndCases ∷ [] in
      let size_open = n + 1 in
      let size_cases = size_open + size in
      let after_open = in_braces done name words_open size_open open_ifs in
      let after_words = in_braces done name words_cases size_cases open_ifs in
      let after_close = in_body done name words_close size_cases open_ifs in
      let from_close = codes "}" ∷ spell_body rest in
      then_run wiring (in_body done name ws n open_ifs) after_open (codes "{")
      (tokens ++ from_close) _ (advance-open wiring done name ws n open_ifs (omega arith))
      (append_run wiring after_open after_words tokens from_close _
      (run-cases tokens words_open size_open open_ifs known.0 (omega arith))
      (then_run wiring after_words after_close (codes "}") (spell_body rest) _
      (advance-close wiring done name words_cases size_cases open_ifs)
      (run-body rest words_close size_cases open_ifs known.1 (omega arith) few
      ∙ same_body wiring done name (words_close ++ words)
      (ws ++ word.Cases ∷ (said ++ word.EndCases ∷ words))
      (size_cases + more) (n + (1 + size + more)) open_ifs (simp append_assoc) (omega arith))))

  -- an IF's first body, with its ELSE
  run-first : (first : Option Body) (ws : List Word) (n : ℕ) (outer : List Bool) (level : ℕ) →
      level ≡ length outer + 1 → MatchOption first (Unit {0}) (FitsAt wiring done level) →
      n + first_size wiring done first ≤ max_size →
      run wiring (in_body done name ws n (false ∷ outer)) (spell_first first)
      ≡ Ok (in_body done name (ws ++ first_words wiring done first)
      (n + first_size wiring done first) (is_some first ∷ outer))
  run-first None ws n outer level at_level may fits =
      same_body wiring done name ws (ws ++ []) n (n + 0) (false ∷ outer) (sym (append-nil ws))
      (omega arith)
  run-first (Some body) ws n outer level at_level may fits =
      let said = words_of wiring done body in
      let size = size_of wiring done body in
      let depth = may.depth in
      let words = ws ++ said in
      let after_body = in_body done name words (n + size) (false ∷ outer) in
      let after_else = in_body done name (words ++ word.Else ∷ []) (n + size + 1) (true ∷ outer) in
      append_run wiring (in_body done name ws n (false ∷ outer)) after_body (spell_body body)
      (codes "ELSE" ∷ []) _
      (run-body body ws n (false ∷ outer) may.known (omega arith) (omega arith))
      (then_run wiring after_body after_else (codes "ELSE") [] _
      (advance-else wiring done name words (n + size) outer (omega arith))
      (same_body wiring done name (words ++ word.Else ∷ []) (ws ++ (said ++ word.Else ∷ []))
      (n + size + 1) (n + (size + 1)) (true ∷ outer) (append_assoc ws said (word.Else ∷ []))
      (omega arith)))

  -- open IFs
  pub run-open_ifs : (open_ifs : List OpenIf) → AreOpenIfs wiring done open_ifs →
      open_size wiring done open_ifs ≤ max_size →
      run wiring (in_body done name [] 0 []) (spell_open_ifs open_ifs)
      ≡ Ok (in_body done name (open_words wiring done open_ifs) (open_size wiring done open_ifs)
      (open_flags open_ifs))
  run-open_ifs [] may fits = refl
  run-open_ifs (open_if ∷ outer) may fits =
      let ws = open_words wiring done outer in
      let n = open_size wiring done outer in
      let flags = open_flags outer in
      let said = words_of wiring done open_if.before in
      let size = size_of wiring done open_if.before in
      let words = first_words wiring done open_if.first in
      let more = first_size wiring done open_if.first in
      let words_if = (ws ++ said) ++ word.If ∷ [] in
      let size_if = n + size + 1 in
      let at_outer = in_body done name ws n flags in
      let at_if = in_body done name (ws ++ said) (n + size) flags in
      let after_if = in_body done name words_if size_if (false ∷ flags) in
      let from_if = codes "IF" ∷ spell_first open_if.first in
      let same = length-flags outer in
      let depth = may.0.depth in
      let few = may.2 in
      append_run wiring (in_body done name [] 0 []) at_outer (spell_open_ifs outer)
      (spell_body open_if.before ++ from_if) _ (run-open_ifs outer may.3 (omega arith))
      (append_run wiring at_outer at_if (spell_body open_if.before) from_if _
      (run-body open_if.before ws n flags may.0.known (omega arith) (omega arith))
      (then_run wiring at_if after_if (codes "IF") (spell_first open_if.first) _
      (advance-if wiring done name (ws ++ said) (n + size) flags (omega arith) (omega arith))
      (run-first open_if.first words_if size_if flags (length outer + 1) (omega arith) may.1
      (omega arith)
      ∙ same_body wiring done name (words_if ++ words) (ws ++ (said ++ (word.If ∷ words)))
      (size_if + more) (n + (size + 1 + more)) (is_some open_if.first ∷ flags)
      (simp append_assoc) (omega arith))))
