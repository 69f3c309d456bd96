-- What is spelled is read.
use Rattle.std.proofs.Common.{◌≡◌, ◌<◌, ◌≤◌, ◌+◌, ℕ, List, [], ◌∷◌, ◌++◌, length, refl, ap, ◌∙◌}
use Rattle.std.proofs.Common.{append_assoc, arith, Result, Ok, codes, length-append, zero-add}
use Rattle.cam6_wiring.specs.declared.wirings.Wiring.{Wiring}
use Rattle.cam6_forth.specs.declared.words.Word.TheVariants as word
use Rattle.cam6_forth.specs.Tokens.{Token}
use Rattle.cam6_forth.specs.Limits.{max_definitions}
use Rattle.cam6_forth.specs.Defined.{Defined}
use Rattle.cam6_forth.specs.Tree.{Part, spell_body, spell, words_of, size_of}
use Rattle.cam6_forth.specs.Tree.{case_words, case_size, defined, AreDefinitions, meant}
use Rattle.cam6_forth.specs.Unfinished.{Opened, Unfinished, Whole, Unnamed, Within, Braced}
use Rattle.cam6_forth.specs.Unfinished.{spell_open_ifs, spell_opened, spell_unfinished}
use Rattle.cam6_forth.specs.Unfinished.{open_size, opened_size, IsOpened, AreBefore, IsSound}
use Rattle.cam6_forth.specs.Reading.{State, beginning}
use Rattle.cam6_forth.proofs.States.{after_all, after_colon, in_body, in_braces}
use Rattle.cam6_forth.proofs.States.{open_words, open_flags, opened_words, state_of}
use Rattle.cam6_forth.proofs.Runs.{run, ok_state, then_run, append_run, length-meant}
use Rattle.cam6_forth.proofs.FaultsOfSteps.{length-flags}
use Rattle.cam6_forth.proofs.Steps.{same_braces, advance-open, advance-name}
use Rattle.cam6_forth.proofs.Steps.{advance-colon, advance-end, after_end}
use Rattle.cam6_forth.proofs.SpelledBodies.{run-cases, run-body, run-open_ifs}

-- definitions
pub run-parts : (wiring : Wiring) (parts : List Part) (done : List Defined) →
    AreDefinitions wiring done parts → length done + length parts ≤ max_definitions →
    run wiring (after_all done) (spell parts) ≡ Ok (after_all (meant wiring done parts))
run-parts wiring [] done each few = refl
run-parts wiring (part ∷ parts) done each few =
    let ws = words_of wiring done part.body in
    let n = size_of wiring done part.body in
    let body = spell_body part.body in
    let from_end = codes ";" ∷ spell parts in
    let one = defined wiring done part ∷ [] in
    let next = done ++ one in
    let fewer : length next + length parts ≤ max_definitions =
    omega (arith, length-append done one) in
    let at_body = in_body done part.name [] 0 [] in
    let at_end = in_body done part.name ws (0 + n) [] in
    let size = each.0.size in
    let depth = each.0.depth in
    then_run wiring (after_all done) (after_colon done) (codes ":")
    (part.name ∷ (body ++ from_end)) _ (advance-colon wiring done (omega arith))
    (then_run wiring (after_colon done) at_body part.name (body ++ from_end) _
    (advance-name wiring done part.name each.0.name each.0.fresh)
    (append_run wiring at_body at_end body from_end _
    (run-body wiring done part.name part.body [] 0 [] each.0.known (omega arith) (omega arith))
    (then_run wiring at_end (after_all next) (codes ";") (spell parts) _
    (advance-end wiring done part.name ws (0 + n)
    ∙ ap (λ m. ok_state (after_end done part.name ws m)) (zero-add n))
    (run-parts wiring parts next each.1 fewer))))

-- an opened definition, after others
run-opened : (wiring : Wiring) (done : List Defined) (last : Opened) (more : ℕ) →
    length done < max_definitions → IsOpened wiring done last more →
    run wiring (after_all done) (spell_opened last)
    ≡ Ok (in_body done last.name (opened_words wiring done last) (opened_size wiring done last)
    (open_flags last.open_ifs))
run-opened wiring done last more few opened =
    let ws = open_words wiring done last.open_ifs in
    let n = open_size wiring done last.open_ifs in
    let flags = open_flags last.open_ifs in
    let same = length-flags last.open_ifs in
    let fits = opened.size in
    let depth = opened.said.depth in
    let tokens = spell_open_ifs last.open_ifs ++ spell_body last.said in
    then_run wiring (after_all done) (after_colon done) (codes ":") (last.name ∷ tokens) _
    (advance-colon wiring done few)
    (then_run wiring (after_colon done) (in_body done last.name [] 0 []) last.name tokens _
    (advance-name wiring done last.name opened.name opened.fresh)
    (append_run wiring (in_body done last.name [] 0 []) (in_body done last.name ws n flags)
    (spell_open_ifs last.open_ifs) (spell_body last.said) _
    (run-open_ifs wiring done last.name last.open_ifs opened.open_ifs (omega arith))
    (run-body wiring done last.name last.said ws n flags opened.said.known (omega arith)
    (omega arith))))

-- the definitions before an opened one
run-before : (wiring : Wiring) (parts : List Part) (later : List Token)
    (result : Result State ℕ) → AreBefore wiring parts →
    (length (meant wiring [] parts) < max_definitions →
    run wiring (after_all (meant wiring [] parts)) later ≡ result) →
    run wiring beginning (spell parts ++ later) ≡ result
run-before wiring parts later result before others =
    let few = before.few in
    append_run wiring beginning (after_all (meant wiring [] parts)) (spell parts) later result
    (run-parts wiring parts [] before.each (omega arith))
    (others (omega (arith, length-meant wiring parts [])))

-- a rule that is being written
pub run-unfinished : (wiring : Wiring) (u : Unfinished) → IsSound wiring u →
    run wiring beginning (spell_unfinished u) ≡ Ok (state_of wiring u)
run-unfinished wiring (Whole parts) sound =
    let few = sound.1 in run-parts wiring parts [] sound.0 (omega arith)
run-unfinished wiring (Unnamed parts) sound =
    let done = meant wiring [] parts in
    run-before wiring parts (codes ":" ∷ []) _ sound
    (λ few. then_run wiring (after_all done) (after_colon done) (codes ":") [] _
    (advance-colon wiring done few) refl)
run-unfinished wiring (Within parts last) sound =
    run-before wiring parts (spell_opened last) _ sound.0
    (λ few. run-opened wiring (meant wiring [] parts) last 0 few sound.1)
run-unfinished wiring (Braced parts last tokens) sound =
    let done = meant wiring [] parts in
    let ws = opened_words wiring done last in
    let n = opened_size wiring done last in
    let flags = open_flags last.open_ifs in
    let more = case_size wiring done tokens in
    let words = case_words wiring done tokens in
    let fits = sound.1.size in
    run-before wiring parts (spell_opened last ++ (codes "{" ∷ tokens)) _ sound.0
    (λ few. append_run wiring (after_all done) (in_body done last.name ws n flags)
    (spell_opened last) (codes "{" ∷ tokens) _
    (run-opened wiring done last (1 + more) few sound.1)
    (then_run wiring (in_body done last.name ws n flags)
    (in_braces done last.name (ws ++ word.Cases ∷ []) (n + 1) flags) (codes "{") tokens _
    (advance-open wiring done last.name ws n flags (omega arith))
    (run-cases wiring done last.name tokens (ws ++ word.Cases ∷ []) (n + 1) flags sound.2
    (omega arith)
    ∙ same_braces wiring done last.name ((ws ++ word.Cases ∷ []) ++ words)
    (ws ++ (word.Cases ∷ words)) (n + 1 + more) (n + (1 + more)) flags
    (append_assoc ws (word.Cases ∷ []) words) (omega arith))))
