use Rattle.std.proofs.Common.{length, ◌≡◌, ◌+◌, ◌≤◌, ◌||◌, true}
use Rattle.cam6_forth.specs.Limits.{max_text}
use Rattle.cam6_forth.specs.Tokens.{tokens}
use Rattle.cam6_forth.specs.Reading.{read, beginning, begins, is_in_body}
use Rattle.cam6_forth.proofs.parser.read_text.Given as goal

abbrev pub invariant-loop-token : goal.invariant-loop-token
invariant-loop-token l = record {
  same : read l.wiring l.reader l.token_number (tokens l.rest)
      ≡ read l.wiring beginning 1 (tokens l.text);
  short : l.token_number + length l.rest ≤ max_text + 1;
  fits : length l.text ≤ max_text;
  found : (is_in_body l.reader.context || begins l.wiring l.reader (tokens l.rest)) ≡ true →
      begins l.wiring beginning (tokens l.text) ≡ true;
}

abbrev pub decreases-loop-token : goal.decreases-loop-token
decreases-loop-token l = length l.rest
