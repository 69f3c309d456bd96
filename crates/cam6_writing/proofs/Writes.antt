-- Writes one after another make one front.
use Rattle.std.proofs.Common.{◌≡◌, [], ◌++◌, ◌-◌, ◌≤◌, ℕ, List, Option, Result, Ok, Err}
use Rattle.std.proofs.Common.{length, take, drop, sym, ap, ◌∙◌, append-nil, append_assoc, arith}
use Rattle.std.proofs.Common.{take-append-drop, take_all, length-drop}
use Rattle.std.proofs.KnownBytes.{Appends-trans, Appends-kept}
use Rattle.std.specs.Prelude.{IsErr}
use Rattle.std.specs.Io.KnownBytes.{Appends, Keeps}
use Rattle.cam6_writing.specs.Front.{WritesSome, WritesFront}
use Rattle.cam6_writing.specs.declared.writers.WriteFault.{WriteFault}

-- of these bytes all but a rest have been written
pub record Written (old new : Option (List ℕ)) (bytes rest : List ℕ) : Type 0 where
  pub part : List ℕ
  pub whole : bytes ≡ part ++ rest
  pub appends : Appends old new part

-- the rest is written as the code has it: what stands after the n bytes
pub more_is_written : (old now new : Option (List ℕ)) (bytes rest : List ℕ) (n : ℕ)
    → n ≤ length rest → Written old now bytes rest → Appends now new (take n rest)
    → Written old new bytes (take (length rest - n) (drop n rest))
more_is_written old now new bytes rest n within before more =
    let front = before.part ++ take n rest in
    let after : take (length rest - n) (drop n rest) ≡ drop n rest =
    take_all (length rest - n) (drop n rest) (omega (arith, length-drop n rest)) in
    record {
      part = front;
      whole = before.whole
          ∙ ap (λ l. before.part ++ l) (sym (take-append-drop n rest))
          ∙ sym (append_assoc before.part (take n rest) (drop n rest))
          ∙ ap (λ l. front ++ l) (sym after);
      appends = Appends-trans old now new before.part (take n rest) before.appends more;
    }

-- where it failed, some front was written
pub front_at_fault : (old new : Option (List ℕ)) (bytes : List ℕ)
    (result : Result (Unit {0}) WriteFault) → IsErr result → WritesSome old new bytes
    → WritesFront result old new bytes
front_at_fault old new bytes (Ok done) failed front = let never : ⊥ = cc in absurd never
front_at_fault old new bytes (Err fault) failed front = front

-- all was written, and then the writer did not flush
pub whole_and_no_flush : (old now new : Option (List ℕ)) (bytes : List ℕ) → Appends old now bytes
    → Keeps now new → WritesSome old new bytes
whole_and_no_flush old now new bytes written kept =
    (bytes, [], sym (append-nil bytes), Appends-kept old now new bytes written kept)
