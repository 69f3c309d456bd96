-- What a machine and its replies are if others take the place of those that were lost.
use Rattle.std.proofs.Common.{◌≡◌, ◌∙◌, ◌≤◌, List, [], ◌∷◌, ◌++◌, None, refl, sym, ap, subst}
use Rattle.std.specs.List.{AllByRecursion}
use Rattle.cam6_planes.specs.Side.{side_number}
use Rattle.cam6_planes.specs.declared.sides.Side.{Side}
use Rattle.cam6_commands.specs.declared.commands.Command.{Command}
use Rattle.cam6_commands.specs.declared.commands.Command.TheVariants.{Load}
use Rattle.cam6_commands.specs.declared.replies.Reply.{Reply}
use Rattle.cam6_model.specs.Machine.{Machine, blank}
use Rattle.cam6_model.specs.Saved.{saved_of}
use Rattle.cam6_model.specs.Refusals.{refusal}
use Rattle.cam6_model.specs.Alone.{reply, after, replies, after_all}
use Rattle.cam6_model.specs.Always.{IsMachine}
use Rattle.cam6_model.specs.Recovery.{HaveTexts, Part, IsPart, part_done, parts_done, AreTakenOver}
use Rattle.cam6_model.specs.Recovery.{replies_of_parts, commands_of_parts}
use Rattle.cam6_model.specs.Laws.{RecoveryIsExact, RecoveriesAreExact}
use Rattle.cam6_model.proofs.Staying.{blank_is_machine}
use Rattle.cam6_model.proofs.Commanded.{stays_machine, limit_stays}
use Rattle.cam6_model.proofs.SavedLaws.{load_gives_back}

-- a machine is one after commands with texts, and its limit is as before
all_stay : (m : Machine) (commands : List Command) → IsMachine m → HaveTexts commands →
    IsMachine (after_all m commands)
all_stay m [] is texts = is
all_stay m (c ∷ later) is texts =
    all_stay (after m c) later (stays_machine m c is texts.0) texts.1

limit_same : (m : Machine) (commands : List Command) → (after_all m commands).limit ≡ m.limit
limit_same m [] = refl
limit_same m (c ∷ later) = limit_same (after m c) later ∙ limit_stays m c

-- commands in two lists, one after the other
after_both : (m : Machine) (first later : List Command) →
    after_all m (first ++ later) ≡ after_all (after_all m first) later
after_both m [] later = refl
after_both m (c ∷ first) later = after_both (after m c) first later

replies_of_both : (m : Machine) (first later : List Command) →
    replies m (first ++ later) ≡ replies m first ++ replies (after_all m first) later
replies_of_both m [] later = refl
replies_of_both m (c ∷ first) later =
    ap (λ (told : List Reply). reply m c ∷ told) (replies_of_both (after m c) first later)

-- what is saved of a machine is loaded by another one of its limit
is_loaded : (m other : Machine) → IsMachine m → other.limit ≡ m.limit →
    refusal other (Load (saved_of m)) ≡ None
is_loaded m other is limit =
    (load_gives_back m other is
    (subst (λ (l : Side). side_number m.side ≤ side_number l) (sym limit) is.within)).0

-- and that one is then the machine itself
is_back : (m other : Machine) → IsMachine m → other.limit ≡ m.limit →
    after other (Load (saved_of m)) ≡ m
is_back m other is limit =
    (load_gives_back m other is
    (subst (λ (l : Side). side_number m.side ≤ side_number l) (sym limit) is.within)).1
    ∙ ap {B = Machine} (λ (l : Side). record m { limit = l }) limit

pub recovery_is_exact : RecoveryIsExact
recovery_is_exact other saved since texts =
    let lost = after_all (blank other.limit) saved in
    let is = all_stay (blank other.limit) saved (blank_is_machine other.limit) texts in
    let limit = sym (limit_same (blank other.limit) saved) in
    let back = is_back lost other is limit in
    record {
      loads = is_loaded lost other is limit;
      alike = ap (λ (m : Machine). replies m since) back;
      machine =
          ap (λ (m : Machine). after_all m since) back
          ∙ sym (after_both (blank other.limit) saved since);
      whole =
          replies_of_both (blank other.limit) saved since
          ∙ ap (λ (m : Machine). replies (blank other.limit) saved ++ replies m since) (sym back);
    }

-- the parts of a journal from a machine on
record FromHere (m : Machine) (parts : List Part) : Type 0 where
  loads : AreTakenOver m parts
  machine : parts_done m parts ≡ after_all m (commands_of_parts parts)
  whole : replies_of_parts m parts ≡ replies m (commands_of_parts parts)

from_here : (m : Machine) (parts : List Part) → IsMachine m →
    AllByRecursion (IsPart m.limit) parts → FromHere m parts
from_here m [] is are = record { loads = tt; machine = refl; whole = refl }
from_here m (part ∷ later) is are =
    let back = is_back m part.other is are.0.0 in
    let done = ap (λ (n : Machine). after_all n part.commands) back in
    let told = ap (λ (n : Machine). replies n part.commands) back in
    let there = after_all m part.commands in
    let next = from_here there later (all_stay m part.commands is are.0.1)
    (subst (λ (l : Side). AllByRecursion (IsPart l) later)
    (sym (limit_same m part.commands)) are.1) in
    record {
      loads = (
        is_loaded m part.other is are.0.0,
        subst (λ (n : Machine). AreTakenOver n later) (sym done) next.loads,
      );
      machine =
          ap (λ (n : Machine). parts_done n later) done
          ∙ next.machine
          ∙ sym (after_both m part.commands (commands_of_parts later));
      whole =
          ap (λ (said : List Reply). said ++ replies_of_parts (part_done m part) later) told
          ∙ ap (λ (n : Machine). replies m part.commands ++ replies_of_parts n later) done
          ∙ ap (λ (said : List Reply). replies m part.commands ++ said) next.whole
          ∙ sym (replies_of_both m part.commands (commands_of_parts later));
    }

pub recoveries_are_exact : RecoveriesAreExact
recoveries_are_exact limit parts are =
    let all = from_here (blank limit) parts (blank_is_machine limit) are in
    record { loads = all.loads; machine = all.machine; whole = all.whole }
