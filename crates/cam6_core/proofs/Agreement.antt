-- Two lists of events that agree on a user's commands.
use Rattle.std.proofs.Common.{◌≡◌, ◌∙◌, ℕ, List, ◌⊎◌, inl, inr, Option, Some, None, sym, subst}
use Rattle.std.proofs.lemmas.List.{same_from_push}
use Rattle.cam6_planes.specs.declared.sides.Side.{Side}
use Rattle.cam6_commands.specs.declared.commands.Command.{Command}
use Rattle.cam6_commands.specs.declared.replies.Reply.{Reply}
use Rattle.cam6_model.specs.Alone.{replies}
use Rattle.cam6_model.specs.Machine.{blank}
use Rattle.cam6_core.specs.Headline.{AllButLast, AreGiven, AgreeAsFar, IsAtRest, Got}
use Rattle.cam6_core.specs.Headline.{RepliesAreOfCommands, given}
use Rattle.cam6_core.specs.State.{at_number}
use Rattle.cam6_core.specs.Laws.{GoingThroughIsEnough}
use Rattle.cam6_core.specs.declared.parts.Whereabouts.{Whereabouts}
use Rattle.cam6_core.specs.declared.parts.Whereabouts.TheVariants as whereabouts
use Rattle.cam6_core.proofs.Chains.{counts}
use Rattle.cam6_core.proofs.Heads.{headline_from_new}

pub enough : GoingThroughIsEnough
enough es rs old new through =
    (headline_from_new es rs old new through, counts es rs old new through)

-- what a user got are the replies to their commands, or lacks the last of them
got_replies : (u : ℕ) (limit : Side) (cs : List Command) (xs : List Reply)
    (x : Option Whereabouts) → Got u limit cs xs x → AreGiven x xs (replies (blank limit) cs)
got_replies u limit cs xs x got =
    let head = headline_from_new got.events got.outcomes got.old got.new got.run got.limits
    got.boards got.is_new u limit got.theirs in
    subst (λ (o : Option Whereabouts). AreGiven o xs (replies (blank limit) cs)) got.stands
    (subst (λ (ys : List Reply). AreGiven (at_number got.new.users u) ys
    (replies (blank limit) cs)) got.given_then
    (subst (λ (ds : List Command). AreGiven (at_number got.new.users u)
    (given u got.events got.outcomes) (replies (blank limit) ds)) got.asked head))

all_or_but : (x : Option Whereabouts) (xs all : List Reply) → AreGiven x xs all →
    (xs ≡ all) ⊎ AllButLast xs all
all_or_but None xs all are = absurd are
all_or_but (Some (whereabouts.Resting r)) xs all are = inl are
all_or_but (Some (whereabouts.Queued q)) xs all are = inr are
all_or_but (Some whereabouts.Out) xs all are = inr are
all_or_but (Some (whereabouts.Finished f)) xs all are = inr are

all_at_rest : (x : Option Whereabouts) (xs all : List Reply) → AreGiven x xs all →
    IsAtRest x → xs ≡ all
all_at_rest (Some (whereabouts.Resting r)) xs all are rests = are
all_at_rest x xs all are rests = absurd rests

agree : (xs ys all : List Reply) → (xs ≡ all) ⊎ AllButLast xs all →
    (ys ≡ all) ⊎ AllButLast ys all → AgreeAsFar xs ys
agree xs ys all (inl p) (inl q) = inl (p ∙ sym q)
agree xs ys all (inl p) (inr q) = inr (inr (q.0, p ∙ q.1))
agree xs ys all (inr p) (inl q) = inr (inl (p.0, q ∙ p.1))
agree xs ys all (inr p) (inr q) = inl (same_from_push xs ys p.0 q.0 (sym p.1 ∙ q.1)).0

pub replies_agree : RepliesAreOfCommands
replies_agree u v limit cs xs ys x y got also =
    let all = replies (blank limit) cs in
    let xs_are = got_replies u limit cs xs x got in
    let ys_are = got_replies v limit cs ys y also in (
      agree xs ys all (all_or_but x xs all xs_are) (all_or_but y ys all ys_are),
      (λ rests too. all_at_rest x xs all xs_are rests ∙ sym (all_at_rest y ys all ys_are too)),
    )
