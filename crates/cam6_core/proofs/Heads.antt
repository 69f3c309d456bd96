-- The headline, from what the model says.
use Rattle.std.proofs.Common.{◌≡◌, ◌∙◌, ℕ, zero, suc, List, [], ◌∷◌, ◌++◌, length, map, Option}
use Rattle.std.proofs.Common.{Some, sym, refl, ap, subst}
use Rattle.std.proofs.lemmas.List.{length-map}
use Rattle.cam6_planes.specs.declared.sides.Side.{Side}
use Rattle.cam6_commands.specs.declared.commands.Command.{Command}
use Rattle.cam6_commands.specs.declared.events.Event.{Event}
use Rattle.cam6_commands.specs.declared.outcomes.Outcome.{Outcome}
use Rattle.cam6_commands.specs.declared.replies.Reply.{Reply}
use Rattle.cam6_model.specs.Alone.{reply, after, replies}
use Rattle.cam6_model.specs.Alone as model
use Rattle.cam6_model.specs.Machine.{Machine, blank}
use Rattle.cam6_core.specs.Fresh.{fresh}
use Rattle.cam6_core.specs.History.{alone, replies_of}
use Rattle.cam6_core.specs.State.{State, at_number, IsNumber}
use Rattle.cam6_core.specs.Model.{Stage, resting, queued, out, finished, User, Model, user}
use Rattle.cam6_core.specs.Model.{newcomer, machine_of}
use Rattle.cam6_core.specs.Good.{UserFits, Good}
use Rattle.cam6_core.specs.Runs.{AreTheModels, after_all, GoThrough}
use Rattle.cam6_core.specs.Headline.{commands, given, AreGiven, Headline, HeadlineFromNew}
use Rattle.cam6_core.specs.declared.parts.Whereabouts.{Whereabouts}
use Rattle.cam6_core.specs.declared.parts.Whereabouts.TheVariants as whereabouts
use Rattle.cam6_core.proofs.Numbers.{is_number}
use Rattle.cam6_core.proofs.Standings.{also_there}
use Rattle.cam6_core.proofs.Chains.{counts}
use Rattle.cam6_core.proofs.Histories.{Gains, in_order, listed_at, gains_all, same_length}

-- a machine alone, and its replies, with one command more
alone_more : (m : Machine) (cs : List Command) (c : Command) →
    model.after_all m (cs ++ c ∷ []) ≡ after (model.after_all m cs) c
alone_more m [] c = refl
alone_more m (d ∷ cs) c = alone_more (after m d) cs c

replies_more : (m : Machine) (cs : List Command) (c : Command) →
    replies m (cs ++ c ∷ []) ≡ replies m cs ++ reply (model.after_all m cs) c ∷ []
replies_more m [] c = refl
replies_more m (d ∷ cs) c = ap (λ xs. reply m d ∷ xs) (replies_more (after m d) cs c)

-- told with the newest first, they are the same
alone_in_order : (limit : Side) (cs : List Command) →
    model.after_all (blank limit) (in_order cs) ≡ alone limit cs
alone_in_order limit [] = refl
alone_in_order limit (c ∷ cs) =
    alone_more (blank limit) (in_order cs) c ∙ ap (λ m. after m c) (alone_in_order limit cs)

replies_in_order : (limit : Side) (cs : List Command) →
    replies (blank limit) (in_order cs) ≡ in_order (replies_of limit cs)
replies_in_order limit [] = refl
replies_in_order limit (c ∷ cs) =
    replies_more (blank limit) (in_order cs) c ∙
    ap (λ m. replies (blank limit) (in_order cs) ++ reply m c ∷ []) (alone_in_order limit cs) ∙
    ap (λ xs. xs ++ reply (alone limit cs) c ∷ []) (replies_in_order limit cs)

-- where a user is as the model has them, the replies to what is done are all, or all but the last
are_given : (m : Machine) (x : Whereabouts) (stage : Stage) (limit : Side) (cs : List Command) →
    UserFits m x stage → AreGiven (Some x) (in_order (replies_of limit cs))
    (in_order (replies_of limit (listed_at stage cs)))
are_given m (whereabouts.Resting r) resting limit cs fits = refl
are_given m (whereabouts.Queued q) (queued c left home) limit cs fits =
    (reply (alone limit cs) c, refl)
are_given m whereabouts.Out (out b c) limit cs fits = (reply (alone limit cs) c, refl)
are_given m (whereabouts.Finished f) (finished c) limit cs fits =
    (reply (alone limit cs) c, refl)
are_given m x stage limit cs fits = absurd fits

-- a new core's user of this limit has asked for nothing
begins : (limits : List Side) (u : ℕ) (limit : Side) → at_number limits u ≡ Some limit →
    user (map newcomer limits) u ≡ newcomer limit
begins limits zero limit at = cc at
begins [] (suc i) limit at = cc at
begins (d ∷ limits) (suc zero) limit at = let e : d ≡ limit = cc at in ap newcomer e
begins (d ∷ limits) (suc (suc i)) limit at = begins limits (suc i) limit at

-- as many users, so each number is of one
user_there : (limits : List Side) (xs : List Whereabouts) (u : ℕ) (limit : Side) →
    length limits ≡ length xs → at_number limits u ≡ Some limit →
    (x : Whereabouts) × (at_number xs u ≡ Some x)
user_there limits xs zero limit long at = cc at
user_there limits xs (suc i) limit long at = also_there limits xs i limit long at

pub headline : (es : List Event) (rs : List Outcome) (new : State) (limits : List Side)
    (boards : ℕ) → AreTheModels (fresh limits boards) es rs →
    Good new (after_all (fresh limits boards) es rs) → Headline limits es rs new
headline es rs new limits boards are good u limit at =
    let a : Model = fresh limits boards in
    let p : User = user (after_all a es rs).users u in
    let long : length a.users ≡ length limits = length-map limits newcomer in
    let is : IsNumber (length a.users) u =
    subst (λ n. IsNumber n u) (sym long) (is_number limits u limit at) in
    let gains = subst (λ (q : User). Gains q p (commands u es rs) (given u es rs))
    (begins limits u limit at) (gains_all es rs a u is are) in
    let there = user_there limits new.users u limit
    (sym (good.users_long ∙ same_length es rs a are ∙ long)) at in
    let fits = good.users u there.0 there.1 in
    let all : in_order (replies_of p.limit (listed_at p.stage p.done))
    ≡ replies (blank limit) (commands u es rs) =
    ap (λ d. in_order (replies_of d (listed_at p.stage p.done))) gains.limit ∙
    sym (replies_in_order limit (listed_at p.stage p.done)) ∙
    ap (replies (blank limit)) gains.asks in
    subst (λ (o : Option Whereabouts).
    AreGiven o (given u es rs) (replies (blank limit) (commands u es rs))) (sym there.1)
    (subst (AreGiven (Some there.0) (given u es rs)) all
    (subst (λ (xs : List Reply). AreGiven (Some there.0) xs
    (in_order (replies_of p.limit (listed_at p.stage p.done)))) gains.gets
    (are_given (machine_of p) there.0 p.stage p.limit p.done fits)))

-- events that go one after another have it
pub headline_from_new : (es : List Event) (rs : List Outcome) (old new : State) →
    GoThrough old es rs new → HeadlineFromNew old es rs new
headline_from_new es rs old new through limits boards good =
    let both = counts es rs old new through (fresh limits boards) good in
    headline es rs new limits boards both.0 both.1
