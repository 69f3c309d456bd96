-- A user whom no round takes or passes over is nearer after each take.
use Rattle.std.proofs.Common.{◌≡◌, ◌∙◌, ◌<◌, ◌≤◌, ◌+◌, ◌-◌, ◌%◌, ℕ, List, [], ◌∷◌}
use Rattle.std.proofs.Common.{length, ◌⊎◌, inl, inr, sym, ap, arith}
use Rattle.std.proofs.lemmas.Bool.{cases_lt}
use Rattle.std.proofs.Math.Nat.{mod-add-mod, add-mod-mod, add-mod_right, mod-lt, mod-eq_of_lt}
use Rattle.cam6_pool.specs.Rounds.{next_user, Take, IsNextUser, AreNextUsers, IsWithout, AreWithout}
use Rattle.cam6_pool.specs.Laws.{UsersAreServedInRounds}

-- someone who is so many users away, and is neither taken nor passed over, is beyond the take
beyond : (users row user away : ℕ) (take : Take) → next_user users row away ≡ user →
    IsNextUser users row take → IsWithout users row user take → take.passed < away
beyond users row user away take there next without = by_order (cases_lt away take.passed)
  where
    by_rest : take.passed ≤ away → (take.passed < away) ⊎ (away ≤ take.passed) → take.passed < away
    by_rest most (inl further) = further
    by_rest most (inr least) =
        let same : take.passed ≡ away = omega (arith, most, least) in
        absurd (without.0 (next.1 ∙ ap (next_user users row) same ∙ there))

    by_order : (away < take.passed) ⊎ (take.passed ≤ away) → take.passed < away
    by_order (inl before) = absurd (without.1 away before there)
    by_order (inr most) = by_rest most (cases_lt take.passed away)

-- from the user after the next one on, the way to a user is shorter by those before
shorter : (users row passed further : ℕ) →
    next_user users (next_user users row passed) further
    ≡ next_user users row (passed + 1 + further)
shorter users row passed further =
    let here = (row + passed) % users in
    let apart : here + 1 + further ≡ here + (1 + further) = omega arith in
    let together : row + passed + (1 + further) ≡ row + (passed + 1 + further) = omega arith in
    ap (λ k. k % users + 1) apart
    ∙ ap (λ k. k + 1) (mod-add-mod (row + passed) users (1 + further))
    ∙ ap (λ k. k % users + 1) together

nearer : (users row away : ℕ) (take : Take) → IsNextUser users row take → take.passed < away →
    next_user users take.user (away - take.passed - 1) ≡ next_user users row away
nearer users row away take next further =
    let rest = away - take.passed - 1 in
    let whole : take.passed + 1 + rest ≡ away = omega (arith, further) in
    ap (λ k. next_user users k rest) next.1
    ∙ shorter users row take.passed rest
    ∙ ap (next_user users row) whole

within : (users row user away : ℕ) (takes : List Take) → next_user users row away ≡ user →
    AreNextUsers users row takes → AreWithout users row user takes → length takes ≤ away
within users row user away [] there nexts without = omega arith
within users row user away (take ∷ later) there nexts without =
    let further = beyond users row user away take there nexts.0 without.0 in
    let rest = within users take.user user (away - take.passed - 1) later
    (nearer users row away take nexts.0 further ∙ there) nexts.1 without.1 in
    omega (arith, further, rest)

-- how far it is from a row to a user, round all users
way : ℕ → ℕ → ℕ → ℕ
way users row user = (user - 1 + (users - row % users)) % users

there_by_way : (users row user : ℕ) → 0 < user → user ≤ users →
    next_user users row (way users row user) ≡ user
unfolding way
there_by_way users row user some few =
    let some_users : 0 < users = omega (arith, some, few) in
    let begun : row % users < users = mod-lt row some_users in
    let far = user - 1 + (users - row % users) in
    let round : row % users + far ≡ user - 1 + users = omega (arith, begun) in
    let near : user - 1 < users = omega (arith, some, few) in
    let back : user - 1 + 1 ≡ user = omega (arith, some) in
    ap (λ k. k + 1)
    (add-mod-mod row far users
    ∙ sym (mod-add-mod row users far)
    ∙ ap (λ k. k % users) round
    ∙ add-mod_right (user - 1) users
    ∙ mod-eq_of_lt near)
    ∙ back

way_below : (users row user : ℕ) → 0 < user → user ≤ users → way users row user < users
unfolding way
way_below users row user some few =
    mod-lt (user - 1 + (users - row % users)) (omega (arith, some, few))

pub users_are_served_in_rounds : UsersAreServedInRounds
users_are_served_in_rounds users row user takes some few nexts without =
    let far = way users row user in
    let most = within users row user far takes (there_by_way users row user some few) nexts without in
    let below = way_below users row user some few in
    omega (arith, most, below)
