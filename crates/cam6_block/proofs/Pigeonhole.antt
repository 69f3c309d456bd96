-- A map of the numbers below n to themselves, of which no two have one successor, takes each of them.
use Rattle.std.proofs.Common.{◌≡◌, ◌≢◌, ◌⊎◌, inl, inr, ℕ, zero, suc, ◌<◌, ◌==◌, if◌then◌else◌}
use Rattle.std.proofs.Common.{sym, ◌∙◌, ap, arith}
use Rattle.std.proofs.lemmas.Bool.Decides.{eqb_tells}
use native.Mathlib.Decide.{dec_lt}
use Rattle.cam6_block.specs.Laws.{TakesEach}

abbrev pub IsOneToOneBelow : ℕ → (ℕ → ℕ) → Type 0
IsOneToOneBelow n f = (s t : ℕ) → s < n → t < n → f s ≡ f t → s ≡ t

-- f with its value at n instead of the value m
abbrev moved : (ℕ → ℕ) → ℕ → ℕ → ℕ → ℕ
moved f n m i = if f i == m then f n else f i

moved_at : (f : ℕ → ℕ) (n m i : ℕ) →
    ((f i ≡ m) × (moved f n m i ≡ f n)) ⊎ ((f i ≢ m) × (moved f n m i ≡ f i))
moved_at f n m i =
    elim (eqb_tells (f i) m) [
      | inl e ↦ inl (e.1, ap (λ b. if b then f n else f i) e.0)
      | inr e ↦ inr (e.1, ap (λ b. if b then f n else f i) e.0)
    ]

-- n + 1 numbers don't go into n
none_too_many : (n : ℕ) (f : ℕ → ℕ) → ((i : ℕ) → i < suc n → f i < n) →
    IsOneToOneBelow (suc n) f → ⊥
none_too_many zero f below one = let h : f 0 < 0 = below 0 (omega arith) in omega arith
none_too_many (suc m) f below one =
    none_too_many m (moved f (suc m) m)
    (λ i h.
    let fi : f i < suc m = below i (omega arith) in
    let fn : f (suc m) < suc m = below (suc m) (omega arith) in
    elim (moved_at f (suc m) m i) [
      | inl e ↦
          let e0 : f i ≡ m = e.0 in
          let e1 : moved f (suc m) m i ≡ f (suc m) = e.1 in
          let ne : f (suc m) ≢ m = (λ k.
          let bad : i ≡ suc m = one i (suc m) (omega arith) (omega arith) (e0 ∙ sym k) in
          absurd (omega arith)) in
          omega arith
      | inr e ↦
          let e0 : f i ≢ m = e.0 in
          let e1 : moved f (suc m) m i ≡ f i = e.1 in
          omega arith
    ])
    (λ s t h k e.
    elim (moved_at f (suc m) m s) [
      | inl a ↦ elim (moved_at f (suc m) m t) [
        | inl b ↦ one s t (omega arith) (omega arith) (a.0 ∙ sym (b.0))
        | inr b ↦
            let bad : suc m ≡ t =
            one (suc m) t (omega arith) (omega arith) (sym (a.1) ∙ e ∙ b.1) in
            absurd (omega arith)
      ]
      | inr a ↦ elim (moved_at f (suc m) m t) [
        | inl b ↦
            let bad : s ≡ suc m =
            one s (suc m) (omega arith) (omega arith) (sym (a.1) ∙ e ∙ b.1) in
            absurd (omega arith)
        | inr b ↦ one s t (omega arith) (omega arith) (sym (a.1) ∙ e ∙ b.1)
      ]
    ])

-- a value is taken below n, or not
pub found : (f : ℕ → ℕ) (t n : ℕ) →
    ((s : ℕ) × (s < n) × (f s ≡ t)) ⊎ ((s : ℕ) → s < n → f s ≢ t)
found f t zero = inr (λ s h. absurd (omega arith))
found f t (suc n) =
    elim (found f t n) [
      | inl e ↦ inl (e.0, omega (arith, e.1), e.2)
      | inr none ↦ elim (eqb_tells (f n) t) [
        | inl e ↦ inl (n, omega arith, e.1)
        | inr e ↦ inr (λ s h. elim (dec_lt s n) [
          | Prim.yes k ↦ none s k
          | Prim.no k ↦ let same : s ≡ n = omega arith in λ p. e.1 (ap f (sym same) ∙ p)
        ])
      ]
    ]

-- f, and t at n
abbrev with_value : (ℕ → ℕ) → ℕ → ℕ → ℕ → ℕ
with_value f n t i = if i == n then t else f i

with_value_at : (f : ℕ → ℕ) (n t i : ℕ) →
    ((i ≡ n) × (with_value f n t i ≡ t)) ⊎ ((i ≢ n) × (with_value f n t i ≡ f i))
with_value_at f n t i =
    elim (eqb_tells i n) [
      | inl e ↦ inl (e.1, ap (λ b. if b then t else f i) e.0)
      | inr e ↦ inr (e.1, ap (λ b. if b then t else f i) e.0)
    ]

pub takes_each_below : (n : ℕ) (f : ℕ → ℕ) → ((i : ℕ) → i < n → f i < n) → IsOneToOneBelow n f →
    (t : ℕ) → t < n → (s : ℕ) × (s < n) × (f s ≡ t)
takes_each_below n f below one t h =
    elim (found f t n) [
      | inl e ↦ e
      | inr none ↦ absurd (none_too_many n (with_value f n t)
          (λ i k. elim (with_value_at f n t i) [
            | inl e ↦ omega (arith, e.1)
            | inr e ↦
                let ne : i ≢ n = e.0 in
                let fi : f i < n = below i (omega arith) in
                omega (arith, e.1)
          ])
          (λ s u k l e. elim (with_value_at f n t s) [
            | inl a ↦ elim (with_value_at f n t u) [
              | inl b ↦ a.0 ∙ sym (b.0)
              | inr b ↦
                  let ne : u ≢ n = b.0 in
                  absurd (none u (omega arith) (sym (b.1) ∙ sym e ∙ a.1))
            ]
            | inr a ↦ let nes : s ≢ n = a.0 in elim (with_value_at f n t u) [
              | inl b ↦ absurd (none s (omega arith) (sym (a.1) ∙ e ∙ b.1))
              | inr b ↦
                  let ne : u ≢ n = b.0 in
                  one s u (omega arith) (omega arith) (sym (a.1) ∙ e ∙ b.1)
            ]
          ]))
    ]

pub takes_each : TakesEach
takes_each f below one successor h = takes_each_below 256 f below one successor h
