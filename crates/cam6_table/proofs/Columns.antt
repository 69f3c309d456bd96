-- What a lane's stack is, after rows were written.
use Rattle.std.proofs.Common.{◌≡◌, ◌≢◌, ◌∙◌, ◌<◌, ◌≤◌, ◌+◌, ◌-◌, ℕ, zero, suc, List, [], ◌∷◌, ◌++◌}
use Rattle.std.proofs.Common.{length, slice_index, slice_set, ap, sym, refl, arith, inl, inr}
use Rattle.std.proofs.lemmas.Bool.{cases_eq}
use Rattle.std.proofs.lemmas.List.{get_or-set_same, get_or-set_other}
use Rattle.cam6_table.specs.Words.{Values}
use Rattle.cam6_table.specs.Internal.Lanes.{column, value_at, values_from}

pub length_values : (lane floor count : ℕ) (rows : List (List ℕ)) →
    length (values_from lane rows floor count) ≡ count
length_values lane floor zero rows = refl
length_values lane floor (suc count) rows = ap suc (length_values lane floor count rows)

pub no_values : (lane from to : ℕ) (rows : List (List ℕ)) → to ≤ from →
    column lane rows from to ≡ []
no_values lane from to rows low =
    let none : to - from ≡ 0 = omega arith in
    ap (λ n. values_from lane rows from n) none

-- as many rows with the same values
pub same_values : (lane floor other : ℕ) (rows others : List (List ℕ)) (count : ℕ) →
    ((k : ℕ) → k < count → value_at lane rows (floor + k) ≡ value_at lane others (other + k)) →
    values_from lane rows floor count ≡ values_from lane others other count
same_values lane floor other rows others zero same = refl
same_values lane floor other rows others (suc count) same =
    ap (λ v. v ∷ values_from lane rows floor count) (same count (omega arith)) ∙
    ap (λ (c : Values). value_at lane others (other + count) ∷ c)
    (same_values lane floor other rows others count (λ k below. same k (omega (arith, below))))

-- a stack whose rows have the same values
pub same_column : (lane floor : ℕ) (rows others : List (List ℕ)) (top : ℕ) →
    ((row : ℕ) → row < top → value_at lane rows row ≡ value_at lane others row) →
    column lane rows floor top ≡ column lane others floor top
same_column lane floor rows others top same =
    same_values lane floor floor rows others (top - floor)
    (λ k below. same (floor + k) (omega (arith, below)))

-- a stack whose rows were moved
pub moved_column : (lane floor top after end : ℕ) (rows others : List (List ℕ)) →
    end - after ≡ top - floor →
    ((k : ℕ) → k < top - floor → value_at lane rows (after + k) ≡ value_at lane others (floor + k)) →
    column lane rows after end ≡ column lane others floor top
moved_column lane floor top after end rows others high same =
    ap (λ n. values_from lane rows after n) high ∙
    same_values lane after floor rows others (top - floor) same

-- the top value, and the stack below it
pub column_at : (lane : ℕ) (rows : List (List ℕ)) (floor top below : ℕ) → floor ≤ below →
    top ≡ below + 1 →
    column lane rows floor top ≡ value_at lane rows below ∷ column lane rows floor below
column_at lane rows floor top below low is =
    let next : top - floor ≡ suc (below - floor) = omega arith in
    let there : floor + (below - floor) ≡ below = omega arith in
    ap (λ n. values_from lane rows floor n) next ∙
    ap (λ k. value_at lane rows k ∷ values_from lane rows floor (below - floor)) there

split_values : (lane floor some mid : ℕ) (rows : List (List ℕ)) (more all : ℕ) →
    all ≡ some + more → mid ≡ floor + some →
    values_from lane rows floor all
    ≡ values_from lane rows mid more ++ values_from lane rows floor some
split_values lane floor some mid rows zero all is at =
    let same : all ≡ some = omega arith in
    ap (λ n. values_from lane rows floor n) same
split_values lane floor some mid rows (suc more) all is at =
    let next : all ≡ suc (some + more) = omega arith in
    let there : floor + (some + more) ≡ mid + more = omega arith in
    ap (λ n. values_from lane rows floor n) next ∙
    ap (λ k. value_at lane rows k ∷ values_from lane rows floor (some + more)) there ∙
    ap (λ (c : Values). value_at lane rows (mid + more) ∷ c)
    (split_values lane floor some mid rows more (some + more) refl at)

-- a stack is what is above a row, on what is below it
pub split_column : (lane floor mid top : ℕ) (rows : List (List ℕ)) → floor ≤ mid → mid ≤ top →
    column lane rows floor top ≡ column lane rows mid top ++ column lane rows floor mid
split_column lane floor mid top rows low high =
    split_values lane floor (mid - floor) mid rows (top - mid) (top - floor) (omega arith)
    (omega arith)

module _ (lane : ℕ) (rows : List (List ℕ)) (k : ℕ) (row : List ℕ) where
  -- a row above it is of no account
  pub column_below : (floor top : ℕ) → top ≤ k →
      column lane (slice_set rows k row) floor top ≡ column lane rows floor top
  column_below floor top low =
      same_column lane floor (slice_set rows k row) rows top (λ j below.
      ap (λ (r : List ℕ). slice_index r lane)
      (get_or-set_other rows k j row [] (omega (arith, below, low))))

  -- nor is a row that has the same value in the lane
  pub column_kept : k < length rows → slice_index row lane ≡ value_at lane rows k →
      (floor top : ℕ) → column lane (slice_set rows k row) floor top ≡ column lane rows floor top
  column_kept within same floor top =
      same_column lane floor (slice_set rows k row) rows top (λ j below.
      elim (cases_eq j k) [
        | inl is ↦ rw (is, get_or-set_same rows k row [] within) same
        | inr other ↦ ap (λ (r : List ℕ). slice_index r lane)
            (get_or-set_other rows k j row [] other)
      ])

  -- a row on top brings its value
  pub column_more : (floor top v : ℕ) → k < length rows → floor ≤ k → top ≡ k + 1 →
      slice_index row lane ≡ v →
      column lane (slice_set rows k row) floor top ≡ v ∷ column lane rows floor k
  column_more floor top v within low is same =
      column_at lane (slice_set rows k row) floor top k low is ∙
      ap (λ (r : List ℕ). slice_index r lane ∷ column lane (slice_set rows k row) floor k)
      (get_or-set_same rows k row [] within) ∙
      ap (λ u. u ∷ column lane (slice_set rows k row) floor k) same ∙
      ap (λ (c : Values). v ∷ c) (column_below floor k (omega arith))

-- a row was put in place of another one
module _ (rows : List (List ℕ)) (k : ℕ) (row : List ℕ) where
  pub value_put : (lane : ℕ) → k < length rows →
      value_at lane (slice_set rows k row) k ≡ slice_index row lane
  value_put lane within =
      ap (λ (r : List ℕ). slice_index r lane) (get_or-set_same rows k row [] within)

  pub value_of_other_row : (lane other : ℕ) → other ≢ k →
      value_at lane (slice_set rows k row) other ≡ value_at lane rows other
  value_of_other_row lane other apart =
      ap (λ (r : List ℕ). slice_index r lane) (get_or-set_other rows k other row [] apart)

  -- of the values of a lane that are the same in it
  pub value_kept : (lane other : ℕ) → k < length rows →
      slice_index row lane ≡ value_at lane rows k →
      value_at lane (slice_set rows k row) other ≡ value_at lane rows other
  value_kept lane other within same =
      elim (cases_eq other k) [
        | inl is ↦
            ap (λ j. value_at lane (slice_set rows k row) j) is ∙ value_put lane within ∙ same ∙
            sym (ap (λ j. value_at lane rows j) is)
        | inr apart ↦ value_of_other_row lane other apart
      ]
