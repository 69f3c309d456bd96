-- What is cached, as the map of tables has it.
use Rattle.std.proofs.Common.{◌≡◌, ℕ, zero, suc, ◌-◌, List, [], ◌∷◌, take, Bool, true, false}
use Rattle.std.proofs.Common.{true≢false, cond, Option, Some, None, is_some, refl, sym, ◌∙◌, ap}
use Rattle.std.proofs.Common.{subst, ◌||◌, ◌<◌, ◌≤◌, ◌==◌, length, map, not, arith}
use Rattle.std.proofs.Common.{◌⊎◌, inl, inr, Result, Ok, Err, OnOk, OnErr}
use Rattle.std.proofs.lemmas.List.{take-map, length-map}
use Rattle.std.specs.Map.{keys_of, lookup, lookup_entry, remove_entry}
use Rattle.std.specs.List.{AllByRecursion, IsDistinct, slice_get}
use Rattle.std.specs.Option.{option_map_or}
use Rattle.lru.specs.LruCache.{LruCache, promoted, put_entries, lru_cache, last_entry}
use Rattle.cam6_cache.specs.Keys.{TableKey, IsTrueFor, is_same_key}
use Rattle.cam6_cache.specs.Cached.{Cached, AreTrue, AreApart, is_cached, without, with_first}
use Rattle.cam6_cache.specs.Cached.{without_last, is_empty}
use Rattle.cam6_cache.specs.Limits.{max_capacity}
use Rattle.cam6_cache.specs.Internal.Entries.{key_of, tables_of, cached_of}
use Rattle.cam6_cache.specs.declared.keys.NamedKey.{NamedKey}
use Rattle.cam6_cache.specs.contracts.keys.NamedKeyPartialEq.TheImpl as impl
use Rattle.cam6_cache.proofs.SameKeys.{key-eq, key_is}

-- keys beside tables, as the map has them
abbrev pub Entries : Type 0
Entries = List (NamedKey × List ℕ)

module _ (k : NamedKey) where
  -- a key is found where there is a table of it
  pub found_where_cached : (es : Entries) →
      is_some (lookup (impl.eq-value.it k) es) ≡ is_cached (key_of k) (tables_of es)
  found_where_cached [] = refl
  found_where_cached (e ∷ es) =
      here (impl.eq-value.it k e.0) (found_where_cached es) ∙
      ap (λ b. b || is_cached (key_of k) (tables_of es)) (key-eq k e.0)
    where
      here : (b : Bool) →
          is_some (lookup (impl.eq-value.it k) es) ≡ is_cached (key_of k) (tables_of es) →
          is_some (cond b (Some e.1) (lookup (impl.eq-value.it k) es))
          ≡ (b || is_cached (key_of k) (tables_of es))
      here true h = refl
      here false h = h

  entry_where_cached : (es : Entries) →
      is_some (lookup_entry (impl.eq-value.it k) es) ≡ is_cached (key_of k) (tables_of es)
  entry_where_cached [] = refl
  entry_where_cached (e ∷ es) =
      here (impl.eq-value.it k e.0) (entry_where_cached es) ∙
      ap (λ b. b || is_cached (key_of k) (tables_of es)) (key-eq k e.0)
    where
      here : (b : Bool) →
          is_some (lookup_entry (impl.eq-value.it k) es) ≡ is_cached (key_of k) (tables_of es) →
          is_some (cond b (Some e) (lookup_entry (impl.eq-value.it k) es))
          ≡ (b || is_cached (key_of k) (tables_of es))
      here true h = refl
      here false h = h

  -- the others stay as they were
  without_where_removed : (es : Entries) →
      tables_of (remove_entry (impl.eq-value.it k) es) ≡ without (key_of k) (tables_of es)
  without_where_removed [] = refl
  without_where_removed (e ∷ es) =
      here (impl.eq-value.it k e.0) (without_where_removed es) ∙
      ap (λ b. cond b (tables_of es) ((key_of e.0, e.1) ∷ without (key_of k) (tables_of es)))
      (key-eq k e.0)
    where
      here : (b : Bool) →
          tables_of (remove_entry (impl.eq-value.it k) es) ≡ without (key_of k) (tables_of es) →
          tables_of (cond b es (e ∷ remove_entry (impl.eq-value.it k) es))
          ≡ cond b (tables_of es) ((key_of e.0, e.1) ∷ without (key_of k) (tables_of es))
      here true h = refl
      here false h = ap (λ l. (key_of e.0, e.1) ∷ l) h

  -- an entry that is found has the key, and the table that is found
  record IsEntryOf (es : Entries) (table : List ℕ) : Type 0 where
    pub entry : NamedKey × List ℕ
    pub found : lookup_entry (impl.eq-value.it k) es ≡ Some entry
    pub same : ◌≡◌ {A = TableKey × List ℕ} (key_of entry.0, entry.1) (key_of k, table)
    pub is_true : AreTrue (tables_of es) → IsTrueFor (key_of k) table

  entry_of : (es : Entries) (table : List ℕ) →
      lookup (impl.eq-value.it k) es ≡ Some table → IsEntryOf es table
  entry_of [] table h = cc
  entry_of (e ∷ es) table h = here (entry_of es table) (impl.eq-value.it k e.0) refl h
    where
      here : (lookup (impl.eq-value.it k) es ≡ Some table → IsEntryOf es table) → (b : Bool) →
          impl.eq-value.it k e.0 ≡ b →
          cond b (Some e.1) (lookup (impl.eq-value.it k) es) ≡ Some table →
          IsEntryOf (e ∷ es) table
      here later true same found =
          let key : key_of k ≡ key_of e.0 =
          key_is (key_of k) (key_of e.0) (sym (key-eq k e.0) ∙ same) in
          let its : e.1 ≡ table = cc in
          let pair : ◌≡◌ {A = TableKey × List ℕ} (key_of e.0, e.1) (key_of k, table) =
          ap (λ x. (x, e.1)) (sym key) ∙ ap (λ x. (key_of k, x)) its in
          record {
            entry = e;
            found = ap (λ b. cond b (Some e) (lookup_entry (impl.eq-value.it k) es)) same;
            same = pair;
            is_true = λ are.
                subst (λ (x : TableKey × List ℕ). IsTrueFor x.0 x.1) pair are.0;
          }
      here later false same found =
          let its = later found in
          record {
            entry = its.entry;
            found =
                ap (λ b. cond b (Some e) (lookup_entry (impl.eq-value.it k) es)) same ∙ its.found;
            same = its.same;
            is_true = λ are. its.is_true are.1;
          }

  -- what is found is true
  pub true_where_found : (es : Entries) (table : List ℕ) → AreTrue (tables_of es) →
      lookup (impl.eq-value.it k) es ≡ Some table → IsTrueFor (key_of k) table
  true_where_found es table are h = let its = entry_of es table h in its.is_true are

  promoted_tables : (es : Entries) (table : List ℕ) →
      lookup (impl.eq-value.it k) es ≡ Some table →
      tables_of (promoted (impl.eq-value.it k) es)
      ≡ (key_of k, table) ∷ without (key_of k) (tables_of es)
  promoted_tables es table h =
      let its = entry_of es table h in
      let others = remove_entry (impl.eq-value.it k) es in
      ap (λ o. tables_of (option_map_or (λ e. e ∷ others) o es)) its.found ∙
      ap (λ x. x ∷ tables_of others) its.same ∙
      ap (λ l. (key_of k, table) ∷ l) (without_where_removed es)

  put_tables : (es : Entries) (capacity : ℕ) (table : List ℕ) →
      is_cached (key_of k) (tables_of es) ≡ false →
      tables_of (put_entries impl.eq-value.it (lru_cache es capacity) k table)
      ≡ (key_of k, table) ∷ take (capacity - 1) (tables_of es)
  put_tables es capacity table absent = here (lookup_entry (impl.eq-value.it k) es) refl
    where
      here : (o : Option (NamedKey × List ℕ)) → lookup_entry (impl.eq-value.it k) es ≡ o →
          tables_of
          (option_map_or (λ e. (e.0, table) ∷ remove_entry (impl.eq-value.it k) es) o
          ((k, table) ∷ take (capacity - 1) es))
          ≡ (key_of k, table) ∷ take (capacity - 1) (tables_of es)
      here None found =
          ap (λ l. (key_of k, table) ∷ l)
          (sym (take-map (λ (e : NamedKey × List ℕ). (key_of e.0, e.1)) (capacity - 1) es))
      here (Some e) found =
          absurd (true≢false (sym (ap is_some found) ∙ entry_where_cached es ∙ absent))

abbrev cached : ℕ → List (TableKey × List ℕ) → Cached
cached capacity tables = record { tables = tables; capacity = capacity }

-- a table of a key that is cached goes first, and leaves where it was
first_of_cached : (key : TableKey) (table : List ℕ) (cached : Cached) →
    is_cached key cached.tables ≡ true →
    record cached { tables = (key, table) ∷ without key cached.tables } ≡ with_first key table cached
first_of_cached key table cached is =
    ap
    (λ b. record cached {
      tables = (key, table) ∷ cond b (without key cached.tables)
          (take (cached.capacity - 1) cached.tables);
    })
    (sym is)

-- one of a key that isn't cached goes first, and the last leaves
first_of_new : (key : TableKey) (table : List ℕ) (cached : Cached) →
    is_cached key cached.tables ≡ false →
    record cached { tables = (key, table) ∷ take (cached.capacity - 1) cached.tables }
    ≡ with_first key table cached
first_of_new key table cached absent =
    ap
    (λ b. record cached {
      tables = (key, table) ∷ cond b (without key cached.tables)
          (take (cached.capacity - 1) cached.tables);
    })
    (sym absent)

-- what a hit keeps
pub cached_where_promoted : (k : NamedKey) (cache new : LruCache NamedKey (List ℕ))
    (table : List ℕ) → lookup (impl.eq-value.it k) cache.entries ≡ Some table →
    new ≡ lru_cache (promoted (impl.eq-value.it k) cache.entries) cache.cap →
    cached_of new ≡ with_first (key_of k) table (cached_of cache)
cached_where_promoted k cache new table found is =
    ap cached_of is ∙
    ap (cached cache.cap)
    (promoted_tables k cache.entries table found) ∙
    first_of_cached (key_of k) table (cached_of cache)
    (sym (found_where_cached k cache.entries) ∙ ap is_some found)

-- what a put keeps
pub cached_where_put : (k : NamedKey) (key : TableKey) (cache new : LruCache NamedKey (List ℕ))
    (table : List ℕ) → key_of k ≡ key → is_cached key (tables_of cache.entries) ≡ false →
    new ≡ lru_cache (put_entries impl.eq-value.it cache k table) cache.cap →
    cached_of new ≡ with_first key table (cached_of cache)
cached_where_put k key cache new table named absent is =
    let own_absent : is_cached (key_of k) (tables_of cache.entries) ≡ false =
    ap (λ x. is_cached x (tables_of cache.entries)) named ∙ absent in
    ap cached_of is ∙
    ap (cached cache.cap)
    (put_tables k cache.entries cache.cap table own_absent) ∙
    first_of_new (key_of k) table (cached_of cache) own_absent ∙
    ap (λ x. with_first x table (cached_of cache)) named

-- after a put, whether or not there was memory
pub cached_or_not : {E T : Type 0} (r : Result T E) (k : NamedKey) (key : TableKey)
    (cache new : LruCache NamedKey (List ℕ)) (table : List ℕ) → key_of k ≡ key →
    is_cached key (tables_of cache.entries) ≡ false →
    OnOk r (new ≡ lru_cache (put_entries impl.eq-value.it cache k table) cache.cap) →
    OnErr r (new ≡ cache) →
    (cached_of new ≡ with_first key table (cached_of cache)) ⊎ (cached_of new ≡ cached_of cache)
cached_or_not (Ok x) k key cache new table named absent ok err =
    inl (cached_where_put k key cache new table named absent ok)
cached_or_not (Err e) k key cache new table named absent ok err = inr (ap cached_of err)

-- what is cached without the last
pub cached_where_popped : (cache new : LruCache NamedKey (List ℕ)) →
    new ≡ lru_cache (take (length cache.entries - 1) cache.entries) cache.cap →
    cached_of new ≡ without_last (cached_of cache)
cached_where_popped cache new is =
    let named : NamedKey × List ℕ → TableKey × List ℕ = λ e. (key_of e.0, e.1) in
    ap cached_of is ∙
    ap (cached cache.cap)
    (sym (take-map named (length cache.entries - 1) cache.entries) ∙
    ap (λ n. take (n - 1) (tables_of cache.entries)) (sym (length-map cache.entries named)))

are_true_without : (key : TableKey) (tables : List (TableKey × List ℕ)) → AreTrue tables →
    AreTrue (without key tables)
are_true_without key [] are = tt
are_true_without key (t ∷ tables) are =
    here (is_same_key key t.0) (are_true_without key tables are.1)
  where
    here : (b : Bool) → AreTrue (without key tables) →
        AreTrue (cond b tables (t ∷ without key tables))
    here true others = are.1
    here false others = (are.0, others)

pub are_true_take : (n : ℕ) (tables : List (TableKey × List ℕ)) → AreTrue tables →
    AreTrue (take n tables)
are_true_take zero tables are = tt
are_true_take (suc n) [] are = tt
are_true_take (suc n) (t ∷ tables) are = (are.0, are_true_take n tables are.1)

pub are_true_with_first : (key : TableKey) (table : List ℕ) (cached : Cached) → IsTrueFor key table →
    AreTrue cached.tables → AreTrue (with_first key table cached).tables
are_true_with_first key table cached is are = here (is_cached key cached.tables)
  where
    here : (b : Bool) →
        AreTrue
        ((key, table) ∷ cond b (without key cached.tables) (take (cached.capacity - 1) cached.tables))
    here true = (is, are_true_without key cached.tables are)
    here false = (is, are_true_take (cached.capacity - 1) cached.tables are)

-- what holds of every cache: its tables are true, and it may keep only so many
abbrev pub IsInOrder : Cached → Type 0
IsInOrder cached = AreTrue cached.tables × (cached.capacity ≤ max_capacity)

pub in_order_with_first : (key : TableKey) (table : List ℕ) (old new : Cached) →
    IsTrueFor key table → IsInOrder old → new ≡ with_first key table old → IsInOrder new
in_order_with_first key table old new is are same =
    subst IsInOrder (sym same) (are_true_with_first key table old is are.0, are.1)

-- whether or not there was memory
pub in_order_or_not : (key : TableKey) (table : List ℕ) (old new : Cached) →
    IsTrueFor key table → IsInOrder old → (new ≡ with_first key table old) ⊎ (new ≡ old) →
    IsInOrder new
in_order_or_not key table old new is are (inl same) =
    in_order_with_first key table old new is are same
in_order_or_not key table old new is are (inr same) = subst IsInOrder (sym same) are

apart_from : (k : NamedKey) (es : Entries) →
    AllByRecursion (λ l. impl.eq-value.it k l ≡ false) (keys_of es) →
    AllByRecursion (λ key. is_same_key (key_of k) key ≡ false) (map (λ t. t.0) (tables_of es))
apart_from k [] are = tt
apart_from k (e ∷ es) are = (sym (key-eq k e.0) ∙ are.0, apart_from k es are.1)

-- keys that are apart in memory are apart
pub are_apart : (es : Entries) → IsDistinct impl.eq-value.it (keys_of es) →
    AreApart (tables_of es)
unfolding IsDistinct
are_apart [] are = tt
are_apart (e ∷ es) are = (apart_from e.0 es are.0, are_apart es are.1)

there_is_one : (e : NamedKey × List ℕ) (es : Entries) (i : ℕ) → i < suc (length es) →
    is_some (slice_get (e ∷ es) i) ≡ true
there_is_one e es zero h = refl
there_is_one e [] (suc i) h = absurd (omega arith)
there_is_one e (f ∷ es) (suc i) h = there_is_one f es i (omega arith)

not_zero : (n : ℕ) → (suc n == 0) ≡ false
not_zero n = grind arith

-- there is a last one unless nothing is cached
pub last_unless_empty : (es : Entries) →
    is_some (last_entry es) ≡ not (is_empty (tables_of es))
last_unless_empty [] = refl
last_unless_empty (e ∷ es) =
    there_is_one e es (length (e ∷ es) - 1) (omega arith) ∙
    ap not (sym (not_zero (length (tables_of es))))
