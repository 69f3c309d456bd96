-- How the code keeps tables: in a map, beside keys whose texts lie in memory.
use Rattle.std.specs.Prelude.{ℕ, List, map, string_bytes}
use Rattle.lru.specs.LruCache.{LruCache}
use Rattle.cam6_cache.specs.declared.keys.NamedKey.{NamedKey}
use Rattle.cam6_cache.specs.Keys.{TableKey}
use Rattle.cam6_cache.specs.Cached.{Cached}

-- a key, wherever its text lies
abbrev pub key_of : NamedKey → TableKey
key_of key =
    record {
      wiring = record { half = key.half; hood = key.hood; minor = key.minor };
      text = string_bytes key.text;
      inverted = key.inverted;
    }

-- the tables by their keys
abbrev pub tables_of : List (NamedKey × List ℕ) → List (TableKey × List ℕ)
tables_of entries = map (λ e. (key_of e.0, e.1)) entries

-- what a cache keeps
abbrev pub cached_of : LruCache NamedKey (List ℕ) → Cached
cached_of cache = record { tables = tables_of cache.entries; capacity = cache.cap }
