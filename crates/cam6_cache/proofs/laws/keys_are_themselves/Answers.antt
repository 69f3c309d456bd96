use Rattle.std.proofs.Common.{◌≡◌, true, subst}
use Rattle.cam6_cache.specs.Keys.{TableKey, is_same_key}
use Rattle.cam6_cache.proofs.SameKeys.{key_is, key_self}
use Rattle.cam6_cache.proofs.laws.keys_are_themselves.Goals as goal

pub returns : goal.returns
returns c = record {
  law = λ first second. (
    key_is first second,
    λ same. subst (λ (key : TableKey). is_same_key first key ≡ true) same (key_self first),
  );
}
