-- What a key feeds a hasher: one key feeds the same each time.
use Rattle.std.specs.Prelude.{IsTrue, ◌≡◌, ◌++◌}
use Rattle.std.proofs.Common.{ap, sym}
use Rattle.std.specs.Hash as fed
use Rattle.pyc_class_ids.specs.ClassHash.{hash_input}
use Rattle.pyc_keys.specs.KeyEquality.{is_asked, keys_are}
use Rattle.pyc_reading.specs.Keys.{Key, has_module, has_name, name, class, member, export}

-- the names that stand in a key, but for what is asked of them
abbrev pub key_input : Key → fed.HashWrites
key_input (has_module m) = fed.slice fed.str m
key_input (has_name q) = fed.slice fed.str q.module_path ++ fed.str q.name
key_input (name q) = fed.slice fed.str q.module_path ++ fed.str q.name
key_input (class c) = hash_input c
key_input (member a) = hash_input a.class ++ fed.str a.name
key_input (export q) = fed.slice fed.str q.module_path ++ fed.str q.name

-- one key feeds the same each time
pub same_key_fed : (a b : Key) → IsTrue (is_asked a b) → key_input a ≡ key_input b
same_key_fed a b same = ap key_input (sym (keys_are b a same))
