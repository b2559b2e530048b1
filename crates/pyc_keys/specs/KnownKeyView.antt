-- Keys that are held or sought.
use Rattle.pyc_reading.specs.Keys.{Key}
use Rattle.pyc_reading.specs.KeyView.{key_of}
use Rattle.pyc_keys.specs.declared.known_key.KeySource.{KeySource}
use Rattle.pyc_keys.specs.declared.known_key.KeySource.TheVariants as p

abbrev pub key_at_place : KeySource → Key
key_at_place (p.Held shared) = key_of shared.value
key_at_place (p.Sought key) = key_of key.now
