-- Whether two keys are one.
use Rattle.std.specs.Prelude.{Bool}
use Rattle.pyc_reading.specs.Keys.{Key, same_key}

unfoldable pub is_same : Key → Key → Bool
is_same key other = same_key key other
