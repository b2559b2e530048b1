-- What readings one after another ask.
use Rattle.std.proofs.Common.{◌≡◌, Bool, true, false, if◌then◌else◌, List, [], ◌∷◌, ◌++◌, refl, ap, sym, ◌∙◌, append_assoc}
use Rattle.pyc_expression_laws.specs.Rows.{Answers}
use Rattle.pyc_reading.specs.Traces.{Step}
use Rattle.pyc_reading.specs.Keys.{Key}
use Rattle.pyc_reading.specs.Owing.{row_keys}
use Rattle.pyc_reading.specs.Readings.{Done, Ask, Report, Require, and_then, result_of, asked}

-- the keys of the one and then of the other
pub asked-and_then : {A B : Type 0} (answers : Answers) (r : Step A) (next : A → Step B)
    → asked answers (and_then r next) ≡ asked answers r ++ asked answers (next (result_of answers r))
unfolding and_then
asked-and_then answers (Done a) next = refl
asked-and_then answers (Ask key go) next = ap (λ l. key ∷ l) (asked-and_then answers (go (answers key)) next)
asked-and_then answers (Report diagnostic rest) next = asked-and_then answers rest next
asked-and_then answers (Require row rest) next =
    ap (λ l. row_keys row ++ l) (asked-and_then answers rest next)
    ∙ sym (append_assoc (row_keys row) (asked answers rest) (asked answers (next (result_of answers rest))))

-- the keys of the first reading alone, where the second asks nothing
pub asked-then_nothing : {A B : Type 0} (answers : Answers) (r : Step A) (next : A → Step B)
    → ((a : A) → asked answers (next a) ≡ []) → asked answers (and_then r next) ≡ asked answers r
unfolding and_then
asked-then_nothing answers (Done a) next nothing = nothing a
asked-then_nothing answers (Ask key go) next nothing = ap (λ l. key ∷ l) (asked-then_nothing answers (go (answers key)) next nothing)
asked-then_nothing answers (Report diagnostic rest) next nothing = asked-then_nothing answers rest next nothing
asked-then_nothing answers (Require row rest) next nothing = ap (λ l. row_keys row ++ l) (asked-then_nothing answers rest next nothing)

-- nothing, or the keys of a reading
pub asked-unless : {A : Type 0} (answers : Answers) (b : Bool) (a : A) (r : Step A)
    → asked answers (if b then Done a else r) ≡ (if b then [] else asked answers r)
asked-unless answers true a r = refl
asked-unless answers false a r = refl

-- what a reading of either of two things asks, where it asks the same of both
pub asked-either : {X A : Type 0} (answers : Answers) (read : X → Step A) (keys : List Key) (b : Bool) (x y : X)
    → asked answers (read x) ≡ keys → asked answers (read y) ≡ keys → asked answers (read (if b then x else y)) ≡ keys
asked-either answers read keys true x y first second = first
asked-either answers read keys false x y first second = second

-- what `read` asks of `x` or of `y`, where it asks the keys `these` of `x` and the keys `those` of `y`
pub asked-by : {X A : Type 0} (answers : Answers) (read : X → Step A) (b : Bool) (x y : X) (these those : List Key)
    → asked answers (read x) ≡ these → asked answers (read y) ≡ those → asked answers (read (if b then x else y)) ≡ (if b then these else those)
asked-by answers read true x y these those first second = first
asked-by answers read false x y these those first second = second
