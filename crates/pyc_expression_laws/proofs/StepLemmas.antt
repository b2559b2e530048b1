-- Readings that ask files alone, from their parts.
use Rattle.std.proofs.Common.{◌≡◌, Bool, true, false, if◌then◌else◌, List, [], ◌∷◌, ◌++◌, refl, sym, subst}
use Rattle.pyc_class_ids.specs.Class.{Id, builtin, user}
use Rattle.pyc_expression_laws.specs.FileKeys.{AsksFiles, OfFiles, is_of_files}
use Rattle.pyc_expression_laws.proofs.AskedLemmas.{asked-and_then}
use Rattle.pyc_expression_laws.specs.Rows.{Answers}
use Rattle.pyc_reading.specs.Answers.{Answer}
use Rattle.pyc_reading.specs.Traces.{Step}
use Rattle.pyc_reading.specs.Keys.{Key}
use Rattle.pyc_reading.specs.Owing.{Detail, Obligation, class_keys, detail_keys, keys_of, pair_keys, row_keys, written}
use Rattle.pyc_reading.specs.Readings.{Done, Ask, Report, Require, and_then, asked, each, result_of}
use Rattle.pyc_report.specs.Message.{Diagnostic}

-- ---- lists of keys

pub of-append : (ks ls : List Key) → OfFiles ks → OfFiles ls → OfFiles (ks ++ ls)
of-append [] ls first second = second
of-append (k ∷ ks) ls (one, first) second = (one, of-append ks ls first second)

pub of-latter : (ks ls : List Key) → OfFiles (ks ++ ls) → OfFiles ls
of-latter [] ls all = all
of-latter (k ∷ ks) ls (one, rest) = of-latter ks ls rest

-- the orders of classes are asked of sources alone
pub of-classes : (classes : List Id) → OfFiles (class_keys classes)
of-classes [] = tt
of-classes (builtin c ∷ classes) = of-classes classes
of-classes (user m x ∷ classes) = (refl, of-classes classes)

of-details : (details : List Detail) → OfFiles (detail_keys details)
of-details [] = tt
of-details (d ∷ rest) = of-append (pair_keys d.got d.want) (detail_keys rest) (of-classes (written d.got ++ written d.want)) (of-details rest)

of-keys_of : (o : Obligation) → OfFiles (keys_of o)
of-keys_of o = of-append (pair_keys o.got o.want) (detail_keys o.details) (of-classes (written o.got ++ written o.want)) (of-details o.details)

pub of-row : (row : List Obligation) → OfFiles (row_keys row)
of-row [] = tt
of-row (o ∷ rest) = of-append (keys_of o) (row_keys rest) (of-keys_of o) (of-row rest)

-- ---- readings

-- a reading asks files alone
pub record Files {A : Type 0} (r : Step A) : Type 0 where
  pub all : AsksFiles r

pub files_done : {A : Type 0} {a : A} → Files (Done a)
files_done = record { all = λ answers. tt }

pub files_ask : {A : Type 0} {key : Key} {go : Answer → Step A} → is_of_files key ≡ true → ((answer : Answer) → Files (go answer)) → Files (Ask key go)
files_ask {A} {key} {go} one rest = record { all = λ answers. (one, (rest (answers key)).all answers) }

pub files_report : {A : Type 0} {diagnostic : Diagnostic} {r : Step A} → Files r → Files (Report diagnostic r)
files_report rest = record { all = λ answers. rest.all answers }

pub files_require : {A : Type 0} {row : List Obligation} {r : Step A} → Files r → Files (Require row r)
files_require {A} {row} {r} rest = record { all = λ answers. of-append (row_keys row) (asked answers r) (of-row row) (rest.all answers) }

-- one reading after another
pub files_then : {A B : Type 0} (r : Step A) (next : A → Step B) → Files r → ((a : A) → Files (next a)) → Files (and_then r next)
files_then r next first second =
    record {
      all = λ answers.
          subst OfFiles (sym (asked-and_then answers r next))
          (of-append (asked answers r) (asked answers (next (result_of answers r))) (first.all answers) ((second (result_of answers r)).all answers));
    }

-- what one reading after another comes to
pub result-and_then : {A B : Type 0} (answers : Answers) (r : Step A) (next : A → Step B) → result_of answers (and_then r next) ≡ result_of answers (next (result_of answers r))
unfolding and_then
result-and_then answers (Done a) next = refl
result-and_then answers (Ask key go) next = result-and_then answers (go (answers key)) next
result-and_then answers (Report diagnostic rest) next = result-and_then answers rest next
result-and_then answers (Require row rest) next = result-and_then answers rest next

-- one reading after another, by what the first comes to
pub files_after : {A B : Type 0} (r : Step A) (next : A → Step B) → Files r → ((answers : Answers) → Files (next (result_of answers r))) → Files (and_then r next)
files_after r next first second =
    record {
      all = λ answers.
          subst OfFiles (sym (asked-and_then answers r next))
          (of-append (asked answers r) (asked answers (next (result_of answers r))) (first.all answers) ((second answers).all answers));
    }

-- either of two readings
pub files_if : {A : Type 0} (b : Bool) (r s : Step A) → Files r → Files s → Files (if b then r else s)
files_if true r s first second = first
files_if false r s first second = second

-- a reading of either of two things
pub files_of_either : {X A : Type 0} (read : X → Step A) (b : Bool) (x y : X) → Files (read x) → Files (read y) → Files (read (if b then x else y))
files_of_either read true x y first second = first
files_of_either read false x y first second = second

-- one for each of some things
pub files_each : {X : Type 0} (read : X → Step (Unit {0})) (xs : List X) → ((x : X) → Files (read x)) → Files (each read xs)
files_each read [] all = files_done
files_each read (x ∷ xs) all = files_then (read x) (λ u. each read xs) (all x) (λ u. files_each read xs all)
