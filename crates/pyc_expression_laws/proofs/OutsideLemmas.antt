-- What a name of a module asks, as other files see it, and what it comes to.
use Rattle.std.proofs.Common.{◌≡◌, ℕ, Bool, true, false, if◌then◌else◌, List, [], ◌∷◌, refl, ap}
use Rattle.pyc_expression_laws.specs.AttributeRows.{outside_at, outside_keys}
use Rattle.pyc_expression_laws.specs.Rows.{Answers, name_at, name_key}
use Rattle.pyc_names.specs.Following.{QualifiedName}
use Rattle.pyc_reading.specs.Answers.{NameAnswer}
use Rattle.pyc_reading.specs.Keys as key
use Rattle.pyc_reading.specs.Outside.{ask_export, ask_outside, export_in, exported, may_be_hidden}
use Rattle.pyc_reading.specs.Readings.{Done, and_then, asked, result_of}

export-asks : (answers : Answers) (q : QualifiedName) (found : NameAnswer) (b : Bool)
    → asked answers (if b then and_then (ask_export q) (λ passed_on. Done (exported q found passed_on)) else Done found)
    ≡ (if b then key.export q ∷ [] else [])
unfolding and_then
export-asks answers q found true = refl
export-asks answers q found false = refl

pub outside-asks : (answers : Answers) (m : List (List ℕ)) (n : List ℕ) → asked answers (ask_outside (record { module_path = m; name = n })) ≡ outside_keys answers m n
unfolding and_then
outside-asks answers m n =
    ap (λ l. name_key m n ∷ l) (export-asks answers (record { module_path = m; name = n }) (name_at answers m n) (may_be_hidden (name_at answers m n).kind))

export-comes : (answers : Answers) (q : QualifiedName) (found : NameAnswer) (b : Bool)
    → result_of answers (if b then and_then (ask_export q) (λ passed_on. Done (exported q found passed_on)) else Done found)
    ≡ (if b then exported q found (export_in (answers (key.export q))) else found)
unfolding and_then
export-comes answers q found true = refl
export-comes answers q found false = refl

pub outside-comes : (answers : Answers) (m : List (List ℕ)) (n : List ℕ) → result_of answers (ask_outside (record { module_path = m; name = n })) ≡ outside_at answers m n
unfolding and_then
outside-comes answers m n =
    export-comes answers (record { module_path = m; name = n }) (name_at answers m n) (may_be_hidden (name_at answers m n).kind)
