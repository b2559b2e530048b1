-- Files that stand where they stood, and for which nothing is to be done.
use Rattle.std.proofs.Common.{◌≡◌, ◌<◌, ◌+◌, ℕ, zero, suc, Bool, List, [], ◌∷◌, ◌++◌, length, get_or, map, flat_map, take, refl, sym, ap, ◌∙◌, arith}
use Rattle.std.proofs.lemmas.List.{get_or-map, length-map, map-append, take_more}
use Rattle.std.specs.declared.alloc.Global.{Global}
use Rattle.std.specs.declared.rc.Rc.{Rc}
use Rattle.pyc_reuse.specs.declared.file_result.FileResult.{FileResult as FileResultOf}
use Rattle.pyc_reuse.specs.declared.file_status.FileStatus.{FileStatus as FileStatusOf}
use Rattle.pyc_reuse.specs.FileResultView.{reads_in}
use Rattle.pyc_reuse.specs.FileStatuses.{AreInPlace, FileStatus, all, nothing, flagged, file_status_in, nothing_from}

abbrev form : FileStatus → ℕ
form all = 0
form (nothing place) = 1
form (flagged place flags) = 2

abbrev place_of : FileStatus → ℕ
place_of all = 0
place_of (nothing place) = place
place_of (flagged place flags) = place

pub not_all : (place : ℕ) → all ≡ nothing place → ⊥
not_all place is = let bad : 0 ≡ 1 = ap form is in absurd (omega (arith, bad))

pub not_flagged : (other place : ℕ) {flags : List Bool} → flagged other flags ≡ nothing place → ⊥
not_flagged other place is = let bad : 2 ≡ 1 = ap form is in absurd (omega (arith, bad))

pub one_place : (other place : ℕ) → nothing other ≡ nothing place → other ≡ place
one_place other place is = ap place_of is

-- the item at an index
pub one_item : {A : Type 0} (xs : List A) (i : ℕ) (x y : A) → i < length xs → x ≡ get_or xs i x → y ≡ get_or xs i y → x ≡ y
one_item [] i x y within is same = absurd (omega (arith, within))
one_item (z ∷ zs) zero x y within is same = is ∙ sym same
one_item (z ∷ zs) (suc i) x y within is same =
    let rest : i < length zs = omega (arith, within) in
    one_item zs i x y rest is same

pub item_at : {A : Type 0} (xs : List A) (i : ℕ) (x : A) → i < length xs → get_or xs i x ≡ get_or xs i (get_or xs i x)
item_at [] i x within = absurd (omega (arith, within))
item_at (z ∷ zs) zero x within = refl
item_at (z ∷ zs) (suc i) x within =
    let rest : i < length zs = omega (arith, within) in
    item_at zs i x rest

-- ---- what is to be done

length_nothing : (place many : ℕ) → length (nothing_from place many) ≡ many
length_nothing place zero = refl
length_nothing place (suc many) = ap suc (length_nothing (place + 1) many)

nothing_at : (place many i : ℕ) (d : FileStatus) → i < many → get_or (nothing_from place many) i d ≡ nothing (place + i)
nothing_at place zero i d within = absurd (omega (arith, within))
nothing_at place (suc many) zero d within = let here : place ≡ place + 0 = omega arith in ap nothing here
nothing_at place (suc many) (suc i) d within =
    let rest : i < many = omega (arith, within) in
    let there : place + 1 + i ≡ place + suc i = omega arith in
    nothing_at (place + 1) many i d rest ∙ ap nothing there

nothing_more : (place many : ℕ) → nothing_from place (suc many) ≡ nothing_from place many ++ nothing (place + many) ∷ []
nothing_more place zero = let here : place ≡ place + 0 = omega arith in ap (λ n. nothing n ∷ []) here
nothing_more place (suc many) =
    let there : place + 1 + many ≡ place + suc many = omega arith in
    ap (λ l. nothing place ∷ l) (nothing_more (place + 1) many ∙ ap (λ n. nothing_from (place + 1) many ++ nothing n ∷ []) there)

-- one file more
pub in_place_more : (list : List FileStatusOf) (i : ℕ) (x : FileStatusOf) → i < length list → x ≡ get_or list i x → file_status_in x ≡ nothing i
    → map file_status_in (take i list) ≡ nothing_from 0 i → map file_status_in (take (i + 1) list) ≡ nothing_from 0 (i + 1)
in_place_more list i x within is here before =
    let next : i + 1 ≡ suc i = omega arith in
    let this : file_status_in (get_or list i x) ≡ nothing i = ap file_status_in (sym is) ∙ here in
    let sum : i ≡ 0 + i = omega arith in
    ap (map file_status_in) (take_more list i x within)
    ∙ map-append file_status_in (take i list) (get_or list i x ∷ [])
    ∙ (λ t. before t ++ this t ∷ [])
    ∙ ap (λ n. nothing_from 0 i ++ nothing n ∷ []) sum
    ∙ sym (nothing_more 0 i) ∙ ap (nothing_from 0) (sym next)

pub in_place_length : (list : List FileStatusOf) (many : ℕ) → AreInPlace list many → length list ≡ many
in_place_length list many are = sym (length-map list file_status_in) ∙ ap length are ∙ length_nothing 0 many

-- the file at an index
pub in_place_at : (list : List FileStatusOf) (many i : ℕ) (x : FileStatusOf) → AreInPlace list many → i < many → x ≡ get_or list i x → file_status_in x ≡ nothing i
in_place_at list many i x are within is =
    let same = in_place_length list many are in
    let listed : i < length list = omega (arith, within, same) in
    let none : FileStatus = file_status_in x in
    let sum : 0 + i ≡ i = omega arith in
    ap file_status_in is ∙ sym (get_or-map file_status_in list i x none listed) ∙ ap (λ l. get_or l i none) are
    ∙ nothing_at 0 many i none within ∙ ap nothing sum

-- ---- rows

abbrev value_of : Rc FileResultOf Global → FileResultOf
value_of file_result = file_result.value

-- one row more
pub rows_more : (rows old new : List (Rc FileResultOf Global)) (x : Rc FileResultOf Global) (i : ℕ) → i < length rows
    → map (λ (r : Rc FileResultOf Global). r.value) old ≡ map (λ (r : Rc FileResultOf Global). r.value) (take i rows) → x.value ≡ (get_or rows i x).value
    → new ≡ old ++ x ∷ [] → map (λ (r : Rc FileResultOf Global). r.value) new ≡ map (λ (r : Rc FileResultOf Global). r.value) (take (i + 1) rows)
rows_more rows old new x i within before here made =
    ap (map value_of) made ∙ map-append value_of old (x ∷ [])
    ∙ (λ t. before t ++ here t ∷ [])
    ∙ sym (map-append value_of (take i rows) (get_or rows i x ∷ [])) ∙ ap (map value_of) (sym (take_more rows i x within))

reads_by_values : (rows : List (Rc FileResultOf Global)) → reads_in rows ≡ flat_map (λ (r : FileResultOf). r.reads.items) (map (λ (r : Rc FileResultOf Global). r.value) rows)
reads_by_values [] = refl
reads_by_values (r ∷ rows) = ap (λ l. r.value.reads.items ++ l) (reads_by_values rows)

-- the same rows have the same reads
pub same_reads : (rows others : List (Rc FileResultOf Global)) → map (λ (r : Rc FileResultOf Global). r.value) rows ≡ map (λ (r : Rc FileResultOf Global). r.value) others → reads_in rows ≡ reads_in others
same_reads rows others are = reads_by_values rows ∙ ap (flat_map (λ (r : FileResultOf). r.reads.items)) are ∙ sym (reads_by_values others)
