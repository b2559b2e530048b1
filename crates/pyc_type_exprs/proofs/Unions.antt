-- Unions by their left edges: what stands left of all `|`, before what stands right of each of them, the last first.
use Rattle.std.proofs.Common.{◌≡◌, ◌∙◌, ◌<◌, ◌≤◌, ℕ, ap, sym, refl, arith, rules, true, if◌then◌else◌, List, [], ◌∷◌, ◌++◌, map, reverse}
use Rattle.std.proofs.lemmas.List.{reverse-append}
use Rattle.std.specs.declared.alloc.Global.{Global}
use Rattle.std.specs.declared.boxed.Box.{Box}
use Rattle.std.specs.declared.vec.Vec.{Vec}
use Rattle.pyc_ast.proofs.expr.Expr.TheLaws.{the_size}
use Rattle.pyc_ast.proofs.expr.Form.TheLaws.{the_size as form_size}
use Rattle.pyc_ast.proofs.expr.Index.TheLaws.{the_size as index_size}
use Rattle.pyc_ast.proofs.ViewLemmas.{view_expr}
use Rattle.pyc_ast.specs.declared.expr.DictItem.TheFolds.{the_lemmas}
use Rattle.pyc_ast.specs.declared.expr.Expr.{Expr}
use Rattle.pyc_ast.specs.declared.expr.Form.{Form}
use Rattle.pyc_ast.specs.declared.expr.Form.TheVariants as f
use Rattle.pyc_ast.specs.declared.expr.Index.{Index}
use Rattle.pyc_ast.specs.declared.operator.Operator.{Operator}
use Rattle.pyc_ast.specs.Exprs as plain
use Rattle.pyc_ast.specs.ExprView.{expr_of, form_of}
use Rattle.pyc_type_exprs.specs.declared.forms.ArgumentShape.TheFolds.{the_lemmas as written_lemmas}
use Rattle.pyc_type_exprs.specs.declared.forms.TypeExpr.{TypeExpr as TypeExprOf}
use Rattle.pyc_type_exprs.specs.declared.forms.TypeExpr.TheVariants as written
use Rattle.pyc_type_exprs.specs.TypeExprs.{TypeExpr, is_bit_or, type_expr, union_written, unions_written, wrong_written}
use Rattle.pyc_type_exprs.specs.TypeExprView.{type_expr_of}

-- ---- what stands in an expression is less deep than it

form_below : (x : Expr) → form_size x.form ≤ the_size x
form_below x = search (rules, the_lemmas)

sides_below : (o : Operator) (l r : Box Expr Global) → (the_size l.value < form_size (f.Binary o l r)) × (the_size r.value < form_size (f.Binary o l r))
sides_below o l r = (search (rules, the_lemmas), search (rules, the_lemmas))

index_below : (x : Box Expr Global) (i : Box Index Global) → index_size i.value < form_size (f.Subscript x i)
index_below x i = search (rules, the_lemmas)

pub sides_fall : (x : Expr) (n : ℕ) (o : Operator) (l r : Box Expr Global) → the_size x ≤ n → x.form ≡ f.Binary o l r
    → (the_size l.value < n) × (the_size r.value < n)
sides_fall x n o l r within is =
    let same : form_size x.form ≡ form_size (f.Binary o l r) = ap form_size is in
    let parts = sides_below o l r in
    (omega (arith, form_below x, within, same, parts.0), omega (arith, form_below x, within, same, parts.1))

pub index_falls : (x : Expr) (n : ℕ) (y : Box Expr Global) (i : Box Index Global) → the_size x ≤ n → x.form ≡ f.Subscript y i → index_size i.value < n
index_falls x n y i within is =
    let same : form_size x.form ≡ form_size (f.Subscript y i) = ap form_size is in
    omega (arith, form_below x, within, same, index_below y i)

-- ---- one more annotation right of `|`

view_union : (o : Operator) (l r : Box Expr Global) → form_of (f.Binary o l r) ≡ plain.binary o (expr_of l.value) (expr_of r.value)
view_union o l r = search (rules, the_lemmas)

union_of_sides : (x : Expr) (o : Operator) (l r : Box Expr Global) → is_bit_or o ≡ true → x.form ≡ f.Binary o l r
    → type_expr (expr_of x) ≡ union_written (type_expr (expr_of l.value)) (type_expr (expr_of r.value))
union_of_sides x o l r bit_or is =
    ap type_expr (view_expr x ∙ ap (λ (form : Form). plain.expr x.at x.inside (form_of form)) is ∙ ap (plain.expr x.at x.inside) (view_union o l r))
    ∙ ap (λ b. if b then union_written (type_expr (expr_of l.value)) (type_expr (expr_of r.value)) else wrong_written x.at) bit_or

pub one_more : (x : Expr) (o : Operator) (l r : Box Expr Global) (before now : List TypeExprOf) (right : TypeExprOf) → is_bit_or o ≡ true
    → x.form ≡ f.Binary o l r → type_expr_of right ≡ type_expr (expr_of r.value) → now ≡ before ++ right ∷ []
    → unions_written (type_expr (expr_of l.value)) (map type_expr_of (reverse now)) ≡ unions_written (type_expr (expr_of x)) (map type_expr_of (reverse before))
one_more x o l r before now right bit_or is same pushed =
    ap (λ rs. unions_written (type_expr (expr_of l.value)) (map type_expr_of rs)) (ap reverse pushed ∙ reverse-append before (right ∷ []))
    ∙ ap (λ t. unions_written (union_written (type_expr (expr_of l.value)) t) (map type_expr_of (reverse before))) same
    ∙ ap (λ t. unions_written t (map type_expr_of (reverse before))) (sym (union_of_sides x o l r bit_or is))

-- ---- a union by its last

unions_push : (first : TypeExpr) (rest : List TypeExprOf) (last : TypeExprOf)
    → union_written (unions_written first (map type_expr_of rest)) (type_expr_of last) ≡ unions_written first (map type_expr_of (rest ++ last ∷ []))
unions_push first [] last = refl
unions_push first (x ∷ rest) last = unions_push (union_written first (type_expr_of x)) rest last

view_written : (first : Box TypeExprOf Global) (between : Vec TypeExprOf Global) (last : Box TypeExprOf Global)
    → type_expr_of (written.Union first between last)
    ≡ union_written (unions_written (type_expr_of first.value) (map type_expr_of between.items)) (type_expr_of last.value)
view_written first between last = search (rules, written_lemmas)

pub union_made : (first : Box TypeExprOf Global) (between : Vec TypeExprOf Global) (last : Box TypeExprOf Global) (x y : TypeExprOf) (rest : List TypeExprOf)
    → first.value ≡ x → last.value ≡ y → rest ≡ between.items ++ y ∷ []
    → type_expr_of (written.Union first between last) ≡ unions_written (type_expr_of x) (map type_expr_of rest)
union_made first between last x y rest of_first of_last whole =
    view_written first between last
    ∙ ap (λ t. union_written (unions_written (type_expr_of t) (map type_expr_of between.items)) (type_expr_of last.value)) of_first
    ∙ ap (λ t. union_written (unions_written (type_expr_of x) (map type_expr_of between.items)) (type_expr_of t)) of_last
    ∙ unions_push (type_expr_of x) between.items y
    ∙ ap (λ ts. unions_written (type_expr_of x) (map type_expr_of ts)) (sym whole)
