-- Strings that are annotations (typing specification, "String annotations"), in which names may stand that are bound
-- later: forward references.
use Rattle.std.specs.Prelude.{ℕ, ◌-◌, Bool, ◌==◌, if◌then◌else◌, List, length, take, drop, slice_range, Option}
use Rattle.std.specs.Prelude.{◌||◌, None, Some, nat_eq}
use Rattle.std.specs.Prelude.{option_map}
use Rattle.std.specs.List.{list_any, prefix_len, suffix_len, starts_with}
use Rattle.pyc_ast.specs.declared.position.Position.{Position}
use Rattle.pyc_ast.specs.Exprs.{Expr}
use Rattle.pyc_lex.specs.Ignores.{is_space}
use Rattle.pyc_lex.specs.Lines.{byte_order_mark}
use Rattle.pyc_lower.specs.ExpressionInput.{expression_input}
use Rattle.pyc_lower_atom.specs.declared.role.Role.TheVariants.{Annotation}
use Rattle.pyc_lower_expression.specs.Expressions.{expr_in}
use Rattle.pyc_token.specs.Strings.{quotes_len}

-- whether a backslash stands in a text
abbrev pub has_backslash : List ℕ → Bool
has_backslash text = list_any (λ byte. byte == 92) text

-- what stands between the quotes of a string without prefix ("String and Bytes literals")
abbrev pub string_annotation_part : List ℕ → List ℕ
string_annotation_part text = let quotes = quotes_len text in slice_range text quotes (length text - quotes)

-- a text without the spaces at its ends
abbrev pub without_spaces : List ℕ → List ℕ
without_spaces text =
    let rest = drop (prefix_len is_space text) text in
    take (length rest - suffix_len is_space rest) rest

-- the source that stands in a string
unfoldable pub content : List ℕ → List ℕ
content text = without_spaces (string_annotation_part text)

-- whether a byte order mark stands at the front of a text
abbrev pub has_mark : List ℕ → Bool
has_mark text = starts_with nat_eq text byte_order_mark

-- whether a string spells nothing whatever stands in it: with a backslash, or with a byte order mark, which is for the
-- front of a file alone
abbrev pub is_skipped : List ℕ → Bool
is_skipped text = has_backslash text || has_mark (content text)

-- the expression that a string of this text spells: one that is not passed over and whose content is an expression, on
-- one logical line of any indent, each part of it at the string's position, while the strings in it spell these
unfoldable pub spelled_in : (List ℕ → Position → Option Expr) → List ℕ → Position → Option Expr
spelled_in inner text at =
    if is_skipped text then None
    else option_map (expr_in inner (record { source = content text; string = Some at }) Annotation)
    (expression_input (content text))

-- the expression that a string of a file spells. Without a backslash a string holds no quotes like its own, and there
-- are four sorts of quotes: so strings nest at most four deep
abbrev pub spelled : List ℕ → Position → Option Expr
spelled = spelled_in (spelled_in (spelled_in (spelled_in (λ text at. None))))
