use Rattle.std.proofs.Common.{ap, sym, ◌∙◌, Some}
use Rattle.std.specs.Option.{option_map, option_and_then}
use Rattle.pyc_lower.proofs.StringLemmas.{spelled-none, spelled-other, spelled-tree}
use Rattle.pyc_lower.specs.declared.only_line.OnlyLine.{OnlyLine}
use Rattle.pyc_lower.specs.ExpressionInput.{expression_of_line}
use Rattle.pyc_lower.specs.Strings.{is_skipped, content}
use Rattle.pyc_tree.specs.LineView.{line_of}
use Rattle.pyc_lower.proofs.strings.InsideQuotes.read.Goals as goal

pub returns-then-is_skipped : goal.returns-then-is_skipped
returns-then-is_skipped g c =
    spelled-none _ _ _
    (ap is_skipped (sym c.as_bytes-text.ensures.value) ∙ sym c.is_skipped.ensures ∙ c.if-is_skipped.true)

pub returns-in_default : goal.returns-in_default
returns-in_default g c =
    spelled-other _ _ _ _ _
    (ap is_skipped (sym c.as_bytes-text.ensures.value) ∙ sym c.is_skipped.ensures ∙ c.if-is_skipped.false)
    (c.content-source.ensures ∙ ap content c.as_bytes-text.ensures.value)
    c.in_ok-line.ensures
    (ap (λ line. option_and_then expression_of_line (option_map (λ (l : OnlyLine). line_of l.tree) line)) c.in_default.is)

pub returns-in_default-expression_of_line : goal.returns-in_default-expression_of_line
returns-in_default-expression_of_line g c =
    spelled-other _ _ _ _ _
    (ap is_skipped (sym c.as_bytes-text.ensures.value) ∙ sym c.is_skipped.ensures ∙ c.if-is_skipped.false)
    (c.content-source.ensures ∙ ap content c.as_bytes-text.ensures.value)
    c.in_ok-line.ensures
    (ap (λ line. option_and_then expression_of_line (option_map (λ (l : OnlyLine). line_of l.tree) line)) c.in-Some.is ∙ sym c.in_default-expression_of_line.ensures)

pub returns : goal.returns
returns g c =
    ap Some c.in_ok-lower_annotation.ensures
    ∙ spelled-tree _ _ _ _ _ _
    (ap is_skipped (sym c.as_bytes-text.ensures.value) ∙ sym c.is_skipped.ensures ∙ c.if-is_skipped.false)
    (c.content-source.ensures ∙ ap content c.as_bytes-text.ensures.value)
    c.in_ok-line.ensures
    (ap (λ line. option_and_then expression_of_line (option_map (λ (l : OnlyLine). line_of l.tree) line)) c.in-Some.is ∙ sym c.in-Some-expression_of_line.ensures)
