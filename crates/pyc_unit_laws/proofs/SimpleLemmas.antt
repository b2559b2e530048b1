-- What simple statements ask, and the heads of others.
use Rattle.std.proofs.Common.{◌≡◌, ℕ, Bool, true, false, List, [], ◌∷◌, Option, None, Some}
use Rattle.pyc_locals.specs.AssignedPlaces.{drop_places}
use Rattle.pyc_ast.specs.declared.operator.Operator.{Operator}
use Rattle.pyc_ast.specs.declared.position.Position.{Position}
use Rattle.pyc_ast.specs.Exprs.{Expr, Index, at_of}
use Rattle.pyc_ast.specs.Statements as plain
use Rattle.pyc_ast.specs.Statements.{AugmentedAssignment, For, StmtForm, WithItem}
use Rattle.pyc_ast.specs.Targets as to
use Rattle.pyc_ast.specs.Targets.{Target, TargetElements, TargetForm, another_target, no_target, target, target_element, unpacking}
use Rattle.pyc_body_context.specs.Bodies.{Body, BodyKind, class_around, in_class, in_function, in_module, result_of}
use Rattle.pyc_body_context.specs.BodyNames.{body_context}
use Rattle.pyc_body_context.specs.BodyTargets.{body_reads, declares}
use Rattle.pyc_unit_laws.proofs.BodyLemmas.{body_name_of_files, body_target_of_files, class_import_of_files, local_import_of_files, of-body_annotation, of-body_name}
use Rattle.pyc_unit_laws.specs.FileKeys.{is_source_around}
use Rattle.pyc_calls.specs.Methods.{infer_method_call}
use Rattle.pyc_class_ids.specs.Class.{Id, builtin, user}
use Rattle.pyc_expression_laws.proofs.AttributeKeyLemmas.{of-type_attribute}
use Rattle.pyc_expression_laws.proofs.CallKeyLemmas.{of-infer_method_call}
use Rattle.pyc_expression_laws.proofs.ExpressionLemmas.{of-condition, of-infer, of-infer_index, of-infer_type, of-read_by}
use Rattle.pyc_expression_laws.proofs.ItemKeyLemmas.{of-infer_iteration, of-subscript}
use Rattle.pyc_expression_laws.proofs.ObligationKeyLemmas.{of-ask_member, of-is_unknown_class, of-required}
use Rattle.pyc_expression_laws.proofs.OperatorKeyLemmas.{of-binary}
use Rattle.pyc_expression_laws.proofs.StepLemmas.{Files, files_done, files_then}
use Rattle.pyc_locals.specs.FlowStates.{FlowState, in_state}
use Rattle.pyc_names.specs.Interfaces.{interface_of}
use Rattle.pyc_obligations.specs.Values.{Value}
use Rattle.pyc_operators.specs.Operations.{in_place_method}
use Rattle.pyc_places.specs.Places.{Place}
use Rattle.pyc_places.specs.TargetPlaces.{target_place}
use Rattle.pyc_reading.specs.Traces.{Step}
use Rattle.pyc_simple_statements.specs.Augmented.{Operands, augmented_read, class_in_place, has_in_place, in_place, in_place_if_known, operands_read, operation_stored, operation_type, out_of, source_in_place, stored_unless}
use Rattle.pyc_simple_statements.specs.BodyParts.{body_parts, import_by, simple_read}
use Rattle.pyc_simple_statements.specs.Deleting.{deleted, each_deleted, form_deleted, single_deleted}
use Rattle.pyc_simple_statements.specs.Expressions.{expression_read, optional_read, part_read, part_type, check_test}
use Rattle.pyc_simple_statements.specs.Heads.{caught_read, caught_type, item_read, item_target, items_read, optional_caught, turn_begun, turn_item}
use Rattle.pyc_simple_statements.specs.Raising.{asserted, raised}
use Rattle.pyc_simple_statements.specs.Returning.{none_returned, required_return, result_required, return_required, returned, value_returned}
use Rattle.pyc_simple_statements.specs.TargetTypes.{attribute_type, form_type, found_type, item_type, known_at, name_type, target_type, unless_known}
use Rattle.pyc_type_forms.specs.Types.{Ty, any, instance, none}
use Rattle.pyc_unit_laws.proofs.AssignmentLemmas.{PartsAskFiles, of-annotated_assignment, of-assign_target, of-assignment}
use Rattle.pyc_unit_laws.proofs.BlockLemmas.{StatementPartsAskFiles}

-- ---- operations in place

of-in_place_if_known : (m : List (List ℕ)) (x : List ℕ) (operator : Operator) (is_unknown : Bool) → Files (in_place_if_known (user m x) operator is_unknown)
unfolding has_in_place
of-in_place_if_known m x operator true = files_done
of-in_place_if_known m x operator false = files_then _ _ (of-ask_member m x (in_place_method operator)) (λ found. files_done)

of-class_in_place : (c : Id) (operator : Operator) → Files (class_in_place c operator)
unfolding source_in_place
of-class_in_place (builtin c) operator = files_done
of-class_in_place (user m x) operator = files_then _ _ (of-is_unknown_class (user m x)) (of-in_place_if_known m x operator)

of-in_place : (operator : Operator) (ty : Ty) → Files (in_place operator ty)
of-in_place operator (instance c) = of-class_in_place c operator
of-in_place operator _ = files_done

of-operation_type : (found : AugmentedAssignment) (operands : Operands) → Files (operation_type found operands)
unfolding operation_type
of-operation_type found operands = of-binary infer_method_call of-infer_method_call (out_of found.target) found.operator operands.left operands.right

-- ---- what is returned

of-result_required : (at : Position) (is_bare : Bool) (got : Ty) (want : Option Ty) → Files (result_required at is_bare got want)
unfolding return_required
of-result_required at is_bare got (Some want) = of-required (required_return at is_bare got want)
of-result_required at is_bare got None = files_done

module _ (body : Body) (source : is_source_around (class_around body.kind) ≡ true) where
  -- ---- expressions

  pub of-part_type : (p : FlowState) (x : Expr) (want : Option Ty) → Files (part_type body p x want)
  of-part_type p x want =
      of-infer_type (body_context body p.locals) (of-body_name body p.locals source) (of-body_annotation body) p.state x want

  of-part_read : (p : FlowState) (x : Expr) → Files (part_read body p x)
  of-part_read p x = of-read_by (body_context body p.locals) (of-body_name body p.locals source) (of-body_annotation body) p.state x

  of-optional_read : (p : FlowState) (x : Option Expr) → Files (optional_read body p x)
  of-optional_read p (Some x) = of-part_read p x
  of-optional_read p None = files_done

  of-expression_read : (x : Expr) (p : FlowState) → Files (expression_read body x p)
  unfolding expression_read
  of-expression_read x p = files_then _ _ (of-part_read p x) (λ u. files_done)

  of-check_test : (x : Expr) (p : FlowState) → Files (check_test body x p)
  of-check_test x p = of-condition (body_context body p.locals) (of-body_name body p.locals source) (of-body_annotation body) p.state x

  -- ---- assignments

  of-body_value : (p : FlowState) (x : Expr) (want : Option Ty) → Files ((body_reads body).value p x want)
  of-body_value p x want = of-infer (body_context body p.locals) (of-body_name body p.locals source) (of-body_annotation body) p.state x want

  of-body_index : (p : FlowState) (brackets : Index) → Files ((body_reads body).index p brackets)
  of-body_index p brackets =
      of-infer_index (body_context body p.locals) (of-body_name body p.locals source) (of-body_annotation body) p.state brackets

  of-body_reads : PartsAskFiles (body_reads body)
  of-body_reads =
      record {
        values = of-body_value;
        indices = of-body_index;
        names = λ p x. record { all = body_target_of_files body p x source };
        annotations = of-body_annotation body;
      }

  -- ---- targets that are read

  of-name_type : (p : FlowState) (at : Position) (x : List ℕ) → Files (name_type body p at x)
  unfolding name_type
  of-name_type p at x = files_then _ _ (record { all = body_name_of_files body p.locals at x source }) (λ found. files_done)

  of-found_type : (at : Position) (n : List ℕ) (owner : Value) → Files (found_type at n owner)
  unfolding found_type
  of-found_type at n owner = files_then _ _ (of-type_attribute at owner.ty n) (λ found. files_done)

  of-unless_known : (known : Option Ty) (found : Step Ty) → Files found → Files (unless_known known found)
  of-unless_known (Some ty) found files = files_done
  of-unless_known None found files = files

  of-attribute_type : (p : FlowState) (whole : Target) (at : Position) (x : Expr) (n : List ℕ) → Files (attribute_type body p whole at x n)
  unfolding attribute_type
  of-attribute_type p whole at x n =
      files_then _ _ (of-body_value p x None)
      (λ owner. of-unless_known (known_at p.state (target_place whole)) (found_type at n owner) (of-found_type at n owner))

  of-item_type : (p : FlowState) (at : Position) (x : Expr) (brackets : Index) → Files (item_type body p at x brackets)
  unfolding item_type
  of-item_type p at x brackets = files_then _ _ (of-part_type p x None) (λ ty. files_then _ _ (of-body_index p brackets) (λ got. of-subscript at brackets got ty))

  of-form_type : (p : FlowState) (whole : Target) (at : Position) (form : TargetForm) → Files (form_type body p whole at form)
  of-form_type p whole at (to.name x) = of-unless_known (known_at p.state (target_place whole)) (name_type body p at x) (of-name_type p at x)
  of-form_type p whole at (to.attribute x n) = of-attribute_type p whole at x n
  of-form_type p whole at (to.subscript x brackets) = of-item_type p at x brackets
  of-form_type p whole at (to.unpacking elements) = files_done

  of-target_type : (p : FlowState) (whole : Target) → Files (target_type body p whole)
  of-target_type p (target at inside form) = of-form_type p (target at inside form) inside form

  -- ---- augmented assignments

  of-operands_read : (found : AugmentedAssignment) (p : FlowState) → Files (operands_read body found p)
  unfolding operands_read
  of-operands_read found p = files_then _ _ (of-target_type p found.target) (λ left. files_then _ _ (of-part_type p found.value None) (λ right. files_done))

  of-stored_unless : (found : AugmentedAssignment) (operands : Operands) (p : FlowState) (is_in_place : Bool) → Files (stored_unless body found operands p is_in_place)
  unfolding operation_stored
  of-stored_unless found operands p true = files_done
  of-stored_unless found operands p false =
      files_then _ _ (of-operation_type found operands) (λ ty. of-assign_target (body_reads body) of-body_reads (at_of found.value) found.target ty p)

  of-augmented_read : (found : AugmentedAssignment) (p : FlowState) → Files (augmented_read body found p)
  unfolding augmented_read
  of-augmented_read found p =
      files_then _ _ (of-operands_read found p) (λ operands.
      files_then _ _ (of-in_place found.operator operands.left) (of-stored_unless found operands p))

  -- ---- `del`

  of-single_deleted : (whole : Target) (p : FlowState) → Files (single_deleted body whole p)
  unfolding single_deleted
  of-single_deleted whole p = files_then _ _ (of-target_type p whole) (λ ty. files_done)

  mutual
    of-deleted : (whole : Target) (p : FlowState) → Files (deleted body whole p)
    of-deleted (target at inside form) p = of-form_deleted (target at inside form) form p

    of-form_deleted : (whole : Target) (form : TargetForm) (p : FlowState) → Files (form_deleted body whole form p)
    of-form_deleted whole (unpacking elements) p = of-each_deleted elements p
    of-form_deleted whole form p = of-single_deleted whole p

    of-each_deleted : (elements : TargetElements) (p : FlowState) → Files (each_deleted body elements p)
    of-each_deleted no_target p = files_done
    of-each_deleted (another_target (target_element is_starred whole) rest) p = files_then _ _ (of-deleted whole p) (of-each_deleted rest)

  -- ---- `return`, `raise` and `assert`

  of-returned : (at : Position) (x : Option Expr) (p : FlowState) → Files (returned body at x p)
  unfolding value_returned none_returned
  of-returned at (Some x) p =
      files_then _ _ (of-part_type p x (result_of body.kind)) (λ got. files_then _ _ (of-result_required at false got (result_of body.kind)) (λ u. files_done))
  of-returned at None p = files_then _ _ (of-result_required at true none (result_of body.kind)) (λ u. files_done)

  of-raised : (exception cause : Option Expr) (p : FlowState) → Files (raised body exception cause p)
  unfolding raised
  of-raised exception cause p = files_then _ _ (of-optional_read p exception) (λ u. files_then _ _ (of-optional_read p cause) (λ v. files_done))

  of-asserted : (test : Expr) (message : Option Expr) (p : FlowState) → Files (asserted body test message p)
  unfolding asserted
  of-asserted test message p =
      files_then _ _ (of-check_test test p) (λ states. files_then _ _ (of-optional_read (in_state p states.if_false) message) (λ u. files_done))

  -- ---- heads

  of-optional_caught : (p : FlowState) (x : Option Expr) → Files (optional_caught body p x)
  unfolding caught_type
  of-optional_caught p (Some x) = files_then _ _ (of-part_type p x None) (λ ty. files_done)
  of-optional_caught p None = files_done

  of-caught_read : (x : Option Expr) (name : Option (List ℕ)) (p : FlowState) → Files (caught_read body x name p)
  unfolding caught_read
  of-caught_read x name p = files_then _ _ (of-optional_caught p x) (λ ty. files_done)

  of-item_target : (at : Position) (whole : Option Target) (p : FlowState) → Files (item_target body at whole p)
  of-item_target at (Some whole) p = of-assign_target (body_reads body) of-body_reads at whole any p
  of-item_target at None p = files_done

  of-items_read : (items : List WithItem) (p : FlowState) → Files (items_read body items p)
  unfolding items_read item_read
  of-items_read [] p = files_done
  of-items_read (item ∷ rest) p =
      files_then _ _ (files_then _ _ (of-part_read p item.context) (λ u. of-item_target (at_of item.context) item.target p)) (of-items_read rest)

  of-turn_begun : (head : For) (places : List Place) (p : FlowState) → Files (turn_begun body head places p)
  unfolding turn_begun turn_item
  of-turn_begun head places p =
      files_then _ _ (files_then _ _ (of-part_type p head.iterable None) (λ ty. of-infer_iteration (at_of head.iterable) ty)) (λ item.
      of-assign_target (body_reads body) of-body_reads (at_of head.iterable) head.target item (in_state p (drop_places places p.state)))

  -- ---- simple statements

  of-import_by : (kind : BodyKind) (at : Position) (form : StmtForm) (p : FlowState) → Files (import_by body kind at form p)
  of-import_by in_module at form p = files_done
  of-import_by (in_class own) at form p = record { all = class_import_of_files body.options (interface_of body.file) at form p }
  of-import_by (in_function result) at form p = record { all = local_import_of_files body.options (interface_of body.file) at form p }

  pub of-simple_read : (at : Position) (form : StmtForm) (p : FlowState) → Files (simple_read body at form p)
  of-simple_read at (plain.expression x) p = of-expression_read x p
  of-simple_read at (plain.assign targets value) p = of-assignment (body_reads body) of-body_reads targets value p
  of-simple_read at (plain.annotate found) p = of-annotated_assignment (body_reads body) of-body_reads (declares body at found.target) found p
  of-simple_read at (plain.augment found) p = of-augmented_read found p
  of-simple_read at (plain.return x) p = of-returned at x p
  of-simple_read at (plain.raise exception cause) p = of-raised exception cause p
  of-simple_read at (plain.assert test message) p = of-asserted test message p
  of-simple_read at (plain.delete whole) p = of-deleted whole p
  of-simple_read at (plain.function head inside) p = files_done
  of-simple_read at (plain.class head inside) p = files_done
  of-simple_read at (plain.import modules) p = of-import_by body.kind at (plain.import modules) p
  of-simple_read at (plain.import_from from) p = of-import_by body.kind at (plain.import_from from) p
  of-simple_read at _ p = files_done

  pub of-body_parts : StatementPartsAskFiles (body_parts body)
  of-body_parts =
      record {
        simple = of-simple_read;
        check_test = of-check_test;
        turn = of-turn_begun;
        caught = of-caught_read;
        items = of-items_read;
      }
