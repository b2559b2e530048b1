use Rattle.std.proofs.Common.{◌+◌, List, flat_map, map, drop, refl, ap, ◌∙◌}
use Rattle.std.specs.declared.alloc.Global.{Global}
use Rattle.std.specs.declared.rc.Rc.{Rc}
use Rattle.pyc_class_table.specs.EntryView.{entry_in}
use Rattle.pyc_declarations.specs.ClassEntries.{class_entry}
use Rattle.pyc_declarations.specs.KindsView.{declarations_in}
use Rattle.pyc_declarations.specs.Looks.{class_looks}
use Rattle.pyc_members.specs.declared.declared_class.DeclaredClass.{DeclaredClass}
use Rattle.pyc_members.specs.DeclaredClassView.{declared_class_of, declared_class_in}
use Rattle.pyc_names.specs.InterfaceView.{interface_in}
use Rattle.pyc_names.specs.Looks.{Look}
use Rattle.pyc_names.specs.NotedLooks.{with_looks}
use Rattle.pyc_names.specs.NotedLooksView.{noted_in}
use Rattle.pyc_declarations.proofs.EntryTurns.{added_turn}
use Rattle.pyc_declarations.proofs.NotedLemmas.{noted_turn, noted_all}
use Rattle.pyc_declarations.proofs.declarations.Declarations.push_classes.Goals as goal

pub loop-class-preserved : goal.loop-class-preserved
loop-class-preserved c =
    let files = declarations_in c.args.self.now in
    let file = interface_in c.args.file.now in
    let classes = c.args.classes.now in
    let at = c.loop-class.class-index in
    let x = c.class-item.result in
    let looks : List (Rc DeclaredClass Global) → List Look = λ l. flat_map (class_looks files file) (map declared_class_in l) in
    let same = c.in_ok-class_entry.ensures.entry ∙ ap (λ (d : DeclaredClass). class_entry files file (declared_class_of d)) c.deref.ensures in
    let noted = c.in_ok-class_entry.ensures.looks
    ∙ ap (λ (d : DeclaredClass). with_looks (noted_in c.loop-class.looks) (class_looks files file (declared_class_of d))) c.deref.ensures in
    record {
      added = added_turn declared_class_in (class_entry files file) entry_in (map entry_in c.args.entries.now.items) classes at x c.loop-class.entries.items c.push.new.self.items c.in_ok-class_entry.field-0
          c.loop-class-test.true c.class-item.is c.in_ok-push.ensures.items same c.loop-class.invariant.added;
      noted = noted_turn looks (class_looks files file (declared_class_in x)) (looks (drop (at + 1) classes)) classes at x _ _ c.loop-class-test.true c.class-item.is refl noted
          ∙ c.loop-class.invariant.noted;
    }

pub returns-clause-looks : goal.returns-clause-looks
returns-clause-looks c =
    let looks : List (Rc DeclaredClass Global) → List Look =
    λ l. flat_map (class_looks (declarations_in c.args.self.now) (interface_in c.args.file.now)) (map declared_class_in l) in
    noted_all looks c.args.classes.now c.loop-class.class-index _ c.loop-class-test.false refl ∙ c.loop-class.invariant.noted
