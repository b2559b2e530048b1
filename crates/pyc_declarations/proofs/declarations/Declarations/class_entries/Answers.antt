use Rattle.std.proofs.Common.{◌≡◌, suc, ◌+◌, List, ◌∷◌, ◌++◌, flat_map, map, drop, add-one, drop-cons, append_assoc, refl, sym, ap, ap₂, ◌∙◌}
use Rattle.std.specs.declared.alloc.Global.{Global}
use Rattle.std.specs.declared.rc.Rc.{Rc}
use Rattle.pyc_class_table.specs.EntryView.{entry_in}
use Rattle.pyc_declarations.specs.ClassEntries.{class_entry, file_entries}
use Rattle.pyc_declarations.specs.KindsView.{declarations_in}
use Rattle.pyc_declarations.specs.Looks.{class_looks, entries_looks}
use Rattle.pyc_members.specs.DeclaredClasses.{DeclaredClass}
use Rattle.pyc_members.specs.DeclaredClassView.{declared_class_in}
use Rattle.pyc_names.specs.declared.interface.Interface.{Interface as InterfaceOf}
use Rattle.pyc_names.specs.Interfaces.{Interface}
use Rattle.pyc_names.specs.InterfaceView.{interface_in, interfaces_in}
use Rattle.pyc_names.specs.Looks.{Look}
use Rattle.pyc_names.specs.NotedLooks.{with_looks}
use Rattle.pyc_names.specs.NotedLooksView.{noted_in}
use Rattle.pyc_declarations.proofs.NotedLemmas.{noted_turn, noted_all}
use Rattle.pyc_declarations.proofs.declarations.Declarations.class_entries.Goals as goal

pub loop-file-preserved : goal.loop-file-preserved
loop-file-preserved c =
    let files = declarations_in c.args.self.now in
    let all = c.files-file-items.result.now in
    let at = c.loop-file.file-index in
    let x = c.file-item.result in
    let file = interface_in x.value in
    let before = map entry_in c.loop-file.entries.items in
    let file_looks : Interface → List Look = λ f. flat_map (class_looks files f) f.classes in
    let looks : List (Rc InterfaceOf Global) → List Look = λ l. flat_map file_looks (interfaces_in l) in
    let left : drop at all ≡ x ∷ drop (at + 1) all =
    rw add-one (drop-cons all at x c.loop-file-test.true ∙ ap (λ y. y ∷ drop (suc at) all) (sym c.file-item.is)) in
    let classes : map declared_class_in c.classes.result.now ≡ file.classes =
    c.classes.ensures ∙ ap (λ (f : InterfaceOf). (interface_in f).classes) c.deref-in-loop-file.ensures in
    let pushed = c.in_ok-push_classes.ensures.entries
    ∙ ap₂ (λ (f : InterfaceOf) (l : List DeclaredClass). before ++ map (class_entry files (interface_in f)) l) c.deref.ensures classes in
    let noted = c.in_ok-push_classes.ensures.looks
    ∙ ap₂ (λ (f : InterfaceOf) (l : List DeclaredClass). with_looks (noted_in c.loop-file.looks) (flat_map (class_looks files (interface_in f)) l)) c.deref.ensures classes in
    let later = flat_map (file_entries files) (interfaces_in (drop (at + 1) all)) in
    record {
      added = ap (λ l. l ++ later) pushed ∙ append_assoc before (file_entries files file) later
          ∙ sym (ap (λ (l : List (Rc InterfaceOf Global)). before ++ flat_map (file_entries files) (interfaces_in l)) left) ∙ c.loop-file.invariant.added;
      noted = noted_turn looks (file_looks file) (looks (drop (at + 1) all)) all at x _ _ c.loop-file-test.true c.file-item.is refl noted ∙ c.loop-file.invariant.noted;
    }

pub returns-clause-looks : goal.returns-clause-looks
unfolding entries_looks
returns-clause-looks c =
    let files = declarations_in c.args.self.now in
    let file_looks : Interface → List Look = λ f. flat_map (class_looks files f) f.classes in
    let looks : List (Rc InterfaceOf Global) → List Look = λ l. flat_map file_looks (interfaces_in l) in
    noted_all looks c.files-file-items.result.now c.loop-file.file-index _ c.loop-file-test.false refl ∙ c.loop-file.invariant.noted
