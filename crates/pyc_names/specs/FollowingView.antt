-- The plain values that names of the code and what they stand for are.
use Rattle.pyc_names.specs.declared.qualified_name.QualifiedName.{QualifiedName as QualifiedNameOf}
use Rattle.pyc_names.specs.declared.qualified_name.Referent.{Referent as ReferentOf}
use Rattle.pyc_names.specs.declared.qualified_name.Referent.TheVariants as r
use Rattle.pyc_names.specs.declared.qualified_name.Step.{Step as StepOf}
use Rattle.pyc_names.specs.declared.qualified_name.Step.TheVariants as s
use Rattle.pyc_names.specs.Following.{QualifiedName, Referent, declared, module_itself, opaque, fixed_any}
use Rattle.pyc_names.specs.Following.{no_module, no_name, cycle, Step, ends, leads}

abbrev pub qualified_of : QualifiedNameOf → QualifiedName
qualified_of q = record { module_path = q.module_path; name = q.name }

abbrev pub referent_of : ReferentOf → Referent
referent_of (r.Declared q) = declared (qualified_of q)
referent_of (r.Module m) = module_itself m
referent_of r.Opaque = opaque
referent_of r.FixedAny = fixed_any
referent_of r.NoModule = no_module
referent_of r.NoName = no_name
referent_of r.Cycle = cycle

abbrev pub step_of : StepOf → Step
step_of (s.Ends found) = ends (referent_of found)
step_of (s.Leads q) = leads (qualified_of q)
