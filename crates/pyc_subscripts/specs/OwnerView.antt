-- What a value goes by, as the code has it, and the items that were read so far.
use Rattle.std.specs.Prelude.{map}
use Rattle.pyc_subscripts.specs.declared.owners.Owner.{Owner as OwnerOf}
use Rattle.pyc_subscripts.specs.declared.owners.Owner.TheVariants as o
use Rattle.pyc_subscripts.specs.declared.subscripts.Items.{Items as ItemsOf}
use Rattle.pyc_subscripts.specs.Owners.{Owner, unknown_owner, method_owner, builtin_owner, no_owner}
use Rattle.pyc_subscripts.specs.Subscripts.{Items}
use Rattle.pyc_type_forms.specs.TypeView.{ty_of}

abbrev pub owner_of : OwnerOf → Owner
owner_of o.Unknown = unknown_owner
owner_of (o.Method ty) = method_owner (ty_of ty)
owner_of (o.Builtin ty) = builtin_owner (ty_of ty)
owner_of o.Nothing = no_owner

abbrev pub items_in : ItemsOf → Items
items_in found = record { types = map ty_of found.types.items; is_failed = found.is_failed }
