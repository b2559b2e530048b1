-- Types as plain values, apart from how Rust stores them (typing specification, "Type system concepts").
use Rattle.std.specs.Prelude.{ℕ, List, Bool, Option}
use Rattle.pyc_class_ids.specs.Class.{Id}

-- the kind of a parameter, with its name
pub data Kind : Type 0 where
  plain : Option (List ℕ) → Kind
  star : Kind
  keyword_only : List ℕ → Kind
  double_star : Kind

-- what a parameter is apart from its type: its kind, and whether a call may leave it out
pub record Slot : Type 0 where
  pub kind : Kind
  pub is_optional : Bool

mutual
  -- a type
  pub data Ty : Type 0 where
    any : Ty
    none : Ty
    module_type : List (List ℕ) → Ty
    instance : Id → Ty
    class_object : Id → Ty
    list : Ty → Ty
    dict : Ty → Ty → Ty
    tuple : Tys → Ty
    tuple_of : Ty → Ty
    union : Tys → Ty
    callable : Params → Ty → Ty

  -- a row of types
  pub data Tys : Type 0 where
    nil : Tys
    cons : Ty → Tys → Tys

  -- what a call takes: any arguments, or these parameters
  pub data Params : Type 0 where
    dots : Params
    listed : Listed → Params

  -- a row of parameters
  pub data Listed : Type 0 where
    no_param : Listed
    param : Slot → Ty → Listed → Listed
