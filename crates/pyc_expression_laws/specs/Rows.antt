-- The words in which the tables of reads are written: keys, and what the answers to them say (Python reference 3.13,
-- "Resolution of names" and "Attribute references"; typing specification, "Type system concepts").
use Rattle.std.specs.Prelude.{ℕ, Bool, is_some, List, [], ◌∷◌, Option}
use Rattle.pyc_class_ids.specs.Class.{Id, builtin, user}
use Rattle.pyc_class_ids.specs.Mro.{Mro, is_unknown}
use Rattle.pyc_obligations.specs.Asking.{member_in}
use Rattle.pyc_reading.specs.Owing.{order_in}
use Rattle.pyc_reading.specs.Answers.{Answer, MemberAnswer, NameAnswer}
use Rattle.pyc_reading.specs.Keys.{Key}
use Rattle.pyc_reading.specs.Keys as key
use Rattle.pyc_reading.specs.Outside.{name_in}

-- what is answered to each key
abbrev pub Answers : Type 0
Answers = Key → Answer

-- ---- keys

-- the key of what a name of a module stands for
abbrev pub name_key : List (List ℕ) → List ℕ → Key
name_key module_path x = key.name (record { module_path = module_path; name = x })

-- the key of whether a module passes a name on to other files
abbrev pub export_key : List (List ℕ) → List ℕ → Key
export_key module_path x = key.export (record { module_path = module_path; name = x })

-- the key of the order of a class
abbrev pub class_key : Id → Key
class_key c = key.class c

-- the key of what a class has under a name
abbrev pub member_key : Id → List ℕ → Key
member_key c n = key.member (record { class = c; name = n })

-- the key of a class of a source; the order of a builtin class is asked of no file
abbrev pub source_key : Id → List Key
source_key (builtin c) = []
source_key (user m x) = class_key (user m x) ∷ []

-- the keys of the classes of sources among these, in turn
abbrev pub source_keys : List Id → List Key
source_keys [] = []
source_keys (builtin c ∷ classes) = source_keys classes
source_keys (user m x ∷ classes) = class_key (user m x) ∷ source_keys classes

-- ---- what is answered

-- what a name of a module stands for, as its own file sees it
abbrev pub name_at : Answers → List (List ℕ) → List ℕ → NameAnswer
name_at answers module_path x = name_in (answers (name_key module_path x))

-- the order of a class of a source
abbrev pub order_at : Answers → Id → Mro
order_at answers c = order_in (answers (class_key c))

-- whether it is not known
abbrev pub has_no_order : Answers → Id → Bool
has_no_order answers c = is_unknown (order_at answers c)

-- what a class has under a name, if it has something
abbrev pub member_at : Answers → Id → List ℕ → Option MemberAnswer
member_at answers c n = member_in (answers (member_key c n))

-- whether it has something
abbrev pub has_member : Answers → Id → List ℕ → Bool
has_member answers c n = is_some (member_at answers c n)
