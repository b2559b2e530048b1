-- What it says of a file that it is not refused.
use Rattle.std.proofs.Common.{◌≡◌, ℕ, Bool, true, false, not, ◌&&◌, if◌then◌else◌, List, Option, None, Some, refl}
use Rattle.std.specs.Str.{is_utf8}
use Rattle.pyc_workspace.specs.Path.{is_file_path}
use Rattle.pyc_session.specs.Refusal.{reasons, early_refusal, remove_refusal}
use Rattle.pyc_workspace.specs.Workspace.{File}
use Rattle.pyc_session.specs.declared.keep.Keep.{Keep}
use Rattle.pyc_session.specs.declared.refusal.Refusal.{Refusal}
use Rattle.pyc_session.specs.declared.refusal.Refusal.TheVariants as refusal

and_right : (a b : Bool) → (a && b) ≡ true → b ≡ true
and_right true b e = e
and_right false b e = cc

pub path_is_text : (path : List ℕ) → is_file_path path ≡ true → is_utf8 path ≡ true
unfolding is_file_path
path_is_text path e = and_right _ (is_utf8 path) e

revision_first : (a : Bool) (why : Refusal) (later : Option Refusal) → (if not a then Some why else later) ≡ None → a ≡ true
revision_first true why later e = refl
revision_first false why later e = cc

-- its path is text
pub kept_path_is_text : (how : Keep) (files : List File) (path : List ℕ) (size : ℕ) → early_refusal how files path size ≡ None → is_utf8 path ≡ true
unfolding reasons
kept_path_is_text how files path size e = path_is_text path (revision_first (is_file_path path) refusal.Path _ e)

-- the path of a file that is removed is text
pub removed_path_is_text : (files : List File) (path : List ℕ) → remove_refusal files path ≡ None → is_utf8 path ≡ true
unfolding remove_refusal
removed_path_is_text files path e = path_is_text path (revision_first (is_file_path path) refusal.Path _ e)
