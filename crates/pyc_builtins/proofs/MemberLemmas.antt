-- No member of str has a name of another length than those of the tables.
use Rattle.std.proofs.Common.{◌≡◌, ◌≢◌, ℕ, List, [], length, None, refl, ap, ◌∙◌}
use Rattle.pyc_builtins.specs.Members.{str_members}
use Rattle.pyc_builtins.specs.Tables.{lookup}
use Rattle.pyc_builtins.proofs.TableLemmas.{of_length, lookup-among, test_from_apart}

none_of_length : (n : ℕ) → n ≢ 4 → n ≢ 5 → n ≢ 6 → n ≢ 7 → n ≢ 8 → n ≢ 9 → n ≢ 10 → n ≢ 11 → n ≢ 12 → of_length n str_members ≡ []
unfolding str_members
none_of_length n n4 n5 n6 n7 n8 n9 n10 n11 n12 =
    simp (test_from_apart 4 n n4, test_from_apart 5 n n5, test_from_apart 6 n n6, test_from_apart 7 n n7, test_from_apart 8 n n8, test_from_apart 9 n n9, test_from_apart 10 n n10, test_from_apart 11 n n11, test_from_apart 12 n n12)

-- what is not as long as a name of the table is no name of it
pub no_member : (name : List ℕ) → length name ≢ 4 → length name ≢ 5 → length name ≢ 6 → length name ≢ 7 → length name ≢ 8 → length name ≢ 9 → length name ≢ 10 → length name ≢ 11 → length name ≢ 12 → lookup str_members name ≡ None
no_member name n4 n5 n6 n7 n8 n9 n10 n11 n12 =
    lookup-among str_members (length name) name refl ∙ ap (λ table. lookup table name) (none_of_length (length name) n4 n5 n6 n7 n8 n9 n10 n11 n12)
