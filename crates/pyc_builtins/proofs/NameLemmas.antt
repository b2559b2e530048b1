-- No builtin has a name of another length than those of the tables.
use Rattle.std.proofs.Common.{◌≡◌, ◌≢◌, ℕ, List, [], length, None, refl, ap, ◌∙◌}
use Rattle.pyc_builtins.specs.Names.{builtin_names}
use Rattle.pyc_builtins.specs.Tables.{lookup}
use Rattle.pyc_builtins.proofs.TableLemmas.{of_length, lookup-among, test_from_apart}

none_of_length : (n : ℕ) → n ≢ 2 → n ≢ 3 → n ≢ 4 → n ≢ 5 → n ≢ 6 → n ≢ 7 → n ≢ 8 → n ≢ 9 → n ≢ 10 → n ≢ 11 → n ≢ 12 → n ≢ 13 → n ≢ 14 → n ≢ 15 → n ≢ 16 → n ≢ 17 → n ≢ 18 → n ≢ 19 → n ≢ 20 → n ≢ 21 → n ≢ 22 → n ≢ 23 → n ≢ 25 → of_length n builtin_names ≡ []
unfolding builtin_names
none_of_length n n2 n3 n4 n5 n6 n7 n8 n9 n10 n11 n12 n13 n14 n15 n16 n17 n18 n19 n20 n21 n22 n23 n25 =
    simp (test_from_apart 2 n n2, test_from_apart 3 n n3, test_from_apart 4 n n4, test_from_apart 5 n n5, test_from_apart 6 n n6, test_from_apart 7 n n7, test_from_apart 8 n n8, test_from_apart 9 n n9, test_from_apart 10 n n10, test_from_apart 11 n n11, test_from_apart 12 n n12, test_from_apart 13 n n13, test_from_apart 14 n n14, test_from_apart 15 n n15, test_from_apart 16 n n16, test_from_apart 17 n n17, test_from_apart 18 n n18, test_from_apart 19 n n19, test_from_apart 20 n n20, test_from_apart 21 n n21, test_from_apart 22 n n22, test_from_apart 23 n n23, test_from_apart 25 n n25)

-- what is not as long as a name of the table is no name of it
pub no_name : (name : List ℕ) → length name ≢ 2 → length name ≢ 3 → length name ≢ 4 → length name ≢ 5 → length name ≢ 6 → length name ≢ 7 → length name ≢ 8 → length name ≢ 9 → length name ≢ 10 → length name ≢ 11 → length name ≢ 12 → length name ≢ 13 → length name ≢ 14 → length name ≢ 15 → length name ≢ 16 → length name ≢ 17 → length name ≢ 18 → length name ≢ 19 → length name ≢ 20 → length name ≢ 21 → length name ≢ 22 → length name ≢ 23 → length name ≢ 25 → lookup builtin_names name ≡ None
no_name name n2 n3 n4 n5 n6 n7 n8 n9 n10 n11 n12 n13 n14 n15 n16 n17 n18 n19 n20 n21 n22 n23 n25 =
    lookup-among builtin_names (length name) name refl ∙ ap (λ table. lookup table name) (none_of_length (length name) n2 n3 n4 n5 n6 n7 n8 n9 n10 n11 n12 n13 n14 n15 n16 n17 n18 n19 n20 n21 n22 n23 n25)
