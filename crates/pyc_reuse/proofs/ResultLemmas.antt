-- What holds of a result where there is one.
use Rattle.std.proofs.Common.{Result, Ok, Err, IfOk, OnOk}

pub ok_both : {X E : Type 0} {P Q R : X → Type 0} (result : Result X E) → ((x : X) → P x → Q x → R x) → IfOk result P → IfOk result Q → IfOk result R
ok_both (Ok x) h p q = h x p q
ok_both (Err e) h p q = tt

pub on_ok : {X E : Type 0} {P : Type 0} (result : Result X E) → P → OnOk result P
on_ok (Ok x) p = p
on_ok (Err e) p = tt
