-- Results, options and truth values that differ.
use Rattle.std.proofs.Common.{◌≡◌, ℕ, true, false, Ok, Err, Result, arith}

pub apart : true ≡ false → ⊥
apart e = let z : ◌≡◌ {A = ℕ} 0 1 = cc in omega arith

pub ok_err : {A B : Type 0} (r : Result A B) (x : A) (y : B) → r ≡ Ok x → r ≡ Err y → ⊥
ok_err r x y p q = let z : ◌≡◌ {A = ℕ} 0 1 = cc in omega arith

pub ok_one : {A B : Type 0} (x y : A) → ◌≡◌ {A = Result A B} (Ok x) (Ok y) → x ≡ y
ok_one x y e = cc

pub err_one : {A B : Type 0} (x y : B) → ◌≡◌ {A = Result A B} (Err x) (Err y) → x ≡ y
err_one x y e = cc
