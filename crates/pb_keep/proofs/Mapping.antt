-- What follows where a call succeeded, and where it failed.
use Rattle.std.proofs.Common.{Result, Ok, Err, OnOk, OnErr, IfOk, IfErr}
use Rattle.std.specs.Result.{IsErrAnd}

pub on_ok : {T E P Q : Type 0} (r : Result T E) → (P → Q) → OnOk r P → OnOk r Q
on_ok (Ok x) f p = f p
on_ok (Err e) f p = tt

pub if_ok : {T E : Type 0} {P Q : T → Type 0} (r : Result T E) → ((x : T) → P x → Q x) → IfOk r P → IfOk r Q
if_ok (Ok x) f p = f x p
if_ok (Err e) f p = tt

pub if_err : {T E : Type 0} {P Q : E → Type 0} (r : Result T E) → ((e : E) → P e → Q e) → IfErr r P → IfErr r Q
if_err (Ok x) f p = tt
if_err (Err e) f p = f e p

-- what follows of three
pub all_ok : {T E P Q R S : Type 0} (r : Result T E) → OnOk r P → OnOk r Q → OnOk r R → (P → Q → R → S) → OnOk r S
all_ok (Ok x) p q s f = f p q s
all_ok (Err e) p q s f = tt

-- what holds where it succeeded, if it did
pub any_ok : {T E P : Type 0} (r : Result T E) → P → OnOk r P
any_ok (Ok x) p = p
any_ok (Err e) p = tt

-- what holds where it failed, if it did
pub on_err : {T E P : Type 0} (r : Result T E) → P → OnErr r P
on_err (Ok x) p = tt
on_err (Err e) p = p

-- what follows in either case
pub either_way : {T E P S : Type 0} {Q : E → Type 0} (r : Result T E) → OnOk r P → IfErr r Q → (P → S) → ((e : E) → Q e → S) → S
either_way (Ok x) p q f g = f p
either_way (Err e) p q f g = g e q

-- what follows of a fault of two clauses
pub both_err : {T E P : Type 0} {Q R : E → Type 0} (r : Result T E) → OnErr r P → IfErr r Q → ((e : E) → P → Q e → R e) → IfErr r R
both_err (Ok x) p q f = tt
both_err (Err e) p q f = f e p q

pub both_errs : {T E : Type 0} {P Q R : E → Type 0} (r : Result T E) → ((e : E) → P e → Q e → R e) → IfErr r P → IfErr r Q → IfErr r R
both_errs (Ok x) f p q = tt
both_errs (Err e) f p q = f e p q

pub both_oks : {T E P : Type 0} {Q R : T → Type 0} (r : Result T E) → ((x : T) → Q x → P → R x) → IfOk r Q → OnOk r P → IfOk r R
both_oks (Ok x) f q p = f x q p
both_oks (Err e) f q p = tt

-- what follows of what stands after a call, whether it succeeded or failed
pub of_both : {T E P Q S : Type 0} (r : Result T E) → OnOk r P → OnErr r Q → (P → S) → (Q → S) → S
of_both (Ok x) p q f g = f p
of_both (Err e) p q f g = g q

-- a fault that is passed on
pub passed_on : {T E : Type 0} {P Q : E → Type 0} (r : Result T E) → IsErrAnd r P → ((e : E) → P e → Q e) → IfErr r Q
passed_on (Ok x) h f = tt
passed_on (Err e) h f = f e h
