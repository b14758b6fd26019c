-- What holds of the value of a list of steps.
use Rattle.std.proofs.Common.{◌≡◌, Bool, true, false, Option, Some, None, List, [], ℕ, option_and_then, codes, bytes_eq, Result, Ok, Err, IfOk, refl}
use Rattle.std.specs.Prelude.{⊤, if◌then◌else◌}
use Rattle.std.proofs.lemmas.Slice.Eq.{bytes_eq-Decides}
use Rattle.serde_json.specs.Data.{Data, Items}
use Rattle.serde_json.specs.Find.{get, as_array}
use Rattle.cu_form.specs.declared.args.Arg.{Arg}
use Rattle.cu_form.specs.declared.form.Form.{Form}
use Rattle.cu_result.proofs.ResultSteps.{need_ok}
use Rattle.cu_result.specs.Results.{◌>>=◌, check, need}
use Rattle.cu_read.specs.Args.{arg_of, args_in, HasArgs}
use Rattle.cu_read.specs.Lists.{entries_after, entries_of}
use Rattle.cu_read.specs.declared.faults.NodeCode.{NodeCode}

pub after_check : {B E : Type 0} (b : Bool) (e : E) (f : ⊤ → Result B E) (P : B → Type 0) → (b ≡ true → IfOk (f tt) P) → IfOk (check b e >>= f) P
after_check true e f P h = h refl
after_check false e f P h = tt

pub after_need : {A B E : Type 0} (o : Option A) (e : E) (f : A → Result B E) (P : B → Type 0) → ((x : A) → o ≡ Some x → IfOk (f x) P) → IfOk (need o e >>= f) P
after_need (Some x) e f P h = h x refl
after_need None e f P h = tt

pub after_step : {A B E : Type 0} (r : Result A E) (f : A → Result B E) (P : B → Type 0) → ((x : A) → r ≡ Ok x → IfOk (f x) P) → IfOk (r >>= f) P
after_step (Ok x) f P h = h x refl
after_step (Err e) f P h = tt

-- ---- the arguments of a node

args_of_items : (entries : Items → Option (List Arg)) (list : Option Items) (args : List Arg)
    → (need list NodeCode.Form >>= λ items. need (entries items) NodeCode.Args) ≡ Ok args → option_and_then entries list ≡ Some args
args_of_items entries (Some items) args h = need_ok (entries items) NodeCode.Args args h
args_of_items entries None args h = cc

args_of_member : (ids : List (List ℕ)) (member : Option Data) (args : List Arg)
    → (need (option_and_then as_array member) NodeCode.Form >>= λ items. need (entries_after (arg_of ids) [] items) NodeCode.Args) ≡ Ok args
    → option_and_then (entries_of (arg_of ids)) member ≡ Some args
args_of_member ids (Some d) args h = args_of_items (entries_after (arg_of ids) []) (as_array d) args h
args_of_member ids None args h = cc

pub args_are : (ids : List (List ℕ)) (d : Data) (args : List Arg) → args_in ids d ≡ Ok args → HasArgs ids d args
args_are ids d args h = args_of_member ids (get (codes "args") d) args h

-- ---- the rows, by how many members they have besides the arguments

pub no_member : (b : Bool) (args : Result (List Arg) NodeCode) (make : List Arg → Form) (P : Form → Type 0)
    → (b ≡ true → (xs : List Arg) → args ≡ Ok xs → P (make xs))
    → IfOk (check b NodeCode.Form >>= λ _. args >>= λ xs. Ok (make xs)) P
no_member true (Ok xs) make P h = h refl xs refl
no_member true (Err code) make P h = tt
no_member false args make P h = tt

pub one_member : {A : Type 0} (b : Bool) (o : Option A) (args : Result (List Arg) NodeCode) (make : A → List Arg → Form) (P : Form → Type 0)
    → (b ≡ true → (x : A) → o ≡ Some x → (xs : List Arg) → args ≡ Ok xs → P (make x xs))
    → IfOk (check b NodeCode.Form >>= λ _. need o NodeCode.Form >>= λ x. args >>= λ xs. Ok (make x xs)) P
one_member true (Some x) (Ok xs) make P h = h refl x refl xs refl
one_member b o args make P h = tt

pub two_members : {A B : Type 0} (b : Bool) (o : Option A) (p : Option B) (args : Result (List Arg) NodeCode) (make : A → B → List Arg → Form) (P : Form → Type 0)
    → (b ≡ true → (x : A) → o ≡ Some x → (y : B) → p ≡ Some y → (xs : List Arg) → args ≡ Ok xs → P (make x y xs))
    → IfOk (check b NodeCode.Form >>= λ _. need o NodeCode.Form >>= λ x. need p NodeCode.Form >>= λ y. args >>= λ xs. Ok (make x y xs)) P
two_members true (Some x) (Some y) (Ok xs) make P h = h refl x refl y refl xs refl
two_members b o p args make P h = tt

pub member_alone : {A B : Type 0} (b : Bool) (o : Option A) (make : A → B) (P : B → Type 0) → (b ≡ true → (x : A) → o ≡ Some x → P (make x))
    → IfOk (check b NodeCode.Form >>= λ _. need o NodeCode.Form >>= λ x. Ok (make x)) P
member_alone true (Some x) make P h = h refl x refl
member_alone b o make P h = tt

pub four_members : {A B C D : Type 0} (b : Bool) (o : Option A) (p : Option B) (q : Option C) (r : Option D) (make : A → B → C → D → Form) (P : Form → Type 0)
    → (b ≡ true → (x : A) → o ≡ Some x → (y : B) → p ≡ Some y → (z : C) → q ≡ Some z → (w : D) → r ≡ Some w → P (make x y z w))
    → IfOk (check b NodeCode.Form >>= λ _. need o NodeCode.Form >>= λ x. need p NodeCode.Form >>= λ y. need q NodeCode.Form >>= λ z. need r NodeCode.Form >>= λ w. Ok (make x y z w)) P
four_members true (Some x) (Some y) (Some z) (Some w) make P h = h refl x refl y refl z refl w refl
four_members b o p q r make P h = tt

pub five_members : {A B C D E : Type 0} (b : Bool) (o : Option A) (p : Option B) (q : Option C) (r : Option D) (s : Option E) (make : A → B → C → D → E → Form) (P : Form → Type 0)
    → (b ≡ true → (x : A) → o ≡ Some x → (y : B) → p ≡ Some y → (z : C) → q ≡ Some z → (w : D) → r ≡ Some w → (v : E) → s ≡ Some v → P (make x y z w v))
    → IfOk (check b NodeCode.Form >>= λ _. need o NodeCode.Form >>= λ x. need p NodeCode.Form >>= λ y. need q NodeCode.Form >>= λ z. need r NodeCode.Form >>= λ w. need s NodeCode.Form >>= λ v. Ok (make x y z w v)) P
five_members true (Some x) (Some y) (Some z) (Some w) (Some v) make P h = h refl x refl y refl z refl w refl v refl
five_members b o p q r s make P h = tt

pub alone_read : {A B : Type 0} (b : Bool) (o : Option A) (make : A → B) (x : A) → b ≡ true → o ≡ Some x
    → (check b NodeCode.Form >>= λ _. need o NodeCode.Form >>= λ y. Ok (make y)) ≡ Ok (make x)
alone_read b o make x h k = rw (h, k) refl

-- ---- the name of an operator

-- a choice by the name of an operator
by_test : {A : Type 0} (b : Bool) (x y : A) (P : A → Type 0) → (b ≡ true → P x) → P y → P (if b then x else y)
by_test true x y P h k = h refl
by_test false x y P h k = k

pub by_name : {A : Type 0} (op name : List ℕ) (x y : A) (P : A → Type 0) → (op ≡ name → P x) → P y → P (if bytes_eq op name then x else y)
by_name op name x y P h k = by_test (bytes_eq op name) x y P (λ e. h ((bytes_eq-Decides op name).0 e)) k
