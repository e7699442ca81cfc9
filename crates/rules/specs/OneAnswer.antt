-- What it means that a function's contract leaves it one answer. The contract is taken as the check reads the function's own
-- `ensures`, so what is shown of it here is shown of the contract as it stands.
use Rattle.std.specs.Prelude.{◌≡◌, List, ℕ}
use contract.Lifetimes.{Lfts}
use denote.Triple.Clauses.{AtExit}
use borrow.Fn.Kinds.{ParamKind, ResultKind, Out, Dens, res_t, ended_of}

-- any two results that the contract allows at the same arguments are equal
abbrev pub OneAnswer : (n : ℕ) (ps : List (ParamKind n)) (r : ResultKind n) → Out n ps r → Type 0
OneAnswer n ps r promise =
    (κs : Lfts n) (a : Dens κs ps) (x y : (res_t r κs).Denot) (e f : AtExit (ended_of n ps r) κs)
    → promise κs a x e → promise κs a y f → x ≡ y

-- the same of what `see` takes from the result and from the lent bytes at exit
abbrev pub OneSight : (n : ℕ) (ps : List (ParamKind n)) (r : ResultKind n) → Out n ps r → (A : Type 0)
    → ((κs : Lfts n) → (res_t r κs).Denot → AtExit (ended_of n ps r) κs → A) → Type 0
OneSight n ps r promise A see =
    (κs : Lfts n) (a : Dens κs ps) (x y : (res_t r κs).Denot) (e f : AtExit (ended_of n ps r) κs)
    → promise κs a x e → promise κs a y f → see κs x e ≡ see κs y f
