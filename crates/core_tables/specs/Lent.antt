-- A lent slice in a contract, named as it stands: at the call, and from the call to the end. One lent to be read, and one to be written.
use Rattle.std.specs.Prelude.{List, ℕ}
use Rattle.std.specs.Borrow.{Bor, MutBor}
use denote.Triple.Both.{Both}

abbrev pub Borrowed : Type 0
Borrowed = Bor (List ℕ)

abbrev pub Slice : Type 0
Slice = Both Borrowed Borrowed

abbrev pub MutSlice : Type 0
MutSlice = Both (MutBor (List ℕ)) (MutBor (List ℕ))
