-- Each public function's contract leaves one answer, and `store`'s one list of bytes.
use mathlib.Core.Path.{sym, ◌∙◌}
use mathlib.Core.List.{List}
use Prim.Native.Nat.{ℕ}
use Rattle.rules.specs.OneAnswer.{OneAnswer, OneSight}
use Rattle.numbers.proofs.load as load
use Rattle.numbers.proofs.store as store

pub load_one : OneAnswer 1 load.Kinds.ps load.Kinds.r load.Reads.Learnt
load_one κs a x y e f p q = p ∙ sym q

pub store_one : OneSight 1 store.Kinds.ps store.Kinds.r store.Reads.Learnt (List ℕ) (λ κs x e. e.0.now)
store_one κs a x y e f p q = p ∙ sym q
