-- Each exported function's contract leaves one answer, and one list of bytes or numbers where it writes.
use mathlib.Core.Path.{sym, ◌∙◌}
use mathlib.Core.List.{List}
use Prim.Native.Nat.{ℕ}
use Rattle.rules.specs.OneAnswer.{OneAnswer, OneSight}
use Rattle.exports.specs.Told.{Handed, handed}
use Rattle.exports.proofs.leaf_copy as leaf-copy
use Rattle.exports.proofs.leaf_zero as leaf-zero
use Rattle.exports.proofs.leaf_same as leaf-same
use Rattle.exports.proofs.next_record as next-record

pub leaf_copy_one : OneSight 2 leaf-copy.Kinds.ps leaf-copy.Kinds.r leaf-copy.Reads.Learnt (List ℕ) (λ κs x e. e.0.now)
leaf_copy_one κs a x y e f p q = p ∙ sym q

pub leaf_zero_one : OneSight 1 leaf-zero.Kinds.ps leaf-zero.Kinds.r leaf-zero.Reads.Learnt (List ℕ) (λ κs x e. e.0.now)
leaf_zero_one κs a x y e f p q = p ∙ sym q

pub leaf_same_one : OneAnswer 2 leaf-same.Kinds.ps leaf-same.Kinds.r leaf-same.Reads.Learnt
leaf_same_one κs a x y e f p q = p ∙ sym q

pub next_record_one : OneSight 2 next-record.Kinds.ps next-record.Kinds.r next-record.Reads.Learnt Handed
    (λ κs x e. handed x e.1.1.0.now)
next_record_one κs a x y e f p q = p ∙ sym q
