-- What is left is as long in both, and all is the same where no bit differs so far and what is left is the same.
use Rattle.std.proofs.Common.{◌≡◌, ◌&&◌, length, eqb}
use Rattle.rules.specs.Bytes.{same_bytes}
use Rattle.core_bytes.proofs.differing.Given as goal

abbrev pub invariant-loop-x : goal.invariant-loop-x
invariant-loop-x l =
    let a = l.x-iterator.a.rest.now in
    let b = l.x-iterator.b.rest.now in
    (length a ≡ length b) × (eqb l.bits 0 && same_bytes a b ≡ same_bytes l.a l.b)
