-- Each public function's contract leaves one answer; of a part of the trace, one list of bytes.
use mathlib.Core.Path.{◌≡◌, sym, ◌∙◌}
use mathlib.Core.List.{List}
use Prim.Native.Nat.{ℕ}
use denote.Ref.{Bor}
use Rattle.rules.specs.OneAnswer.{OneAnswer, OneSight}
use Rattle.trace_read.specs.Promises.{Reads, Unread, Finds, Behind}
use Rattle.trace_read.specs.declared.Reader.{Reader}
use Rattle.trace_read.specs.Reading.{Found}
use Rattle.trace_read.proofs.read_sizes as read_sizes
use Rattle.trace_read.proofs.read_header as read-header
use Rattle.trace_read.proofs.supply as supply
use Rattle.trace_read.proofs.records as records
use Rattle.trace_read.proofs.record_at as record-at
use Rattle.trace_read.proofs.data_of as data_of
use Rattle.trace_read.proofs.unread_after as unread-after
use Rattle.trace_read.proofs.place_after as place_after_holds

pub read_sizes_one : OneAnswer 1 read_sizes.Kinds.ps read_sizes.Kinds.r read_sizes.Reads.Learnt
read_sizes_one κs a x y e f p q = p ∙ sym q

pub read_header_one : OneAnswer 1 read-header.Kinds.ps read-header.Kinds.r read-header.Reads.Learnt
read_header_one κs a x y e f p q = p ∙ sym q

pub supply_one : OneSight 1 supply.Kinds.ps supply.Kinds.r supply.Reads.Learnt (List ℕ) (λ κs x e. x.now)
supply_one κs a x y e f p q = p ∙ sym q

pub records_one : OneSight 1 records.Kinds.ps records.Kinds.r records.Reads.Learnt (List ℕ) (λ κs x e. x.now)
records_one κs a x y e f p q = p ∙ sym q

pub record_at_one : OneAnswer 1 record-at.Kinds.ps record-at.Kinds.r record-at.Reads.Learnt
record_at_one κs a x y e f p q = p ∙ sym q

pub data_of_one : OneSight 1 data_of.Kinds.ps data_of.Kinds.r data_of.Reads.Learnt (List ℕ) (λ κs x e. x.now)
data_of_one κs a x y e f p q = p ∙ sym q

pub unread_after_one : OneSight 1 unread-after.Kinds.ps unread-after.Kinds.r unread-after.Reads.Learnt (List ℕ) (λ κs x e. x.now)
unread_after_one κs a x y e f p q = p ∙ sym q

pub place_after_one : OneAnswer 0 place_after_holds.Kinds.ps place_after_holds.Kinds.r place_after_holds.Reads.Learnt
place_after_one κs a x y e f p q = p ∙ sym q

-- `Reader::new`, `left`, `next`, `advance` and `read_record`, by the promises that their contracts name
pub new_one : (unread : Bor (List ℕ)) (place : ℕ) (r q : Reader) → Reads unread place r → Reads unread place q → r ≡ q
new_one unread place r q p t = λ i. record { unread = (p.0 ∙ sym t.0) i; place = (p.1 ∙ sym t.1) i }

pub left_one : (d : Reader) (n m : ℕ) → Unread d n → Unread d m → n ≡ m
left_one d n m p t = p ∙ sym t

pub finds_one : (unread : List ℕ) (place : ℕ) (r q : Found) → Finds unread place r → Finds unread place q → r ≡ q
finds_one unread place r q p t = p ∙ sym t

pub advance_one : (d : Reader) (found : Found) (r q : Reader) → Behind d found r → Behind d found q
    → (r.unread.now ≡ q.unread.now) × (r.place ≡ q.place)
advance_one d found r q p t = (p.0 ∙ sym t.0, p.1 ∙ sym t.1)
